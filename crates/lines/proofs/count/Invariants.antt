-- The lines counted and those of the rest are all the lines.
use Prim.Native.Nat.{◌+◌, ◌≤◌}
use mathlib.Core.Path.{◌≡◌}
use lib.ListN.{length}
use Rattle.definition.specs.Text.{lines}
use Rattle.lines.proofs.count.Given as goal

abbrev pub invariant-loop-rest : goal.invariant-loop-rest
invariant-loop-rest l = (l.n + length l.rest ≤ length l.s) × (length (lines l.terminator l.s) ≡ l.n + length (lines l.terminator l.rest))

abbrev pub decreases-loop-rest : goal.decreases-loop-rest
decreases-loop-rest l = length l.rest
