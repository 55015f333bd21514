-- The last lines still wanted are the last of those before the place reached.
use Prim.Native.Nat.{◌-◌, ◌≤◌}
use mathlib.Core.Path.{◌≡◌}
use lib.ListN.{length, take}
use Rattle.lines.specs.Lines.{last_start}
use Rattle.lines.proofs.preceding.Given as goal

abbrev pub invariant-loop : goal.invariant-loop
invariant-loop l = (l.start ≤ length l.s) × (last_start l.n l.terminator l.s ≡ last_start (l.n - l.counter) l.terminator (take l.start l.s))
