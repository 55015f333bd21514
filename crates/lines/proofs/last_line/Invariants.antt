-- Going back, no terminator was met but perhaps at the very end: the last line starts after the first one met.
use Prim.Native.Nat.{◌+◌, ◌-◌, ◌≤◌}
use lib.ListN.{length, drop}
use Rattle.definition.specs.Text.{first_place}
use Rattle.lines.proofs.last_line.Given as goal

abbrev pub invariant-loop-i : goal.invariant-loop-i
invariant-loop-i l = length l.s ≤ l.i - 1 + first_place l.terminator (drop (l.i - 1) l.s) + 1
