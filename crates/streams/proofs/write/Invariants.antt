-- No more is left than there was, and what lies before it is written.
use Rattle.std.proofs.Common.{◌-◌, ◌≤◌, length, take}
use Rattle.std.specs.Io.KnownBytes.{Appends}
use Rattle.streams.proofs.write.Given as goal

abbrev pub invariant-loop : goal.invariant-loop
invariant-loop g l = (l.left ≤ length l.text) × Appends (g.O.Write.contents l.initial.to) (g.O.Write.contents l.to) (take (length l.text - l.left) l.text)
