-- A place that the two bytes do not rule out is compared; the others are passed.
use Rattle.literal_places.specs.Sweeps.{Nowhere}
use Rattle.literal_places.proofs.each.Given as goal

abbrev pub invariant-loop-at : goal.invariant-loop-at
invariant-loop-at l = Nowhere l.sought.literal.now l.sought.line.now l.from l.at
