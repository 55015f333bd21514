-- A block with a hit is looked at more closely; the others are passed.
use Prim.Native.Nat.{◌-◌, ◌≤◌}
use Rattle.literal_places.specs.Sweeps.{Nowhere}
use Rattle.literal.proofs.sweep.Given as goal

abbrev pub invariant-loop-at : goal.invariant-loop-at
invariant-loop-at g l = (l.from ≤ l.at) × Nowhere l.sought.literal.now l.sought.line.now l.from l.at

abbrev pub decreases-loop-at : goal.decreases-loop-at
decreases-loop-at g l = l.last - l.at
