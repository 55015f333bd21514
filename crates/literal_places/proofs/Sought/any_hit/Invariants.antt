-- `hit` is the answer for the places passed.
use mathlib.Core.Path.{◌≡◌}
use Rattle.literal_places.specs.Sweeps.{any_hit}
use Rattle.literal_places.proofs.Sought.any_hit.Given as goal

abbrev pub invariant-loop-k : goal.invariant-loop-k
invariant-loop-k l = l.hit ≡ any_hit l.self.literal.now l.self.line.now l.self.first l.self.second l.at l.k
