-- `hit` is the answer for the places passed.
use mathlib.Core.Path.{refl}
use native.Mathlib.Numerals.{add-one}
use Rattle.literal_places.specs.Sweeps.{any_hit}
use Rattle.literal_places.proofs.Sought.any_hit.Goals as goal

pub loop-k-init : goal.loop-k-init
unfolding any_hit
loop-k-init c = refl

pub loop-k-preserved : goal.loop-k-preserved
unfolding any_hit
loop-k-preserved c = rw (c.loop-k.invariant, add-one c.loop-k.k)
