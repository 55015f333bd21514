-- The claim of specs/Examples.antt, by computation.
use mathlib.Core.Path.{refl}
use Rattle.literal_places.specs.Examples.{Holds}
use Rattle.literal_places.specs.Literal.{starts_with, stands}

pub examples_hold : Holds
unfolding starts_with stands
examples_hold = refl
