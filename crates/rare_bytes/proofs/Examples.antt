-- The claim of specs/Examples.antt, by computation.
use mathlib.Core.Path.{refl}
use Rattle.definition.specs.Text.{first_place, up_to}
use Rattle.rare_bytes.specs.Choice.{rarest_of, rarest_but}
use Rattle.rare_bytes.specs.Examples.{Chooses}

pub examples_hold : Chooses
unfolding first_place up_to rarest_of rarest_but
examples_hold = refl
