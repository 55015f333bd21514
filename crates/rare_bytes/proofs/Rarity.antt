-- The choice of two bytes, place by place.
use Prim.Native.Nat.{ℕ, ◌+◌, ◌<◌}
use mathlib.Core.Path.{◌≡◌}
use mathlib.Core.Bool.{cond, not, ◌&&◌}
use mathlib.Core.List.{List}
use native.Mathlib.Numerals.{add-one}
use lib.Dec.{eqb, ltb}
use lib.ListN.{length, get_or, drop}
use lib.Seq.{drop-cons, drop-length}
use Rattle.std.specs.Prelude.{Option, Some}
use Rattle.std.specs.Option.{option_eq}
use Rattle.definition.specs.Text.{first_place}
use Rattle.rare_bytes.specs.Choice.{common, rarest_of}

pub rarest_step : (but : Option ℕ) (best top : ℕ) (literal : List ℕ) (i rarity : ℕ) → i < length literal → rarity ≡ first_place (get_or literal i 0) common
    → rarest_of but best top i (drop i literal)
    ≡ cond (ltb top rarity && not (option_eq eqb but (Some i))) (rarest_of but i rarity (i + 1) (drop (i + 1) literal))
    (rarest_of but best top (i + 1) (drop (i + 1) literal))
unfolding rarest_of
rarest_step but best top literal i rarity l e = rw (e, add-one i, drop-cons literal i 0 l)

pub rarest_end : (but : Option ℕ) (best top i : ℕ) (literal : List ℕ) → rarest_of but best top i (drop (length literal) literal) ≡ best
unfolding rarest_of
rarest_end but best top i literal = rw (drop-length literal)
