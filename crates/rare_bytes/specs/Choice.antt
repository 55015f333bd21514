-- Which two bytes of a literal are looked for first. No answer depends on it (`stands` of literal_places has no such argument).
use Rattle.std.specs.Prelude.{ℕ, suc, cond, not, ◌&&◌, List, [], ◌∷◌, Option, Some, None, eqb, ltb}
use Rattle.std.specs.Option.{option_eq}
use Rattle.definition.specs.Text.{first_place}
use Rattle.rare_bytes.specs.declared.Pair.{Pair}

-- bytes from the most common on: space, digits, letters
abbrev pub common : List ℕ
common =
    32 ∷ 48 ∷ 49 ∷ 50 ∷ 51 ∷ 52 ∷ 53 ∷ 54 ∷ 55 ∷ 56 ∷ 57 ∷ 101 ∷ 116 ∷ 97 ∷ 111 ∷ 105 ∷ 110 ∷ 115 ∷ 114 ∷ 104 ∷ 108 ∷ 100 ∷ 99 ∷ 117 ∷ 109 ∷ 102 ∷ 112 ∷ 103 ∷ 119 ∷ 121 ∷ 98 ∷ 118 ∷ 107 ∷ 120 ∷ 106 ∷ 113 ∷ 122 ∷ []

-- the first place of the rarest byte, but for the place `but` if there is one: of `best`, whose rarity is `top`, and the bytes from `at` on
unfoldable pub rarest_of : Option ℕ → ℕ → ℕ → ℕ → List ℕ → ℕ
rarest_of but best top at [] = best
rarest_of but best top at (x ∷ xs) =
    cond (ltb top (first_place x common) && not (option_eq eqb but (Some at))) (rarest_of but at (first_place x common) (suc at) xs)
    (rarest_of but best top (suc at) xs)

unfoldable pub rarest_but : Option ℕ → List ℕ → ℕ
rarest_but but literal = rarest_of but 0 0 0 literal

-- the rarest byte, and the rarest of the others
abbrev pub chosen : List ℕ → Pair
chosen literal =
    let first = rarest_but None literal in
    record { first = first; second = rarest_but (Some first) literal }
