-- Examples of the choice, worked out by hand; Examples.examples_hold proves the claim.
use Rattle.std.specs.Prelude.{ℕ, ◌≡◌, [], ◌∷◌, map}
use Rattle.rare_bytes.specs.Choice.{chosen}
use Rattle.rare_bytes.specs.declared.Pair.{Pair}

abbrev pair : ℕ → ℕ → Pair
pair first second = record { first = first; second = second }

-- "", "a", "there": h and r; "a#b": # is not among the common bytes; "oo": of two alike the first comes first
abbrev pub Chooses : Type 0
Chooses =
    map chosen ([] ∷ (97 ∷ []) ∷ (116 ∷ 104 ∷ 101 ∷ 114 ∷ 101 ∷ []) ∷ (97 ∷ 35 ∷ 98 ∷ []) ∷ (111 ∷ 111 ∷ []) ∷ [])
    ≡ pair 0 0 ∷ pair 0 0 ∷ pair 1 3 ∷ pair 1 2 ∷ pair 0 1 ∷ []
