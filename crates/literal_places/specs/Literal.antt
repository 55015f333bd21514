-- 01, "Program": "A line matches if it contains the literal; an empty literal matches all." Over any bytes.
use Rattle.std.specs.Prelude.{ℕ, ◌≡◌, Bool, true, false, ◌&&◌, ◌||◌, List, [], ◌∷◌, ◌++◌, eqb}

-- does the text begin with the literal
unfoldable pub starts_with : List ℕ → List ℕ → Bool
starts_with [] text = true
starts_with (b ∷ bs) [] = false
starts_with (b ∷ bs) (x ∷ xs) = eqb x b && starts_with bs xs

-- does the literal stand in the line: at its front, or further on
unfoldable pub stands : List ℕ → List ℕ → Bool
stands literal [] = starts_with literal []
stands literal (x ∷ xs) = starts_with literal (x ∷ xs) || stands literal xs

-- a place at which the literal stands: what is before it and what is after it
pub record Occurrence (literal line : List ℕ) : Type 0 where
  pub before : List ℕ
  pub after : List ℕ
  pub whole : line ≡ before ++ (literal ++ after)

-- `stands` is true exactly where there is such a place (Stands.stands_somewhere).
abbrev pub StandsSomewhere : Type 0
StandsSomewhere =
    (literal line : List ℕ) → (stands literal line ≡ true → Occurrence literal line) × (Occurrence literal line → stands literal line ≡ true)
