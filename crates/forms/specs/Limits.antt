-- Flags and limits: a step that may find none comes before the next, as under `?`.
use Rattle.std.specs.Prelude.{ℕ, cond, Bool, List, eqb, leb, Option, Some, None, option_and_then}
use Rattle.line_words.specs.Numbers.{decimal_of, is_dash}

infixl 10 ◌>>=◌
abbrev pub ◌>>=◌ : {A B : Type 0} → Option A → (A → Option B) → Option B
o >>= f = option_and_then f o

-- a flag, which is 0 or 1
abbrev pub flag_of : ℕ → Option Bool
flag_of n = cond (leb n 1) (Some (eqb n 1)) None

-- a number, or a dash for no limit
unfoldable pub limit_of : List ℕ → Option (Option ℕ)
limit_of word = cond (is_dash word) (Some None) (do
  n ← decimal_of word
  Some (Some n))
