-- Words that single spaces separate.
use Rattle.std.specs.Prelude.{ℕ, zero, suc, List, count_by, eqb, drop}
use Rattle.definition.specs.Text.{first_length, up_to}

abbrev pub space : ℕ
space = 32

-- how many spaces a line has
unfoldable pub spaces_of : List ℕ → ℕ
spaces_of = count_by (λ x. eqb x space)

-- the word after the first n spaces; empty where there are fewer
unfoldable pub word_of : ℕ → List ℕ → List ℕ
word_of zero line = up_to space line
word_of (suc n) line = word_of n (drop (first_length space line) line)
