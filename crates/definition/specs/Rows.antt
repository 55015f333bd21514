-- 01, "Rows are four numbers": rows, their kinds, and the places of the lines that they speak of.
use Rattle.std.specs.Prelude.{ℕ, ◌+◌, List, [], ◌∷◌}
use Rattle.std.specs.Simd.{first_chunks}
use Rattle.std.proofs.Math.ListN as ListN
use Rattle.definition.specs.declared.Kind.{Kind}
use Rattle.definition.specs.declared.Kind.TheVariants.{Match, Before, After, Other, Break}
use Rattle.definition.specs.declared.Row.{Row}

-- "kind (1 match, 2 before, 3 after, 4 other, 5 break), offset, length with terminator, line number from 1": the struct `Row`
abbrev pub kind_number : Kind → ℕ
kind_number Match = 1
kind_number Before = 2
kind_number After = 3
kind_number Other = 4
kind_number Break = 5

-- "A break is 5, 0, 0, 0."
abbrev pub break : Row
break = record { kind = kind_number Break; offset = 0; length = 0; number = 0 }

-- a row as the four numbers that a table holds
abbrev pub flat : Row → List ℕ
flat r = r.kind ∷ (r.offset ∷ (r.length ∷ (r.number ∷ [])))

-- how many numbers a row is
abbrev pub row_size : ℕ
row_size = 4

-- the first n rows of a row table as the numbers that stand there, whatever they are
abbrev pub rows_in : ℕ → List ℕ → List (List ℕ)
rows_in n table = first_chunks row_size n table

-- where a line stands: its first byte, counting from 0, its length with terminator, its number
pub record Line : Type 0 where
  pub offset : ℕ
  pub length : ℕ
  pub number : ℕ

-- the row of a line, by its kind
abbrev pub row : Kind → Line → Row
row k l = record { kind = kind_number k; offset = l.offset; length = l.length; number = l.number }

-- the lines from an offset and a number on
unfoldable pub placed : ℕ → ℕ → List (List ℕ) → List Line
placed offset number [] = []
placed offset number (l ∷ ls) =
    record { offset = offset; length = ListN.length l; number = number }
    ∷ placed (offset + ListN.length l) (number + 1) ls
