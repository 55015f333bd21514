-- 01, "Program": what is printed, byte for byte.
use Rattle.std.specs.Prelude.{ℕ}
use mathlib.Core.List.{List, [], ◌∷◌, ◌++◌, flatten, map}
use lib.ListN.{get_or}
use Rattle.definition.specs.declared.End.{End}
use Rattle.definition.specs.declared.Row.{Row}
use Rattle.definition.specs.Rows.{rows_in}
use Rattle.output.specs.Output.{decimal}

abbrev pub newline : ℕ
newline = 10

abbrev pub space : ℕ
space = 32

-- four numbers on a line
unfoldable pub four_text : ℕ → ℕ → ℕ → ℕ → List ℕ
four_text a b c d =
    decimal a ++ (space ∷ (decimal b ++ (space ∷ (decimal c ++ (space ∷ (decimal d ++ (newline ∷ [])))))))

-- "kind, number, offset, length"
abbrev pub row_text : Row → List ℕ
row_text r = four_text r.kind r.number r.offset r.length

-- the same of a row's four numbers as a table holds them: kind, offset, length, number
abbrev pub numbers_text : List ℕ → List ℕ
numbers_text ns = four_text (get_or ns 0 0) (get_or ns 3 0) (get_or ns 1 0) (get_or ns 2 0)

-- the first rows of a table, whatever its numbers are
unfoldable pub rows_text : ℕ → List ℕ → List ℕ
rows_text count table = flatten (map numbers_text (rows_in count table))

-- "then bytes, lines, matches, cause", after `end`
abbrev pub end_text : End → List ℕ
end_text e = 101 ∷ 110 ∷ 100 ∷ 32 ∷ four_text e.bytes e.lines e.matches e.cause

-- "a line `refused`, a space and its number"
unfoldable pub refused_text : ℕ → List ℕ
refused_text k = 114 ∷ 101 ∷ 102 ∷ 117 ∷ 115 ∷ 101 ∷ 100 ∷ 32 ∷ (decimal k ++ (newline ∷ []))

-- the longest text of a row: four numbers of 20 digits at most, three spaces and a newline
abbrev pub row_most : ℕ
row_most = 84

-- the longest text of any other line, which is that of the end record
abbrev pub line_most : ℕ
line_most = 88
