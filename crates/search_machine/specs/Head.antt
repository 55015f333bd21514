-- 01, "Program": the two lines before the text. "A first line of another form, or either of the first two lines missing its newline or
-- longer than 1,024 bytes without it, is refused by 1."
use Rattle.std.specs.Prelude.{ℕ, ◌<◌, ◌≤◌, cond, List, length, nat_le, nat_lt}
use Rattle.definition.specs.Text.{first_place}
use Rattle.search_machine.specs.declared.Seen.{Seen}
use Rattle.search_machine.specs.declared.Seen.TheVariants.{Whole, Unfinished, TooLong}
use Rattle.printing.specs.Texts.{newline}

abbrev pub longest : ℕ
longest = 1024

-- how a line stands that starts at the front of some bytes
unfoldable pub looked_at : List ℕ → Seen
looked_at bytes =
    cond (nat_le (first_place newline bytes) longest)
    (cond (nat_lt (first_place newline bytes) (length bytes)) (Whole (first_place newline bytes)) Unfinished)
    TooLong

-- what a look at some bytes tells of them
abbrev pub Stands : Seen → List ℕ → Type 0
Stands (Whole n) bytes = (n ≤ longest) × (n < length bytes)
Stands Unfinished bytes = length bytes ≤ longest
Stands TooLong bytes = Unit {0}
