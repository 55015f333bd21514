-- One line answered, by what becomes of it: what is decided, what is given, and every number of the table.
use Rattle.std.specs.Prelude.{ℕ, ◌*◌, cond, List, length, nat_lt, Result, Ok, Err}
use Rattle.definition.specs.declared.Refusal.{Refusal}
use Rattle.definition.specs.declared.Refusal.TheVariants.{TableShort, Unsound}
use Rattle.definition.specs.declared.Fate.{Fate}
use Rattle.definition.specs.declared.Row.{Row}
use Rattle.definition.specs.Rows.{flat, row_size}
use Rattle.definition.specs.State.{next_line, rows_for}
use Rattle.definition.specs.Text.{put_at}
use Rattle.driver_core.specs.declared.Given.{Given}
use Rattle.driver_core.specs.declared.Walk.{Walk}
use Rattle.driver_core.specs.Answer.{AnswerDecision, AnswerRefused, Give, before_rows, put_rows, state_since}

-- # By what becomes of the line

unfoldable pub fated_rows : Fate → Walk → List ℕ → ℕ → List Row
fated_rows f k since len = rows_for f k.settings (state_since k since) (next_line (state_since k since) len)

unfoldable pub fated_decision : Fate → Walk → List ℕ → ℕ → ℕ → AnswerDecision
fated_decision f k since len table =
    cond (nat_lt k.lines (before_rows f k.settings (state_since k since))) (AnswerRefused Unsound)
    (cond (nat_lt table (row_size * length (fated_rows f k since len))) (AnswerRefused TableShort) Give)

-- how many rows come
abbrev pub rows_given_by : AnswerDecision → Fate → Walk → List ℕ → ℕ → Result ℕ Refusal
rows_given_by (AnswerRefused n) f k since len = Err n
rows_given_by Give f k since len = Ok (length (fated_rows f k since len))

unfoldable pub rows_given : Fate → Walk → List ℕ → ℕ → ℕ → Result ℕ Refusal
rows_given f k since len table = rows_given_by (fated_decision f k since len table) f k since len

-- the same, with what became of the line
abbrev pub with_fate : Fate → Result ℕ Refusal → Result Given Refusal
with_fate f (Ok rows) = Ok (record { rows = rows; fate = f })
with_fate f (Err n) = Err n

abbrev pub fated_given : Fate → Walk → List ℕ → ℕ → ℕ → Result Given Refusal
fated_given f k since len table = with_fate f (rows_given f k since len table)

abbrev pub fated_table_by : AnswerDecision → Fate → Walk → List ℕ → ℕ → List ℕ → List ℕ
fated_table_by (AnswerRefused n) f k since len table = table
fated_table_by Give f k since len table = put_rows (fated_rows f k since len) table

unfoldable pub fated_table : Fate → Walk → List ℕ → ℕ → List ℕ → List ℕ
fated_table f k since len table = fated_table_by (fated_decision f k since len (length table)) f k since len table

-- # A line with one row

abbrev pub line_rows : ℕ → Result ℕ Refusal
line_rows table = cond (nat_lt table row_size) (Err TableShort) (Ok 1)

abbrev pub line_given : Fate → ℕ → Result Given Refusal
line_given f table = with_fate f (line_rows table)

abbrev pub line_table : Row → List ℕ → List ℕ
line_table r table = cond (nat_lt (length table) row_size) table (put_at 0 (flat r) table)
