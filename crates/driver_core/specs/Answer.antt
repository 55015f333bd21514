-- One line answered: the rows of the definition's own step, at the state that a walk and the bytes since the last line with a row show,
-- wherever these lie; what is refused; the walk after it, and every number of the row table.
use Rattle.std.specs.Prelude.{ℕ, ◌+◌, ◌-◌, ◌*◌, Bool, true, false, cond, List, [], ◌∷◌, ◌++◌, map, length, drop, nat_lt, Result, Ok, Err}
use mathlib.Core.List.{flatten}
use Rattle.definition.specs.declared.Fate.{Fate}
use Rattle.definition.specs.declared.Fate.TheVariants.{Match, After, Other, NoRow}
use Rattle.definition.specs.declared.Going.TheVariants.{On}
use Rattle.definition.specs.declared.Refusal.{Refusal}
use Rattle.definition.specs.declared.Refusal.TheVariants.{TableShort, Unsound}
use Rattle.definition.specs.declared.Row.{Row}
use Rattle.definition.specs.declared.Settings.{Settings}
use Rattle.definition.specs.Definition.{last_of}
use Rattle.definition.specs.Rows.{Line, flat, row_size}
use Rattle.definition.specs.State.{State, fate_of, step_rows, step_state}
use Rattle.definition.specs.Text.{lines}
use Rattle.driver_core.specs.declared.Given.{Given}
use Rattle.driver_core.specs.declared.Walk.{Walk}

-- # The definition's state

-- lines that end before a byte and a line number, numbered back from there
unfoldable pub back_from : ℕ → ℕ → List (List ℕ) → List Line
back_from offset number [] = []
back_from offset number (l ∷ ls) =
    record {
      offset = offset - length (flatten (l ∷ ls));
      length = length l;
      number = number - length (l ∷ ls);
    }
    ∷ back_from offset number ls

-- with the bytes since the last line with a row
unfoldable pub state_since : Walk → List ℕ → State
state_since k since =
    record {
      bytes = k.bytes;
      lines = k.lines;
      matches = k.matches;
      after_left = k.left;
      given = k.given;
      since = back_from k.bytes (k.lines + 1) (lines k.settings.terminator since);
      going = k.going;
    }

-- # Rows and refusals

-- the rows that a line of some length brings, by its answer
unfoldable pub rows_since : Walk → List ℕ → ℕ → Bool → List Row
rows_since k since len hit = step_rows On k.settings (state_since k since) len hit

abbrev pub before_rows : Fate → Settings → State → ℕ
before_rows Match c t = length (last_of c.before t.since)
before_rows After c t = 0
before_rows Other c t = 0
before_rows NoRow c t = 0

-- "a before row whose number would fall below 1"
unfoldable pub below_one_since : Walk → List ℕ → Bool → Bool
below_one_since k since hit =
    nat_lt k.lines (before_rows (fate_of k.settings (state_since k since) hit) k.settings (state_since k since))

-- what an answer does: refuse, or give rows
pub data AnswerDecision : Type 0 where
  AnswerRefused : Refusal → AnswerDecision
  Give : AnswerDecision

-- "6 before 4": "the table has fewer whole rows than this answer needs"
unfoldable pub answering_since : Walk → List ℕ → ℕ → ℕ → Bool → AnswerDecision
answering_since k since len table hit =
    cond (below_one_since k since hit) (AnswerRefused Unsound)
    (cond (nat_lt table (row_size * length (rows_since k since len hit))) (AnswerRefused TableShort)
    Give)

-- # What is given

-- whether the line gets a row of its own
abbrev pub gets_row : Fate → Bool
gets_row Match = true
gets_row After = true
gets_row Other = true
gets_row NoRow = false

abbrev pub walk_of : Settings → State → Walk
walk_of c t =
    record {
      settings = c;
      bytes = t.bytes;
      lines = t.lines;
      matches = t.matches;
      left = t.after_left;
      given = t.given;
      going = t.going;
    }

-- the walk after the definition's own step
unfoldable pub walk_next : Walk → List ℕ → ℕ → Bool → Walk
walk_next k since len hit = walk_of k.settings (step_state On k.settings (state_since k since) len hit)

-- "from the table's front; other rows stay"
unfoldable pub put_rows : List Row → List ℕ → List ℕ
put_rows rows table = flatten (map flat rows) ++ drop (row_size * length rows) table

abbrev pub given_by : AnswerDecision → Walk → List ℕ → ℕ → Bool → Result Given Refusal
given_by (AnswerRefused n) k since len hit = Err n
given_by Give k since len hit =
    Ok (record { rows = length (rows_since k since len hit); fate = fate_of k.settings (state_since k since) hit })

abbrev pub given_table_by : AnswerDecision → Walk → List ℕ → ℕ → List ℕ → Bool → List ℕ
given_table_by (AnswerRefused n) k since len table hit = table
given_table_by Give k since len table hit = put_rows (rows_since k since len hit) table

-- the bytes since the last line with a row, the line's length, the table, yes or no
unfoldable pub given : Walk → List ℕ → ℕ → List ℕ → Bool → Result Given Refusal
given k since len table hit = given_by (answering_since k since len (length table) hit) k since len hit

unfoldable pub given_table : Walk → List ℕ → ℕ → List ℕ → Bool → List ℕ
given_table k since len table hit = given_table_by (answering_since k since len (length table) hit) k since len table hit
