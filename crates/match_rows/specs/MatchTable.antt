-- The rows of a match, as the code divides them: the before-context, a break or none, and every number of the table.
use Rattle.std.specs.Prelude.{◌≡◌, ℕ, ◌+◌, ◌-◌, ◌*◌, ◌≤◌, cond, ◌&&◌, List, length, nat_lt}
use Rattle.definition.specs.declared.Kind.{Kind}
use Rattle.definition.specs.declared.Row.{Row}
use Rattle.definition.specs.Bounds.{contextual}
use Rattle.definition.specs.Definition.{last_of}
use Rattle.definition.specs.Rows.{break, flat, kind_number, row_size}
use Rattle.definition.specs.Text.{lines, part, put_at}
use Rattle.lines.specs.Lines.{last_start}
use Rattle.rows.specs.Table.{before_numbers}
use Rattle.driver_core.specs.declared.Walk.{Walk}
use Rattle.driver_core.specs.Walk.{WalkAgree}
use Rattle.match_rows.specs.declared.Before.{Before}

-- the line's own row
abbrev pub line_row : ℕ → Walk → ℕ → Row
line_row kind k len = record { kind = kind; offset = k.bytes; length = len; number = k.lines + 1 }

-- the last B of the lines since the last line with a row: where they start, and how many they are
abbrev pub before_of : Walk → List ℕ → Before
before_of k since =
    record {
      from = last_start k.settings.before k.settings.terminator since;
      lines = length (last_of k.settings.before (lines k.settings.terminator since));
    }

-- how many breaks come before them
abbrev pub gap_before : Walk → ℕ → ℕ
gap_before k from = cond (contextual k.settings && k.given && nat_lt 0 from) 1 0

abbrev pub break_table : ℕ → List ℕ → List ℕ
break_table gap table = cond (nat_lt 0 gap) (put_at 0 (flat break) table) table

-- break, before rows, and the match, one after the other
unfoldable pub match_table : Walk → List ℕ → ℕ → Before → ℕ → List ℕ → List ℕ
match_table k since len b gap table =
    let from = b.from in
    put_at (row_size * gap + row_size * b.lines) (flat (line_row (kind_number Kind.Match) k len))
    (put_at (row_size * gap)
    (before_numbers k.settings.terminator (k.bytes - (length since - from)) (k.lines + 1 - b.lines) (part from (length since) since))
    (break_table gap table))

-- the rows of a match have room
pub record Placing (k : Walk) (since : List ℕ) (len : ℕ) (b : Before) (gap table : ℕ) : Type 0 where
  pub agree : WalkAgree k (length since) len
  pub before_is : b ≡ before_of k since
  pub numbered : b.lines ≤ k.lines
  pub room : row_size * (gap + b.lines + 1) ≤ table
