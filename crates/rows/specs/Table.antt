-- The numbers of the before rows, and the room that they need.
use Rattle.std.specs.Prelude.{ℕ, ◌+◌, ◌*◌, ◌≤◌}
use mathlib.Core.List.{List, flatten, map}
use Rattle.definition.specs.declared.Kind.{Kind}
use Rattle.definition.specs.Bounds.{max_input}
use Rattle.definition.specs.Rows.{flat, placed, row, row_size}
use Rattle.definition.specs.Text.{lines}

-- one row for each line of some bytes
unfoldable pub before_numbers : ℕ → ℕ → ℕ → List ℕ → List ℕ
before_numbers t offset number bytes = flatten (map flat (map (row Kind.Before) (placed offset number (lines t bytes))))

-- the table holds the rows from a place on, and their offsets and numbers are within the input's size
pub record BeforeFits (table at bytes count offset number : ℕ) : Type 0 where
  pub room : at + row_size * count ≤ table
  pub offsets : offset + bytes ≤ max_input
  pub numbers : number + count ≤ max_input + 1
