-- Laws of the before rows: each line's row, then those of the lines after it.
use Prim.Native.Nat.{ℕ, ◌+◌, ◌-◌, ◌≤◌, ◌<◌}
use mathlib.Core.Path.{◌≡◌, sym, ◌∙◌, ap}
use mathlib.Core.List.{List, [], ◌∷◌, ◌++◌, flatten}
use native.Mathlib.Omega.{arith}
use lib.ListN.{length, take, drop, length-drop}
use lib.Seq.{length-take-le, take_all}
use Rattle.std.proofs.Common.{true, false, eqb}
use Rattle.std.proofs.lemmas.Bool.{eqb-false, eqb-true}
use Rattle.definition.specs.declared.Kind.{Kind}
use Rattle.definition.specs.declared.Row.{Row}
use Rattle.definition.specs.Rows.{flat, kind_number, placed}
use Rattle.definition.specs.Text.{first_length, lines, put_at}
use Rattle.definition.proofs.Lists.{length_put_at, put_at_append, put_at_none}
use Rattle.definition.proofs.Terminator.{lines_head}
use Rattle.rows.specs.Table.{BeforeFits, before_numbers}

before_head : (t offset number : ℕ) (bytes : List ℕ) → 0 < length bytes
    → before_numbers t offset number bytes
    ≡ flat (record { kind = kind_number Kind.Before; offset = offset; length = first_length t bytes; number = number })
    ++ before_numbers t (offset + first_length t bytes) (number + 1) (drop (first_length t bytes) bytes)
unfolding before_numbers placed flatten
before_head t offset number bytes h =
    rw (lines_head t bytes h, length-take-le (first_length t bytes) bytes (omega arith))

-- What the loop keeps: the rows still to come have room, and put into the table as it stands they give the table wanted.
pub record Left (t : ℕ) (wanted table rest : List ℕ) (place : ℕ) (row : Row) : Type 0 where
  pub kind : row.kind ≡ kind_number Kind.Before
  pub fits : BeforeFits (length table) place (length rest) (length (lines t rest)) row.offset row.number
  pub to_come : put_at place (before_numbers t row.offset row.number rest) table ≡ wanted

module _ (t : ℕ) (wanted table rest : List ℕ) (place : ℕ) (row : Row) (l : Left t wanted table rest place row) (more : false ≡ eqb (length rest) 0)
    (len : ℕ) (len_is : len ≡ first_length t rest) where
  some : 0 < length rest
  some = omega (arith, eqb-false (length rest) 0 (sym more))

  -- the first line's row has room, and those after it
  pub row_fits : (0 < len) × (len ≤ length rest) × (place + 4 ≤ length table) × (length (lines t rest) ≡ length (lines t (drop len rest)) + 1)
  row_fits =
      let count : length (lines t rest) ≡ length (lines t (drop len rest)) + 1 = rw len_is (omega (arith, ap length (lines_head t rest some))) in
      (omega (arith, some), omega arith, omega (arith, l.fits), count)

  -- its row, and what the next one is made from
  abbrev first : Row
  first = record { kind = row.kind; offset = row.offset; length = len; number = row.number }

  abbrev next : Row
  next = record { kind = row.kind; offset = row.offset + len; length = len; number = row.number + 1 }

  pub turn : (written : List ℕ) → written ≡ put_at place (flat first) table
      → Left t wanted written (take (length rest - len) (drop len rest)) (place + 4) next
  turn written w =
      let all = take_all (length rest - len) (drop len rest) (omega (arith, length-drop len rest)) in
      let size = ap length w ∙ length_put_at place (flat first) table row_fits.2 in
      let after = before_numbers t (row.offset + len) (row.number + 1) (drop len rest) in
      let numbers : before_numbers t row.offset row.number rest ≡ flat first ++ after =
      rw (l.kind, len_is) (before_head t row.offset row.number rest some)
      in
      rw all (
      record {
        kind = l.kind;
        fits =
            record {
              room = omega (arith, size, row_fits, l.fits.room);
              offsets = omega (arith, length-drop len rest, row_fits, l.fits.offsets);
              numbers = omega (arith, row_fits, l.fits.numbers);
            };
        to_come =
            rw w
            (sym (put_at_append place (flat first) after table row_fits.2)
            ∙ ap (λ xs. put_at place xs table) (sym numbers)
            ∙ l.to_come);
      }
      )

pub left_done : (t : ℕ) (wanted table rest : List ℕ) (place : ℕ) (row : Row) → Left t wanted table rest place row → true ≡ eqb (length rest) 0 → table ≡ wanted
unfolding before_numbers lines placed flatten
left_done t wanted table [] place row l h = sym (put_at_none place table) ∙ l.to_come
left_done t wanted table (x ∷ rest) place row l h = absurd (omega (arith, eqb-true (length (x ∷ rest)) 0 (sym h)))
