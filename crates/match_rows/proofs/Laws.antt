-- Laws of the rows of a match: where its before-context starts and how many lines it has, and the room for its rows.
use Rattle.definition.specs.Bounds.{contextual}
use Rattle.std.proofs.Common.{◌≡◌, ℕ, zero, suc, ◌+◌, ◌-◌, ◌*◌, ◌<◌, ◌≤◌, ltb, List, [], ◌∷◌, length, take, drop, sym, refl, ap, ◌∙◌, arith, length-append, length-drop, length-take, length-take-le, take_all, le-ltb, lt-ltb, Bool, true, false, cond, ◌&&◌}
use mathlib.Core.List.{flatten}
use native.Mathlib.Decide.{dec_lt}
use Rattle.definition.specs.Definition.{last_of}
use Rattle.definition.specs.Rows.{break, flat, row_size}
use Rattle.definition.specs.Text.{first_length, lines, part}
use Rattle.definition.proofs.Lists.{length_put_at}
use Rattle.definition.proofs.Terminator.{flatten_last, lines_drop, lines_head, lines_whole}
use Rattle.lines.specs.Lines.{last_start}
use Rattle.rows.specs.Table.{BeforeFits}
use Rattle.driver_core.specs.declared.Walk.{Walk}
use Rattle.match_rows.specs.declared.Before.{Before}
use Rattle.match_rows.specs.MatchTable.{Placing, before_of, break_table, gap_before}

-- # The before-context

pub length_part : (from : ℕ) (xs : List ℕ) → length (part from (length xs) xs) ≡ length xs - from
length_part from xs = omega (arith, length-take (length xs - from) (drop from xs), length-drop from xs)

-- lines have bytes
some_bytes : (j t : ℕ) (xs : List ℕ) → 0 < j → 0 < length xs → 0 < length (flatten (take j (lines t xs)))
unfolding lines flatten
some_bytes zero t xs h k = absurd (omega arith)
some_bytes (suc j) t xs h k =
    let first = take (first_length t xs) xs in
    rw (lines_head t xs k)
    (omega (arith, length-append first (flatten (take j (lines t (drop (first_length t xs) xs)))), length-take-le (first_length t xs) xs (omega arith)))

no_lines : (t : ℕ) (xs : List ℕ) → length xs ≡ 0 → length (lines t xs) ≡ 0
unfolding lines
no_lines t [] h = refl
no_lines t (x ∷ xs) h = absurd (omega arith)

module _ (k : Walk) (since : List ℕ) where
  abbrev all : List (List ℕ)
  all = lines k.settings.terminator since

  abbrev before : List (List ℕ)
  before = last_of k.settings.before all

  abbrev from : ℕ
  from = (before_of k since).from

  pub from_le : (from ≤ length since) × (length (flatten before) ≡ length since - from)
  unfolding last_start
  from_le =
      let last = flatten_last k.settings.before k.settings.terminator since in
      (omega arith, omega (arith, last.0))

  before_part : part from (length since) since ≡ flatten before
  unfolding last_start
  before_part =
      let at = length since - length (flatten before) in
      take_all (length since - at) (drop at since) (omega (arith, length-drop at since))
      ∙ (flatten_last k.settings.before k.settings.terminator since).1

  pub before_lines : lines k.settings.terminator (part from (length since) since) ≡ before
  unfolding last_of
  before_lines =
      ap (lines k.settings.terminator) before_part ∙ lines_drop (length all - k.settings.before) k.settings.terminator since

  left_over : k.settings.before < length all → 0 < from
  unfolding last_start
  left_over more =
      let t = k.settings.terminator in
      let j = length all - k.settings.before in
      let last = flatten_last k.settings.before t since in
      let some : 0 < length since = elim (dec_lt 0 (length since)) [ yes z ↦ z | no z ↦ absurd (omega (arith, no_lines t since (omega arith), more)) ] in
      omega (
        arith,
        last.0,
        ap length last.2,
        length-take (length since - length (flatten before)) since,
        some_bytes j t since (omega arith) some,
      )

  all_before : length all ≤ k.settings.before → from ≤ 0
  unfolding last_start last_of
  all_before few =
      let t = k.settings.terminator in
      let z : length all - k.settings.before ≡ 0 = omega arith in
      let whole : length (flatten (drop (length all - k.settings.before) all)) ≡ length since = rw z (ap length (lines_whole t since)) in
      omega (arith, whole)

  -- lines are left over before it exactly where more lie since the last row
  pub over : ltb 0 from ≡ ltb k.settings.before (length all)
  over = elim (dec_lt k.settings.before (length all)) [
    | yes more ↦ lt-ltb 0 from (left_over more) ∙ sym (lt-ltb k.settings.before (length all) more)
    | no none ↦ le-ltb 0 from (all_before (omega arith)) ∙ sym (le-ltb k.settings.before (length all) (omega arith))
  ]

  pub lines_size : length before ≡ (before_of k since).lines
  lines_size = refl

-- # The break, and the room

pub gap_most : (k : Walk) (from : ℕ) → gap_before k from ≤ 1
gap_most k from = go (contextual k.settings && k.given && ltb 0 from)
  where
    go : (b : Bool) → cond b 1 0 ≤ 1
    go true = omega arith
    go false = omega arith

length_break : (gap : ℕ) (table : List ℕ) → row_size * gap ≤ length table → length (break_table gap table) ≡ length table
length_break zero table h = refl
length_break (suc gap) table h = rw (lt-ltb 0 (suc gap) (omega arith)) (length_put_at 0 (flat break) table (omega arith))

-- what has room for a match has room for its before-context, after a break or none
module _ (k : Walk) (since : List ℕ) (len : ℕ) (b : Before) (gap : ℕ) (table : List ℕ) (p : Placing k since len b gap (length table)) where
  pub placing_from : b.from ≤ length since
  placing_from = rw p.before_is (from_le k since).0

  placing_lines : length (lines k.settings.terminator (part b.from (length since) since)) ≡ b.lines
  placing_lines = rw p.before_is (ap length (before_lines k since))

  pub placing_fits : BeforeFits (length (break_table gap table)) (row_size * gap) (length (part b.from (length since) since))
      (length (lines k.settings.terminator (part b.from (length since) since))) (k.bytes - length (part b.from (length since) since)) (k.lines + 1 - b.lines)
  placing_fits =
      let size = length_break gap table (omega (arith, p.room)) in
      record {
        room = omega (arith, size, placing_lines, p.room);
        offsets = omega (arith, length_part b.from since, p.agree);
        numbers = omega (arith, placing_lines, p.numbered, p.agree);
      }
