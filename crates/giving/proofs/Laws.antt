-- Laws of one line answered: by what becomes of it, and the rows of a match one after the other.
use Rattle.std.proofs.Common.{◌≡◌, ℕ, ◌+◌, ◌-◌, ◌*◌, ◌<◌, ◌≤◌, Bool, true, false, cond, ◌&&◌, ltb, List, [], ◌∷◌, ◌++◌, map, length, drop, Ok, Err, sym, refl, ap, ◌∙◌, append_assoc, append-nil, arith, length-append, le-ltb, lt-ltb}
use mathlib.Core.List.{flatten}
use lib.ListN.{length-map}
use Rattle.definition.specs.declared.Refusal.TheVariants.{TableShort, Unsound}
use Rattle.definition.specs.declared.Kind.{Kind}
use Rattle.definition.specs.declared.Fate.{Fate}
use Rattle.definition.specs.declared.Fate.TheVariants.{Match, After, Other, NoRow}
use Rattle.definition.specs.declared.Row.{Row}
use Rattle.definition.specs.Bounds.{contextual}
use Rattle.definition.specs.Definition.{last_of}
use Rattle.definition.specs.Rows.{break, flat, kind_number, placed, row, row_size}
use Rattle.definition.specs.State.{breaks, fate_of, next_line}
use Rattle.definition.specs.Text.{lines, part, put_at}
use Rattle.definition.proofs.Lists.{length_put_at, put_at_append, put_at_none}
use Rattle.rows.specs.Table.{before_numbers}
use Rattle.driver_core.specs.declared.Walk.{Walk}
use Rattle.driver_core.specs.Answer.{AnswerDecision, AnswerRefused, Give, answering_since, before_rows, below_one_since, given, given_by, given_table, given_table_by, put_rows, rows_since, state_since}
use Rattle.driver_core.proofs.Back.{back_from_last, back_from_placed, length_back_from}
use Rattle.match_rows.specs.MatchTable.{before_of, break_table, gap_before, line_row, match_table}
use Rattle.match_rows.proofs.Laws.{before_lines, from_le, over}
use Rattle.giving.specs.Fated.{fated_decision, fated_given, fated_rows, fated_table, fated_table_by, line_rows, line_table, rows_given, rows_given_by, with_fate, line_given}

-- # By what becomes of the line

module _ (k : Walk) (since : List ℕ) (len : ℕ) (hit : Bool) where
  abbrev fate_here : Fate
  fate_here = fate_of k.settings (state_since k since) hit

  rows_are : rows_since k since len hit ≡ fated_rows fate_here k since len
  unfolding rows_since fated_rows
  rows_are = refl

  decision_is : (table : ℕ) → answering_since k since len table hit ≡ fated_decision fate_here k since len table
  unfolding answering_since fated_decision below_one_since rows_since fated_rows
  decision_is table = refl

  given_by_lem : (o : AnswerDecision) → given_by o k since len hit ≡ with_fate fate_here (rows_given_by o fate_here k since len)
  given_by_lem (AnswerRefused n) = refl
  given_by_lem Give = rw rows_are

  table_by : (o : AnswerDecision) (table : List ℕ) → given_table_by o k since len table hit ≡ fated_table_by o fate_here k since len table
  table_by (AnswerRefused n) table = refl
  table_by Give table = ap (λ rows. put_rows rows table) rows_are

  -- by its fate, once that is known
  pub given_as : (f : Fate) (table : List ℕ) → f ≡ fate_here
      → (given k since len table hit ≡ fated_given f k since len (length table)) × (given_table k since len table hit ≡ fated_table f k since len table)
  unfolding given given_table rows_given fated_table
  given_as f table h = (
    given_by_lem (answering_since k since len (length table) hit)
        ∙ ap (λ o. with_fate fate_here (rows_given_by o fate_here k since len)) (decision_is (length table))
        ∙ ap (λ g. fated_given g k since len (length table)) (sym h),
    table_by (answering_since k since len (length table) hit) table ∙ ap (λ o. fated_table_by o fate_here k since len table) (decision_is (length table))
        ∙ ap (λ g. fated_table g k since len table) (sym h),
  )

-- # A line with one row, and one with none

put_front : (new old : List ℕ) → put_at 0 new old ≡ new ++ drop (length new) old
unfolding put_at
put_front new old =
    let e : 0 + length new ≡ length new = omega arith in
    rw e

flats_length : (rows : List Row) → length (flatten (map flat rows)) ≡ row_size * length rows
unfolding flatten
flats_length [] = refl
flats_length (r ∷ rows) = omega (arith, flats_length rows, length-append (flat r) (flatten (map flat rows)))

-- rows from the front, as numbers written from the front
put_rows_lem : (rows : List Row) (table : List ℕ) → put_rows rows table ≡ put_at 0 (flatten (map flat rows)) table
unfolding put_rows
put_rows_lem rows table = sym (put_front (flatten (map flat rows)) table ∙ ap (λ n. flatten (map flat rows) ++ drop n table) (flats_length rows))

flats_append : (xs ys : List Row) → flatten (map flat (xs ++ ys)) ≡ flatten (map flat xs) ++ flatten (map flat ys)
unfolding flatten
flats_append [] ys = refl
flats_append (x ∷ xs) ys = rw (flats_append xs ys) (sym (append_assoc (flat x) (flatten (map flat xs)) (flatten (map flat ys))))

one_flat : (r : Row) → flatten (map flat (r ∷ [])) ≡ flat r
unfolding flatten
one_flat r = append-nil (flat r)

module _ (f : Fate) (kind : Kind) (k : Walk) (since : List ℕ) (len : ℕ)
    (none : before_rows f k.settings (state_since k since) ≡ 0)
    (one : fated_rows f k since len ≡ line_row (kind_number kind) k len ∷ []) where
  line_decision : (table : ℕ) → fated_decision f k since len table ≡ cond (ltb table row_size) (AnswerRefused TableShort) Give
  unfolding fated_decision
  line_decision table = rw (none, le-ltb k.lines 0 (omega arith), one)

  pub line_rows_lem : (table : ℕ) → line_rows table ≡ rows_given f k since len table
  unfolding rows_given
  line_rows_lem table = rw (line_decision table) (go (ltb table row_size))
    where
      go : (b : Bool) → cond b (Err TableShort) (Ok 1) ≡ rows_given_by (cond b (AnswerRefused TableShort) Give) f k since len
      go true = refl
      go false = ap (λ rows. Ok (length rows)) (sym one)

  pub line_given_lem : (table : ℕ) → line_given f table ≡ fated_given f k since len table
  line_given_lem table = ap (with_fate f) (line_rows_lem table)

  pub line_table_lem : (table : List ℕ) → line_table (line_row (kind_number kind) k len) table ≡ fated_table f k since len table
  unfolding fated_table
  line_table_lem table = rw (line_decision (length table)) (go (ltb (length table) row_size))
    where
      go : (b : Bool) → cond b table (put_at 0 (flat (line_row (kind_number kind) k len)) table) ≡ fated_table_by (cond b (AnswerRefused TableShort) Give) f k since len table
      go true = refl
      go false =
          sym (ap (λ rows. put_rows rows table) one ∙ put_rows_lem (line_row (kind_number kind) k len ∷ []) table
          ∙ ap (λ xs. put_at 0 xs table) (one_flat (line_row (kind_number kind) k len)))

pub after_row : (k : Walk) (since : List ℕ) (len : ℕ) → fated_rows After k since len ≡ line_row (kind_number Kind.After) k len ∷ []
unfolding fated_rows next_line state_since
after_row k since len = refl

pub other_row : (k : Walk) (since : List ℕ) (len : ℕ) → fated_rows Other k since len ≡ line_row (kind_number Kind.Other) k len ∷ []
unfolding fated_rows next_line state_since
other_row k since len = refl

none_decision : (k : Walk) (since : List ℕ) (len table : ℕ) → fated_decision NoRow k since len table ≡ Give
unfolding fated_decision fated_rows
none_decision k since len table = rw (le-ltb k.lines 0 (omega arith), le-ltb table 0 (omega arith))

pub none_given : (k : Walk) (since : List ℕ) (len table : ℕ) → Ok 0 ≡ rows_given NoRow k since len table
unfolding rows_given fated_rows
none_given k since len table = rw (none_decision k since len table)

pub none_table : (k : Walk) (since : List ℕ) (len : ℕ) (table : List ℕ) → table ≡ fated_table NoRow k since len table
unfolding fated_table fated_rows put_rows flatten
none_table k since len table = rw (none_decision k since len (length table))

-- # A match

-- three parts written one after the other
three : (xs ys zs table : List ℕ) (a b : ℕ) → length xs ≡ a → length ys ≡ b → a + b ≤ length table
    → put_at (a + b) zs (put_at a ys (put_at 0 xs table)) ≡ put_at 0 (xs ++ (ys ++ zs)) table
three xs ys zs table a b e f h =
    let start : 0 + length xs ≡ a = omega arith in
    let size : length (put_at 0 xs table) ≡ length table = length_put_at 0 xs table (omega arith) in
    let both : put_at a (ys ++ zs) (put_at 0 xs table) ≡ put_at (a + b) zs (put_at a ys (put_at 0 xs table)) =
    rw f at (put_at_append a ys zs (put_at 0 xs table) (omega arith))
    in
    sym both ∙ sym (rw start at (put_at_append 0 xs (ys ++ zs) table (omega arith)))

module _ (k : Walk) (since : List ℕ) where
  abbrev all : List (List ℕ)
  all = lines k.settings.terminator since

  abbrev before : List (List ℕ)
  before = last_of k.settings.before all

  abbrev from : ℕ
  from = (before_of k since).from

  abbrev count : ℕ
  count = (before_of k since).lines

  count_is : before_rows Match k.settings (state_since k since) ≡ count
  unfolding state_since
  count_is = ap length (back_from_last k.settings.before k.bytes (k.lines + 1) all) ∙ length_back_from k.bytes (k.lines + 1) before

  abbrev gaps : List Row
  gaps = breaks k.settings (state_since k since)

  gap_cases : (b : Bool) (table : List ℕ)
      → (cond b 1 0 ≡ length (cond b (break ∷ []) []))
      × (cond (ltb 0 (cond b 1 0)) (put_at 0 (flat break) table) table ≡ put_at 0 (flatten (map flat (cond b (break ∷ []) []))) table)
  unfolding flatten
  gap_cases true table = (refl, refl)
  gap_cases false table = (refl, sym (put_at_none 0 table))

  abbrev gapped : Bool
  gapped = contextual k.settings && (state_since k since).given && ltb k.settings.before (length (state_since k since).since)

  gap_test : (contextual k.settings && k.given && ltb 0 from) ≡ gapped
  unfolding state_since
  gap_test = ap (λ b. contextual k.settings && k.given && b) (over k since ∙ ap (ltb k.settings.before) (sym (length_back_from k.bytes (k.lines + 1) all)))

  gap_count : gap_before k from ≡ length gaps
  unfolding breaks
  gap_count = rw gap_test (gap_cases gapped []).0

  gap_table : (table : List ℕ) → break_table (gap_before k from) table ≡ put_at 0 (flatten (map flat gaps)) table
  unfolding breaks
  gap_table table = rw gap_test (gap_cases gapped table).1

  abbrev befores : List Row
  befores = map (row Kind.Before) (last_of k.settings.before (state_since k since).since)

  befores_count : length befores ≡ count
  befores_count = length-map (last_of k.settings.before (state_since k since).since) (row Kind.Before) ∙ count_is

  -- where the numbers stay at 0 or above, lines numbered back are lines numbered on from the first of them
  befores_numbers : length since ≤ k.bytes → count ≤ k.lines
      → flatten (map flat befores)
      ≡ before_numbers k.settings.terminator (k.bytes - (length since - from)) (k.lines + 1 - count) (part from (length since) since)
  unfolding before_numbers state_since
  befores_numbers b n =
      let on = back_from_placed k.bytes (k.lines + 1) before (omega (arith, from_le k since)) (omega arith) in
      ap (λ ls. flatten (map flat (map (row Kind.Before) ls)))
      (back_from_last k.settings.before k.bytes (k.lines + 1) all ∙ rw (from_le k since).1 at on)
      ∙ ap (λ ls. flatten (map flat (map (row Kind.Before) (placed (k.bytes - (length since - from)) (k.lines + 1 - count) ls)))) (sym (before_lines k since))

  abbrev total : ℕ
  total = gap_before k from + count + 1

  module _ (len : ℕ) where
    abbrev own : Row
    own = row Kind.Match (next_line (state_since k since) len)

    rows_count : length (fated_rows Match k since len) ≡ total
    unfolding fated_rows
    rows_count = omega (arith, gap_count, befores_count, length-append gaps (befores ++ (own ∷ [])), length-append befores (own ∷ []))

    match_table_lem : (table : List ℕ) → length since ≤ k.bytes → count ≤ k.lines → row_size * total ≤ length table
        → match_table k since len (before_of k since) (gap_before k from) table ≡ put_rows (fated_rows Match k since len) table
    unfolding match_table fated_rows next_line state_since
    match_table_lem table b n room =
        let first = flatten (map flat gaps) in
        let second = flatten (map flat befores) in
        let first-size : length first ≡ row_size * gap_before k from = flats_length gaps ∙ ap (λ j. row_size * j) (sym gap_count) in
        let second-size : length second ≡ row_size * count = flats_length befores ∙ ap (λ j. row_size * j) befores_count in
        let joined : flatten (map flat (gaps ++ (befores ++ (own ∷ [])))) ≡ first ++ (second ++ flat own) =
        flats_append gaps (befores ++ (own ∷ []))
        ∙ ap (λ xs. first ++ xs) (flats_append befores (own ∷ []) ∙ ap (λ xs. second ++ xs) (one_flat own))
        in
        rw (gap_table table, sym (befores_numbers b n))
        (three first second (flat own) table (row_size * gap_before k from) (row_size * count) first-size second-size (omega (arith, room))
        ∙ sym (ap (λ xs. put_at 0 xs table) joined)
        ∙ sym (put_rows_lem (gaps ++ (befores ++ (own ∷ []))) table))

    match_decision : (table : ℕ)
        → fated_decision Match k since len table
        ≡ cond (ltb k.lines count) (AnswerRefused Unsound) (cond (ltb table (row_size * total)) (AnswerRefused TableShort) Give)
    unfolding fated_decision
    match_decision table = rw (count_is, rows_count)

    -- the three ends of a match
    pub match_below : (table : List ℕ) → k.lines < count
        → (Err Unsound ≡ rows_given Match k since len (length table)) × (table ≡ fated_table Match k since len table)
    unfolding rows_given fated_table
    match_below table few =
        let is : fated_decision Match k since len (length table) ≡ AnswerRefused Unsound = rw (match_decision (length table), lt-ltb k.lines count few) in
        (rw is, rw is)

    pub match_few : (table : List ℕ) → count ≤ k.lines → length table < row_size * total
        → (Err TableShort ≡ rows_given Match k since len (length table)) × (table ≡ fated_table Match k since len table)
    unfolding rows_given fated_table
    match_few table n short =
        let is : fated_decision Match k since len (length table) ≡ AnswerRefused TableShort =
        rw (match_decision (length table), le-ltb k.lines count n, lt-ltb (length table) (row_size * total) short)
        in
        (rw is, rw is)

    pub match_gives : (table : List ℕ) → length since ≤ k.bytes → count ≤ k.lines → row_size * total ≤ length table
        → (Ok total ≡ rows_given Match k since len (length table))
        × (match_table k since len (before_of k since) (gap_before k from) table ≡ fated_table Match k since len table)
    unfolding rows_given fated_table
    match_gives table b n room =
        let is : fated_decision Match k since len (length table) ≡ Give =
        rw (match_decision (length table), le-ltb k.lines count n, le-ltb (length table) (row_size * total) room)
        in
        (rw is (ap (λ m. Ok m) (sym rows_count)), rw is (match_table_lem table b n room))
