-- An answer in a window is the core's, with the places moved on.
use Rattle.std.proofs.Common.{◌≡◌, ℕ, ◌+◌, ◌*◌, ◌≤◌, Bool, true, false, cond, ltb, List, length, Option, Some, None, Result, Ok, Err, refl, sym, ap, ◌∙◌, arith}
use Rattle.definition.specs.declared.Refusal.{Refusal}
use Rattle.definition.specs.declared.Refusal.TheVariants.{TableShort, Unsound}
use Rattle.definition.specs.Numbers.{refusal_number}
use Rattle.definition.specs.Rows.{row_size}
use Rattle.definition.specs.State.{state_next}
use Rattle.driver_core.specs.declared.Given.{Given}
use Rattle.driver_core.specs.Answer.{AnswerDecision, AnswerRefused, Give, answering_since, below_one_since, gets_row, given, given_by, given_table, given_table_by, rows_since, state_since, walk_next}
use Rattle.driver_core.specs.Step.{Stepping, walk_step}
use Rattle.driver_core.specs.Walk.{WalkAgree, line_ahead}
use Rattle.driver_core.proofs.Keeps.{agree_fewer}
use Rattle.driver_core.proofs.Laws.{waits_line, waits_none}
use Rattle.session.specs.declared.Answered.{Answered}
use Rattle.session.specs.declared.Refused.{Refused}
use Rattle.session.specs.declared.Session.{Session}
use Rattle.session.specs.Calls.{answer_given, answer_result, answer_rows, answer_session, answer_table, answer_told, answered, answered_table, answering, places_next, refused}
use Rattle.session.specs.Held.{is_open, line_length, shown, since, unanswered, waits}
use Rattle.session.specs.Sound.{Agree, sound}
use Rattle.session.proofs.Cases as Cases
use Rattle.session.proofs.Keeps.{line_le, sound_agrees, sound_window}
use Rattle.session.proofs.Parts.{part_length}
use Rattle.held.proofs.Laws.{sound_of}
use Rattle.answering.specs.Waiting.{waiting_line}

-- # The line that waits

pub sound_fits : (s : Session) (n : ℕ) → true ≡ sound s n → (s.places.next ≤ s.places.end) × (s.places.end ≤ n)
sound_fits s n h =
    let p = (sound_agrees s n (sym h)).places in
    (p.next_end, omega (arith, p, sound_window s n (sym h)))

record Answerable (s : Session) (w : List ℕ) (len : ℕ) : Type 0 where
  agree : Agree s
  same : length w ≡ s.places.window
  waiting : waits s w ≡ true
  length_is : len ≡ line_length s w

module _ (s : Session) (w : List ℕ) where
  abbrev ahead : Option ℕ
  ahead = line_ahead s.walk (is_open s.places.input) (unanswered s w)

  waiting_some : (len : ℕ) → Some len ≡ waiting_line s w → Answerable s w len
  unfolding waiting_line line_length waits
  waiting_some len h = go (sound s (length w)) refl h
    where
      go : (b : Bool) → sound s (length w) ≡ b → Some len ≡ cond b ahead None → Answerable s w len
      go true e h =
          let line = waits_line s.walk (is_open s.places.input) (unanswered s w) len h in
          record { agree = sound_agrees s (length w) e; same = sound_window s (length w) e; waiting = line.0; length_is = line.1 }
      go false e h = cc

  -- refused before the line is looked at
  pub waiting_none : (table : List ℕ) (hit : Bool) → None ≡ waiting_line s w
      → (Err (refused Unsound s) ≡ answer_result s w table hit) × (table ≡ answered_table s w table hit)
  unfolding waiting_line waits answer_result answered_table
  waiting_none table hit h = go (sound s (length w)) refl h
    where
      refusing : Cases.AnswerCase s w (length table) hit (AnswerRefused Unsound)
          → (Err (refused Unsound s) ≡ answer_result s w table hit) × (table ≡ answered_table s w table hit)
      refusing k =
          let is = Cases.answer_is s w (length table) hit (AnswerRefused Unsound) k in
          (rw is, rw is)

      go : (b : Bool) → sound s (length w) ≡ b → None ≡ cond b ahead None
          → (Err (refused Unsound s) ≡ answer_result s w table hit) × (table ≡ answered_table s w table hit)
      go true e h = refusing (Cases.none e (waits_none s.walk (is_open s.places.input) (unanswered s w) h))
      go false e h = refusing (Cases.unsound e)

-- what the calls ask for
module _ (s : Session) (w : List ℕ) (len : ℕ) (line : Some len ≡ waiting_line s w) where
  a : Answerable s w len
  a = waiting_some s w len line

  pub places_fit : (s.places.floor ≤ s.places.next) × (s.places.next ≤ length w) × (s.places.next + len ≤ s.places.end)
  places_fit =
      let p = a.agree.places in
      (omega arith, omega (arith, a.same), omega (arith, a.length_is, line_le s w))

  pub walk_fits : WalkAgree s.walk (length (since s w)) len
  walk_fits =
      let p = places_fit in
      rw (part_length s.places.floor s.places.next w (omega arith) (omega arith))
      (agree_fewer s.walk _ _ _ len a.agree.walk (omega arith) (omega (arith, a.agree.walk.size)))

  pub step_fits : Stepping s.walk len
  step_fits =
      let p = places_fit in
      record { size = omega (arith, a.agree.walk); counted = omega (arith, a.agree.walk); matched = omega (arith, a.agree.walk) }

-- # What the core gives, in the session's words

abbrev pub in_window : Session → ℕ → Result Given Refusal → Result (Answered Session) (Refused Session)
in_window s len (Ok g) =
    Ok (record { rows = g.rows; next = record { walk = walk_step g.fate s.walk len; places = places_next s.places len (gets_row g.fate) } })
in_window s len (Err k) = Err (refused k s)

module _ (s : Session) (w table : List ℕ) (hit : Bool) (len : ℕ) (line : Some len ≡ waiting_line s w) where
  found : Answerable s w len
  found = waiting_some s w len line

  decided : answering s w (length table) hit ≡ answering_since s.walk (since s w) (line_length s w) (length table) hit
  unfolding answering
  decided = rw (sound_of s (length w) found.agree found.same, found.waiting)

  by_bits : (below few : Bool)
      → let o = cond below (AnswerRefused Unsound) (cond few (AnswerRefused TableShort) Give) in
      in_window s (line_length s w) (given_by o s.walk (since s w) (line_length s w) hit) ≡ answer_given o s w hit
  unfolding answer_rows answer_session shown walk_next state_next state_since walk_step
  by_bits true few = refl
  by_bits false true = refl
  by_bits false false = refl

  pub answered_given : in_window s len (given s.walk (since s w) len table hit) ≡ answer_result s w table hit
  unfolding answer_result given answering_since
  answered_given =
      rw (found.length_is, decided)
      (by_bits (below_one_since s.walk (since s w) hit) (ltb (length table) (row_size * length (rows_since s.walk (since s w) (line_length s w) hit))))

  table_of : (o : AnswerDecision) → given_table_by o s.walk (since s w) (line_length s w) table hit ≡ answer_table o s w table hit
  unfolding answer_rows
  table_of (AnswerRefused n) = refl
  table_of Give = refl

  pub table_given : given_table s.walk (since s w) len table hit ≡ answered_table s w table hit
  unfolding answered_table given_table
  table_given = rw (found.length_is, decided) (table_of (answering_since s.walk (since s w) (line_length s w) (length table) hit))

-- # By 01's numbers

-- refused by 6 before the line is looked at
pub answered_refused : (s : Session) (w table : List ℕ) (hit : Bool) → Cases.AnswerCase s w (length table) hit (AnswerRefused Unsound)
    → (record { refusal = 6; rows = 0; session = s } ≡ answered s w table hit) × (table ≡ answered_table s w table hit)
unfolding answer_result answered answered_table
answered_refused s w table hit h =
    let is = Cases.answer_is s w (length table) hit (AnswerRefused Unsound) h in
    (rw is, rw is)

-- by whether the core refused
module _ (s : Session) (w table : List ℕ) (hit : Bool) (e : sound s (length w) ≡ true) (v : waits s w ≡ true) where
  gave_line : Some (line_length s w) ≡ waiting_line s w
  unfolding waiting_line waits line_length line_ahead
  gave_line = rw (e, v)

  pub given_refused : (k : Refusal) → Err k ≡ given s.walk (since s w) (line_length s w) table hit
      → record { refusal = refusal_number k; rows = 0; session = s } ≡ answered s w table hit
  unfolding answer_result answered
  given_refused k h = ap answer_told (ap (in_window s (line_length s w)) h ∙ answered_given s w table hit (line_length s w) gave_line)

  pub given_served : (g : Given) → Ok g ≡ given s.walk (since s w) (line_length s w) table hit
      → record { refusal = 0; rows = g.rows; session = record { walk = walk_step g.fate s.walk (line_length s w); places = places_next s.places (line_length s w) (gets_row g.fate) } }
      ≡ answered s w table hit
  unfolding answer_result answered
  given_served g h = ap answer_told (ap (in_window s (line_length s w)) h ∙ answered_given s w table hit (line_length s w) gave_line)
