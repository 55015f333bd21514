-- What each way through opening, asking, telling the end and the end record gives.
use Rattle.driver_core.specs.Walk.{shown_ahead}
use Rattle.session.specs.Held.{is_open, unanswered, waits}
use Rattle.definition.specs.declared.Refusal.TheVariants.{Unsound}
use Rattle.std.specs.Prelude.{◌≡◌, ℕ, true, false, not, ◌&&◌, ◌||◌, List, [], length, Ok, Err}
use mathlib.Core.Path.{sym, ◌∙◌}
use native.Mathlib.Decide.{dec_le, dec_lt}
use native.Mathlib.Omega.{arith}
use lib.Dec.{eqb, leb, ltb}
use borrow.Author.Tests.{eq-eqb, le-leb, le-ltb, lt-leb, lt-ltb, ne_eqb, not-false, not-true}
use Rattle.definition.specs.declared.Settings.{Settings}
use Rattle.definition.specs.Bounds.{allowed, max_window}
use Rattle.session.specs.declared.Session.{Session}
use Rattle.session.specs.Calls.{fresh, no_record, open_result, opened, opening, record_of, record_result, recorded, recording, remains, shown_from, shown_line, tell_result, telling, told, told_session, waiting}
use Rattle.session.specs.Sound.{agrees, closed, sound}

-- # Opening

pub opened_1 : (c : Settings) (n : ℕ) → allowed c ≡ false → record { refusal = 1; session = closed } ≡ opened c n
unfolding opened open_result opening
opened_1 c n h = rw h

-- the window's length is refused
bad_length : (n : ℕ) → (eqb n 0 || ltb max_window n) ≡ not (ltb 0 n && leb n max_window)
bad_length n = elim (dec_lt 0 n) [
  | yes k ↦ rw (ne_eqb n 0 (λ z. omega arith), lt-ltb 0 n k) (big n)
  | no k ↦ rw (eq-eqb n 0 (omega arith), le-ltb 0 n (omega arith))
]
  where
    big : (n : ℕ) → ltb max_window n ≡ not (leb n max_window)
    big n = elim (dec_le n max_window) [ yes k ↦ rw (le-leb n max_window k, le-ltb max_window n k) | no k ↦ rw (lt-leb n max_window (omega arith), lt-ltb max_window n (omega arith)) ]

pub opened_2 : (c : Settings) (n : ℕ) → allowed c ≡ true → (eqb n 0 || ltb max_window n) ≡ true → record { refusal = 2; session = closed } ≡ opened c n
unfolding opened open_result opening
opened_2 c n h k = rw (h, not-true (ltb 0 n && leb n max_window) (sym (bad_length n) ∙ k))

pub opened_0 : (c : Settings) (n : ℕ) → allowed c ≡ true → (eqb n 0 || ltb max_window n) ≡ false
    → record { refusal = 0; session = fresh c n } ≡ opened c n
unfolding opened open_result opening
opened_0 c n h k = rw (h, not-false (ltb 0 n && leb n max_window) (sym (bad_length n) ∙ k))

-- # Telling the end

pub told_refused : (s : Session) → agrees s ≡ false → record { refusal = 6; session = s } ≡ told s
unfolding told tell_result telling
told_refused s h = rw h

pub told_served : (s : Session) → agrees s ≡ true → record { refusal = 0; session = told_session s } ≡ told s
unfolding told tell_result telling
told_served s h = rw h

-- # The end record

pub recorded_6 : (s : Session) → agrees s ≡ false → record { refusal = 6; end = no_record } ≡ recorded s
unfolding recorded record_result recording
recorded_6 s h = rw h

pub recorded_7 : (s : Session) → agrees s ≡ true → remains s ≡ true → record { refusal = 7; end = no_record } ≡ recorded s
unfolding recorded record_result recording
recorded_7 s h k = rw (h, k)

pub recorded_0 : (s : Session) → agrees s ≡ true → remains s ≡ false → record { refusal = 0; end = record_of s } ≡ recorded s
unfolding recorded record_result recording
recorded_0 s h k = rw (h, k)

-- # Asking

module _ (s : Session) (w : List ℕ) where
  pub waiting_refused : sound s (length w) ≡ false → Err Unsound ≡ waiting s w
  unfolding waiting
  waiting_refused e = rw e

  pub waiting_line : sound s (length w) ≡ true → waits s w ≡ true → Ok true ≡ waiting s w
  unfolding waiting
  waiting_line e v = rw (e, v)

  pub waiting_none : sound s (length w) ≡ true → waits s w ≡ false → Ok false ≡ waiting s w
  unfolding waiting
  waiting_none e v = rw (e, v)

  pub shown_refused : sound s (length w) ≡ false → ([] ≡ shown_line s w) × (0 ≡ shown_from s (length w))
  unfolding shown_line shown_from
  shown_refused e = (rw e, rw e)

  pub shown_served : sound s (length w) ≡ true
      → (shown_ahead s.walk (is_open s.places.input) (unanswered s w) ≡ shown_line s w) × (s.places.next ≡ shown_from s (length w))
  unfolding shown_line shown_from
  shown_served e = (rw e, rw e)
