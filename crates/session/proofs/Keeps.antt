-- Each call keeps the list of contradictions empty, whatever window, piece and table it is given.
use Rattle.std.proofs.Common.{◌≡◌, ℕ, ◌+◌, ◌-◌, ◌*◌, ◌<◌, ◌≤◌, Bool, true, false, cond, ◌&&◌, eqb, ltb, leb, List, length, drop, refl, arith, length-take, ltb-true, eqb-true, leb-true}
use mathlib.Core.Bool.{and-eq-true_iff}
use Rattle.std.specs.Prelude.{Option, Some, None}
use Rattle.definition.specs.declared.Refusal.{Refusal}
use Rattle.definition.specs.declared.Refusal.TheVariants.{BadSettings, BadWindow}
use Rattle.definition.specs.declared.Settings.{Settings}
use Rattle.definition.specs.Bounds.{allowed, max_input, max_window}
use Rattle.definition.specs.Rows.{row_size}
use Rattle.definition.specs.State.{fate_of}
use Rattle.driver_core.specs.Answer.{AnswerDecision, AnswerRefused, Give, gets_row, state_since}
use Rattle.driver_core.proofs.Keeps.{agree_fewer, agree_next, agree_start, since_now, waiting_some, waits_why, Waits}
use Rattle.session.specs.declared.Session.{Session}
use Rattle.session.proofs.Refusals.{opening_served}
use Rattle.session.specs.Calls.{Idle, OfferDecision, OfferRefused, Take, answer_answer, answer_rows, answer_session, answer_result, answered, answering, before_quit, fitting, fresh, offer_answer, offer_result, offered, offering, open_result, opened, opening, places_next, stored, taking, tell_result, telling, told, told_session}
use Rattle.session.specs.Held.{held_bytes, is_open, kept_bytes, kept_from, line_length, shown, since, unanswered, waits}
use Rattle.session.specs.Sound.{Agree, agrees, ahead_bytes, since_bytes, sound, taken_bytes}
use Rattle.session.proofs.Agree.{agree_of, agrees_of}
use Rattle.session.proofs.Cases.{OfferCase, unsound, idling, quits, sized, full, takes, offer_case, AnswerCase, few, gives, none, below, answer_case}
use Rattle.session.proofs.Cases as Cases
use Rattle.session.proofs.Parts.{kept_le}

-- # Offering

-- what an offer takes has room in the window and in the size
pub record Room (s : Session) (w piece : List ℕ) (n : ℕ) : Type 0 where
  pub kept : kept_bytes s w ≤ s.places.next - s.places.floor
  pub window : kept_bytes s w + (s.places.end - s.places.next) + n ≤ s.places.window
  pub size : s.walk.bytes + (s.places.end - s.places.next) + n ≤ max_input
  pub quit : n ≤ before_quit s piece

pub fitting_room : (s : Session) (w piece : List ℕ) → Agree s → Room s w piece (fitting s w piece)
unfolding fitting held_bytes taken_bytes
fitting_room s w piece a =
    let k = kept_le s w in
    record { kept = k; window = omega arith; size = omega arith; quit = omega arith }

pub agree_stored : (s : Session) (w piece : List ℕ) (n : ℕ) (quit : Bool) → Agree s → Room s w piece n → Agree (stored s w piece n quit)
unfolding stored kept_from
agree_stored s w piece n quit a r =
    record {
      places = record { some = a.places.some; most = a.places.most; floor_next = omega arith; next_end = omega arith; end_window = omega arith };
      walk = agree_fewer s.walk (since_bytes s) (ahead_bytes s) _ _ a.walk (omega (arith, r.kept)) (omega arith);
    }

-- a call that sees a sound session
pub sound_agrees : (s : Session) (n : ℕ) → sound s n ≡ true → Agree s
unfolding sound
sound_agrees s n e = agree_of s ((and-eq-true_iff (agrees s) (eqb n s.places.window)).0 e).0

pub sound_window : (s : Session) (n : ℕ) → sound s n ≡ true → n ≡ s.places.window
unfolding sound
sound_window s n e = eqb-true n s.places.window ((and-eq-true_iff (agrees s) (eqb n s.places.window)).0 e).1

-- what a decision to take implies; the others imply nothing
pub record Taken (s : Session) (w piece : List ℕ) (n : ℕ) (quit : Bool) : Type 0 where
  pub agree : Agree s
  pub size : length w ≡ s.places.window
  pub room : Room s w piece n
  pub flag : (eqb n (before_quit s piece) && ltb n (length piece)) ≡ quit

abbrev pub TakenIf : Session → List ℕ → List ℕ → OfferDecision → Type 0
TakenIf s w piece (OfferRefused k) = Unit {0}
TakenIf s w piece Idle = Unit {0}
TakenIf s w piece (Take n quit) = Taken s w piece n quit

taking_taken : (s : Session) (w piece : List ℕ) → sound s (length w) ≡ true → TakenIf s w piece (taking s w piece)
unfolding taking
taking_taken s w piece e =
    record {
      agree = sound_agrees s (length w) e;
      size = sound_window s (length w) e;
      room = fitting_room s w piece (sound_agrees s (length w) e);
      flag = refl;
    }

taken_case : (s : Session) (w piece : List ℕ) (o : OfferDecision) → OfferCase s w piece o → TakenIf s w piece o
taken_case s w piece _ (unsound e) = tt
taken_case s w piece _ (idling e i) = tt
taken_case s w piece _ (quits e i q) = taking_taken s w piece e
taken_case s w piece _ (sized p h) = tt
taken_case s w piece _ (full p h v k) = tt
taken_case s w piece _ (takes p h v) = taking_taken s w piece p.0

pub offer_taken : (s : Session) (w piece : List ℕ) → TakenIf s w piece (offering s w piece)
offer_taken s w piece = taken_case s w piece _ (offer_case s w piece)

agree_offer_of : (s : Session) (w piece : List ℕ) (o : OfferDecision) → TakenIf s w piece o → Agree s → Agree (offer_answer o s w piece).session
agree_offer_of s w piece (OfferRefused k) t a = a
agree_offer_of s w piece Idle t a = a
agree_offer_of s w piece (Take n quit) t a = agree_stored s w piece n quit a t.room

pub agree_offer : (s : Session) (w piece : List ℕ) → Agree s → Agree (offered s w piece).session
unfolding offer_result offered
agree_offer s w piece a = agree_offer_of s w piece (offering s w piece) (offer_taken s w piece) a

-- # Answering

-- why a line waits
pub why_waits : (s : Session) (w : List ℕ) → waits s w ≡ true → Waits s.walk (is_open s.places.input) (unanswered s w)
unfolding waits
why_waits s w e = waits_why s.walk (is_open s.places.input) (unanswered s w) e

-- a waiting line has a byte, and ends where the held bytes do at the latest
pub waiting_length : (s : Session) (w : List ℕ) → waits s w ≡ true → 0 < line_length s w
unfolding waits line_length
waiting_length s w e = waiting_some s.walk (is_open s.places.input) (unanswered s w) e

pub line_le : (s : Session) (w : List ℕ) → line_length s w ≤ s.places.end - s.places.next
unfolding line_length unanswered
line_le s w = omega (arith, length-take (s.places.end - s.places.next) (drop s.places.next w))

-- where the floor comes to lie
floor_next : (row : Bool) (floor next len : ℕ) → floor ≤ next
    → (cond row (next + len) floor ≤ next + len) × (next + len - cond row (next + len) floor ≡ since_now row (next - floor) len)
floor_next true floor next len h = (omega arith, omega arith)
floor_next false floor next len h = (omega arith, omega arith)

pub agree_given : (s : Session) (w : List ℕ) (hit : Bool) → Agree s → waits s w ≡ true → Agree (answer_session s w hit)
unfolding answer_session places_next shown
agree_given s w hit a v =
    let len = line_length s w in
    let fits = line_le s w in
    let row = gets_row (fate_of s.walk.settings (state_since s.walk (since s w)) hit) in
    let floor = floor_next row s.places.floor s.places.next len a.places.floor_next in
    let ahead : s.places.end - (s.places.next + len) ≡ ahead_bytes s - len = omega arith in
    record {
      places =
          record { some = a.places.some; most = a.places.most; floor_next = floor.0; next_end = omega arith; end_window = a.places.end_window };
      walk =
          rw (floor.1, ahead)
          (agree_next s.walk (since_bytes s) (ahead_bytes s) len a.walk (waiting_length s w v) fits (since s w) hit);
    }

-- what a decision to give implies
abbrev pub GivenIf : Session → List ℕ → ℕ → Bool → AnswerDecision → Type 0
GivenIf s w table hit (AnswerRefused k) = Unit {0}
GivenIf s w table hit Give = (waits s w ≡ true) × (row_size * length (answer_rows s w hit) ≤ table)

given_case : (s : Session) (w : List ℕ) (table : ℕ) (hit : Bool) (o : AnswerDecision) → AnswerCase s w table hit o → GivenIf s w table hit o
given_case s w table hit _ (Cases.unsound e) = tt
given_case s w table hit _ (none e v) = tt
given_case s w table hit _ (below e v b) = tt
given_case s w table hit _ (few e v b h) = tt
given_case s w table hit _ (gives e v b h) = (v, h)

pub answer_given : (s : Session) (w : List ℕ) (table : ℕ) (hit : Bool) → GivenIf s w table hit (answering s w table hit)
answer_given s w table hit = given_case s w table hit _ (answer_case s w table hit)

agree_answer_of : (s : Session) (w : List ℕ) (table : ℕ) (hit : Bool) (o : AnswerDecision) → GivenIf s w table hit o → Agree s
    → Agree (answer_answer o s w hit).session
agree_answer_of s w table hit (AnswerRefused k) g a = a
agree_answer_of s w table hit Give g a = agree_given s w hit a g.0

pub agree_answer : (s : Session) (w table : List ℕ) (hit : Bool) → Agree s → Agree (answered s w table hit).session
unfolding answer_result answered
agree_answer s w table hit a =
    agree_answer_of s w (length table) hit (answering s w (length table) hit) (answer_given s w (length table) hit) a

-- # Telling the end, and opening

pub agree_told_session : (s : Session) → Agree s → Agree (told_session s)
unfolding told_session
agree_told_session s a =
    let p = a.places in
    record {
      places = record { some = p.some; most = p.most; floor_next = p.floor_next; next_end = p.next_end; end_window = p.end_window };
      walk = a.walk;
    }

pub agree_told : (s : Session) → Agree s → Agree (told s).session
unfolding told telling tell_result
agree_told s a = rw (agrees_of s a) (agree_told_session s a)

pub opening_why : (c : Settings) (n : ℕ) → opening c n ≡ None → (allowed c ≡ true) × (0 < n) × (n ≤ max_window)
unfolding opening
opening_why c n = go (allowed c) (ltb 0 n && leb n max_window) refl refl
  where
    go : (b v : Bool) → allowed c ≡ b → (ltb 0 n && leb n max_window) ≡ v
        → ◌≡◌ {A = Option Refusal} (cond b (cond v None (Some BadWindow)) (Some BadSettings)) None → (allowed c ≡ true) × (0 < n) × (n ≤ max_window)
    go true true k h e =
        let both = (and-eq-true_iff (ltb 0 n) (leb n max_window)).0 h in
        (k, ltb-true 0 n both.0, leb-true n max_window both.1)
    go true false k h e = absurd cc
    go false v k h e = absurd cc

pub agree_fresh : (c : Settings) (n : ℕ) → opening c n ≡ None → Agree (fresh c n)
agree_fresh c n e =
    let why = opening_why c n e in
    record {
      places = record { some = why.1; most = why.2; floor_next = omega arith; next_end = omega arith; end_window = omega arith };
      walk = agree_start c 0 why.0 (omega arith);
    }

pub served_fresh : (c : Settings) (n : ℕ) → (opened c n).refusal ≡ 0 → (opened c n).session ≡ fresh c n
unfolding opened open_result
served_fresh c n e = rw (opening_served c n e)

pub agree_opened : (c : Settings) (n : ℕ) → (opened c n).refusal ≡ 0 → Agree (opened c n).session
agree_opened c n e = rw (served_fresh c n e) (agree_fresh c n (opening_served c n e))
