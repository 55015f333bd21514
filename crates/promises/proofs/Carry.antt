-- What is served at a moment of a run, and that each call of a caller who does what is next makes what is left lighter.
use Rattle.std.specs.Prelude.{Ok}
use Rattle.std.proofs.Common.{◌≡◌, ℕ, ◌+◌, ◌-◌, ◌*◌, ◌<◌, ◌≤◌, Bool, true, false, cond, not, ◌&&◌, ◌||◌, eqb, ltb, ◌⊎◌, List, length, take, drop, sym, refl, ap, ◌∙◌, ap₂, inl, inr, ⊎_elim, true≢false, arith, length-append, length-drop, length-take, ltb-false, ltb-true, le-ltb, lt-ltb, eq-eqb, ne_eqb, eqb-true}
use mathlib.Core.Bool.{and-false, and-eq-true_iff}
use native.Mathlib.Decide.{dec_le}
use borrow.Author.Tests.{eqb-false}
use Rattle.definition.specs.declared.Going.TheVariants.{On}
use Rattle.definition.specs.Bounds.{max_input}
use Rattle.definition.specs.Text.{first_place, text}
use Rattle.definition.proofs.Uncut.{text_append}
use Rattle.driver_core.specs.Walk.{is_on, remains_ahead, waits_ahead}
use Rattle.driver_core.proofs.Keeps.{is_on_lem}
use Rattle.session.specs.declared.Input.{Input}
use Rattle.session.specs.declared.Input.TheVariants.{Open, Ended, QuitFound}
use Rattle.session.specs.declared.Session.{Session}
use Rattle.session.specs.Calls.{answer_session, before_quit, fitting, idle, input_told, offer_answer, places_next, quit_front, recorded, recording, record_result, remains, stored, taking, telling, tell_result, told, told_session, waiting, OfferDecision}
use Rattle.session.specs.Held.{held_bytes, is_open, kept_from, unanswered, waits}
use Rattle.promises.specs.Promises.{Within}
use Rattle.session.specs.Sound.{Agree, ahead_bytes, taken_bytes}
use Rattle.session.proofs.Refusals.{recorded_number}
use Rattle.session.proofs.Agree.{agrees_of}
use Rattle.session.proofs.Cases.{OfferCase, unsound, idling, quits, sized, full, takes}
use Rattle.promises.proofs.Invariant.{Inv, sound_now, taken_is, unanswered_length}
use Rattle.session.proofs.Keeps.{line_le, waiting_length}
use Rattle.promises.proofs.Taking.{rest_text, take_uncut}
use Rattle.session.proofs.Parts.{quit_le}

pub not_front : (b n : ℕ) → 0 < n → (eqb b 0 && ltb 0 n) ≡ false → 0 < b
not_front b n h e = elim (dec_le b 0) [
  | yes k ↦
      let z : b ≡ 0 = omega arith in
      absurd (true≢false (sym (rw (eq-eqb b 0 z, lt-ltb 0 n h)) ∙ e))
  | no k ↦ omega arith
]

-- a piece that is not idle has bytes, and finds the input open and the run going on
pub not_idle : (s : Session) (piece : List ℕ) → idle s piece ≡ false → (0 < length piece) × (is_open s.places.input ≡ true) × (s.walk.going ≡ On)
unfolding idle
not_idle s piece = go (eqb (length piece) 0) (is_open s.places.input) (is_on s.walk.going) refl refl refl
  where
    go : (b o g : Bool) → eqb (length piece) 0 ≡ b → is_open s.places.input ≡ o → is_on s.walk.going ≡ g → (b || not o || not g) ≡ false
        → (0 < length piece) × (is_open s.places.input ≡ true) × (s.walk.going ≡ On)
    go true o g e i h k = absurd (true≢false k)
    go false false g e i h k = absurd (true≢false k)
    go false true false e i h k = absurd (true≢false k)
    go false true true e i h k = (omega (arith, eqb-false (length piece) 0 e), i, is_on_lem s.walk.going h)

-- how much is left to do
abbrev pub open_bit : Input → ℕ
open_bit Open = 1
open_bit Ended = 0
open_bit QuitFound = 0

pub open_most : (n : Input) → open_bit n ≤ 1
open_most Open = omega arith
open_most Ended = omega arith
open_most QuitFound = omega arith

unfoldable pub weight : Session → List ℕ → ℕ
weight s rest = 2 * length rest + (s.places.end - s.places.next) + open_bit s.places.input

-- after an offer that takes a byte or finds the Quit byte less is left
stored_falls : (s : Session) (w piece rest : List ℕ) → Agree s → s.places.input ≡ Open → (n : ℕ) (quit : Bool) → n ≤ length rest → (0 < n) ⊎ (quit ≡ true)
    → weight (stored s w piece n quit) (drop n rest) < weight s rest
unfolding weight stored kept_from
stored_falls s w piece rest a e n quit h (inl k) = omega (arith, length-drop n rest, open_most (cond quit QuitFound Open), ap open_bit e)
stored_falls s w piece rest a e n quit h (inr k) = omega (arith, length-drop n rest, ap (λ q. open_bit (cond q QuitFound Open)) k, ap open_bit e)

fitting_rest : (s : Session) (w : List ℕ) (k : ℕ) (rest : List ℕ) → fitting s w (take k rest) ≤ length rest
unfolding fitting before_quit
fitting_rest s w k rest = omega (arith, quit_le s.walk.settings.binary (take k rest), length-take k rest)

pub fitting_some : (s : Session) (w piece : List ℕ) → 0 < before_quit s piece → held_bytes s w < s.places.window → taken_bytes s < max_input → 0 < fitting s w piece
unfolding fitting
fitting_some s w piece h k m = omega arith

-- a Quit byte at the front is found
pub front_quits : (s : Session) (w piece : List ℕ) → quit_front s piece ≡ true
    → (eqb (fitting s w piece) (before_quit s piece) && ltb (fitting s w piece) (length piece)) ≡ true
unfolding quit_front fitting
front_quits s w piece e =
    let both = (and-eq-true_iff (eqb (before_quit s piece) 0) (ltb 0 (length piece))).0 e in
    let front = eqb-true (before_quit s piece) 0 both.0 in
    (and-eq-true_iff _ _).1
    (eq-eqb _ (before_quit s piece) (omega arith), lt-ltb _ (length piece) (omega (arith, ltb-true 0 (length piece) both.1)))

pub or_false : (a b : Bool) → (a || b) ≡ false → (a ≡ false) × (b ≡ false)
or_false true b e = absurd (true≢false e)
or_false false b e = (refl, e)

pub is_open_lem : (n : Input) → is_open n ≡ true → n ≡ Open
is_open_lem Open e = refl
is_open_lem Ended e = absurd (true≢false (sym e))
is_open_lem QuitFound e = absurd (true≢false (sym e))

pub stopped_ends : (s : Session) → is_on s.walk.going ≡ false → remains s ≡ false
unfolding remains remains_ahead
stopped_ends s e = rw e

pub held_ends : (s : Session) → is_open s.places.input ≡ false → s.places.end ≤ s.places.next → remains s ≡ false
unfolding remains remains_ahead
held_ends s o h = rw (o, le-ltb 0 (ahead_bytes s) (omega arith)) (and-false (is_on s.walk.going))

pub busy : (s : Session) (piece : List ℕ) → 0 < length piece → s.places.input ≡ Open → s.walk.going ≡ On → idle s piece ≡ false
unfolding idle
busy s piece h e g = rw (ne_eqb (length piece) 0 (λ z. omega arith), ap is_open e, ap is_on g)

module _ (input : List ℕ) (answers : ℕ → Bool) (s : Session) (w rest : List ℕ) (count : ℕ) (given : List (List ℕ))
    (i : Inv input answers s w rest count given) where
  -- a piece with bytes that no Quit byte leads has a byte of the text
  pub more_text : (k : ℕ) → 0 < length (take k rest) → quit_front s (take k rest) ≡ false
      → (0 < before_quit s (take k rest)) × (0 < length (text s.walk.settings rest))
  unfolding quit_front
  more_text k h q =
      let piece = take k rest in
      let c = s.walk.settings in
      let front = not_front (before_quit s piece) (length piece) h q in
      let parts = rest_text s 1 k rest front in (
        front,
        omega (arith, ap length parts.1, length-append (text c (take 1 piece)) (text c (drop 1 rest)), take_uncut s 1 piece front, length-take 1 piece),
      )

  -- within the size, bytes of the text that are left can be taken
  pub size_left : Within s.walk.settings input → 0 < length (text s.walk.settings rest) → taken_bytes s < max_input
  size_left h k =
      let c = s.walk.settings in
      omega (
        arith,
        h,
        k,
        taken_is input answers s w rest count given i,
        i.uncut,
        ap (λ xs. length (text c xs)) i.input_is,
        ap length (text_append c i.past rest i.uncut),
        length-append (text c i.past) (text c rest),
      )

  -- # What is served

  pub offer_served : Within s.walk.settings input → (k : ℕ) (o : OfferDecision) → OfferCase s w (take k rest) o
      → ((offer_answer o s w (take k rest)).refusal ≡ 0) ⊎ ((offer_answer o s w (take k rest)).refusal ≡ 3)
  unfolding taking
  offer_served h k _ (unsound e) = absurd (true≢false (sym (sound_now input answers s w rest count given i) ∙ e))
  offer_served h k _ (idling e d) = inl refl
  offer_served h k _ (quits e d q) = inl refl
  offer_served h k _ (sized p m) =
      absurd (omega (arith, m, size_left h (more_text k (not_idle s (take k rest) p.1).0 p.2).1))
  offer_served h k _ (full p m v f) = inr refl
  offer_served h k _ (takes p m v) = inl refl

  pub told_served : (told s).refusal ≡ 0
  unfolding tell_result telling told
  told_served = rw (agrees_of s i.agree)

  pub record_served : ((recorded s).refusal ≡ 0) ⊎ ((recorded s).refusal ≡ 7)
  record_served = rw (recorded_number s, agrees_of s i.agree) (go (remains s))
    where
      go : (b : Bool) → (◌≡◌ {A = ℕ} (cond b 7 0) 0) ⊎ (◌≡◌ {A = ℕ} (cond b 7 0) 7)
      go true = inr refl
      go false = inl refl

  pub ends_now : remains s ≡ false → (recorded s).refusal ≡ 0
  unfolding record_result recorded recording
  ends_now e = rw (agrees_of s i.agree, e)

  pub waiting_now : waits s w ≡ true → waiting s w ≡ Ok true
  unfolding waiting
  waiting_now v = rw (sound_now input answers s w rest count given i, v)

  -- # What is left gets lighter

  pub offer_falls : waits s w ≡ false → s.places.input ≡ Open → s.walk.going ≡ On → (k : ℕ) → 0 < length (take k rest)
      → (o : OfferDecision) → OfferCase s w (take k rest) o
      → ((offer_answer o s w (take k rest)).refusal ≡ 3)
      ⊎ (((offer_answer o s w (take k rest)).refusal ≡ 5)
      ⊎ (((offer_answer o s w (take k rest)).refusal ≡ 0)
      × (weight (offer_answer o s w (take k rest)).session (drop (offer_answer o s w (take k rest)).taken rest) < weight s rest)))
  unfolding taking
  offer_falls v n g k l _ (unsound e) = absurd (true≢false (sym (sound_now input answers s w rest count given i) ∙ e))
  offer_falls v n g k l _ (idling e d) = absurd (true≢false (sym d ∙ busy s (take k rest) l n g))
  offer_falls v n g k l _ (quits e d q) =
      inr (inr (
        refl,
        stored_falls s w (take k rest) rest i.agree n (fitting s w (take k rest)) _ (fitting_rest s w k rest)
            (inr (front_quits s w (take k rest) q)),
      ))
  offer_falls v n g k l _ (sized p m) = inr (inl refl)
  offer_falls v n g k l _ (full p m u f) = inl refl
  offer_falls v n g k l _ (takes p m r) =
      let room : held_bytes s w < s.places.window = ⊎_elim (λ t. absurd (true≢false (sym t ∙ v))) (λ t. t) r in
      let front = (more_text k (not_idle s (take k rest) p.1).0 p.2).0 in
      inr (inr (
        refl,
        stored_falls s w (take k rest) rest i.agree n (fitting s w (take k rest)) _ (fitting_rest s w k rest)
            (inl (fitting_some s w (take k rest) front room m)),
      ))

  pub answer_falls : (hit : Bool) → waits s w ≡ true → weight (answer_session s w hit) rest < weight s rest
  unfolding weight answer_session places_next
  answer_falls hit v = omega (arith, waiting_length s w v, line_le s w)

  told_session_falls : s.places.input ≡ Open → s.walk.going ≡ On → weight (told_session s) rest < weight s rest
  unfolding weight told_session
  told_session_falls e g = omega (arith, ap₂ (λ k n. open_bit (input_told k n)) g e, ap open_bit e)

  pub told_falls : s.places.input ≡ Open → s.walk.going ≡ On → weight (told s).session rest < weight s rest
  unfolding tell_result telling told
  told_falls e g = rw (agrees_of s i.agree) (told_session_falls e g)

  -- once the input is no longer open, a run that goes on with no line waiting holds nothing unanswered
  pub nothing_held : waits s w ≡ false → is_on s.walk.going ≡ true → is_open s.places.input ≡ false → s.places.end ≤ s.places.next
  unfolding waits waits_ahead
  nothing_held v g o =
      let n = length (unanswered s w) in
      let e : (ltb (first_place s.walk.settings.terminator (unanswered s w)) n || ltb 0 n) ≡ false = rw (g, o) at v in
      omega (arith, ltb-false 0 n (or_false (ltb (first_place s.walk.settings.terminator (unanswered s w)) n) (ltb 0 n) e).1, unanswered_length s w i.agree i.window_is)
