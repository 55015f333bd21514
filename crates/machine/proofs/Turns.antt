-- What a turn does at a moment of a run: it goes on and what is left gets lighter, or it prints what must be printed and is over, or it
-- wants a read, and then nothing is at hand.
use Rattle.std.proofs.Common.{◌≡◌, ℕ, ◌+◌, ◌*◌, ◌<◌, ◌≤◌, Bool, true, false, List, [], ◌∷◌, ◌++◌, length, take, drop, sym, refl, ap, ◌∙◌, subst, ⊎_elim, append-nil, arith}
use mathlib.Core.List.{map}
use lib.Seq.{drop-append-le, take-append_seam}
use Rattle.definition.specs.declared.Going.TheVariants.{On}
use Rattle.definition.specs.declared.Settings.{Settings}
use Rattle.definition.specs.Rows.{flat, row_size}
use Rattle.definition.specs.Text.{first_place}
use Rattle.definition.proofs.Terminator.{line_ends}
use Rattle.driver_core.specs.Answer.{walk_next}
use Rattle.driver_core.specs.Walk.{is_on}
use Rattle.driver_core.proofs.Keeps.{is_on_lem}
use Rattle.driver_core.proofs.Laws.{before_allowed}
use Rattle.session.specs.declared.Input.TheVariants.{Open, Ended}
use Rattle.session.specs.declared.Session.{Session}
use Rattle.session.specs.Calls.{answer_rows, answer_session, offered, offered_window, offering, offer_answer, offer_result, places_next, recorded, shown_line, stored, Idle, OfferDecision, OfferRefused, Take}
use Rattle.session.specs.Held.{is_open, line_length, unanswered, waits}
use Rattle.promises.specs.Promises.{answers_of}
use Rattle.promises.proofs.Carry.{answer_falls, ends_now, held_ends, is_open_lem, nothing_held, offer_falls, record_served, stopped_ends, waiting_now, weight}
use Rattle.session.proofs.Cases.{answer_is, none, offer_case}
use Rattle.promises.proofs.Giving.{inv_given, line}
use Rattle.promises.proofs.History.{answer_gives, inv_offer}
use Rattle.promises.proofs.Invariant.{Inv, sound_now}
use Rattle.session.proofs.Keeps.{why_waits}
use Rattle.promises.proofs.Promises.{asked_inv}
use Rattle.promises.proofs.Taking.{taken_le}
use Rattle.machine.specs.Machine.{ends, goes, wants}
use Rattle.machine.specs.Program.{Program, feeds, table_size, turns}
use Rattle.machine.specs.Promises.{Ending, Prints, Whole, said}
use Rattle.machine.proofs.Closings.{Now, prints_finished, prints_no_room, prints_too_large}
use Rattle.machine.proofs.Counted.{upto}
use Rattle.machine.proofs.Feeds.{at, feeds_ends, feeds_goes, feeds_refused, feeds_wants, turn_feeds, turn_gives}
use Rattle.machine.proofs.Said.{said_next, upto_next, whole_snoc}

module _ (p : Program) (c : Settings) (input : List ℕ) (how : Ending) (s : Session) (w rest future : List ℕ) (count : ℕ) (given : List (List ℕ)) where
  pub data Did : Type 0 where
    went : (text : List ℕ) (s' : Session) (w' rest' : List ℕ) (count' : ℕ) (given' : List (List ℕ))
        → turns p (at s w rest) ≡ goes text (at s' w' rest')
        → Now p c input how s' w' (rest' ++ future) count' given'
        → weight s' (rest' ++ future) < weight s (rest ++ future)
        → said p c input (upto c input count') ≡ said p c input (upto c input count) ++ text
        → s'.places.window ≡ s.places.window
        → (s'.places.input ≡ Open → s.places.input ≡ Open)
        → Did
    halted : (text : List ℕ) → turns p (at s w rest) ≡ ends text
        → Prints p c s.places.window input how (said p c input (upto c input count) ++ text) → Did
    lacks : turns p (at s w rest) ≡ wants (at s w rest) → rest ≡ [] → s.places.input ≡ Open → s.walk.going ≡ On → waits s w ≡ false → Did

-- an offer leaves the settings and the window's length
offer_same : (o : OfferDecision) (s : Session) (w piece : List ℕ)
    → ((offer_answer o s w piece).session.walk.settings ≡ s.walk.settings) × ((offer_answer o s w piece).session.places.window ≡ s.places.window)
unfolding stored
offer_same (OfferRefused k) s w piece = (refl, refl)
offer_same Idle s w piece = (refl, refl)
offer_same (Take n q) s w piece = (refl, refl)

-- and does not tell the end
offer_ended : (o : OfferDecision) (s : Session) (w piece : List ℕ) → s.places.input ≡ Open → (offer_answer o s w piece).session.places.input ≡ Ended → ⊥
unfolding stored
offer_ended (OfferRefused k) s w piece e h = let z : ◌≡◌ {A = ℕ} 0 1 = cc in omega arith
offer_ended Idle s w piece e h = let z : ◌≡◌ {A = ℕ} 0 1 = cc in omega arith
offer_ended (Take n true) s w piece e h = let z : ◌≡◌ {A = ℕ} 0 1 = cc in omega arith
offer_ended (Take n false) s w piece e h = let z : ◌≡◌ {A = ℕ} 0 1 = cc in omega arith

module _ (p : Program) (input : List ℕ) (how : Ending) (s : Session) (w rest future : List ℕ) (count : ℕ) (given : List (List ℕ))
    (n : Now p s.walk.settings input how s w (rest ++ future) count given) where
  abbrev c : Settings
  c = s.walk.settings

  abbrev answers : ℕ → Bool
  answers = answers_of p.matcher c input

  abbrev i : Inv input answers s w (rest ++ future) count given
  i = n.inv

  abbrev Does : Type 0
  Does = Did p c input how s w rest future count given

  -- # A line waits

  -- while the input is open the line that waits has its terminator
  line_whole : waits s w ≡ true → s.places.input ≡ Open → first_place c.terminator (line s w) < length (line s w)
  unfolding line line_length
  line_whole v e =
      let t = c.terminator in
      let u = unanswered s w in
      ⊎_elim (λ h. omega (arith, line_ends t u h)) (λ h. absurd (let z : ◌≡◌ {A = ℕ} 0 1 = cc (ap is_open e) in omega (arith, z))) (why_waits s w v).1

  answered_now : (v : waits s w ≡ true) → Now p c input how (answer_session s w (answers (count + 1))) w (rest ++ future) (count + 1) (given ++ map flat (answer_rows s w (answers (count + 1))))
  unfolding answer_session places_next walk_next
  answered_now v =
      record {
        same = refl;
        inv = inv_given input answers s w (rest ++ future) count given i v;
        told = n.told;
        lines_whole = λ e.
            subst (Whole c.terminator) (sym (upto_next p input s w (rest ++ future) count given i v))
            (whole_snoc c.terminator (upto c input count) (line s w) (n.lines_whole e) (line_whole v e));
      }

  did_answer : waits s w ≡ true → Does
  unfolding answer_session places_next walk_next
  did_answer v =
      let hit = answers (count + 1) in
      let room : row_size * (c.before + 2) ≤ table_size = omega (arith, before_allowed c i.agree.walk.set) in
      let e = waiting_now input answers s w (rest ++ future) count given i v in
      went (p.says (shown_line s w) (answer_rows s w hit)) (answer_session s w hit) w rest (count + 1) (given ++ map flat (answer_rows s w hit))
      (turn_gives p s w rest hit (sym (asked_inv p.matcher input s w (rest ++ future) count given i e))
      (answer_gives input answers s w (rest ++ future) count given i table_size hit v room))
      (answered_now v)
      (answer_falls input answers s w (rest ++ future) count given i hit v)
      (said_next p input s w (rest ++ future) count given i v)
      refl
      (λ h. h)

  -- # None waits

  fed_turn : waits s w ≡ false → turns p (at s w rest) ≡ feeds p (at s w rest) 6
  fed_turn v = turn_feeds p s w rest (λ hit. answer_is s w table_size hit _ (none (sound_now input answers s w (rest ++ future) count given i) v))

  did_end : waits s w ≡ false → (recorded s).refusal ≡ 0 → Does
  did_end v e = halted (p.closes (recorded s).end) (fed_turn v ∙ feeds_ends p s w rest e) (prints_finished p input how s w (rest ++ future) count given n e)

  -- with lines or input left the run goes on and the input is open
  still_open : waits s w ≡ false → ((recorded s).refusal ≡ 0 → ⊥) → (s.places.input ≡ Open) × (s.walk.going ≡ On)
  still_open v e = go (is_on s.walk.going) refl (is_open s.places.input) refl
    where
      go : (g : Bool) → is_on s.walk.going ≡ g → (o : Bool) → is_open s.places.input ≡ o → (s.places.input ≡ Open) × (s.walk.going ≡ On)
      go false g o k = absurd (e (ends_now input answers s w (rest ++ future) count given i (stopped_ends s g)))
      go true g false k =
          absurd (e (ends_now input answers s w (rest ++ future) count given i (held_ends s k (nothing_held input answers s w (rest ++ future) count given i v g k))))
      go true g true k = (is_open_lem s.places.input k, is_on_lem s.walk.going g)

  offered_now : s.places.input ≡ Open
      → Now p c input how (offered s w rest).session (offered_window s w rest) (drop (offered s w rest).taken rest ++ future) count given
  unfolding offer_result offered
  offered_now e =
      let piece = take-append_seam rest future in
      let j = inv_offer input answers s w (rest ++ future) count given i (length rest) in
      let k = subst
      (λ x. Inv input answers (offered s w x).session (offered_window s w x) (drop (offered s w x).taken (rest ++ future)) count given) piece j in
      record {
        same = (offer_same (offering s w rest) s w rest).0;
        inv = subst (λ x. Inv input answers (offered s w rest).session (offered_window s w rest) x count given)
            (drop-append-le (offered s w rest).taken rest future (taken_le s w rest)) k;
        told = λ h. absurd (offer_ended (offering s w rest) s w rest e h);
        lines_whole = λ h. n.lines_whole e;
      }

  did_offer : waits s w ≡ false → ((recorded s).refusal ≡ 0 → ⊥) → 0 < length rest → Does
  unfolding offer_result offered
  did_offer v e l =
      let open-on = still_open v e in
      let piece = take-append_seam rest future in
      let falls = offer_falls input answers s w (rest ++ future) count given i v open-on.0 open-on.1 (length rest) (omega (arith, l, ap length piece)) _
      (offer_case s w (take (length rest) (rest ++ future))) in
      ⊎_elim
      (λ three.
      let o = subst (λ x. (offered s w x).refusal ≡ 3) piece three in
      halted (p.refuses 3) (fed_turn v ∙ feeds_refused p s w rest 3 e l o (λ z. omega (arith, z))) (prints_no_room p input how s w (rest ++ future) count given n (length rest) three))
      (λ more. ⊎_elim
      (λ five.
      let o = subst (λ x. (offered s w x).refusal ≡ 5) piece five in
      halted (p.refuses 5) (fed_turn v ∙ feeds_refused p s w rest 5 e l o (λ z. omega (arith, z))) (prints_too_large p input how s w (rest ++ future) count given n (length rest) v five))
      (λ served.
      let o = subst (λ x. (offered s w x).refusal ≡ 0) piece served.0 in
      let lighter = subst (λ x. weight (offered s w x).session (drop (offered s w x).taken (rest ++ future)) < weight s (rest ++ future)) piece served.1 in
      went [] (offered s w rest).session (offered_window s w rest) (drop (offered s w rest).taken rest) count given
      (fed_turn v ∙ feeds_goes p s w rest e l o)
      (offered_now open-on.0)
      (subst (λ x. weight (offered s w rest).session x < weight s (rest ++ future)) (drop-append-le (offered s w rest).taken rest future (taken_le s w rest)) lighter)
      (sym (append-nil (said p c input (upto c input count))))
      (offer_same (offering s w rest) s w rest).1
      (λ h. open-on.0))
      more)
      falls

  did_none : waits s w ≡ false → (xs : List ℕ) → rest ≡ xs → Does
  did_none v xs k = ⊎_elim (did_end v) (λ seven. go xs k (λ z. omega (arith, seven, z))) (record_served input answers s w (rest ++ future) count given i)
    where
      go : (xs : List ℕ) → rest ≡ xs → ((recorded s).refusal ≡ 0 → ⊥) → Does
      go [] k e =
          let open-on = still_open v e in
          lacks (fed_turn v ∙ feeds_wants p s w rest e k) k open-on.0 open-on.1 v
      go (x ∷ xs) k e = did_offer v e (omega (arith, ap length k))

  pub did : Does
  did = go (waits s w) refl
    where
      go : (v : Bool) → waits s w ≡ v → Does
      go true v = did_answer v
      go false v = did_none v rest refl

-- the same for the settings that the program was opened with
pub did_of : (p : Program) (c : Settings) (input : List ℕ) (how : Ending) (s : Session) (w rest future : List ℕ) (count : ℕ) (given : List (List ℕ))
    → Now p c input how s w (rest ++ future) count given → Did p c input how s w rest future count given
did_of p c input how s w rest future count given n =
    subst (λ x. Now p x input how s w (rest ++ future) count given → Did p x input how s w rest future count given) n.same
    (did p input how s w rest future count given) n
