-- The promises of specs/Caller.antt.
use Rattle.definition.specs.declared.Refusal.{Refusal}
use Rattle.std.specs.Prelude.{Ok, Err, Result, Option, Some, None}
use Rattle.std.proofs.Common.{◌≡◌, ℕ, ◌+◌, ◌-◌, ◌*◌, ◌<◌, ◌≤◌, Bool, true, false, cond, not, ◌&&◌, ◌||◌, ltb, leb, ◌⊎◌, ◌↔◌, List, [], ◌∷◌, ◌++◌, map, length, take, drop, sym, refl, ap, ◌∙◌, inl, inr, ⊎_elim, true≢false, arith, length-append, length-drop, length-take, drop_at, ltb-true, le-ltb, lt-ltb, le-leb, leb-true}
use mathlib.Core.Bool.{and-eq-true_iff, and-false, or-true}
use mathlib.Core.List.{flatten}
use native.Mathlib.Decide.{dec_le, dec_lt}
use borrow.Author.Tests.{lt-leb}
use Rattle.definition.specs.declared.Refusal.TheVariants.{Unsound}
use Rattle.definition.specs.declared.Row.{Row}
use Rattle.definition.specs.declared.Going.{Going}
use Rattle.definition.specs.declared.Going.TheVariants.{On, LimitMet, NonmatchMet}
use Rattle.definition.specs.declared.Settings.{Settings}
use Rattle.definition.specs.Bounds.{allowed, max_input, max_window}
use Rattle.definition.specs.Rows.{flat, row_size}
use Rattle.definition.specs.State.{state_next}
use Rattle.definition.specs.Text.{first_length, first_place, lines}
use Rattle.definition.proofs.Terminator.{line_ends, lines_head, lines_rest, lines_whole}
use Rattle.driver_core.specs.Answer.{AnswerDecision, AnswerRefused, Give, answering_since, put_rows, state_since, walk_next}
use Rattle.driver_core.specs.Walk.{is_on, shown_ahead, waits_ahead}
use Rattle.session.specs.declared.Input.{Input}
use Rattle.session.specs.declared.Input.TheVariants.{Open, Ended, QuitFound}
use Rattle.session.specs.declared.Session.{Session}
use Rattle.session.specs.Calls.{answered, answered_table, answering, answer_answer, answer_result, answer_rows, answer_session, answer_table, before_quit, below_one, idle, input_told, offered, offered_window, offering, offer_answer, offer_result, offer_window, opened, places_next, quit_front, recorded, recording, record_result, remains, shown_line, stored, taking, telling, tell_given, tell_result, tell_told, told, told_session, waiting, waiting_refusal, with_input, Idle, OfferDecision, OfferRefused, Take}
use Rattle.promises.specs.Caller.{Agreeing, Answers, Balance, NothingTwice, OfferServed, Offers, Others, Progress, Reached, RefusalsChangeNothing, RowsStay, WhenAndOnlyThen, WindowStays, answers, lone_bytes, offers, opens, tells, unfinished_bytes, unfinished_in, waiting_bytes, waiting_in, whole_bytes}
use Rattle.session.specs.Held.{held_bytes, is_open, kept_from, shown, since_lines, unanswered, waits}
use Rattle.session.specs.Sound.{Agree, agrees, closed, places_agree, places_tests, sound, taken_bytes}
use Rattle.session.proofs.Agree.{agrees_of}
use Rattle.promises.proofs.Carry.{busy, fitting_some, front_quits, is_open_lem, not_front, not_idle}
use Rattle.session.proofs.Cases.{OfferCase, unsound, idling, quits, sized, full, takes, offer_case, AnswerCase, few, gives, none, below, answer_case}
use Rattle.promises.proofs.Only.{offer_only, answer_only}
use Rattle.session.proofs.Cases as Cases
use Rattle.promises.proofs.History.{answer_unchanged, answer_rows_most}
use Rattle.promises.proofs.Invariant.{unanswered_length}
use Rattle.session.proofs.Refusals.{opened_number, opening_refused, recorded_number, recording_refused, told_number, telling_refused, waiting_cases}
use Rattle.session.proofs.Keeps.{GivenIf, TakenIf, answer_given, offer_taken, line_le, agree_answer, agree_offer, agree_opened, agree_told, served_fresh}
use Rattle.promises.proofs.Taking.{stored_beyond, stored_length}

-- # Reached sessions

reached_agree : (n : ℕ) (s : Session) → Reached n s → Agree s
reached_agree _ _ (opens c window e) = agree_opened c window e
reached_agree _ _ (offers {n = n} {s = s} w piece r) = agree_offer s w piece (reached_agree n s r)
reached_agree _ _ (answers {n = n} {s = s} w table hit r) = agree_answer s w table hit (reached_agree n s r)
reached_agree _ _ (tells {n = n} {s = s} r) = agree_told s (reached_agree n s r)

pub agreeing : Agreeing
agreeing n s r = agrees_of s (reached_agree n s r)

-- # Refusals change nothing

pub offer_unchanged : (o : OfferDecision) (s : Session) (w piece : List ℕ) → ((offer_answer o s w piece).refusal ≡ 0 → ⊥)
    → ((offer_answer o s w piece).session ≡ s) × ((offer_answer o s w piece).taken ≡ 0) × (offer_window o s w piece ≡ w)
offer_unchanged (OfferRefused k) s w piece h = (refl, refl, refl)
offer_unchanged Idle s w piece h = (refl, refl, refl)
offer_unchanged (Take n quit) s w piece h = absurd (h refl)

part_unshown : (b v : Bool) (line : List ℕ) → (◌≡◌ {A = Result Bool Refusal} (cond b (Ok v) (Err Unsound)) (Ok true) → ⊥) → cond b (cond v line []) [] ≡ []
part_unshown true true line h = absurd (h refl)
part_unshown true false line h = refl
part_unshown false v line h = refl

closed_unsound : (n : ℕ) → sound closed n ≡ false
unfolding sound agrees places_agree places_tests
closed_unsound n = refl

pub refusals_change_nothing : RefusalsChangeNothing
unfolding offer_result offered offered_window offering answer_result answered answered_table answering tell_result telling told record_result recorded recording shown_line shown_ahead waits waiting agrees places_agree places_tests
refusals_change_nothing s w piece table hit c window =
    record {
      offer = offer_unchanged (offering s w piece) s w piece;
      answer = answer_unchanged (answering s w (length table) hit) s w table hit;
      tell = telling_refused s;
      record_zeros = recording_refused s;
      part_empty = part_unshown (sound s (length w)) (waits s w) _;
      opening_closed = opening_refused c window;
      closed_6 =
          (rw (closed_unsound (length w)), rw (closed_unsound (length w)), rw (closed_unsound (length w)), refl, refl);
    }

-- # When, and only then

-- the other way: what is neither refused by 6, 5 nor 3 is served
offer_back_0 : (s : Session) (w piece : List ℕ) → OfferServed s w piece → (offered s w piece).refusal ≡ 0
unfolding offer_result offered taking
offer_back_0 s w piece h = go (offering s w piece) (offer_case s w piece)
  where
    go : (o : OfferDecision) → OfferCase s w piece o → (offer_answer o s w piece).refusal ≡ 0
    go _ (unsound e) = absurd (true≢false (sym h.0 ∙ e))
    go _ (idling e d) = refl
    go _ (quits e d q) = refl
    go _ (sized p m) =
        absurd
        (⊎_elim (λ d. true≢false (sym d ∙ p.1)) (λ t. ⊎_elim (λ q. true≢false (sym q ∙ p.2)) (λ r. omega (arith, m, r.0)) t) h.1)
    go _ (full p m v f) =
        absurd
        (⊎_elim (λ d. true≢false (sym d ∙ p.1))
        (λ t. ⊎_elim (λ q. true≢false (sym q ∙ p.2)) (λ r. ⊎_elim (λ u. true≢false (sym u ∙ v)) (λ k. omega (arith, k, f)) r.1) t) h.1)
    go _ (takes p m v) = refl

offers_when : (s : Session) (w piece : List ℕ) → Offers s w piece
unfolding offer_result offered offering
offers_when s w piece =
    let only = offer_only s w piece _ (offer_case s w piece) in
    record {
      six = (only.0, λ e. rw e);
      five = (only.1, λ h. rw (h.0.0, h.0.1, h.0.2, le-leb max_input (taken_bytes s) h.1));
      three = (
        only.2,
        λ h. rw (h.0.0, h.0.1, h.0.2, lt-leb max_input (taken_bytes s) h.1, h.2, le-leb s.places.window (held_bytes s w) h.3),
      );
      zero = (only.3, offer_back_0 s w piece);
    }

answer_back_6 : (s : Session) (w : List ℕ) (table : ℕ) (hit : Bool) (o : AnswerDecision) → AnswerCase s w table hit o
    → (sound s (length w) ≡ false) ⊎ ((waits s w ≡ false) ⊎ (below_one s w hit ≡ true)) → (answer_answer o s w hit).refusal ≡ 6
answer_back_6 s w table hit _ (Cases.unsound e) h = refl
answer_back_6 s w table hit _ (none e v) h = refl
answer_back_6 s w table hit _ (below e v b) h = refl
answer_back_6 s w table hit _ (few e v b m) h =
    absurd (⊎_elim (λ k. true≢false (sym e ∙ k)) (λ t. ⊎_elim (λ k. true≢false (sym v ∙ k)) (λ k. true≢false (sym k ∙ b)) t) h)
answer_back_6 s w table hit _ (gives e v b m) h =
    absurd (⊎_elim (λ k. true≢false (sym e ∙ k)) (λ t. ⊎_elim (λ k. true≢false (sym v ∙ k)) (λ k. true≢false (sym k ∙ b)) t) h)

answers_when : (s : Session) (w table : List ℕ) (hit : Bool) → Answers s w table hit
unfolding answer_result answered answering answering_since below_one answer_rows
answers_when s w table hit =
    let case = answer_case s w (length table) hit in
    let only = answer_only s w (length table) hit _ case in
    let need = row_size * length (answer_rows s w hit) in
    record {
      six = (only.0, answer_back_6 s w (length table) hit _ case);
      four = (only.1, λ h. rw (h.0, h.1, h.2, lt-ltb (length table) need h.3));
      zero = (only.2, λ h. rw (h.0, h.1, h.2, le-ltb (length table) need h.3));
    }

-- a choice by two tests among three answers, each of which says how the tests came out
module _ {A : Type 0} (x y z : A) (xy : x ≡ y → ⊥) (xz : x ≡ z → ⊥) (yz : y ≡ z → ⊥) where
  record Chosen (b v : Bool) : Type 0 where
    last : (cond b (cond v x y) z ≡ z) ↔ (b ≡ false)
    first : (cond b (cond v x y) z ≡ x) ↔ ((b ≡ true) × (v ≡ true))
    second : (cond b (cond v x y) z ≡ y) ↔ ((b ≡ true) × (v ≡ false))

  chosen : (b v : Bool) → Chosen b v
  chosen true true =
      record {
        last = (λ e. absurd (xz e), λ e. absurd (true≢false e));
        first = (λ e. (refl, refl), λ e. refl);
        second = (λ e. absurd (xy e), λ e. absurd (true≢false e.1));
      }
  chosen true false =
      record {
        last = (λ e. absurd (yz e), λ e. absurd (true≢false e));
        first = (λ e. absurd (xy (sym e)), λ e. absurd (true≢false (sym e.1)));
        second = (λ e. (refl, refl), λ e. refl);
      }
  chosen false v =
      record {
        last = (λ e. refl, λ e. refl);
        first = (λ e. absurd (xz (sym e)), λ e. absurd (true≢false (sym e.0)));
        second = (λ e. absurd (yz (sym e)), λ e. absurd (true≢false (sym e.0)));
      }

-- a window length in range
in_range : (n : ℕ) → ((ltb 0 n && leb n max_window) ≡ true) ↔ ((0 < n) × (n ≤ max_window))
in_range n = (
  λ e. let both = (and-eq-true_iff (ltb 0 n) (leb n max_window)).0 e in (ltb-true 0 n both.0, leb-true n max_window both.1),
  λ h. (and-eq-true_iff (ltb 0 n) (leb n max_window)).1 (lt-ltb 0 n h.0, le-leb n max_window h.1),
)

out_of_range : (n : ℕ) → ((ltb 0 n && leb n max_window) ≡ false) ↔ ((n ≡ 0) ⊎ (max_window < n))
out_of_range n = (
  λ e. elim (dec_lt 0 n) [
    | yes h ↦ elim (dec_le n max_window) [ yes k ↦ absurd (true≢false (sym ((in_range n).1 (h, k)) ∙ e)) | no k ↦ inr (omega arith) ]
    | no h ↦ inl (omega arith)
  ],
  λ h. ⊎_elim (λ z. rw (le-ltb 0 n (omega arith))) (λ k. rw (lt-leb n max_window k) (and-false (ltb 0 n))) h,
)

refused_6 : (x y : Bool) → (waiting_refusal (cond x (cond y (Ok true) (Ok false)) (Err Unsound)) ≡ 6) ↔ (x ≡ false)
refused_6 true true = (λ e. absurd (omega (arith, e)), λ e. absurd (true≢false e))
refused_6 true false = (λ e. absurd (omega (arith, e)), λ e. absurd (true≢false e))
refused_6 false y = (λ e. refl, λ e. refl)

others_when : (s : Session) (w : List ℕ) (c : Settings) (window : ℕ) → Others s w c window
others_when s w c window =
    let o = chosen {A = ℕ} 0 2 1 (λ e. omega (arith, e)) (λ e. omega (arith, e)) (λ e. omega (arith, e)) (allowed c) (ltb 0 window && leb window max_window) in
    let q = chosen {A = Result Bool Refusal} (Ok true) (Ok false) (Err Unsound) (λ e. let z : ◌≡◌ {A = ℕ} 0 1 = cc in omega arith) (λ e. let z : ◌≡◌ {A = ℕ} 0 1 = cc in omega arith)
    (λ e. let z : ◌≡◌ {A = ℕ} 0 1 = cc in omega arith) (sound s (length w)) (waits s w)
    in
    let t = chosen {A = ℕ} 0 7 6 (λ e. omega (arith, e)) (λ e. omega (arith, e)) (λ e. omega (arith, e)) (agrees s) true in
    let r = chosen {A = ℕ} 7 0 6 (λ e. omega (arith, e)) (λ e. omega (arith, e)) (λ e. omega (arith, e)) (agrees s) (remains s) in
    record {
      opening_1 = rw (opened_number c window) o.last;
      opening_2 =
          rw (opened_number c window) (λ e. let h = o.second.0 e in (h.0, (out_of_range window).0 h.1), λ h. o.second.1 (h.0, (out_of_range window).1 h.1));
      opening_0 = rw (opened_number c window) (
        λ e. let h = o.first.0 e in let n = (in_range window).0 h.1 in (h.0, n.0, n.1),
        λ h. o.first.1 (h.0, (in_range window).1 (h.1, h.2)),
      );
      waiting_6 = rw (waiting_cases s w) (refused_6 (sound s (length w)) (waits s w));
      waiting_line = rw (waiting_cases s w) q.first;
      telling_6 = rw (told_number s) t.last;
      telling_0 = rw (told_number s) (λ e. (t.first.0 e).0, λ e. t.first.1 (e, refl));
      record_6 = rw (recorded_number s) r.last;
      record_7 = rw (recorded_number s) r.first;
      record_0 = rw (recorded_number s) r.second;
    }

pub when_and_only_then : WhenAndOnlyThen
when_and_only_then s w piece table hit c window = (offers_when s w piece, answers_when s w table hit, others_when s w c window)

-- # What a served call does

progress_case : (s : Session) (w piece : List ℕ) (o : OfferDecision) → OfferCase s w piece o → waits s w ≡ false → s.places.input ≡ Open → s.walk.going ≡ On → 0 < length piece
    → (0 < (offer_answer o s w piece).taken)
    ⊎ (((offer_answer o s w piece).session.places.input ≡ QuitFound) ⊎ ((offer_answer o s w piece).refusal ≡ 0 → ⊥))
unfolding taking stored
progress_case s w piece _ (unsound e) v n g h = inr (inr (λ z. omega (arith, z)))
progress_case s w piece _ (idling e d) v n g h = absurd (true≢false (sym d ∙ busy s piece h n g))
progress_case s w piece _ (quits e d q) v n g h = inr (inl (ap (λ b. cond b QuitFound Open) (front_quits s w piece q)))
progress_case s w piece _ (sized p m) v n g h = inr (inr (λ z. omega (arith, z)))
progress_case s w piece _ (full p m u f) v n g h = inr (inr (λ z. omega (arith, z)))
progress_case s w piece _ (takes p m r) v n g h =
    let room : held_bytes s w < s.places.window = ⊎_elim (λ t. absurd (true≢false (sym t ∙ v))) (λ t. t) r in
    inl (fitting_some s w piece (not_front (before_quit s piece) (length piece) h (unfold quit_front in p.2)) room m)

pub progress : Progress
unfolding offer_result offered
progress s w piece v e g h = progress_case s w piece _ (offer_case s w piece) v e g h

flat_length : (rs : List Row) → length (flatten (map flat rs)) ≡ row_size * length rs
unfolding flatten
flat_length [] = refl
flat_length (r ∷ rs) = omega (arith, flat_length rs)

rows_stay_of : (s : Session) (w table : List ℕ) (hit : Bool) (o : AnswerDecision) → GivenIf s w (length table) hit o
    → ((answer_answer o s w hit).rows ≤ s.walk.settings.before + 2)
    × (length (answer_table o s w table hit) ≡ length table)
    × (drop (row_size * (answer_answer o s w hit).rows) (answer_table o s w table hit) ≡ drop (row_size * (answer_answer o s w hit).rows) table)
unfolding put_rows
rows_stay_of s w table hit (AnswerRefused k) g = (omega arith, refl, refl)
rows_stay_of s w table hit Give g =
    let rs = answer_rows s w hit in
    let n = row_size * length rs in
    let front = flatten (map flat rs) in (
      answer_rows_most s w hit,
      omega (arith, length-append front (drop n table), flat_length rs, length-drop n table, g.1),
      drop_at front (drop n table) n (flat_length rs),
    )

pub rows_stay : RowsStay
unfolding answer_result answered answered_table
rows_stay s w table hit = rows_stay_of s w table hit (answering s w (length table) hit) (answer_given s w (length table) hit)

window_stays_of : (s : Session) (w piece : List ℕ) (o : OfferDecision) → TakenIf s w piece o
    → (length (offer_window o s w piece) ≡ length w)
    × (drop (offer_answer o s w piece).session.places.end (offer_window o s w piece) ≡ drop (offer_answer o s w piece).session.places.end w)
unfolding stored
window_stays_of s w piece (OfferRefused k) t = (refl, refl)
window_stays_of s w piece Idle t = (refl, refl)
window_stays_of s w piece (Take n quit) t =
    (stored_length s w piece n t.agree t.room t.size, stored_beyond s w piece n t.agree t.room t.size)

pub window_stays : WindowStays
unfolding offer_result offered offered_window
window_stays s w piece = window_stays_of s w piece (offering s w piece) (offer_taken s w piece)

-- # Nothing twice

idle_of : (b : Bool) (s : Session) (w piece : List ℕ)
    → let o = cond (not b) (OfferRefused Unsound) Idle in
    ((offer_answer o s w piece).taken ≡ 0) × ((offer_answer o s w piece).session ≡ s) × (offer_window o s w piece ≡ w)
idle_of true s w piece = (refl, refl, refl)
idle_of false s w piece = (refl, refl, refl)

idle_offer : (s : Session) (w piece : List ℕ) → idle s piece ≡ true → offering s w piece ≡ cond (not (sound s (length w))) (OfferRefused Unsound) Idle
unfolding offering
idle_offer s w piece e = rw e

idle_when : (s : Session) (piece : List ℕ) → (length piece ≡ 0) ⊎ ((s.places.input ≡ Open → ⊥) ⊎ (s.walk.going ≡ On → ⊥)) → idle s piece ≡ true
idle_when s piece h = go (idle s piece) refl
  where
    go : (b : Bool) → idle s piece ≡ b → b ≡ true
    go true e = refl
    go false e =
        let k = not_idle s piece e in
        absurd (⊎_elim (λ n. omega (arith, k.0)) (⊎_elim (λ n. n (is_open_lem s.places.input k.1)) (λ n. n k.2)) h)

told_same : (o : Option Refusal) (s : Session) → input_told s.walk.going s.places.input ≡ s.places.input → (tell_told (tell_given o s)).session ≡ s
unfolding told_session
told_same None s e =
    ap
    (λ (n : Input).
    let s' : Session = record { walk = s.walk; places = with_input s.places n } in
    s')
    e
told_same (Some k) s e = refl

told_again : (g : Going) (n : Input) → (n ≡ Open → ⊥) → input_told g n ≡ n
told_again On Open h = absurd (h refl)
told_again On Ended h = refl
told_again On QuitFound h = refl
told_again LimitMet n h = refl
told_again NonmatchMet n h = refl

told_stopped : (g : Going) (n : Input) → (g ≡ On → ⊥) → input_told g n ≡ n
told_stopped On n h = absurd (h refl)
told_stopped LimitMet n h = refl
told_stopped NonmatchMet n h = refl

pub nothing_twice : NothingTwice
unfolding offer_result offered offered_window tell_result told
nothing_twice s w piece = (
  λ h. rw (idle_offer s w piece (idle_when s piece h)) (idle_of (sound s (length w)) s w piece),
  λ h. told_same (telling s) s (⊎_elim (told_again s.walk.going s.places.input) (told_stopped s.walk.going s.places.input) h),
)

-- # Bytes taken

offer_bytes : (s : Session) (w piece : List ℕ) (o : OfferDecision) → Agree s
    → taken_bytes s + (offer_answer o s w piece).taken ≡ taken_bytes (offer_answer o s w piece).session
unfolding stored taken_bytes kept_from
offer_bytes s w piece (OfferRefused k) a = omega arith
offer_bytes s w piece Idle a = omega arith
offer_bytes s w piece (Take n quit) a = omega arith

answer_bytes : (s : Session) (w : List ℕ) (hit : Bool) (o : AnswerDecision) → taken_bytes (answer_answer o s w hit).session ≡ taken_bytes s
unfolding taken_bytes answer_session places_next walk_next state_next shown state_since since_lines
answer_bytes s w hit (AnswerRefused k) = refl
answer_bytes s w hit Give = omega (arith, line_le s w)

told_bytes : (o : Option Refusal) (s : Session) → taken_bytes (tell_told (tell_given o s)).session ≡ taken_bytes s
unfolding taken_bytes told_session
told_bytes None s = refl
told_bytes (Some k) s = refl

opened_taken : (c : Settings) (window : ℕ) → (opened c window).refusal ≡ 0 → 0 ≡ taken_bytes (opened c window).session
unfolding taken_bytes
opened_taken c window e = ap (λ (s : Session). s.walk.bytes + (s.places.end - s.places.next)) (sym (served_fresh c window e))

off : (g : Going) → (g ≡ On → ⊥) → is_on g ≡ false
off On h = absurd (h refl)
off LimitMet h = refl
off NonmatchMet h = refl

reached_taken : (n : ℕ) (s : Session) → Reached n s → n ≡ taken_bytes s
unfolding offer_result offered answer_result answered tell_result told
reached_taken _ _ (opens c window e) = opened_taken c window e
reached_taken _ _ (offers {n = n} {s = s} w piece r) =
    ap (λ m. m + (offer_answer (offering s w piece) s w piece).taken) (reached_taken n s r)
    ∙ offer_bytes s w piece (offering s w piece) (reached_agree n s r)
reached_taken _ _ (answers {n = n} {s = s} w table hit r) =
    reached_taken n s r ∙ sym (answer_bytes s w hit (answering s w (length table) hit))
reached_taken _ _ (tells {n = n} {s = s} r) = reached_taken n s r ∙ sym (told_bytes (telling s) s)

-- every byte is of a whole line or of none
whole_lone : (t : ℕ) (ls : List (List ℕ)) → whole_bytes t ls + lone_bytes t ls ≡ length (flatten ls)
unfolding whole_bytes lone_bytes flatten
whole_lone t [] = refl
whole_lone t (l ∷ ls) = go (ltb (first_place t l) (length l)) (whole_lone t ls)
  where
    go : (b : Bool) → whole_bytes t ls + lone_bytes t ls ≡ length (flatten ls)
        → cond b (length l) 0 + whole_bytes t ls + (cond b 0 (length l) + lone_bytes t ls) ≡ length (l ++ flatten ls)
    go true e = omega (arith, e, length-append l (flatten ls))
    go false e = omega (arith, e, length-append l (flatten ls))

-- whole lines have bytes exactly where there is a terminator
whole_some : (t : ℕ) (u : List ℕ) → first_place t u < length u → 0 < whole_bytes t (lines t u)
unfolding whole_bytes
whole_some t u h =
    let l = take (first_length t u) u in
    let size = length-take (first_length t u) u in
    rw (lines_head t u (omega arith), lt-ltb (first_place t l) (length l) (omega (arith, line_ends t u h))) (omega (arith, size))

whole_none : (t : ℕ) (u : List ℕ) → length u ≤ first_place t u → whole_bytes t (lines t u) ≡ 0
unfolding whole_bytes lines
whole_none t [] h = refl
whole_none t (x ∷ u) h = rw (lines_rest t (x ∷ u) (omega arith) h, le-ltb (first_place t (x ∷ u)) (length (x ∷ u)) h)

parts_all : (g o : Bool) (t : ℕ) (u : List ℕ) → waiting_in g o t u + unfinished_in g o t u ≡ length u
parts_all true true t u = whole_lone t (lines t u) ∙ ap length (lines_whole t u)
parts_all true false t u = omega arith
parts_all false o t u = omega arith

waits_in : (g o : Bool) (t : ℕ) (u : List ℕ)
    → ((g && (ltb (first_place t u) (length u) || (not o && ltb 0 (length u)))) ≡ true) ↔ (0 < waiting_in g o t u)
waits_in true true t u =
    elim (dec_lt (first_place t u) (length u)) [
      | yes h ↦ (λ e. whole_some t u h, λ k. rw (lt-ltb (first_place t u) (length u) h))
      | no h ↦
          let none = le-ltb (first_place t u) (length u) (omega arith) in
          (λ e. absurd (true≢false (sym e ∙ rw none)), λ k. absurd (omega (arith, k, whole_none t u (omega arith))))
    ]
waits_in true false t u =
    elim (dec_lt 0 (length u)) [
      | yes h ↦ (λ e. h, λ k. rw (lt-ltb 0 (length u) h) (or-true (ltb (first_place t u) (length u))))
      | no h ↦
          let none = le-ltb 0 (length u) (omega arith) in
          let less = le-ltb (first_place t u) (length u) (omega arith) in
          (λ e. absurd (true≢false (sym e ∙ rw (none, less))), λ k. absurd (omega arith))
    ]
waits_in false o t u = (λ e. absurd (true≢false (sym e)), λ k. absurd (omega arith))

pub balance : Balance
unfolding waits waits_ahead waiting_bytes unfinished_bytes taken_bytes
balance n s w r h =
    let a = reached_agree n s r in
    let t = s.walk.settings.terminator in
    let u = unanswered s w in
    let g = is_on s.walk.going in
    let o = is_open s.places.input in (
      omega (arith, reached_taken n s r, parts_all g o t u, unanswered_length s w a h),
      waits_in g o t u,
      λ k. rw (off s.walk.going k),
    )
