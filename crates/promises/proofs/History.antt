-- The invariant holds at every moment of every run.
use Rattle.definition.specs.declared.Refusal.{Refusal}
use Rattle.std.specs.Prelude.{None, Ok, true, Err, Result, Option, Some}
use Rattle.std.proofs.Common.{◌≡◌, ℕ, ◌+◌, ◌*◌, ◌≤◌, Bool, true, false, cond, not, eqb, List, [], ◌∷◌, ◌++◌, length, take, drop, sym, refl, ap, ◌∙◌, subst, arith, le-ltb}
use mathlib.Core.Bool.{and-false}
use mathlib.Core.List.{cons≢nil, flatten, map}
use Rattle.definition.specs.declared.Refusal.TheVariants.{Unsound}
use Rattle.definition.specs.declared.Row.{Row}
use Rattle.definition.specs.declared.Fate.{Fate}
use Rattle.definition.specs.declared.Fate.TheVariants.{Match, After, Other, NoRow}
use Rattle.definition.specs.declared.Binary.{Binary}
use Rattle.definition.specs.declared.Binary.TheVariants.{Ignore, Quit, Convert}
use Rattle.definition.specs.declared.Going.{Going}
use Rattle.definition.specs.declared.Going.TheVariants.{On, LimitMet, NonmatchMet}
use Rattle.definition.specs.declared.Settings.{Settings}
use Rattle.definition.specs.Definition.{last_of, kept_lines}
use Rattle.definition.specs.Rows.{flat, row_size, rows_in}
use Rattle.definition.specs.State.{State, fate_of, begun, rows, state, trim}
use Rattle.definition.specs.Text.{first_place, lines, up_to}
use Rattle.definition.proofs.Kept.{before≤kept, since_counted, step_rows_most}
use Rattle.definition.proofs.Lists.{length_last_of, rows_in_put}
use Rattle.definition.proofs.Terminator.{whole_none}
use Rattle.driver_core.specs.Answer.{AnswerDecision, AnswerRefused, Give, answering_since, back_from, before_rows, below_one_since, put_rows, rows_since, state_since, walk_next}
use Rattle.session.specs.declared.Input.{Input}
use Rattle.session.specs.declared.Input.TheVariants.{Open, Ended, QuitFound}
use Rattle.session.specs.declared.Session.{Session}
use Rattle.session.specs.Calls as Calls
use Rattle.session.specs.Calls.{answered, answered_table, answering, answer_answer, answer_result, answer_rows, answer_session, answer_table, below_one, fresh, input_told, offered, offered_window, offering, offer_answer, offer_result, offer_window, opened, places_next, replaced_in, stored, telling, tell_given, tell_result, tell_told, told, told_session, waiting, Idle, OfferDecision, OfferRefused, Take}
use Rattle.session.specs.Held.{shown, since_lines, unanswered, waits}
use Rattle.promises.specs.Promises.{kept_before}
use Rattle.promises.specs.Run.{At, Run, Steps, here, offer, answer, ask, refused, tell, at_start}
use Rattle.session.specs.Sound.{sound}
use Rattle.session.proofs.Agree.{agrees_of}
use Rattle.promises.proofs.Giving.{inv_given, text_none}
use Rattle.promises.proofs.Invariant.{Inv, InputNow, sound_now}
use Rattle.session.proofs.Refusals.{opening_served, waiting_cases}
use Rattle.session.proofs.Keeps.{TakenIf, offer_taken, agree_fresh, agree_told_session, served_fresh}
use Rattle.promises.proofs.Taking.{inv_taken}

-- a refused answer changes nothing
pub answer_unchanged : (o : AnswerDecision) (s : Session) (w table : List ℕ) (hit : Bool) → ((answer_answer o s w hit).refusal ≡ 0 → ⊥)
    → ((answer_answer o s w hit).session ≡ s) × ((answer_answer o s w hit).rows ≡ 0) × (answer_table o s w table hit ≡ table)
answer_unchanged (AnswerRefused k) s w table hit h = (refl, refl, refl)
answer_unchanged Give s w table hit h = absurd (h refl)

-- # Opening

begun_counted : (c : Settings) → length (begun c).since ≤ (begun c).lines
unfolding begun
begun_counted c = omega arith

replaced_none : (k : Binary) (t : ℕ) → replaced_in k t 0 [] ≡ None
unfolding first_place up_to
replaced_none Ignore t = refl
replaced_none (Quit b) t = refl
replaced_none (Convert b) t = rw (and-false (not (eqb b t)))

fitted_none : (P : List (List ℕ) → List ℕ → Type 0) (b : List (List ℕ)) (l : List ℕ) (m : List (List ℕ)) → [] ≡ b ++ (l ∷ m) → P b l
fitted_none P [] l m e = absurd (cons≢nil (sym e))
fitted_none P (x ∷ b) l m e = absurd (cons≢nil (sym e))

inv_fresh : (input : List ℕ) (answers : ℕ → Bool) (c : Settings) (w : List ℕ) → (opened c (length w)).refusal ≡ 0
    → Inv input answers (fresh c (length w)) w input 0 []
unfolding unanswered shown state_since since_lines back_from trim begun state rows lines flatten
inv_fresh input answers c w e =
    record {
      past = [];
      gone = [];
      agree = agree_fresh c (length w) (opening_served c (length w) e);
      window_is = refl;
      input_is = refl;
      uncut = ap length (text_none c);
      text_is = text_none c;
      bytes_is = refl;
      lines_is = refl;
      count_is = refl;
      state_is = refl;
      rows_are = refl;
      lines_are = refl;
      whole = λ h. whole_none c.terminator;
      fitted = fitted_none (λ b l. kept_before c answers b + length l ≤ length w);
      replaced_is = sym (replaced_none c.binary c.terminator);
      input_now = tt;
    }

pub answer_rows_most : (s : Session) (w : List ℕ) (hit : Bool) → length (answer_rows s w hit) ≤ s.walk.settings.before + 2
unfolding answer_rows rows_since shown
answer_rows_most s w hit = step_rows_most On s.walk.settings (shown s w) _ hit

rows_in_table : (rs : List Row) (table : List ℕ) → rows_in (length rs) (put_rows rs table) ≡ map flat rs
unfolding put_rows
rows_in_table rs table = rows_in_put rs (drop (row_size * length rs) table)

-- a line is told to wait only where it does, to a sound session
pub waiting_line : (s : Session) (w : List ℕ) → waiting s w ≡ Ok true → (sound s (length w) ≡ true) × (waits s w ≡ true)
waiting_line s w e = go (sound s (length w)) (waits s w) (sym (waiting_cases s w) ∙ e)
  where
    go : (b v : Bool) → ◌≡◌ {A = Result Bool Refusal} (cond b (cond v (Ok true) (Ok false)) (Err Unsound)) (Ok true) → (b ≡ true) × (v ≡ true)
    go true true e = (refl, refl)
    go true false e = let z : ◌≡◌ {A = ℕ} 0 1 = cc in absurd (omega arith)
    go false v e = let z : ◌≡◌ {A = ℕ} 0 1 = cc in absurd (omega arith)

module _ (input : List ℕ) (answers : ℕ → Bool) (s : Session) (w rest : List ℕ) (count : ℕ) (given : List (List ℕ))
    (i : Inv input answers s w rest count given) where
  -- # OfferDecision

  inv_offer_of : (k : ℕ) (o : OfferDecision) → TakenIf s w (take k rest) o
      → Inv input answers (offer_answer o s w (take k rest)).session (offer_window o s w (take k rest))
      (drop (offer_answer o s w (take k rest)).taken rest) count given
  inv_offer_of k (OfferRefused m) t = i
  inv_offer_of k Idle t = i
  inv_offer_of k (Take n quit) t = inv_taken input answers s w rest count given k n quit i t.room t.flag

  pub inv_offer : (k : ℕ)
      → Inv input answers (offered s w (take k rest)).session (offered_window s w (take k rest)) (drop (offered s w (take k rest)).taken rest) count given
  unfolding offer_result offered offered_window
  inv_offer k = inv_offer_of k (offering s w (take k rest)) (offer_taken s w (take k rest))

  -- # AnswerDecision

  -- no before row's number falls below 1
  since_le : length (last_of s.walk.settings.before (shown s w).since) ≤ s.walk.lines
  unfolding trim shown state_since since_lines
  since_le =
      let c = s.walk.settings in
      let b = state c answers (begun c) i.gone in
      let kept : length (last_of (kept_lines c) (shown s w).since) ≡ length (last_of (kept_lines c) b.since) = ap (λ (t : State). length t.since) i.state_is in
      let lines : s.walk.lines ≡ b.lines = ap (λ (t : State). t.lines) i.state_is in
      let counted = since_counted c answers (begun c) i.gone (begun_counted c) in
      omega (arith, kept, lines, counted, before≤kept c, length_last_of c.before (shown s w).since, length_last_of (kept_lines c) (shown s w).since, length_last_of (kept_lines c) b.since)

  before_le : (f : Fate) → before_rows f s.walk.settings (shown s w) ≤ s.walk.lines
  before_le Match = since_le
  before_le After = omega arith
  before_le Other = omega arith
  before_le NoRow = omega arith

  pub not_below : (hit : Bool) → below_one s w hit ≡ false
  unfolding below_one below_one_since shown
  not_below hit = le-ltb s.walk.lines (before_rows (fate_of s.walk.settings (shown s w) hit) s.walk.settings (shown s w)) (before_le (fate_of s.walk.settings (shown s w) hit))

  -- with room for B + 2 rows the answer to a waiting line is served
  pub answer_gives : (table : ℕ) (hit : Bool) → waits s w ≡ true → row_size * (s.walk.settings.before + 2) ≤ table → answering s w table hit ≡ Give
  unfolding answering answering_since below_one answer_rows
  answer_gives table hit v r =
      let few = le-ltb table (row_size * length (answer_rows s w hit)) (omega (arith, r, answer_rows_most s w hit)) in
      rw (sound_now input answers s w rest count given i, v, not_below hit, few)

  pub inv_answer : (table : List ℕ) → waiting s w ≡ Ok true → row_size * (s.walk.settings.before + 2) ≤ length table
      → Inv input answers (answered s w table (answers (count + 1))).session w rest (count + 1)
      (given ++ rows_in (answered s w table (answers (count + 1))).rows (answered_table s w table (answers (count + 1))))
  unfolding answer_result answered answered_table
  inv_answer table e r =
      let hit = answers (count + 1) in
      let v = (waiting_line s w e).1 in
      rw (answer_gives (length table) hit v r, rows_in_table (answer_rows s w hit) table) (inv_given input answers s w rest count given i v)

  pub inv_refused : (table : List ℕ) (hit : Bool) → ((answered s w table hit).refusal ≡ 0 → ⊥)
      → Inv input answers (answered s w table hit).session w rest count given
  unfolding answer_result answered
  inv_refused table hit n =
      subst (λ x. Inv input answers x w rest count given) (sym (answer_unchanged (answering s w (length table) hit) s w table hit n).0) i

  -- # Telling the end

  told_now : (g : Going) (n : Input) → (g ≡ On → n ≡ Open → rest ≡ []) → InputNow s.walk.settings n rest → InputNow s.walk.settings (input_told g n) rest
  told_now On Open e h = e refl refl
  told_now On Ended e h = h
  told_now On QuitFound e h = h
  told_now LimitMet n e h = h
  told_now NonmatchMet n e h = h

  inv_told_session : (s.walk.going ≡ On → s.places.input ≡ Open → rest ≡ []) → Inv input answers (told_session s) w rest count given
  unfolding told_session unanswered shown state_since since_lines
  inv_told_session e =
      record {
        past = i.past;
        gone = i.gone;
        agree = agree_told_session s i.agree;
        window_is = i.window_is;
        input_is = i.input_is;
        uncut = i.uncut;
        text_is = i.text_is;
        bytes_is = i.bytes_is;
        lines_is = i.lines_is;
        count_is = i.count_is;
        state_is = i.state_is;
        rows_are = i.rows_are;
        lines_are = i.lines_are;
        whole = i.whole;
        fitted = i.fitted;
        replaced_is = i.replaced_is;
        input_now = told_now s.walk.going s.places.input e i.input_now;
      }

  pub inv_told : (s.walk.going ≡ On → s.places.input ≡ Open → rest ≡ []) → Inv input answers (told s).session w rest count given
  unfolding tell_result telling told
  inv_told e = rw (agrees_of s i.agree) (inv_told_session e)

-- # A run

abbrev pub InvAt : List ℕ → (ℕ → Bool) → At → Type 0
InvAt input answers a = Inv input answers a.session a.window a.rest a.count a.rows

pub inv_steps : (input : List ℕ) (answers : ℕ → Bool) (from a : At) → InvAt input answers from → Steps answers from a → InvAt input answers a
inv_steps input answers from _ i here = i
inv_steps input answers from _ i (offer {a = b} k t) =
    inv_offer input answers b.session b.window b.rest b.count b.rows (inv_steps input answers from b i t) k
inv_steps input answers from _ i (answer {a = b} table e r t) =
    inv_answer input answers b.session b.window b.rest b.count b.rows (inv_steps input answers from b i t) table e r
inv_steps input answers from _ i (ask {a = b} t) = inv_steps input answers from b i t
inv_steps input answers from _ i (refused {a = b} table hit n t) =
    inv_refused input answers b.session b.window b.rest b.count b.rows (inv_steps input answers from b i t) table hit n
inv_steps input answers from _ i (tell {a = b} e t) =
    inv_told input answers b.session b.window b.rest b.count b.rows (inv_steps input answers from b i t) e

pub inv_run : (c : Settings) (input : List ℕ) (answers : ℕ → Bool) (a : At) → Run c input answers a → InvAt input answers a
unfolding Calls.opened
inv_run c input answers a r =
    inv_steps input answers (at_start c r.window input) a
    (subst (λ s. Inv input answers s r.window input 0 []) (sym (served_fresh c (length r.window) r.served)) (inv_fresh input answers c r.window r.served))
    r.steps

pub join : (answers : ℕ → Bool) (from a b : At) → Steps answers from a → Steps answers a b → Steps answers from b
join answers from a _ t here = t
join answers from a _ t (offer {a = b} k u) = offer k (join answers from a b t u)
join answers from a _ t (answer {a = b} table e r u) = answer table e r (join answers from a b t u)
join answers from a _ t (ask {a = b} u) = ask (join answers from a b t u)
join answers from a _ t (refused {a = b} table hit n u) = refused table hit n (join answers from a b t u)
join answers from a _ t (tell {a = b} e u) = tell e (join answers from a b t u)

-- # Settings and window length stay

offer_settings : (o : OfferDecision) (s : Session) (w piece : List ℕ)
    → ((offer_answer o s w piece).session.walk.settings ≡ s.walk.settings) × ((offer_answer o s w piece).session.places.window ≡ s.places.window)
unfolding stored
offer_settings (OfferRefused k) s w piece = (refl, refl)
offer_settings Idle s w piece = (refl, refl)
offer_settings (Take n q) s w piece = (refl, refl)

answer_settings : (o : AnswerDecision) (s : Session) (w : List ℕ) (hit : Bool)
    → ((answer_answer o s w hit).session.walk.settings ≡ s.walk.settings) × ((answer_answer o s w hit).session.places.window ≡ s.places.window)
unfolding answer_session places_next walk_next
answer_settings (AnswerRefused k) s w hit = (refl, refl)
answer_settings Give s w hit = (refl, refl)

told_settings : (o : Option Refusal) (s : Session)
    → ((tell_told (tell_given o s)).session.walk.settings ≡ s.walk.settings)
    × ((tell_told (tell_given o s)).session.places.window ≡ s.places.window)
unfolding told_session
told_settings None s = (refl, refl)
told_settings (Some k) s = (refl, refl)

pub steps_stay : (answers : ℕ → Bool) (from a : At) → Steps answers from a
    → (a.session.walk.settings ≡ from.session.walk.settings) × (a.session.places.window ≡ from.session.places.window)
unfolding offer_result offered answer_result answered tell_result told
steps_stay answers from _ here = (refl, refl)
steps_stay answers from _ (offer {a = b} k t) =
    let h = steps_stay answers from b t in
    let o = offer_settings (offering b.session b.window (take k b.rest)) b.session b.window (take k b.rest) in
    (o.0 ∙ h.0, o.1 ∙ h.1)
steps_stay answers from _ (answer {a = b} table e r t) =
    let h = steps_stay answers from b t in
    let o = answer_settings (answering b.session b.window (length table) (answers (b.count + 1))) b.session b.window (answers (b.count + 1)) in
    (o.0 ∙ h.0, o.1 ∙ h.1)
steps_stay answers from _ (ask {a = b} t) = steps_stay answers from b t
steps_stay answers from _ (refused {a = b} table hit n t) =
    let h = steps_stay answers from b t in
    let o = answer_settings (answering b.session b.window (length table) hit) b.session b.window hit in
    (o.0 ∙ h.0, o.1 ∙ h.1)
steps_stay answers from _ (tell {a = b} e t) =
    let h = steps_stay answers from b t in
    let o = told_settings (telling b.session) b.session in
    (o.0 ∙ h.0, o.1 ∙ h.1)

pub run_settings : (c : Settings) (input : List ℕ) (answers : ℕ → Bool) (a : At) → Run c input answers a → a.session.walk.settings ≡ c
run_settings c input answers a r =
    (steps_stay answers (at_start c r.window input) a r.steps).0 ∙ ap (λ (s : Session). s.walk.settings) (served_fresh c (length r.window) r.served)

-- a run carried on is a run
pub run_on : (c : Settings) (input : List ℕ) (answers : ℕ → Bool) (a b : At) → Run c input answers a → Steps answers a b → Run c input answers b
run_on c input answers a b r t = record { window = r.window; served = r.served; steps = join answers (at_start c r.window input) a b r.steps t }
