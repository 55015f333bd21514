-- The room rule: where a run is refused by 3 its next line does not fit, and no run gets past such a line.
use Rattle.std.proofs.Common.{◌≡◌, ℕ, ◌+◌, ◌-◌, ◌<◌, ◌≤◌, Bool, false, not, ◌&&◌, ◌||◌, ltb, List, [], ◌∷◌, ◌++◌, length, take, drop, sym, refl, ap, ◌∙◌, subst, ap₂, append-nil, arith, length-append, length-take, ltb-false}
use mathlib.Core.List.{head-eq_of_cons-eq, map, tail-eq_of_cons-eq}
use native.Mathlib.Decide.{dec_lt}
use Rattle.definition.specs.declared.Going.TheVariants.{On}
use Rattle.definition.specs.declared.Settings.{Settings}
use Rattle.definition.specs.Definition.{gone_lines}
use Rattle.definition.specs.Rows.{flat}
use Rattle.definition.specs.State.{State, begun, state}
use Rattle.definition.specs.Text.{first_length, first_place, lines, text}
use Rattle.definition.proofs.Kept.{state_append, state_stopped}
use Rattle.definition.proofs.Same.{same_lines}
use Rattle.definition.proofs.Terminator.{first_append_none, lines_head}
use Rattle.driver_core.specs.Walk.{is_on, waits_ahead}
use Rattle.session.specs.declared.Session.{Session}
use Rattle.session.specs.Calls.{offered, offer_result}
use Rattle.session.specs.Held.{held_bytes, is_open, kept_bytes, unanswered, waits}
use Rattle.promises.specs.Promises.{Fitted, TooLong, kept_before}
use Rattle.promises.proofs.Carry.{more_text, not_idle, or_false}
use Rattle.session.proofs.Cases.{offer_case}
use Rattle.promises.proofs.Only.{offer_only}
use Rattle.promises.proofs.Finish.{Done, stopped, ended, nothing_left}
use Rattle.promises.proofs.Giving.{going_is, kept_before_lem}
use Rattle.promises.proofs.Invariant.{Inv, unanswered_length}

-- # Beginnings of a list

module _ {A : Type 0} where
  -- of two ways to cut a list the longer beginning holds the shorter and what follows it ..
  pub cut_longer : (xs ys zs : List A) (l : A) (ws : List A) → xs ++ ys ≡ zs ++ (l ∷ ws) → length zs < length xs → (m : List A) × (xs ≡ zs ++ (l ∷ m))
  cut_longer [] ys zs l ws e h = absurd (omega arith)
  cut_longer (x ∷ xs) ys [] l ws e h = (xs, ap (λ v. v ∷ xs) (head-eq_of_cons-eq e))
  cut_longer (x ∷ xs) ys (z ∷ zs) l ws e h =
      let r = cut_longer xs ys zs l ws (tail-eq_of_cons-eq e) (omega arith) in
      (r.0, ap₂ {C = List A} (λ v vs. v ∷ vs) (head-eq_of_cons-eq e) r.1)

  -- .. and the other way round
  pub cut_shorter : (xs ys zs ws : List A) → xs ++ ys ≡ zs ++ ws → length xs ≤ length zs → (m : List A) × (zs ≡ xs ++ m)
  cut_shorter [] ys zs ws e h = (zs, refl)
  cut_shorter (x ∷ xs) ys [] ws e h = absurd (omega arith)
  cut_shorter (x ∷ xs) ys (z ∷ zs) ws e h =
      let r = cut_shorter xs ys zs ws (tail-eq_of_cons-eq e) (omega arith) in
      (r.0, ap₂ {C = List A} (λ v vs. v ∷ vs) (sym (head-eq_of_cons-eq e)) r.1)

-- # The first line that does not fit is one

pub same_count : (c : Settings) (input : List ℕ) (answers : ℕ → Bool) (n p q : ℕ) → TooLong c input answers n p → TooLong c input answers n q → q ≤ p
same_count c input answers n p q t u = elim (dec_lt p q) [
  | yes k ↦
      let m =
      cut_longer u.before (u.line ∷ u.later) t.before t.line t.later (sym u.lines_are ∙ t.lines_are)
      (omega (arith, t.count_is, u.count_is))
      in
      absurd (omega (arith, u.fitted t.before t.line m.0 m.1, t.exceeds))
  | no k ↦ omega arith
]

-- # Refused for room

-- the next line is longer than what is held of it, where more of the text comes
pub longer_line : (t : ℕ) (u v : List ℕ) → length u ≤ first_place t u → 0 < length v → length u < length (take (first_length t (u ++ v)) (u ++ v))
longer_line t u v h some =
    omega (arith, first_append_none t u v h, length-take (first_length t (u ++ v)) (u ++ v), length-append u v)

-- a line longer than what is held, after what is kept, exceeds the window
over : (s : Session) (w : List ℕ) → s.places.window ≤ held_bytes s w → (n kept len : ℕ) → n ≡ s.places.window → kept ≡ kept_bytes s w → s.places.end - s.places.next < len
    → n < kept + len
unfolding held_bytes
over s w h n kept len e k l = omega arith

module _ (input : List ℕ) (answers : ℕ → Bool) (s : Session) (w rest : List ℕ) (count : ℕ) (given : List (List ℕ))
    (i : Inv input answers s w rest count given) where
  -- while no line waits and the input is open the bytes held hold no terminator
  pub no_terminator : waits s w ≡ false → s.walk.going ≡ On → length (unanswered s w) ≤ first_place s.walk.settings.terminator (unanswered s w)
  unfolding waits waits_ahead
  no_terminator v g =
      let u = unanswered s w in
      let p = first_place s.walk.settings.terminator u in
      let e : (ltb p (length u) || (not (is_open s.places.input) && ltb 0 (length u))) ≡ false = rw (ap is_on g) at v in
      ltb-false p (length u) (or_false (ltb p (length u)) (not (is_open s.places.input) && ltb 0 (length u)) e).0

  pub too_long : (k : ℕ) → (offered s w (take k rest)).refusal ≡ 3
      → (t : TooLong s.walk.settings input answers (length w) count) × (given ≡ map flat (gone_lines s.walk.settings answers t.before).rows)
  unfolding offer_result offered
  too_long k e =
      let c = s.walk.settings in
      let t = c.terminator in
      let u = unanswered s w in
      let v = text c rest in
      let f = (offer_only s w (take k rest) _ (offer_case s w (take k rest))).2 e in
      let idle = not_idle s (take k rest) f.0.1 in
      let some = (more_text input answers s w rest count given i k idle.0 f.0.2).1 in
      let joined = length-append u v in
      let longer = longer_line t u v (no_terminator f.2 idle.2) some in
      let n = first_length t (u ++ v) in
      let size = unanswered_length s w i.agree i.window_is in
      let kept = kept_before_lem input answers s w rest count given i in (
        record {
          before = i.gone;
          line = take n (u ++ v);
          later = lines t (drop n (u ++ v));
          lines_are = i.lines_are ∙ ap (λ xs. i.gone ++ xs) (lines_head t (u ++ v) (omega arith));
          count_is = sym i.count_is;
          reached = (same_lines c answers i.gone).1 ∙ sym (going_is input answers s w rest count given i) ∙ idle.2;
          fitted = subst (λ m. Fitted c answers m i.gone) (sym i.window_is) i.fitted;
          exceeds = over s w f.3 (length w) (kept_before c answers i.gone) (length (take n (u ++ v))) i.window_is kept (omega (arith, longer, size));
        },
        i.rows_are ∙ ap (map flat) (sym (same_lines c answers i.gone).0),
      )

  -- # No run gets past

  pub not_past : (n c : ℕ) → s.places.window ≤ n → TooLong s.walk.settings input answers n c → count ≤ c
  not_past n c h t = elim (dec_lt c count) [
    | yes k ↦
        let m =
        cut_longer i.gone (lines s.walk.settings.terminator (unanswered s w ++ text s.walk.settings rest)) t.before t.line t.later
        (sym i.lines_are ∙ t.lines_are) (omega (arith, t.count_is, i.count_is))
        in
        absurd (omega (arith, i.fitted t.before t.line m.0 m.1, t.exceeds))
    | no k ↦ omega arith
  ]

  -- and no run ends before it
  pub not_ended : (n c : ℕ) → s.places.window ≤ n → TooLong s.walk.settings input answers n c → Done s → ⊥
  not_ended n c h t (ended g o l) =
      let none = nothing_left input answers s w rest count given i o l in
      let all : lines s.walk.settings.terminator (text s.walk.settings input) ≡ i.gone = i.lines_are ∙ ap (λ xs. i.gone ++ xs) none ∙ append-nil i.gone in
      omega (arith, not_past n c h t, i.count_is, t.count_is, ap length (sym all ∙ t.lines_are), length-append t.before (t.line ∷ t.later))
  not_ended n c h t (stopped g) =
      let m =
      cut_shorter i.gone (lines s.walk.settings.terminator (unanswered s w ++ text s.walk.settings rest)) t.before (t.line ∷ t.later)
      (sym i.lines_are ∙ t.lines_are) (omega (arith, not_past n c h t, i.count_is, t.count_is))
      in
      let k = s.walk.settings in
      let b = state k answers (begun k) i.gone in
      let off : b.going ≡ On → ⊥ = λ e. g (going_is input answers s w rest count given i ∙ e) in
      let same : state k answers (begun k) t.before ≡ b =
      ap (state k answers (begun k)) m.1 ∙ state_append k answers (begun k) i.gone m.0 ∙ state_stopped k answers b m.0 off
      in
      off (ap (λ (x : State). x.going) (sym same) ∙ sym (same_lines k answers t.before).1 ∙ t.reached)
