-- What the invariant of a run says of the lines gone through, which are the first so many of the text's.
use Rattle.std.proofs.Common.{◌≡◌, ℕ, ◌+◌, ◌≤◌, Bool, ◌⊎◌, List, [], ◌∷◌, ◌++◌, length, take, drop, sym, refl, ap, ◌∙◌, subst, inl, inr, ⊎_elim, arith, length-append, take-append-drop, take_at, drop_at}
use mathlib.Core.List.{flatten}
use Rattle.definition.specs.declared.Going.{Going}
use Rattle.definition.specs.declared.Going.TheVariants.{On, LimitMet, NonmatchMet}
use Rattle.definition.specs.declared.Settings.{Settings}
use Rattle.definition.specs.Bounds.{max_input}
use Rattle.definition.specs.Definition.{gone_lines}
use Rattle.definition.specs.State.{State, begun, state, state_next, step_state}
use Rattle.definition.specs.Text.{lines, text}
use Rattle.definition.proofs.Kept.{state_append, state_stopped}
use Rattle.definition.proofs.Same.{same_lines}
use Rattle.definition.proofs.Uncut.{Uncut}
use Rattle.session.specs.declared.Session.{Session}
use Rattle.session.specs.Held.{kept_bytes, unanswered}
use Rattle.promises.specs.Promises.{Fitted, kept_before}
use Rattle.promises.proofs.Giving.{going_is, kept_before_lem, lines_is}
use Rattle.promises.proofs.Invariant.{Inv}
use Rattle.machine.specs.Promises.{Gone}

-- the lines of a text, and the first so many of them
abbrev pub all : Settings → List ℕ → List (List ℕ)
all c input = lines c.terminator (text c input)

abbrev pub upto : Settings → List ℕ → ℕ → List (List ℕ)
upto c input count = take count (all c input)

abbrev pub past : Settings → List ℕ → ℕ → List (List ℕ)
past c input count = drop count (all c input)

-- # Each was reached

on_or_not : (g : Going) → (g ≡ On) ⊎ (g ≡ On → ⊥)
on_or_not On = inl refl
on_or_not LimitMet = inr (λ e. let z : ◌≡◌ {A = ℕ} 0 1 = cc in omega arith)
on_or_not NonmatchMet = inr (λ e. let z : ◌≡◌ {A = ℕ} 0 1 = cc in omega arith)

step_lines : (g : Going) (c : Settings) (s : State) (len : ℕ) (answer : Bool) → (step_state g c s len answer).lines ≤ s.lines + 1
unfolding state_next
step_lines On c s len answer = omega arith
step_lines LimitMet c s len answer = omega arith
step_lines NonmatchMet c s len answer = omega arith

lines_most : (c : Settings) (answers : ℕ → Bool) (s : State) (ls : List (List ℕ)) → (state c answers s ls).lines ≤ s.lines + length ls
unfolding state
lines_most c answers s [] = omega arith
lines_most c answers s (l ∷ ls) =
    let a = answers (s.lines + 1) in
    omega (
      arith,
      step_lines s.going c s (length l) a,
      lines_most c answers (step_state s.going c s (length l) a) ls,
    )

-- where each of some lines was counted, none came after a stop
all_reached : (c : Settings) (answers : ℕ → Bool) (ls : List (List ℕ)) → (state c answers (begun c) ls).lines ≡ length ls
    → (xs : List (List ℕ)) (l : List ℕ) (ys : List (List ℕ)) → ls ≡ xs ++ (l ∷ ys) → (gone_lines c answers xs).going ≡ On
unfolding begun
all_reached c answers ls e xs l ys k =
    let b = state c answers (begun c) xs in
    ⊎_elim (λ h. (same_lines c answers xs).1 ∙ h)
    (λ h.
    let stays : state c answers (begun c) ls ≡ b =
    ap (state c answers (begun c)) k ∙ state_append c answers (begun c) xs (l ∷ ys) ∙ state_stopped c answers b (l ∷ ys) h
    in
    absurd
    (omega (arith, e, ap (λ (t : State). t.lines) stays, lines_most c answers (begun c) xs, ap length k, length-append xs (l ∷ ys))))
    (on_or_not b.going)

-- # What the invariant says, in the words of the definition

pub record Facts (c : Settings) (input : List ℕ) (answers : ℕ → Bool) (s : Session) (w rest : List ℕ) (count : ℕ) : Type 0 where
  pub taken : List ℕ
  pub later_is : past c input count ≡ lines c.terminator (unanswered s w ++ text c rest)
  pub text_is : text c taken ≡ flatten (upto c input count) ++ unanswered s w
  pub input_is : input ≡ taken ++ rest
  pub uncut : Uncut c taken
  pub bytes_are : s.walk.bytes ≡ length (flatten (upto c input count))
  pub going_now : (gone_lines c answers (upto c input count)).going ≡ s.walk.going
  pub kept_is : kept_before c answers (upto c input count) ≡ kept_bytes s w
  pub gone : Gone c input answers s.places.window (upto c input count) (past c input count)

module _ (input : List ℕ) (answers : ℕ → Bool) (s : Session) (w rest : List ℕ) (count : ℕ) (given : List (List ℕ))
    (i : Inv input answers s w rest count given) where
  -- the lines gone through are the first so many
  pub gone_is : upto s.walk.settings input count ≡ i.gone
  gone_is =
      let later = lines s.walk.settings.terminator (unanswered s w ++ text s.walk.settings rest) in
      ap (take count) i.lines_are ∙ take_at i.gone later count (sym i.count_is)

  pub facts : Facts s.walk.settings input answers s w rest count
  facts =
      let c = s.walk.settings in
      let later = lines c.terminator (unanswered s w ++ text c rest) in
      let at : i.gone ≡ upto c input count = sym gone_is in
      record {
        taken = i.past;
        later_is = ap (drop count) i.lines_are ∙ drop_at i.gone later count (sym i.count_is);
        text_is = subst (λ g. text c i.past ≡ flatten g ++ unanswered s w) at i.text_is;
        input_is = i.input_is;
        uncut = i.uncut;
        bytes_are = subst (λ g. s.walk.bytes ≡ length (flatten g)) at i.bytes_is;
        going_now = subst (λ g. (gone_lines c answers g).going ≡ s.walk.going) at ((same_lines c answers i.gone).1 ∙ sym (going_is input answers s w rest count given i));
        kept_is = subst (λ g. kept_before c answers g ≡ kept_bytes s w) at (kept_before_lem input answers s w rest count given i);
        gone =
            record {
              lines_are = sym (take-append-drop count (all c input));
              reached =
                  subst (λ g. (xs : List (List ℕ)) (l : List ℕ) (ys : List (List ℕ)) → g ≡ xs ++ (l ∷ ys) → (gone_lines c answers xs).going ≡ On) at
                  (all_reached c answers i.gone (sym (lines_is input answers s w rest count given i) ∙ i.lines_is));
              fitted = subst (λ g. Fitted c answers s.places.window g) at i.fitted;
              within = subst (λ g. length (flatten g) ≤ max_input) at (omega (arith, i.bytes_is, i.agree));
            };
      }
