-- The cases of `Prints` exclude each other, so that what must be printed is one text.
use Rattle.std.proofs.Common.{◌≡◌, ℕ, ◌+◌, ◌<◌, ◌≤◌, Bool, ◌⊎◌, List, [], ◌∷◌, ◌++◌, length, take, drop, sym, refl, ap, ◌∙◌, subst, inl, inr, ⊎_elim, append_assoc, arith, length-append, take_at, drop_at}
use mathlib.Core.List.{flatten, tail-eq_of_cons-eq, head-eq_of_cons-eq}
use native.Mathlib.Decide.{dec_lt}
use Rattle.definition.specs.declared.Going.TheVariants.{On}
use Rattle.definition.specs.declared.Settings.{Settings}
use Rattle.definition.specs.Bounds.{max_input}
use Rattle.definition.specs.Definition.{end_of, gone_lines}
use Rattle.definition.specs.Text.{first_place, lines, text}
use Rattle.definition.proofs.Lists.{flatten_append}
use Rattle.definition.proofs.Terminator.{lines_only}
use Rattle.promises.specs.Promises.{kept_before}
use Rattle.promises.proofs.Room.{cut_longer}
use Rattle.machine.specs.Program.{Program}
use Rattle.machine.specs.Promises.{Ending, Gone, HasEnded, Prints, Whole, asked, breaks_off, cut_off, finished, no_room, said, too_large}

-- # Lines without terminator

-- a line of whole lines has its terminator
whole_at : (t : ℕ) (xs : List (List ℕ)) (l : List ℕ) (ys : List (List ℕ)) → Whole t (xs ++ (l ∷ ys)) → first_place t l < length l
whole_at t [] l ys h = h.0
whole_at t (x ∷ xs) l ys h = whole_at t xs l ys h.1

-- bytes without terminator are at most one line
rest_lines : (t : ℕ) (rest : List ℕ) → length rest ≤ first_place t rest → (l : List ℕ) (ys : List (List ℕ)) → lines t rest ≡ l ∷ ys → (l ≡ rest) × (ys ≡ [])
unfolding lines
rest_lines t [] h l ys e = absurd (let z = ap length e in omega (arith, z))
rest_lines t (x ∷ xs) h l ys e =
    let one = sym e ∙ lines_only t (x ∷ xs) (omega arith) (omega arith) in
    (head-eq_of_cons-eq one, tail-eq_of_cons-eq one)

flatten_one : (xs : List (List ℕ)) (l : List ℕ) (ys : List (List ℕ)) → length (flatten xs) + length l ≤ length (flatten (xs ++ (l ∷ ys)))
unfolding flatten
flatten_one xs l ys =
    omega (arith, ap length (flatten_append xs (l ∷ ys)), length-append (flatten xs) (l ++ flatten ys), length-append l (flatten ys))

module _ (p : Program) (c : Settings) (window : ℕ) (input : List ℕ) (how : Ending) where
  abbrev t : ℕ
  t = c.terminator

  abbrev answers : ℕ → Bool
  answers = asked p c window input how

  abbrev Halted : List (List ℕ) → Type 0
  Halted before = (gone_lines c answers before).going ≡ On → ⊥

  -- # What follows the lines gone through

  -- two ways to say what follows say the same
  follows : (before xs ys : List (List ℕ)) → lines t (text c input) ≡ before ++ xs → lines t (text c input) ≡ before ++ ys → xs ≡ ys
  follows before xs ys e k =
      sym (drop_at before xs (length before) refl) ∙ ap (drop (length before)) (sym e ∙ k) ∙ drop_at before ys (length before) refl

  -- the closing text, by what follows
  data Closing (before later : List (List ℕ)) : List ℕ → Type 0 where
    closed : Halted before ⊎ (later ≡ []) → HasEnded c input how ⊎ Halted before → Closing before later (p.closes (end_of c input answers))
    full : (line : List ℕ) (more : List (List ℕ)) → later ≡ line ∷ more → (gone_lines c answers before).going ≡ On
        → window < kept_before c answers before + length line
        → length (flatten before) + window < max_input + kept_before c answers before
        → Closing before later (p.refuses 3)
    large : (line : List ℕ) (more : List (List ℕ)) → later ≡ line ∷ more → (gone_lines c answers before).going ≡ On
        → max_input < length (flatten before) + length line
        → max_input + kept_before c answers before ≤ length (flatten before) + window
        → Closing before later (p.refuses 5)
    off : (rest : List ℕ) → later ≡ lines t rest → (HasEnded c input how → ⊥) → (gone_lines c answers before).going ≡ On
        → length rest ≤ first_place t rest
        → kept_before c answers before + length rest ≤ window
        → length (flatten before) + length rest ≤ max_input
        → Closing before later (breaks_off how p)

  -- a line follows where none does
  some_none : (later : List (List ℕ)) (l : List ℕ) (ys : List (List ℕ)) → later ≡ [] → later ≡ l ∷ ys → ⊥
  some_none later l ys e k = let z = ap length (sym e ∙ k) in omega (arith, z)

  -- the next line is the rest
  line_rest : (later : List (List ℕ)) (l : List ℕ) (ys : List (List ℕ)) (rest : List ℕ) → length rest ≤ first_place t rest → later ≡ l ∷ ys
      → later ≡ lines t rest → length l ≡ length rest
  line_rest later l ys rest h e k = ap length (rest_lines t rest h l ys (sym k ∙ e)).0

  same_closing : (before later : List (List ℕ)) (x y : List ℕ) → Closing before later x → Closing before later y → x ≡ y
  same_closing before later _ _ (closed a h) (closed b k) = refl
  same_closing before later _ _ (full l m e g a b) (full l' m' e' g' a' b') = refl
  same_closing before later _ _ (large l m e g a b) (large l' m' e' g' a' b') = refl
  same_closing before later _ _ (off r e n g h a b) (off r' e' n' g' h' a' b') = refl
  same_closing before later _ _ (closed a h) (full l m e g x y) = absurd (⊎_elim (λ z. z g) (λ z. some_none later l m z e) a)
  same_closing before later _ _ (full l m e g x y) (closed a h) = absurd (⊎_elim (λ z. z g) (λ z. some_none later l m z e) a)
  same_closing before later _ _ (closed a h) (large l m e g x y) = absurd (⊎_elim (λ z. z g) (λ z. some_none later l m z e) a)
  same_closing before later _ _ (large l m e g x y) (closed a h) = absurd (⊎_elim (λ z. z g) (λ z. some_none later l m z e) a)
  same_closing before later _ _ (closed a h) (off r e n g k x y) = absurd (⊎_elim n (λ z. z g) h)
  same_closing before later _ _ (off r e n g k x y) (closed a h) = absurd (⊎_elim n (λ z. z g) h)
  same_closing before later _ _ (full l m e g a b) (large l' m' e' g' a' b') = absurd (omega (arith, b, b'))
  same_closing before later _ _ (large l' m' e' g' a' b') (full l m e g a b) = absurd (omega (arith, b, b'))
  same_closing before later _ _ (full l m e g a b) (off r e' n g' h x y) = absurd (omega (arith, a, x, line_rest later l m r h e e'))
  same_closing before later _ _ (off r e' n g' h x y) (full l m e g a b) = absurd (omega (arith, a, x, line_rest later l m r h e e'))
  same_closing before later _ _ (large l m e g a b) (off r e' n g' h x y) = absurd (omega (arith, a, y, line_rest later l m r h e e'))
  same_closing before later _ _ (off r e' n g' h x y) (large l m e g a b) = absurd (omega (arith, a, y, line_rest later l m r h e e'))

  -- # No case has gone further than another

  -- every line gone through could be answered
  abbrev Answered : List (List ℕ) → List (List ℕ) → Type 0
  Answered before later = HasEnded c input how ⊎ (Whole t before ⊎ (0 < length later))

  not_past : (before later : List (List ℕ)) (x : List ℕ) → Gone c input answers window before later → Closing before later x
      → (l : List ℕ) (m more : List (List ℕ)) → Gone c input answers window (before ++ (l ∷ m)) more → Answered (before ++ (l ∷ m)) more → ⊥
  not_past before later _ g (closed (inl h) k) l m more d a = h (d.reached before l m refl)
  not_past before later _ g (closed (inr h) k) l m more d a =
      some_none later l (m ++ more) h (follows before later (l ∷ (m ++ more)) g.lines_are (d.lines_are ∙ append_assoc before (l ∷ m) more))
  not_past before later _ g (full line rest e on h k) l m more d a =
      let same = follows before (line ∷ rest) (l ∷ (m ++ more)) (g.lines_are ∙ ap (λ x. before ++ x) e) (d.lines_are ∙ append_assoc before (l ∷ m) more) in
      omega (arith, h, ap length (head-eq_of_cons-eq same), d.fitted before l m refl)
  not_past before later _ g (large line rest e on h k) l m more d a =
      let same = follows before (line ∷ rest) (l ∷ (m ++ more)) (g.lines_are ∙ ap (λ x. before ++ x) e) (d.lines_are ∙ append_assoc before (l ∷ m) more) in
      omega (arith, h, ap length (head-eq_of_cons-eq same), d.within, flatten_one before l m)
  not_past before later _ g (off rest e n on h x y) l m more d a =
      let same = follows before (lines t rest) (l ∷ (m ++ more)) (g.lines_are ∙ ap (λ z. before ++ z) e) (d.lines_are ∙ append_assoc before (l ∷ m) more) in
      let only = rest_lines t rest h l (m ++ more) same in
      ⊎_elim n
      (λ b. ⊎_elim
      (λ whole. let z = whole_at t before l m whole in omega (arith, z, h, ap length only.0, ap (first_place t) only.0))
      (λ some. omega (arith, some, ap length only.1, length-append m more)) b)
      a

  -- # One text

  record Case (x : List ℕ) : Type 0 where
    before : List (List ℕ)
    later : List (List ℕ)
    closing : List ℕ
    gone : Gone c input answers window before later
    answered : Answered before later
    closes : Closing before later closing
    text_is : x ≡ said p c input before ++ closing

  case_of : (x : List ℕ) → Prints p c window input how x → Case x
  case_of _ (finished before later g h k) =
      record {
        before = before;
        later = later;
        closing = _;
        gone = g;
        answered = ⊎_elim (λ e. inl e) (λ e. inr (inl e.1)) k;
        closes = closed h (⊎_elim (λ e. inl e) (λ e. inr e.0) k);
        text_is = refl;
      }
  case_of _ (no_room before line later g on h k) =
      record {
        before = before;
        later = line ∷ later;
        closing = _;
        gone = g;
        answered = inr (inr (omega arith));
        closes = full line later refl on h k;
        text_is = refl;
      }
  case_of _ (too_large before line later g on h k) =
      record {
        before = before;
        later = line ∷ later;
        closing = _;
        gone = g;
        answered = inr (inr (omega arith));
        closes = large line later refl on h k;
        text_is = refl;
      }
  case_of _ (cut_off before rest g n on w h x y) =
      record {
        before = before;
        later = lines t rest;
        closing = _;
        gone = g;
        answered = inr (inl w);
        closes = off rest refl n on h x y;
        text_is = refl;
      }

  -- of two cases the one has gone through no fewer lines than the other
  no_fewer : (x y : List ℕ) (a : Case x) (b : Case y) → length b.before ≤ length a.before
  no_fewer x y a b = elim (dec_lt (length a.before) (length b.before)) [
    | yes k ↦
        let g = a.gone in
        let e = sym b.gone.lines_are ∙ g.lines_are in
        absurd (further a b e k)
    | no k ↦ omega arith
  ]
    where
      further : (a : Case x) (b : Case y) → b.before ++ b.later ≡ a.before ++ a.later → length a.before < length b.before → ⊥
      further a b e k = go a.later e refl
        where
          go : (later : List (List ℕ)) → b.before ++ b.later ≡ a.before ++ later → a.later ≡ later → ⊥
          go [] e z =
              omega (arith, k, ap length e, length-append b.before b.later, length-append a.before [])
          go (l ∷ more) e z =
              let m = cut_longer b.before b.later a.before l more e k in
              not_past a.before a.later a.closing a.gone a.closes l m.0 b.later
              (subst (λ q. Gone c input answers window q b.later) m.1 b.gone) (subst (λ q. Answered q b.later) m.1 b.answered)

  same_case : (x y : List ℕ) → Case x → Case y → x ≡ y
  same_case x y a b =
      let size : length a.before ≡ length b.before = omega (arith, no_fewer x y a b, no_fewer y x b a) in
      let joined = sym a.gone.lines_are ∙ b.gone.lines_are in
      let same : a.before ≡ b.before =
      sym (take_at a.before a.later (length b.before) size) ∙ ap (take (length b.before)) joined ∙ take_at b.before b.later (length b.before) refl
      in
      let rest : a.later ≡ b.later =
      sym (drop_at a.before a.later (length b.before) size) ∙ ap (drop (length b.before)) joined ∙ drop_at b.before b.later (length b.before) refl
      in
      let moved = subst (λ q. Closing b.before q a.closing) rest (subst (λ q. Closing q a.later a.closing) same a.closes) in
      a.text_is
      ∙ ap (λ q. said p c input q ++ a.closing) same
      ∙ ap (λ q. said p c input b.before ++ q) (same_closing b.before b.later a.closing b.closing moved b.closes)
      ∙ sym b.text_is

  pub one : (x y : List ℕ) → Prints p c window input how x → Prints p c window input how y → x ≡ y
  one x y a b = same_case x y (case_of x a) (case_of y b)
