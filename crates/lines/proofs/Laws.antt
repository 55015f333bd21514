-- Laws of the line rules, for the functions here and the layers above: all hold for any terminator.
use Rattle.std.specs.Prelude.{Some, None}
use Prim.Native.Nat.{ℕ, zero, suc, ◌+◌, ◌-◌, ◌≤◌, ◌<◌}
use mathlib.Core.Path.{◌≡◌, refl, sym, ◌∙◌, ap, ap₂}
use mathlib.Core.Logic.{◌≢◌}
use mathlib.Core.Bool.{Bool, true, false, cond}
use mathlib.Core.List.{List, [], ◌∷◌, ◌++◌, append_assoc, append-nil, flatten}
use native.Mathlib.Decide.{dec_lt}
use native.Mathlib.Numerals.{add-one}
use native.Mathlib.Omega.{arith}
use lib.Dec.{eqb, ltb}
use lib.ListN.{length, take, drop, get_or, length-append, length-drop, length-take, take-append-drop}
use lib.Seq.{drop-cons, drop-drop, drop-length, take_all, take-suc, take-take}
use borrow.Author.Tests.{eq-eqb, ne_eqb}
use Rattle.std.proofs.lemmas.Grind.{common_steps}
use Rattle.std.proofs.lemmas.List.Recursion.{is_position_or_len}
use Rattle.definition.specs.Definition.{last_of}
use Rattle.definition.specs.Text.{first_length, first_place, handed, lines, up_to}
use Rattle.lines.specs.Lines.{found, last_start, without_terminator}
use Rattle.definition.proofs.Lists.{flatten_append, last_of_append}
use Rattle.definition.proofs.Terminator.{first_le, flatten_last, handed_next, lines_head, lines_only, lines_take, Whole, whole_ended, whole_none, whole_take}

-- # The first place of a byte, looked for from a place on

pub first_later : (b i : ℕ) (xs : List ℕ) → i < length xs → get_or xs i 0 ≢ b → first_place b (drop i xs) ≡ first_place b (drop (i + 1) xs) + 1
unfolding first_place up_to
first_later b i xs h e = rw (drop-cons xs i 0 h, ne_eqb _ _ e, add-one, add-one i)

-- what the answer says: the first place that passes the test
pub found_or : (b : ℕ) (xs : List ℕ) → found b xs ≡ cond (ltb (first_place b xs) (length xs)) (Some (first_place b xs)) None
unfolding found first_place up_to
found_or b xs = rw (is_position_or_len (first_place b) (λ x. eqb x b) refl (step b) xs)
  where
    step : (b x : ℕ) (xs : List ℕ) → first_place b (x ∷ xs) ≡ cond (eqb x b) 0 (1 + first_place b xs)
    step b x xs = elim (eqb x b) as (λ k. length (cond k [] (x ∷ up_to b xs)) ≡ cond k 0 (1 + length (up_to b xs))) [ true ↦ refl | false ↦ omega arith ]

pub found_at : (b i : ℕ) (xs : List ℕ) → Some i ≡ found b xs → (i ≡ first_place b xs) × (i < length xs)
found_at b i xs h = grind (arith, common_steps, found_or)

pub found_nothing : (b : ℕ) (xs : List ℕ) → None ≡ found b xs → first_place b xs ≡ length xs
found_nothing b xs h = grind (arith, common_steps, found_or, first_le)

-- # The last lines, read backwards

none_bytes : (ls : List (List ℕ)) → length (flatten (last_of 0 ls)) ≡ 0
unfolding last_of flatten
none_bytes ls =
    let e : length ls - 0 ≡ length ls = omega arith in
    rw (e, drop-length ls)

one_last : (n : ℕ) (l : List ℕ) → last_of (suc n) (l ∷ []) ≡ l ∷ []
unfolding last_of
one_last n l =
    let e : 1 - suc n ≡ 0 = omega arith in
    rw e

-- the last line is the first of the lines read backwards
snoc_bytes : (n : ℕ) (ls : List (List ℕ)) (l : List ℕ)
    → length (flatten (last_of (suc n) (ls ++ (l ∷ [])))) ≡ length (flatten (last_of n ls)) + length l
unfolding flatten
snoc_bytes n ls l =
    let before : suc n - 1 ≡ n = omega arith in
    let joined : last_of (suc n) (ls ++ (l ∷ [])) ≡ last_of n ls ++ (l ∷ []) = last_of_append (suc n) ls (l ∷ []) ∙ rw (before, one_last n l) in
    ap (λ ms. length (flatten ms)) joined
    ∙ ap length (flatten_append (last_of n ls) (l ∷ []) ∙ ap (λ x. flatten (last_of n ls) ++ x) (append-nil l))
    ∙ length-append (flatten (last_of n ls)) l

pub last_le : (n t : ℕ) (xs : List ℕ) → last_start n t xs ≤ length xs
unfolding last_start
last_le n t xs = omega arith

pub last_empty : (n t : ℕ) → last_start n t [] ≡ 0
unfolding last_start
last_empty n t = omega arith

pub last_none : (t : ℕ) (xs : List ℕ) → last_start 0 t xs ≡ length xs
unfolding last_start
last_none t xs = omega (arith, none_bytes (lines t xs))

single : (ls : List (List ℕ)) → length ls ≡ 1 → ls ≡ flatten ls ∷ []
unfolding flatten
single [] h = absurd (omega arith)
single (l ∷ []) h = ap (λ x. x ∷ []) (sym (append-nil l))
single (l ∷ (m ∷ ls)) h = absurd (omega arith)

module _ (t : ℕ) (xs : List ℕ) (some : 0 < length xs) where
  lines_some : 0 < length (lines t xs)
  lines_some = rw (lines_head t xs some) (omega arith)

  -- The last line, and the lines before it.
  pub last_split : lines t xs ≡ lines t (take (last_start 1 t xs) xs) ++ (drop (last_start 1 t xs) xs ∷ [])
  unfolding last_start last_of
  last_split =
      let ls = lines t xs in
      let j = length ls - 1 in
      let last = flatten_last 1 t xs in
      let front : lines t (take (length xs - length (flatten (drop j ls))) xs) ≡ take j ls =
      ap (lines t) last.2 ∙ lines_take j t xs (omega (arith, lines_some))
      in
      let back : drop j ls ≡ drop (length xs - length (flatten (drop j ls))) xs ∷ [] =
      single (drop j ls) (omega (arith, length-drop j ls, lines_some)) ∙ ap (λ x. x ∷ []) (sym last.1)
      in
      sym (take-append-drop j ls) ∙ ap₂ {C = List (List ℕ)} (λ fs bs. fs ++ bs) (sym front) back

  -- The last n + 1 lines read backwards: the last line, then the last n of those before it.
  pub last_step : (n : ℕ) → last_start (suc n) t xs ≡ last_start n t (take (last_start 1 t xs) xs)
  unfolding last_start
  last_step n =
      let p = last_start 1 t xs in
      let bytes = ap (λ ls. length (flatten (last_of (suc n) ls))) last_split ∙ snoc_bytes n (lines t (take p xs)) (drop p xs) in
      omega (arith, bytes, length-take p xs, length-drop p xs)

  -- A text cut anywhere: what follows the last line's start, with what comes after the cut, falls into the other lines.
  pub lines_cut : (ys : List ℕ) → lines t (xs ++ ys) ≡ lines t (take (last_start 1 t xs) xs) ++ lines t (drop (last_start 1 t xs) xs ++ ys)
  unfolding last_start last_of
  lines_cut ys =
      let j = length (lines t xs) - 1 in
      let p = length xs - length (flatten (drop j (lines t xs))) in
      let whole : Whole t (take p xs) = rw (flatten_last 1 t xs).2 (whole_take j t xs (omega (arith, lines_some))) in
      ap (λ zs. lines t (zs ++ ys)) (sym (take-append-drop p xs))
      ∙ ap (lines t) (append_assoc (take p xs) (drop p xs) ys)
      ∙ whole (drop p xs ++ ys)

-- It starts where a terminator stands before it and none in it but at its end.
pub last_here : (t i : ℕ) (xs : List ℕ) → i < length xs → length xs ≤ i + first_place t (drop i xs) + 1 → Whole t (take i xs) → last_start 1 t xs ≡ i
unfolding last_start
last_here t i xs h k whole =
    let front = lines t (take i xs) in
    let l = drop i xs in
    let size = length-drop i xs in
    let parted : lines t xs ≡ front ++ (l ∷ []) =
    ap (lines t) (sym (take-append-drop i xs)) ∙ whole l ∙ ap (λ ls. front ++ ls) (lines_only t l (omega arith) (omega arith))
    in
    let bytes = ap (λ ls. length (flatten (last_of 1 ls))) parted ∙ snoc_bytes 0 front l in
    omega (arith, bytes, none_bytes front, size)

pub last_whole : (t : ℕ) (xs : List ℕ) → length xs ≤ first_place t xs + 1 → last_start 1 t xs ≡ 0
unfolding last_start
last_whole t xs h = elim (dec_lt 0 (length xs)) [ yes k ↦ last_here t 0 xs k (omega (arith, h)) (whole_none t) | no k ↦ omega arith ]

-- a terminator stands before a place
pub ended_before : (t i : ℕ) (xs : List ℕ) → 0 < i → i ≤ length xs → get_or xs (i - 1) 0 ≡ t → Whole t (take i xs)
ended_before t i xs h k e =
    let n : suc (i - 1) ≡ i = omega arith in
    let last : take i xs ≡ take (i - 1) xs ++ (t ∷ []) = rw n at (take-suc xs (i - 1) 0 (omega arith)) ∙ ap (λ x. take (i - 1) xs ++ (x ∷ [])) e in
    rw last (whole_ended t (take (i - 1) xs))

-- one line more, read backwards from a place
pub last_back : (t n i : ℕ) (xs : List ℕ) → 0 < n → 0 < i → i ≤ length xs
    → last_start n t (take i xs) ≡ last_start (n - 1) t (take (last_start 1 t (take i xs)) xs)
last_back t n i xs h k j =
    let size = length-take i xs in
    let p = last_start 1 t (take i xs) in
    let e : suc (n - 1) ≡ n = omega arith in
    let inside : p ≤ i = omega (arith, last_le 1 t (take i xs)) in
    rw e at (last_step t (take i xs) (omega arith) (n - 1)) ∙ ap (last_start (n - 1) t) (take-take p i xs inside)

-- # How many lines

-- the line at a place, as a step from there gives it
pub step_at : (t i r : ℕ) (xs : List ℕ) → i < length xs → r ≡ first_length t (take (length xs - i) (drop i xs))
    → (r ≡ first_length t (drop i xs)) × (0 < r) × (i + r ≤ length xs)
step_at t i r xs h e =
    let size = length-drop i xs in
    let first : r ≡ first_length t (drop i xs) = rw (take_all (length xs - i) (drop i xs) (omega arith)) at e in
    (first, omega (arith, first), omega (arith, first))

pub count_head : (t : ℕ) (xs : List ℕ) → 0 < length xs
    → length (lines t xs) ≡ length (lines t (drop (first_length t xs) xs)) + 1
count_head t xs h = omega (arith, ap length (lines_head t xs h))

pub count_step : (t i : ℕ) (xs : List ℕ) → i < length xs
    → length (lines t (drop i xs)) ≡ length (lines t (drop (i + first_length t (drop i xs)) xs)) + 1
count_step t i xs h =
    let rest = drop i xs in
    rw (drop-drop (first_length t rest) i xs) at (count_head t rest (omega (arith, length-drop i xs)))

-- # A line without its terminator

pub without_empty : (t : ℕ) (xs : List ℕ) → length xs ≡ 0 → without_terminator t xs ≡ xs
unfolding without_terminator
without_empty t [] h = refl
without_empty t (x ∷ xs) h = absurd (omega arith)

pub without_none : (t n : ℕ) (xs : List ℕ) → length xs ≡ suc n → get_or xs n 0 ≢ t → without_terminator t xs ≡ xs
unfolding without_terminator
without_none t n [] h e = absurd (omega arith)
without_none t zero (x ∷ []) h e = rw (ne_eqb x t e)
without_none t (suc n) (x ∷ []) h e = absurd (omega arith)
without_none t zero (x ∷ (y ∷ ys)) h e = absurd (omega arith)
without_none t (suc n) (x ∷ (y ∷ ys)) h e = ap (λ zs. x ∷ zs) (without_none t n (y ∷ ys) (omega arith) e)

pub without_one : (t n : ℕ) (xs : List ℕ) → length xs ≡ suc n → get_or xs n 0 ≡ t → without_terminator t xs ≡ take n xs
unfolding without_terminator
without_one t n [] h e = absurd (omega arith)
without_one t zero (x ∷ []) h e = rw (eq-eqb x t e)
without_one t (suc n) (x ∷ []) h e = absurd (omega arith)
without_one t zero (x ∷ (y ∷ ys)) h e = absurd (omega arith)
without_one t (suc n) (x ∷ (y ∷ ys)) h e = ap (λ zs. x ∷ zs) (without_one t n (y ∷ ys) (omega arith) e)

-- what the matcher is handed of bytes with a terminator at most at their end
without_handed : (t : ℕ) (xs : List ℕ) → length xs ≤ first_place t xs + 1 → without_terminator t xs ≡ handed t xs
unfolding without_terminator handed first_place up_to
without_handed t [] h = refl
without_handed t (x ∷ []) h = refl
without_handed t (x ∷ (y ∷ ys)) h = go (eqb x t) h (without_handed t (y ∷ ys))
  where
    go : (b : Bool) → length (x ∷ (y ∷ ys)) ≤ length (cond b [] (x ∷ up_to t (y ∷ ys))) + 1
        → (length (y ∷ ys) ≤ length (up_to t (y ∷ ys)) + 1 → without_terminator t (y ∷ ys) ≡ up_to t (y ∷ ys))
        → x ∷ without_terminator t (y ∷ ys) ≡ cond b [] (x ∷ up_to t (y ∷ ys))
    go true h ih = absurd (omega arith)
    go false h ih = ap (λ zs. x ∷ zs) (ih (omega arith))

-- The first line without its terminator is what the definition hands over of it.
pub without_line : (t : ℕ) (xs : List ℕ) → let line = take (first_length t xs) xs in without_terminator t line ≡ handed t line
unfolding first_place handed
without_line t xs =
    let bytes = ap length (handed_next t xs) in
    without_handed t (take (first_length t xs) xs) (omega (arith, bytes, length-take (first_place t xs) xs, length-take (first_length t xs) xs, first_le t xs))
