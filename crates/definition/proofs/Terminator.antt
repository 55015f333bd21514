-- Facts about the terminator, proved once over that byte: how a text falls into lines, and what of a line is handed to the matcher.
use Prim.Native.Nat.{ℕ, zero, suc, ◌+◌, ◌-◌, ◌≤◌, ◌<◌}
use mathlib.Core.Path.{◌≡◌, refl, sym, ◌∙◌, ap, ap₂}
use mathlib.Core.Bool.{Bool, true, false, cond}
use mathlib.Core.List.{List, [], ◌∷◌, ◌++◌, append_assoc, append-nil, flatten, tail-eq_of_cons-eq}
use mathlib.Core.Logic.{◌⊎◌, inl, inr}
use native.Mathlib.Decide.{dec_lt}
use native.Mathlib.Omega.{arith}
use lib.Dec.{eqb}
use lib.ListN.{length, take, drop, length-append, length-take, take-append-drop}
use lib.Seq.{take-length, drop-length, take-append-le, drop-append-le, take_at, drop_at}
use borrow.Author.Tests.{eqb-true, eq-eqb}
use Rattle.definition.specs.Definition.{last_of}
use Rattle.definition.specs.Laws.{ConvertSame, LinesWhole, LinesFirst, LinesRest, HandedWhole}
use Rattle.definition.specs.Text.{up_to, first_place, first_length, replaced, onto, lines, handed}
use Rattle.definition.proofs.Lists.{flatten_append}

pub convert_same : ConvertSame
unfolding replaced
convert_same t [] = refl
convert_same t (x ∷ xs) = ap₂ {C = List ℕ} (λ y ys. y ∷ ys) (go (eqb x t) refl) (convert_same t xs)
  where
    go : (b : Bool) → eqb x t ≡ b → cond b t x ≡ x
    go true e = sym (eqb-true x t e)
    go false e = refl

flatten_onto : (x : ℕ) (ls : List (List ℕ)) → flatten (onto x ls) ≡ x ∷ flatten ls
unfolding flatten onto
flatten_onto x [] = refl
flatten_onto x (l ∷ ls) = refl

pub lines_whole : LinesWhole
unfolding lines flatten
lines_whole t [] = refl
lines_whole t (x ∷ xs) = go (eqb x t) (lines_whole t xs)
  where
    go : (b : Bool) → flatten (lines t xs) ≡ xs → flatten (cond b ((x ∷ []) ∷ lines t xs) (onto x (lines t xs))) ≡ x ∷ xs
    go true ih = ap (λ ys. x ∷ ys) ih
    go false ih = flatten_onto x (lines t xs) ∙ ap (λ ys. x ∷ ys) ih

-- The first byte decides: it is the terminator, or the first line goes on.
pub lines_first : LinesFirst
unfolding lines first_place up_to onto
lines_first t [] h = absurd (omega arith)
lines_first t (x ∷ xs) h = go (eqb x t) h (lines_first t xs)
  where
    go : (b : Bool) → length (cond b [] (x ∷ up_to t xs)) < length (x ∷ xs)
        → (first_place t xs < length xs → lines t xs ≡ take (first_place t xs + 1) xs ∷ lines t (drop (first_place t xs + 1) xs))
        → cond b ((x ∷ []) ∷ lines t xs) (onto x (lines t xs))
        ≡ take (length (cond b [] (x ∷ up_to t xs)) + 1) (x ∷ xs) ∷ lines t (drop (length (cond b [] (x ∷ up_to t xs)) + 1) (x ∷ xs))
    go true h ih = refl
    go false h ih =
        let e : suc (first_place t xs) + 1 ≡ suc (first_place t xs + 1) = omega arith in
        rw (e, ih (omega arith))

-- the last byte of a line without terminator, and the bytes before it
rest_byte : (t x : ℕ) (ls : List (List ℕ)) (xs : List ℕ) (b : Bool) → length (x ∷ xs) ≤ length (cond b [] (x ∷ up_to t xs))
    → (length xs ≤ length (up_to t xs) → onto x ls ≡ (x ∷ xs) ∷ []) → cond b ((x ∷ []) ∷ ls) (onto x ls) ≡ (x ∷ xs) ∷ []
rest_byte t x ls xs true k ih = absurd (omega arith)
rest_byte t x ls xs false k ih = ih (omega arith)

pub lines_rest : LinesRest
unfolding lines first_place up_to onto
lines_rest t [] h k = absurd (omega arith)
lines_rest t (x ∷ []) h k = rest_byte t x [] [] (eqb x t) k (λ j. refl)
lines_rest t (x ∷ (y ∷ ys)) h k =
    rest_byte t x (lines t (y ∷ ys)) (y ∷ ys) (eqb x t) k (λ j. ap (onto x) (lines_rest t (y ∷ ys) (omega arith) j))

pub handed_whole : HandedWhole
unfolding handed first_place up_to
handed_whole t [] h = absurd (omega arith)
handed_whole t (x ∷ xs) h = go (eqb x t) refl h (handed_whole t xs)
  where
    go : (b : Bool) → eqb x t ≡ b → length (cond b [] (x ∷ up_to t xs)) < length (x ∷ xs)
        → (first_place t xs < length xs → up_to t (take (first_place t xs + 1) xs) ≡ take (first_place t xs) xs)
        → up_to t (take (length (cond b [] (x ∷ up_to t xs)) + 1) (x ∷ xs)) ≡ take (length (cond b [] (x ∷ up_to t xs))) (x ∷ xs)
    go true e h ih = rw e
    go false e h ih =
        let n : suc (first_place t xs) + 1 ≡ suc (first_place t xs + 1) = omega arith in
        rw (n, e, ih (omega arith))

-- # The first terminator

pub first_le : (t : ℕ) (xs : List ℕ) → first_place t xs ≤ length xs
unfolding first_place up_to
first_le t [] = omega arith
first_le t (x ∷ xs) = go (eqb x t) (first_le t xs)
  where
    go : (b : Bool) → first_place t xs ≤ length xs → length (cond b [] (x ∷ up_to t xs)) ≤ length (x ∷ xs)
    go true h = omega arith
    go false h = omega arith

-- bytes without a terminator are all before the first
pub up_to_none : (t : ℕ) (xs : List ℕ) → length xs ≤ first_place t xs → up_to t xs ≡ xs
unfolding first_place up_to
up_to_none t [] h = refl
up_to_none t (x ∷ xs) h = go (eqb x t) h (up_to_none t xs)
  where
    go : (b : Bool) → length (x ∷ xs) ≤ length (cond b [] (x ∷ up_to t xs)) → (length xs ≤ length (up_to t xs) → up_to t xs ≡ xs)
        → cond b [] (x ∷ up_to t xs) ≡ x ∷ xs
    go true h ih = absurd (omega arith)
    go false h ih = ap (λ ys. x ∷ ys) (ih (omega arith))

-- the first of two joined parts decides where it has one ..
pub up_to_append : (t : ℕ) (xs ys : List ℕ) → first_place t xs < length xs → up_to t (xs ++ ys) ≡ up_to t xs
unfolding first_place up_to
up_to_append t [] ys h = absurd (omega arith)
up_to_append t (x ∷ xs) ys h = go (eqb x t) h (up_to_append t xs ys)
  where
    go : (b : Bool) → length (cond b [] (x ∷ up_to t xs)) < length (x ∷ xs) → (length (up_to t xs) < length xs → up_to t (xs ++ ys) ≡ up_to t xs)
        → cond b [] (x ∷ up_to t (xs ++ ys)) ≡ cond b [] (x ∷ up_to t xs)
    go true h ih = refl
    go false h ih = ap (λ zs. x ∷ zs) (ih (omega arith))

-- .. and the second where it has none
pub up_to_append_none : (t : ℕ) (xs ys : List ℕ) → length xs ≤ first_place t xs → up_to t (xs ++ ys) ≡ xs ++ up_to t ys
unfolding first_place up_to
up_to_append_none t [] ys h = refl
up_to_append_none t (x ∷ xs) ys h = go (eqb x t) h (up_to_append_none t xs ys)
  where
    go : (b : Bool) → length (x ∷ xs) ≤ length (cond b [] (x ∷ up_to t xs)) → (length xs ≤ length (up_to t xs) → up_to t (xs ++ ys) ≡ xs ++ up_to t ys)
        → cond b [] (x ∷ up_to t (xs ++ ys)) ≡ x ∷ (xs ++ up_to t ys)
    go true h ih = absurd (omega arith)
    go false h ih = ap (λ zs. x ∷ zs) (ih (omega arith))

pub first_append : (t : ℕ) (xs ys : List ℕ) → first_place t xs < length xs → first_place t (xs ++ ys) ≡ first_place t xs
unfolding first_place
first_append t xs ys h = ap length (up_to_append t xs ys h)

pub first_append_none : (t : ℕ) (xs ys : List ℕ) → length xs ≤ first_place t xs → first_place t (xs ++ ys) ≡ length xs + first_place t ys
unfolding first_place
first_append_none t xs ys h = ap length (up_to_append_none t xs ys h) ∙ length-append xs (up_to t ys)

-- # The next line of bytes of which only a part is at hand

-- The first line, whether it has a terminator or not.
pub lines_head : (t : ℕ) (xs : List ℕ) → 0 < length xs → lines t xs ≡ take (first_length t xs) xs ∷ lines t (drop (first_length t xs) xs)
unfolding lines
lines_head t xs h = elim (dec_lt (first_place t xs) (length xs)) [
  | yes k ↦
      let e : first_length t xs ≡ first_place t xs + 1 = omega arith in
      rw e (lines_first t xs k)
  | no k ↦
      let e : first_length t xs ≡ length xs = omega arith in
      rw (e, take-length xs, drop-length xs) (lines_rest t xs h (omega arith))
]

-- It is known once its terminator is at hand, or once nothing more comes.
pub lines_next : (t : ℕ) (xs ys : List ℕ) → (first_place t xs < length xs) ⊎ ((0 < length xs) × (ys ≡ []))
    → lines t (xs ++ ys) ≡ take (first_length t xs) xs ∷ lines t (drop (first_length t xs) xs ++ ys)
lines_next t xs ys (inl h) =
    let k = length-append xs ys in
    let e : first_length t (xs ++ ys) ≡ first_length t xs = omega (arith, k, first_append t xs ys h) in
    rw (lines_head t (xs ++ ys) (omega (arith, k)), e, take-append-le (first_length t xs) xs ys (omega arith), drop-append-le (first_length t xs) xs ys (omega arith))
lines_next t xs ys (inr h) = rw (h.1, append-nil xs, append-nil (drop (first_length t xs) xs)) (lines_head t xs h.0)

-- What is handed of it.
pub handed_next : (t : ℕ) (xs : List ℕ) → handed t (take (first_length t xs) xs) ≡ take (first_place t xs) xs
unfolding handed
handed_next t xs = elim (dec_lt (first_place t xs) (length xs)) [
  | yes k ↦
      let e : first_length t xs ≡ first_place t xs + 1 = omega arith in
      rw e (handed_whole t xs k)
  | no k ↦
      let e : first_length t xs ≡ length xs = omega arith in
      let p : first_place t xs ≡ length xs = omega (arith, first_le t xs) in
      rw (e, p, take-length xs) (up_to_none t xs (omega arith))
]

-- # Whole lines

-- Bytes that fall into whole lines: whatever follows starts a new line.
abbrev pub Whole : ℕ → List ℕ → Type 0
Whole t xs = (ys : List ℕ) → lines t (xs ++ ys) ≡ lines t xs ++ lines t ys

pub whole_none : (t : ℕ) → Whole t []
unfolding lines
whole_none t ys = refl

pub whole_append : (t : ℕ) (xs ys : List ℕ) → Whole t xs → Whole t ys → Whole t (xs ++ ys)
whole_append t xs ys h k zs =
    rw (append_assoc xs ys zs, h (ys ++ zs), k zs, h ys) (sym (append_assoc (lines t xs) (lines t ys) (lines t zs)))

-- a line that ends in its only terminator
line_then : (t : ℕ) (l ys : List ℕ) → first_place t l + 1 ≡ length l → lines t (l ++ ys) ≡ l ∷ lines t ys
line_then t l ys e =
    let n : first_length t l ≡ length l = omega arith in
    lines_next t l ys (inl (omega arith)) ∙ rw (n, take-length l, drop-length l)

pub line_ends : (t : ℕ) (xs : List ℕ) → first_place t xs < length xs → first_place t (take (first_length t xs) xs) + 1 ≡ length (take (first_length t xs) xs)
unfolding first_place handed
line_ends t xs h =
    omega (arith, ap length (handed_next t xs), length-take (first_place t xs) xs, length-take (first_length t xs) xs)

-- The lines from some line on are the lines of those bytes, ..
pub lines_drop : (j t : ℕ) (xs : List ℕ) → lines t (flatten (drop j (lines t xs))) ≡ drop j (lines t xs)
unfolding lines flatten
lines_drop zero t xs = ap (lines t) (lines_whole t xs)
lines_drop (suc j) t [] = refl
lines_drop (suc j) t (x ∷ xs) = rw (lines_head t (x ∷ xs) (omega arith)) (lines_drop j t (drop (first_length t (x ∷ xs)) (x ∷ xs)))

whole_rest : (t : ℕ) (xs : List ℕ) → Whole t xs → Whole t (drop (first_length t xs) xs)
whole_rest t xs h = elim (dec_lt (first_place t xs) (length xs)) [
  | yes k ↦ λ ys. tail-eq_of_cons-eq (sym (lines_next t xs ys (inl k)) ∙ h ys ∙ ap (λ ls. ls ++ lines t ys) (lines_head t xs (omega arith)))
  | no k ↦
      let n : first_length t xs ≡ length xs = omega arith in
      rw (n, drop-length xs) (whole_none t)
]

-- .. whole where all of them are.
pub whole_drop : (j t : ℕ) (xs : List ℕ) → Whole t xs → Whole t (flatten (drop j (lines t xs)))
unfolding lines flatten
whole_drop zero t xs h = rw (lines_whole t xs) h
whole_drop (suc j) t [] h = whole_none t
whole_drop (suc j) t (x ∷ xs) h =
    rw (lines_head t (x ∷ xs) (omega arith)) (whole_drop j t (drop (first_length t (x ∷ xs)) (x ∷ xs)) (whole_rest t (x ∷ xs) h))

-- The first line by itself is one line.
pub lines_one : (t : ℕ) (xs : List ℕ) → 0 < length xs → lines t (take (first_length t xs) xs) ≡ take (first_length t xs) xs ∷ []
unfolding lines
lines_one t xs h = elim (dec_lt (first_place t xs) (length xs)) [
  | yes k ↦ rw (append-nil (take (first_length t xs) xs)) at (line_then t (take (first_length t xs) xs) [] (line_ends t xs k))
  | no k ↦
      let e : first_length t xs ≡ length xs = omega arith in
      rw (e, take-length xs) (lines_rest t xs h (omega arith))
]

pub whole_line : (t : ℕ) (xs : List ℕ) → first_place t xs < length xs → Whole t (take (first_length t xs) xs)
whole_line t xs h ys = rw (lines_one t xs (omega arith)) (line_then t (take (first_length t xs) xs) ys (line_ends t xs h))

onto_append : (x : ℕ) (ls ms : List (List ℕ)) → 0 < length ls → onto x (ls ++ ms) ≡ onto x ls ++ ms
unfolding onto
onto_append x [] ms h = absurd (omega arith)
onto_append x (l ∷ ls) ms h = refl

-- Bytes that end in a terminator.
pub whole_ended : (t : ℕ) (xs : List ℕ) → Whole t (xs ++ (t ∷ []))
unfolding lines
whole_ended t [] ys = rw (eq-eqb t t refl)
whole_ended t (x ∷ xs) ys = go (eqb x t) (whole_ended t xs ys)
  where
    some : 0 < length (lines t (xs ++ (t ∷ [])))
    some = rw (lines_head t (xs ++ (t ∷ [])) (omega (arith, length-append xs (t ∷ [])))) (omega arith)

    go : (b : Bool) → lines t ((xs ++ (t ∷ [])) ++ ys) ≡ lines t (xs ++ (t ∷ [])) ++ lines t ys
        → cond b ((x ∷ []) ∷ lines t ((xs ++ (t ∷ [])) ++ ys)) (onto x (lines t ((xs ++ (t ∷ [])) ++ ys)))
        ≡ cond b ((x ∷ []) ∷ lines t (xs ++ (t ∷ []))) (onto x (lines t (xs ++ (t ∷ [])))) ++ lines t ys
    go true ih = ap (λ ls. (x ∷ []) ∷ ls) ih
    go false ih = ap (onto x) ih ∙ onto_append x (lines t (xs ++ (t ∷ []))) (lines t ys) some

-- where a line follows the first, the first has its terminator
first_ended : (t : ℕ) (xs : List ℕ) → 0 < length (lines t (drop (first_length t xs) xs)) → first_place t xs < length xs
unfolding lines
first_ended t xs h = elim (dec_lt (first_place t xs) (length xs)) [
  | yes k ↦ k
  | no k ↦
      let n : first_length t xs ≡ length xs = omega arith in
      absurd (omega (arith, rw (n, drop-length xs) at h))
]

-- All lines up to some line are whole, but for the very last, ..
pub whole_take : (j t : ℕ) (xs : List ℕ) → j < length (lines t xs) → Whole t (flatten (take j (lines t xs)))
unfolding lines flatten
whole_take zero t xs h = whole_none t
whole_take (suc j) t [] h = absurd (omega arith)
whole_take (suc j) t (x ∷ xs) h =
    let head = lines_head t (x ∷ xs) (omega arith) in
    let more : j < length (lines t (drop (first_length t (x ∷ xs)) (x ∷ xs))) = omega (arith, rw head at h) in
    rw head (whole_append t (take (first_length t (x ∷ xs)) (x ∷ xs))
    (flatten (take j (lines t (drop (first_length t (x ∷ xs)) (x ∷ xs)))))
    (whole_line t (x ∷ xs) (first_ended t (x ∷ xs) (omega arith)))
    (whole_take j t (drop (first_length t (x ∷ xs)) (x ∷ xs)) more))

-- .. and are the lines of their bytes.
pub lines_take : (j t : ℕ) (xs : List ℕ) → j < length (lines t xs) → lines t (flatten (take j (lines t xs))) ≡ take j (lines t xs)
unfolding lines flatten
lines_take zero t xs h = refl
lines_take (suc j) t [] h = absurd (omega arith)
lines_take (suc j) t (x ∷ xs) h =
    let head = lines_head t (x ∷ xs) (omega arith) in
    let rest = drop (first_length t (x ∷ xs)) (x ∷ xs) in
    let more : j < length (lines t rest) = omega (arith, rw head at h) in
    rw head (whole_line t (x ∷ xs) (first_ended t (x ∷ xs) (omega arith)) (flatten (take j (lines t rest)))
    ∙ rw (lines_one t (x ∷ xs) (omega arith), lines_take j t rest more))

-- Bytes without a terminator but at their end are one line.
pub lines_only : (t : ℕ) (xs : List ℕ) → 0 < length xs → length xs ≤ first_place t xs + 1 → lines t xs ≡ xs ∷ []
unfolding lines
lines_only t xs h k =
    let n : first_length t xs ≡ length xs = omega arith in
    lines_head t xs h ∙ rw (n, take-length xs, drop-length xs)

-- # The last lines

-- Bytes fall, where the last n of their lines start, into the lines before and those lines.
pub flatten_last : (n t : ℕ) (xs : List ℕ)
    → (length (flatten (last_of n (lines t xs))) ≤ length xs)
    × (drop (length xs - length (flatten (last_of n (lines t xs)))) xs ≡ flatten (last_of n (lines t xs)))
    × (take (length xs - length (flatten (last_of n (lines t xs)))) xs ≡ flatten (take (length (lines t xs) - n) (lines t xs)))
unfolding last_of
flatten_last n t xs =
    let ls = lines t xs in
    let j = length ls - n in
    let front = flatten (take j ls) in
    let back = flatten (drop j ls) in
    let whole : front ++ back ≡ xs = sym (flatten_append (take j ls) (drop j ls)) ∙ ap flatten (take-append-drop j ls) ∙ lines_whole t xs in
    let size : length front + length back ≡ length xs = sym (length-append front back) ∙ ap length whole in (
      omega arith,
      ap (λ ys. drop (length xs - length back) ys) (sym whole) ∙ drop_at front back (length xs - length back) (omega arith),
      ap (λ ys. take (length xs - length back) ys) (sym whole) ∙ take_at front back (length xs - length back) (omega arith),
    )
