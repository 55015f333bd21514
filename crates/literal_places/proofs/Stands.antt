-- Laws of `starts_with` and `stands`, and that `stands` is true exactly where the literal has a place in the line.
use Prim.Native.Nat.{ℕ, zero, suc, ◌+◌, ◌≤◌, ◌<◌}
use mathlib.Core.Path.{◌≡◌, refl, sym, ap, ap₂}
use mathlib.Core.Bool.{Bool, true, false, ◌&&◌, ◌||◌, false≢true}
use mathlib.Core.List.{List, [], ◌∷◌, ◌++◌}
use native.Mathlib.Numerals.{add-one}
use Rattle.std.proofs.Common.{add-zero}
use native.Mathlib.Omega.{arith}
use lib.Dec.{eqb}
use lib.ListN.{length, get_or, drop}
use lib.Seq.{drop-cons, drop-length, drop-append_seam}
use borrow.Author.Tests.{eqb-true, eq-eqb}
use Rattle.std.specs.List.{list_all, range_with_len}
use Rattle.literal_places.specs.Literal.{starts_with, stands, Occurrence, StandsSomewhere}

-- # A text that begins with the literal

-- the first byte, and the rest
both : (x b : ℕ) (rest : Bool) → (eqb x b && rest) ≡ true → (x ≡ b) × (rest ≡ true)
both x b rest h = go (eqb x b) refl h
  where
    go : (t : Bool) → eqb x b ≡ t → (t && rest) ≡ true → (x ≡ b) × (rest ≡ true)
    go true e h = (eqb-true x b e, h)
    go false e h = absurd (false≢true h)

-- every byte of the literal is the text's
pub starts_byte : (literal text : List ℕ) (k : ℕ) → starts_with literal text ≡ true → k < length literal → get_or text k 0 ≡ get_or literal k 0
unfolding starts_with
starts_byte [] text k h l = absurd (omega arith)
starts_byte (b ∷ bs) [] k h l = absurd (false≢true h)
starts_byte (b ∷ bs) (x ∷ xs) zero h l = (both x b (starts_with bs xs) h).0
starts_byte (b ∷ bs) (x ∷ xs) (suc k) h l = starts_byte bs xs k (both x b (starts_with bs xs) h).1 (omega arith)

-- no text begins with a longer literal
pub starts_short : (literal text : List ℕ) → length text < length literal → starts_with literal text ≡ false
unfolding starts_with
starts_short [] text l = absurd (omega arith)
starts_short (b ∷ bs) [] l = refl
starts_short (b ∷ bs) (x ∷ xs) l = rw (starts_short bs xs (omega arith)) (and-false (eqb x b))
  where
    and-false : (t : Bool) → (t && false) ≡ false
    and-false true = refl
    and-false false = refl

-- a comparison byte by byte: one more byte ..
pub starts_step : (literal line : List ℕ) (at k : ℕ) → k < length literal → at + k < length line
    → starts_with (drop k literal) (drop (at + k) line)
    ≡ (eqb (get_or line (at + k) 0) (get_or literal k 0) && starts_with (drop (k + 1) literal) (drop (at + (k + 1)) line))
unfolding starts_with
starts_step literal line at k l m =
    let e : at + (k + 1) ≡ suc (at + k) = omega arith in
    rw (e, add-one k, drop-cons literal k 0 l, drop-cons line (at + k) 0 m)

-- .. until the literal is at its end
pub starts_end : (literal text : List ℕ) → starts_with (drop (length literal) literal) text ≡ true
unfolding starts_with
starts_end literal text = rw (drop-length literal)

-- the last n bytes of the literal
starts_last : (literal line : List ℕ) (at k n : ℕ) → k + n ≡ length literal → at + length literal ≤ length line
    → list_all (λ j. eqb (get_or line (at + j) 0) (get_or literal j 0)) (range_with_len k n) ≡ starts_with (drop k literal) (drop (at + k) line)
starts_last literal line at k zero e l =
    let h : k ≡ length literal = omega arith in
    rw h (sym (starts_end literal (drop (at + length literal) line)))
starts_last literal line at k (suc n) e l =
    rw (starts_step literal line at k (omega arith) (omega arith), add-one k, starts_last literal line at (suc k) n (omega arith) l)

pub starts_all : (literal line : List ℕ) (at : ℕ) → at + length literal ≤ length line
    → list_all (λ j. eqb (get_or line (at + j) 0) (get_or literal j 0)) (range_with_len 0 (length literal)) ≡ starts_with literal (drop at line)
starts_all literal line at l = rw add-zero at (starts_last literal line at 0 (length literal) (omega arith) l)

-- # A line in which the literal stands

pub stands_at : (literal line : List ℕ) (j : ℕ) → starts_with literal (drop j line) ≡ true → stands literal line ≡ true
unfolding stands
stands_at literal [] zero h = h
stands_at literal [] (suc j) h = h
stands_at literal (x ∷ xs) zero h = rw h
stands_at literal (x ∷ xs) (suc j) h = rw (stands_at literal xs j h) (or-true (starts_with literal (x ∷ xs)))
  where
    or-true : (t : Bool) → (t || true) ≡ true
    or-true true = refl
    or-true false = refl

pub stands_empty : (literal line : List ℕ) → length literal ≡ 0 → stands literal line ≡ true
unfolding starts_with
stands_empty [] line e = stands_at [] line 0 refl
stands_empty (b ∷ bs) line e = absurd (omega arith)

pub stands_nowhere : (literal line : List ℕ)
    → ((j : ℕ) → j ≤ length line → starts_with literal (drop j line) ≡ false) → stands literal line ≡ false
unfolding stands
stands_nowhere literal [] h = h 0 (omega arith)
stands_nowhere literal (x ∷ xs) h =
    rw (h 0 (omega arith)) (stands_nowhere literal xs (λ j l. h (suc j) (omega arith)))

-- # The place

starts_append : (literal after : List ℕ) → starts_with literal (literal ++ after) ≡ true
unfolding starts_with
starts_append [] after = refl
starts_append (b ∷ bs) after = rw (eq-eqb b b refl) (starts_append bs after)

starts_whole : (literal text : List ℕ) → starts_with literal text ≡ true → text ≡ literal ++ drop (length literal) text
unfolding starts_with
starts_whole [] text h = refl
starts_whole (b ∷ bs) [] h = absurd (false≢true h)
starts_whole (b ∷ bs) (x ∷ xs) h =
    let t = both x b (starts_with bs xs) h in
    ap₂ {C = List ℕ} (λ y ys. y ∷ ys) t.0 (starts_whole bs xs t.1)

front : (literal text : List ℕ) → starts_with literal text ≡ true → Occurrence literal text
front literal text h = record { before = []; after = drop (length literal) text; whole = starts_whole literal text h }

place_of : (literal line : List ℕ) → stands literal line ≡ true → Occurrence literal line
unfolding stands
place_of literal [] h = front literal [] h
place_of literal (x ∷ xs) h = go (starts_with literal (x ∷ xs)) refl h (place_of literal xs)
  where
    go : (t : Bool) → starts_with literal (x ∷ xs) ≡ t → (t || stands literal xs) ≡ true
        → (stands literal xs ≡ true → Occurrence literal xs) → Occurrence literal (x ∷ xs)
    go true e h further = front literal (x ∷ xs) e
    go false e h further =
        let p = further h in
        record { before = x ∷ p.before; after = p.after; whole = ap (λ ys. x ∷ ys) p.whole }

stands_of : (literal line : List ℕ) → Occurrence literal line → stands literal line ≡ true
stands_of literal line p =
    stands_at literal line (length p.before)
    (rw (p.whole, drop-append_seam p.before (literal ++ p.after)) (starts_append literal p.after))

pub stands_somewhere : StandsSomewhere
stands_somewhere literal line = (place_of literal line, stands_of literal line)
