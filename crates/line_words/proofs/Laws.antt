-- Laws of words and numbers, for the functions here.
use Rattle.std.specs.Prelude.{Some, None}
use Prim.Native.Nat.{ℕ, zero, suc, ◌+◌, ◌-◌, ◌*◌, ◌≤◌, ◌<◌}
use mathlib.Core.Path.{◌≡◌, refl, ap}
use mathlib.Core.Logic.{◌≢◌}
use mathlib.Core.Bool.{Bool, true, false, cond, ◌&&◌}
use mathlib.Core.List.{List, [], ◌∷◌}
use native.Mathlib.Numerals.{sub-one}
use native.Mathlib.Omega.{arith}
use lib.Dec.{eqb}
use lib.ListN.{length, take, drop, get_or}
use borrow.Author.Tests.{eq-eqb, le-ltb, lt-ltb, ne_eqb}
use Rattle.std.proofs.lemmas.Grind.{common_steps}
use Rattle.std.proofs.lemmas.List.{drop_more}
use Rattle.definition.specs.Text.{first_length, first_place, up_to}
use Rattle.line_words.specs.Numbers.{are_digits, behind, decimal_of, digit_behind, digits_behind, is_digit, top}
use Rattle.line_words.specs.Words.{space, word_of}

-- # Words

pub up_to_place : (b : ℕ) (xs : List ℕ) → take (first_place b xs) xs ≡ up_to b xs
unfolding first_place up_to
up_to_place b [] = refl
up_to_place b (x ∷ xs) = go (eqb x b) (up_to_place b xs)
  where
    go : (k : Bool) → take (length (up_to b xs)) xs ≡ up_to b xs → take (length (cond k [] (x ∷ up_to b xs))) (x ∷ xs) ≡ cond k [] (x ∷ up_to b xs)
    go true h = refl
    go false h = ap (λ ys. x ∷ ys) h

-- a space passed is a space fewer to pass
pub word_past : (n : ℕ) (xs : List ℕ) → 0 < n → word_of n xs ≡ word_of (n - 1) (drop (first_length space xs) xs)
unfolding word_of
word_past zero xs h = absurd (omega arith)
word_past (suc n) xs h = rw sub-one refl

-- # Digits behind a number

behind_le : (n : ℕ) (xs : List ℕ) → n ≤ behind n xs
unfolding behind
behind_le n [] = omega arith
behind_le n (x ∷ xs) = omega (arith, behind_le (10 * n + (x - 48)) xs)

both_not : (b : Bool) → (b && false) ≡ false
both_not true = refl
both_not false = refl

digit_more : (n x : ℕ) (xs : List ℕ) → is_digit x ≡ true → digits_behind n (x ∷ xs) ≡ digits_behind (10 * n + (x - 48)) xs
unfolding digits_behind are_digits behind
digit_more n x xs p = rw p

digit_over : (n x : ℕ) (xs : List ℕ) → top ≤ 10 * n + (x - 48) → digits_behind n (x ∷ xs) ≡ None
unfolding digits_behind behind
digit_over n x xs h =
    rw (le-ltb (behind (10 * n + (x - 48)) xs) top (omega (arith, h, behind_le (10 * n + (x - 48)) xs)), both_not (are_digits (x ∷ xs)))

digit_not : (n x : ℕ) (xs : List ℕ) → is_digit x ≡ false → digits_behind n (x ∷ xs) ≡ None
unfolding digits_behind are_digits
digit_not n x xs p = rw p

pub digits_none : (n i : ℕ) (xs : List ℕ) → n < top → length xs ≤ i → digits_behind n (drop i xs) ≡ Some n
unfolding digits_behind are_digits behind
digits_none n zero [] h k = rw (lt-ltb n top h)
digits_none n zero (x ∷ xs) h k = absurd (omega arith)
digits_none n (suc i) [] h k = rw (lt-ltb n top h)
digits_none n (suc i) (x ∷ xs) h k = digits_none n i xs h (omega arith)

-- A digit that can be appended is, and the rest goes behind it.
pub digits_step : (n i m : ℕ) (xs : List ℕ) → i < length xs → Some m ≡ digit_behind n (get_or xs i 0)
    → (m < top) × (digits_behind n (drop i xs) ≡ digits_behind m (drop (i + 1) xs))
unfolding digit_behind
digits_step n i m xs h e = grind (arith, common_steps, drop_more, digit_more n (get_or xs i 0) (drop (i + 1) xs))

-- One that cannot be appended leaves no number.
pub digits_stop : (n i : ℕ) (xs : List ℕ) → i < length xs → None ≡ digit_behind n (get_or xs i 0) → digits_behind n (drop i xs) ≡ None
unfolding digit_behind
digits_stop n i xs h e =
    grind (arith, common_steps, drop_more, digit_over n (get_or xs i 0) (drop (i + 1) xs), digit_not n (get_or xs i 0) (drop (i + 1) xs))

-- # The whole word

pub decimal_empty : (xs : List ℕ) → length xs ≡ 0 → decimal_of xs ≡ None
unfolding decimal_of
decimal_empty [] h = refl
decimal_empty (x ∷ xs) h = absurd (omega arith)

pub decimal_one : (xs : List ℕ) → length xs ≡ 1 → decimal_of xs ≡ digits_behind 0 xs
unfolding decimal_of
decimal_one [] h = absurd (omega arith)
decimal_one (x ∷ []) h = refl
decimal_one (x ∷ (y ∷ ys)) h = absurd (omega arith)

pub decimal_zero : (xs : List ℕ) → 1 < length xs → get_or xs 0 0 ≡ 48 → decimal_of xs ≡ None
unfolding decimal_of
decimal_zero [] h e = absurd (omega arith)
decimal_zero (x ∷ []) h e = absurd (omega arith)
decimal_zero (x ∷ (y ∷ ys)) h e = rw (eq-eqb x 48 e)

pub decimal_more : (xs : List ℕ) → 1 < length xs → get_or xs 0 0 ≢ 48 → decimal_of xs ≡ digits_behind 0 xs
unfolding decimal_of
decimal_more [] h e = absurd (omega arith)
decimal_more (x ∷ []) h e = absurd (omega arith)
decimal_more (x ∷ (y ∷ ys)) h e = rw (ne_eqb x 48 e)
