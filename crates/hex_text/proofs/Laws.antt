-- Laws of hexadecimal digits, for the functions here.
use Prim.Native.Nat.{ℕ, ◌+◌, ◌*◌, ◌/◌, ◌%◌, ◌≤◌, ◌<◌}
use mathlib.Core.Path.{◌≡◌, refl, sym, ◌∙◌, ap}
use mathlib.Core.List.{List, [], ◌∷◌, ◌++◌}
use native.Mathlib.Numerals.{add-one}
use native.Mathlib.Omega.{arith}
use lib.ListN.{length, take, get_or, length-take}
use lib.Seq.{take-suc}
use Rattle.hex_text.specs.Hex.{glyph_of, hex_text, hexed}

pub length_hexed : (xs : List ℕ) → length (hexed xs) ≡ 2 * length xs
unfolding hexed
length_hexed [] = omega arith
length_hexed (x ∷ xs) = omega (arith, length_hexed xs)

hexed_append : (xs ys : List ℕ) → hexed (xs ++ ys) ≡ hexed xs ++ hexed ys
unfolding hexed
hexed_append [] ys = refl
hexed_append (x ∷ xs) ys = ap (λ zs. glyph_of (x / 16) ∷ (glyph_of (x % 16) ∷ zs)) (hexed_append xs ys)

pub length_taken : (i : ℕ) (xs : List ℕ) → i ≤ length xs → length (hexed (take i xs)) ≡ 2 * i
length_taken i xs h = omega (arith, length_hexed (take i xs), length-take i xs)

-- one byte more
pub hexed_next : (i : ℕ) (xs : List ℕ) → i < length xs
    → hexed (take i xs) ++ (glyph_of (get_or xs i 0 / 16) ∷ (glyph_of (get_or xs i 0 % 16) ∷ [])) ≡ hexed (take (i + 1) xs)
unfolding hexed
hexed_next i xs h =
    let more : take (i + 1) xs ≡ take i xs ++ (get_or xs i 0 ∷ []) = rw (add-one i) (take-suc xs i 0 h) in
    sym (ap hexed more ∙ hexed_append (take i xs) (get_or xs i 0 ∷ []))

pub hex_none : (xs : List ℕ) → length xs ≡ 0 → hex_text xs ≡ 45 ∷ []
unfolding hex_text
hex_none [] h = refl
hex_none (x ∷ xs) h = absurd (omega arith)

pub hex_some : (xs : List ℕ) → 0 < length xs → hex_text xs ≡ hexed xs
unfolding hex_text
hex_some [] h = absurd (omega arith)
hex_some (x ∷ xs) h = refl

pub length_hex_text : (xs : List ℕ) → 0 < length xs → length (hex_text xs) ≡ 2 * length xs
length_hex_text xs h = rw (hex_some xs h) (length_hexed xs)
