-- Laws of numbers and of collected text, for the functions here and for the programs above that say what they write.
use Prim.Native.Nat.{ℕ, suc, zero, ◌+◌, ◌-◌, ◌*◌, ◌/◌, ◌%◌, ◌^◌, ◌≤◌, ◌<◌}
use mathlib.Core.Path.{◌≡◌, refl, sym, ◌∙◌, ap}
use mathlib.Core.Bool.{Bool, true, false, cond}
use mathlib.Core.List.{List, [], ◌∷◌, ◌++◌, append_assoc, append-nil}
use native.Mathlib.Decide.{dec_lt}
use native.Mathlib.Nat.{div-lt_iff_lt-mul, le-div_iff_mul-le, le_trans, mod-eq_of_lt, mod-lt, pow-le-pow_right, pow-suc}
use native.Mathlib.Omega.{arith}
use lib.Dec.{lit<}
use lib.ListN.{length, take, drop, length-append, length-take}
use lib.Seq.{take_at}
use borrow.Author.Tests.{le-leb, le-ltb, lt-leb, lt-ltb}
use Rattle.definition.specs.Text.{put_at}
use Rattle.definition.proofs.Lists.{length_put_at, put_at_append, put_at_none}
use Rattle.io.specs.Digits.{IsDigitCount, last_digits, hex_digit_ascii}
use Rattle.output.specs.declared.Pending.{Pending}
use Rattle.output.specs.Output.{Collected, Tells, Told, added, collected, decimal, fits, over, spelled}

-- # Text behind what is pending

pub collected_room : (o : Collected) (text : List ℕ) → o.pending.length + length text ≤ length o.room → collected o text ≡ added o text
unfolding collected fits
collected_room o text h = rw (le-leb (o.pending.length + length text) (length o.room) h)

pub collected_lost : (o : Collected) (text : List ℕ) → length o.room < o.pending.length + length text
    → collected o text ≡ over o.loan o.room (record { length = o.pending.length; lost = true })
unfolding collected fits
collected_lost o text h = rw (lt-leb (o.pending.length + length text) (length o.room) h)

-- whether it has room or not, a text leaves the buffer lent that was
pub collected_loan : (o : Collected) (text : List ℕ) → (collected o text).loan ≡ o.loan
unfolding collected
collected_loan o text = go (fits o text)
  where
    go : (b : Bool) → (cond b (added o text) (over o.loan o.room (record { length = o.pending.length; lost = true }))).loan ≡ o.loan
    go true = refl
    go false = refl

pub added_none : (o : Collected) → added o [] ≡ o
added_none o =
    let size : o.pending.length + 0 ≡ o.pending.length = omega arith in
    rw (put_at_none o.pending.length o.room, size) refl

-- a text added behind another is both
pub added_more : (o : Collected) (xs ys : List ℕ) → o.pending.length + length xs + length ys ≤ length o.room
    → added (added o xs) ys ≡ added o (xs ++ ys)
added_more o xs ys h =
    let size : o.pending.length + length xs + length ys ≡ o.pending.length + length (xs ++ ys) = omega (arith, length-append xs ys) in
    rw (put_at_append o.pending.length xs ys o.room (omega arith), size)

-- a text collected behind another is both
pub collected_more : (o : Collected) (xs ys : List ℕ) → o.pending.length + length xs + length ys ≤ length o.room
    → collected (added o xs) ys ≡ added o (xs ++ ys)
collected_more o xs ys h =
    let size = length_put_at o.pending.length xs o.room (omega arith) in
    collected_room (added o xs) ys (omega arith) ∙ added_more o xs ys h

take_put_at : (at : ℕ) (new old : List ℕ) → at + length new ≤ length old → take (at + length new) (put_at at new old) ≡ take at old ++ new
unfolding put_at
take_put_at at new old h =
    let rest = drop (at + length new) old in
    let size : length (take at old ++ new) ≡ at + length new = omega (arith, length-append (take at old) new, length-take at old) in
    rw (sym (append_assoc (take at old) new rest)) (take_at (take at old ++ new) rest (at + length new) size)

pub tells_none : (p : Pending) (out : List ℕ) → Tells p out [] p out
tells_none p out = record { length_is = omega arith; lost_is = refl; text_is = sym (append-nil (take p.length out)); size_is = refl }

-- text after text
pub tells_more : {p q r : Pending} {out mid after xs ys : List ℕ} → Tells p out xs q mid → Tells q mid ys r after
    → Tells p out (xs ++ ys) r after
tells_more {p} {out = out} {xs = xs} {ys = ys} f s = record {
  length_is = omega (arith, length-append xs ys);
  lost_is = s.lost_is ∙ f.lost_is;
  text_is = s.text_is ∙ ap (λ front. front ++ ys) f.text_is ∙ append_assoc (take p.length out) xs ys;
  size_is = s.size_is ∙ f.size_is;
}

pub told : (o : Collected) (text : List ℕ) → o.pending.length + length text ≤ length o.room → Told o text (collected o text)
told o text h =
    rw (collected_room o text h) (
      refl,
      record {
        length_is = refl;
        lost_is = refl;
        text_is = take_put_at o.pending.length text o.room h;
        size_is = length_put_at o.pending.length text o.room h;
      },
    )

pub told_more : {o q r : Collected} {xs ys : List ℕ} → Told o xs q → Told q ys r → Told o (xs ++ ys) r
told_more f s = (s.0 ∙ f.0, tells_more f.1 s.1)

-- # Numbers

glyph_digit : (d : ℕ) → d < 10 → hex_digit_ascii d ≡ 48 + d
glyph_digit d h = rw (lt-ltb d 10 h)

-- a number below 10 has one digit
one_digit : (n k : ℕ) → n < 10 → IsDigitCount 10 1 n k → last_digits 10 k n ≡ (48 + n) ∷ []
one_digit n zero h f = absurd (omega (arith, f.0))
one_digit n (suc zero) h f = rw (mod-eq_of_lt {n = n} {m = 10} h, lt-ltb n 10 h)
one_digit n (suc (suc k)) h f =
    let many : 10 ^ 1 ≤ n = le_trans (pow-le-pow_right {n = 10} (lit< tt) {i = 1} {j = suc (suc k) - 1} (omega arith)) (f.2 (omega arith)) in
    absurd (omega arith)

-- without its last digit a number has one digit fewer
fewer : (n k : ℕ) → IsDigitCount 10 1 n (suc (suc k)) → IsDigitCount 10 1 (n / 10) (suc k)
fewer n k f =
    let below : n < 10 ^ suc k * 10 = rw (pow-suc 10 (suc k)) at f.1 in
    let e : suc (suc k) - 1 ≡ suc (suc k - 1) = omega arith in
    (omega arith, (div-lt_iff_lt-mul {k = 10} {x = n} {y = 10 ^ suc k} (lit< tt)).1 below, λ h. (le-div_iff_mul-le {k = 10} {x = 10 ^ (suc k - 1)} {y = n} (lit< tt)).1 (rw (e, pow-suc 10 (suc k - 1)) at (f.2 (omega arith))))

-- the digits of a number of two or more, by those of what is left without the last
longer : (n turns k : ℕ) → ((j : ℕ) → IsDigitCount 10 1 (n / 10) j → last_digits 10 j (n / 10) ≡ spelled turns (n / 10)) → 10 ≤ n → IsDigitCount 10 1 n k
    → last_digits 10 k n ≡ spelled turns (n / 10) ++ ((48 + n % 10) ∷ [])
longer n turns zero front l f = absurd (omega (arith, f.0))
longer n turns (suc zero) front l f = absurd (omega (arith, f.1))
longer n turns (suc (suc k)) front l f = rw (front (suc k) (fewer n k f), glyph_digit (n % 10) (mod-lt n {m = 10} (lit< tt)))

fewest_spelled : (turns n k : ℕ) → n ≤ turns → IsDigitCount 10 1 n k → last_digits 10 k n ≡ spelled turns n
unfolding spelled
fewest_spelled zero n k h f = one_digit n k (omega arith) f ∙ rw (mod-eq_of_lt {n = n} {m = 10} (omega arith))
fewest_spelled (suc turns) n k h f = elim (dec_lt n 10) [
  | yes l ↦ rw (lt-ltb n 10 l) (one_digit n k l f)
  | no l ↦ rw (le-ltb n 10 (omega arith)) (longer n turns k (λ j g. fewest_spelled turns (n / 10) j (omega arith) g) (omega arith) f)
]

-- the digits that `io` gives are those of the definition
pub fewest_decimal : (n k : ℕ) → IsDigitCount 10 1 n k → last_digits 10 k n ≡ decimal n
unfolding decimal
fewest_decimal n k f = fewest_spelled n n k (omega arith) f

-- a last digit more, of a number that has two or more
longer_length : (n k : ℕ) (front : List ℕ) (d : ℕ) → ((j : ℕ) → n / 10 < 10 ^ suc j → length front ≤ suc j) → 10 ≤ n → n < 10 ^ suc k
    → length (front ++ (d ∷ [])) ≤ suc k
longer_length n zero front d h l m = absurd (omega arith)
longer_length n (suc k) front d h l m =
    let below : n < 10 ^ suc k * 10 = rw (pow-suc 10 (suc k)) at m in
    let size = h k ((div-lt_iff_lt-mul {k = 10} {x = n} {y = 10 ^ suc k} (lit< tt)).1 below) in
    omega (arith, length-append front (d ∷ []))

spelled_length : (turns n k : ℕ) → n < 10 ^ suc k → length (spelled turns n) ≤ suc k
unfolding spelled
spelled_length zero n k h = omega arith
spelled_length (suc turns) n k h = elim (dec_lt n 10) [
  | yes l ↦ rw (lt-ltb n 10 l) (omega arith)
  | no l ↦
      rw (le-ltb n 10 (omega arith))
      (longer_length n k (spelled turns (n / 10)) (48 + n % 10) (λ j m. spelled_length turns (n / 10) j m) (omega arith) h)
]

-- a number of 64 bits has at most 20 digits
pub decimal_length : (n : ℕ) → n < 18446744073709551616 → length (decimal n) ≤ 20
unfolding decimal
decimal_length n h = spelled_length n n 19 (omega arith)
