-- What the search learns of places: a block without a hit, and places added to those already seen.
use Prim.Native.Nat.{ℕ, zero, suc, ◌+◌, ◌-◌, ◌<◌}
use mathlib.Core.Path.{◌≡◌, refl, sym, ◌∙◌}
use mathlib.Core.Bool.{Bool, true, false, ◌||◌, false≢true, true≢false}
use mathlib.Core.List.{List}
use native.Mathlib.Decide.{dec_lt}
use native.Mathlib.Omega.{arith}
use lib.Dec.{eqb}
use lib.ListN.{length, get_or, drop}
use lib.Seq.{get_or-drop}
use borrow.Author.Tests.{eq-eqb}
use Rattle.literal_places.specs.Literal.{starts_with, stands}
use Rattle.literal_places.specs.Sweeps.{Nowhere, Swept, any_hit}
use Rattle.literal_places.proofs.Stands.{starts_byte}

-- without a hit, one of the two bytes is missing at each of the places
no_hit : (literal line : List ℕ) (first second at n k : ℕ) → any_hit literal line first second at n ≡ false → k < n
    → get_or line (at + first + k) 0 ≡ get_or literal first 0 → get_or line (at + second + k) 0 ≡ get_or literal second 0 → ⊥
unfolding any_hit
no_hit literal line first second at zero k h l s t = omega arith
no_hit literal line first second at (suc n) k h l s t =
    elim (dec_lt k n) [
      | yes m ↦ no_hit literal line first second at n k (or_left (any_hit literal line first second at n) _ h) m s t
      | no m ↦ last (omega arith)
    ]
  where
    or_left : (u v : Bool) → (u || v) ≡ false → u ≡ false
    or_left true v e = e
    or_left false v e = refl

    or_right : (u v : Bool) → (u || v) ≡ false → v ≡ false
    or_right true v e = absurd (true≢false e)
    or_right false v e = e

    last : k ≡ n → ⊥
    last e =
        let x : eqb (get_or line (at + first + n) 0) (get_or literal first 0) ≡ true = eq-eqb _ _ (rw e at s) in
        let y : eqb (get_or line (at + second + n) 0) (get_or literal second 0) ≡ true = eq-eqb _ _ (rw e at t) in
        true≢false (sym (rw (x, y)) ∙ or_right (any_hit literal line first second at n) _ h)

-- so the literal stands at none of them
pub miss : (literal line : List ℕ) {first second : ℕ} {r : Bool} (at n : ℕ) → first < length literal → second < length literal
    → r ≡ any_hit literal line first second at n → r ≡ false → Nowhere literal line at (at + n)
miss literal line {first} {second} at n first_in second_in told left j l m = go (starts_with literal (drop j line)) refl
  where
    byte : (k : ℕ) → k < length literal → starts_with literal (drop j line) ≡ true → get_or line (at + k + (j - at)) 0 ≡ get_or literal k 0
    byte k i e =
        let p : at + k + (j - at) ≡ j + k = omega arith in
        rw p (sym (get_or-drop j line k 0) ∙ starts_byte literal (drop j line) k e i)

    go : (t : Bool) → starts_with literal (drop j line) ≡ t → t ≡ false
    go true e =
        absurd
        (no_hit literal line first second at n (j - at) (sym told ∙ left) (omega arith) (byte first first_in e)
        (byte second second_in e))
    go false e = refl

-- a place that was compared
pub no_start : (literal line : List ℕ) (at : ℕ) → starts_with literal (drop at line) ≡ false → Nowhere literal line at (at + 1)
no_start literal line at h j l m =
    let e : j ≡ at = omega arith in
    rw e h

pub swept_found : {literal line : List ℕ} {from to : ℕ} → stands literal line ≡ true → Swept literal line from to true
swept_found h = record { found = λ e. h; none = λ e. absurd (true≢false e) }

-- places after those already seen
pub nowhere_more : (literal line : List ℕ) (from i to : ℕ) → Nowhere literal line from i → Nowhere literal line i to → Nowhere literal line from to
nowhere_more literal line from i to seen more j l m = elim (dec_lt j i) [ yes k ↦ seen j l k | no k ↦ more j (omega arith) m ]

pub swept_none : {literal line : List ℕ} {from to : ℕ} → Nowhere literal line from to → Swept literal line from to false
swept_none h = record { found = λ e. absurd (false≢true e); none = λ e. h }
