-- Why a line gets what it gets: a case for each fate.
use Prim.Native.Nat.{ℕ, ◌<◌}
use mathlib.Core.Path.{◌≡◌, refl}
use mathlib.Core.Bool.{Bool, true, false, cond, not, xor, and-eq-true_iff}
use native.Mathlib.Omega.{arith}
use lib.Dec.{ltb}
use borrow.Author.Tests.{ltb-true, ltb-false, not-true}
use Rattle.definition.specs.declared.Fate.{Fate}
use Rattle.definition.specs.declared.Fate.TheVariants.{Match, After, Other, NoRow}
use Rattle.definition.specs.declared.Settings.{Settings}
use Rattle.definition.specs.Definition.{fate, limit_reached, selected}

module _ (c : Settings) (sel : Bool) (left : ℕ) where
  pub data FateCase : Fate → Type 0 where
    selects : sel ≡ true → FateCase Match
    owes : sel ≡ false → 0 < left → FateCase After
    passes : sel ≡ false → left ≡ 0 → c.passthru ≡ true → FateCase Other
    skips : sel ≡ false → left ≡ 0 → c.passthru ≡ false → FateCase NoRow

  pub fate_case : FateCase (fate c sel left)
  unfolding fate
  fate_case = go sel (ltb 0 left) c.passthru refl refl refl
    where
      go : (b l p : Bool) → sel ≡ b → ltb 0 left ≡ l → c.passthru ≡ p → FateCase (cond b Match (cond l After (cond p Other NoRow)))
      go true l p e h k = selects e
      go false true p e h k = owes e (ltb-true 0 left h)
      go false false true e h k = passes e (omega (arith, ltb-false 0 left h)) k
      go false false false e h k = skips e (omega (arith, ltb-false 0 left h)) k

-- a line is selected only while the limit is not reached
pub selected_below : (c : Settings) (matches : ℕ) (answer : Bool) → selected c matches answer ≡ true → limit_reached c.limit matches ≡ false
unfolding selected
selected_below c matches answer e =
    not-true (limit_reached c.limit matches) ((and-eq-true_iff (not (limit_reached c.limit matches)) (xor answer c.invert)).0 e).0
