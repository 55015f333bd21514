-- Laws of the text under a binary byte: how the text of an input is that of its parts.
use Prim.Native.Nat.{ℕ, zero, suc, ◌≤◌}
use mathlib.Core.Path.{◌≡◌, refl, ◌∙◌, ap}
use mathlib.Core.Bool.{Bool, true, false, cond}
use mathlib.Core.List.{List, [], ◌∷◌, ◌++◌}
use native.Mathlib.Omega.{arith}
use lib.Dec.{eqb}
use lib.ListN.{length, take, drop, length-append, length-map}
use Rattle.definition.specs.declared.Binary.{Binary}
use Rattle.definition.specs.declared.Binary.TheVariants.{Ignore, Quit, Convert}
use Rattle.definition.specs.declared.Settings.{Settings}
use Rattle.definition.specs.Text.{first_place, replaced, text, text_under, up_to}
use Rattle.definition.proofs.Terminator.{up_to_none, up_to_append_none}

-- no byte of these ends the text
abbrev pub Uncut : Settings → List ℕ → Type 0
Uncut c bytes = length (text c bytes) ≡ length bytes

replaced_append : (b t : ℕ) (xs ys : List ℕ) → replaced b t (xs ++ ys) ≡ replaced b t xs ++ replaced b t ys
unfolding replaced
replaced_append b t [] ys = refl
replaced_append b t (x ∷ xs) ys = ap (λ zs. cond (eqb x b) t x ∷ zs) (replaced_append b t xs ys)

under_append : (k : Binary) (t : ℕ) (xs ys : List ℕ) → length (text_under k t xs) ≡ length xs
    → text_under k t (xs ++ ys) ≡ text_under k t xs ++ text_under k t ys
unfolding first_place
under_append Ignore t xs ys h = refl
under_append (Quit b) t xs ys h =
    rw (up_to_none b xs (omega (arith, h))) (up_to_append_none b xs ys (omega (arith, h)))
under_append (Convert b) t xs ys h = replaced_append b t xs ys

pub text_append : (c : Settings) (xs ys : List ℕ) → Uncut c xs → text c (xs ++ ys) ≡ text c xs ++ text c ys
unfolding text
text_append c xs ys h = under_append c.binary c.terminator xs ys h

pub uncut_append : (c : Settings) (xs ys : List ℕ) → Uncut c xs → Uncut c ys → Uncut c (xs ++ ys)
uncut_append c xs ys h k =
    ap length (text_append c xs ys h) ∙ length-append (text c xs) (text c ys) ∙ omega (arith, h, k, length-append xs ys)

pub up_to_take : (b n : ℕ) (xs : List ℕ) → n ≤ first_place b xs → up_to b (take n xs) ≡ take n xs
unfolding up_to first_place
up_to_take b zero xs h = refl
up_to_take b (suc n) [] h = refl
up_to_take b (suc n) (x ∷ xs) h = go (eqb x b) h (up_to_take b n xs)
  where
    go : (k : Bool) → suc n ≤ length (cond k [] (x ∷ up_to b xs)) → (n ≤ length (up_to b xs) → up_to b (take n xs) ≡ take n xs)
        → cond k [] (x ∷ up_to b (take n xs)) ≡ x ∷ take n xs
    go true h ih = absurd (omega arith)
    go false h ih = ap (λ ys. x ∷ ys) (ih (omega arith))

-- what stands at the first place of b ends the text there
pub up_to_drop : (b : ℕ) (xs : List ℕ) → up_to b (drop (first_place b xs) xs) ≡ []
unfolding up_to first_place
up_to_drop b [] = refl
up_to_drop b (x ∷ xs) = go (eqb x b) refl (up_to_drop b xs)
  where
    go : (k : Bool) → eqb x b ≡ k → up_to b (drop (length (up_to b xs)) xs) ≡ [] → up_to b (drop (length (cond k [] (x ∷ up_to b xs))) (x ∷ xs)) ≡ []
    go true e ih = rw e
    go false e ih = ih

pub length_replaced : (b t : ℕ) (xs : List ℕ) → length (replaced b t xs) ≡ length xs
unfolding replaced
length_replaced b t xs = length-map xs _
