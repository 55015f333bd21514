-- Laws of lines numbered back from a place.
use Rattle.std.specs.Prelude.{◌≡◌, ℕ, zero, suc, ◌+◌, ◌-◌, ◌≤◌, List, [], ◌∷◌, ◌++◌, length, drop}
use mathlib.Core.Path.{refl, ap}
use mathlib.Core.List.{flatten}
use native.Mathlib.Omega.{arith}
use lib.ListN.{length-append}
use Rattle.definition.specs.Definition.{bytes_of, last_of}
use Rattle.definition.specs.Rows.{placed}
use Rattle.definition.proofs.Lists.{flatten_append}
use Rattle.driver_core.specs.Answer.{back_from}

back_from_drop : (j o n : ℕ) (ls : List (List ℕ)) → drop j (back_from o n ls) ≡ back_from o n (drop j ls)
unfolding back_from
back_from_drop zero o n ls = refl
back_from_drop (suc j) o n [] = refl
back_from_drop (suc j) o n (l ∷ ls) = back_from_drop j o n ls

pub length_back_from : (o n : ℕ) (ls : List (List ℕ)) → length (back_from o n ls) ≡ length ls
unfolding back_from
length_back_from o n [] = refl
length_back_from o n (l ∷ ls) = ap suc (length_back_from o n ls)

pub back_from_last : (k o n : ℕ) (ls : List (List ℕ)) → last_of k (back_from o n ls) ≡ back_from o n (last_of k ls)
unfolding last_of
back_from_last k o n ls = rw (length_back_from o n ls) (back_from_drop (length ls - k) o n ls)

-- where the numbers stay at 0 or above, the same lines numbered on from the first of them
pub back_from_placed : (o n : ℕ) (ls : List (List ℕ)) → length (flatten ls) ≤ o → length ls ≤ n
    → back_from o n ls ≡ placed (o - length (flatten ls)) (n - length ls) ls
unfolding back_from placed flatten
back_from_placed o n [] h k = refl
back_from_placed o n (l ∷ ls) h k =
    let bytes = length-append l (flatten ls) in
    let offset : o - length (l ++ flatten ls) + length l ≡ o - length (flatten ls) = omega (arith, bytes) in
    let number : n - suc (length ls) + 1 ≡ n - length ls = omega arith in
    rw (back_from_placed o n ls (omega (arith, bytes)) (omega arith), offset, number)

pub back_from_bytes : (o n : ℕ) (ls : List (List ℕ)) → bytes_of (back_from o n ls) ≡ length (flatten ls)
unfolding back_from bytes_of flatten
back_from_bytes o n [] = refl
back_from_bytes o n (l ∷ ls) = omega (arith, back_from_bytes o n ls, length-append l (flatten ls))

-- one line more
pub back_from_snoc : (o n : ℕ) (ls : List (List ℕ)) (l : List ℕ)
    → back_from (o + length l) (n + 1) (ls ++ (l ∷ [])) ≡ back_from o n ls ++ (record { offset = o; length = length l; number = n } ∷ [])
unfolding back_from flatten
back_from_snoc o n [] l =
    let offset : o + length l - length (l ++ []) ≡ o = omega (arith, length-append l []) in
    let number : n + 1 - 1 ≡ n = omega arith in
    rw (offset, number)
back_from_snoc o n (x ∷ ls) l =
    let bytes = length-append x (flatten (ls ++ (l ∷ []))) in
    let more = length-append (flatten ls) (l ++ []) in
    let joined = ap length (flatten_append ls (l ∷ [])) in
    let offset : o + length l - length (x ++ flatten (ls ++ (l ∷ []))) ≡ o - length (x ++ flatten ls) =
    omega (arith, bytes, more, joined, length-append x (flatten ls), length-append l [])
    in
    let number : n + 1 - suc (length (ls ++ (l ∷ []))) ≡ n - suc (length ls) = omega (arith, length-append ls (l ∷ [])) in
    rw (offset, number, back_from_snoc o n ls l)
