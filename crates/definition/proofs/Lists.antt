-- Laws of lists that the definition leans on and the library lacks: the last n of a list, lists joined, a list written into,
-- and rows read back from a table.
use Prim.Native.Nat.{ℕ, ◌+◌, ◌-◌, ◌≤◌}
use mathlib.Core.Path.{◌≡◌, refl, sym, ◌∙◌, ap}
use mathlib.Core.List.{List, [], ◌∷◌, ◌++◌, append_assoc, flatten, map}
use native.Mathlib.Decide.{dec_le}
use native.Mathlib.Omega.{arith}
use lib.ListN.{length, take, drop, length-append, length-drop, length-take, take-append-drop}
use lib.Seq.{drop-append-add, drop-append-le, drop-drop, drop-length, take_at}
use Rattle.definition.specs.declared.Row.{Row}
use Rattle.definition.specs.Definition.{last_of}
use Rattle.definition.specs.Rows.{flat, rows_in}
use Rattle.definition.specs.Text.{put_at}

module _ {ℓ} {A : Type ℓ} where
  pub length_last_of : (n : ℕ) (xs : List A) → length (last_of n xs) ≡ length xs - (length xs - n)
  unfolding last_of
  length_last_of n xs = length-drop (length xs - n) xs

  pub last_of_append : (n : ℕ) (xs ys : List A) → last_of n (xs ++ ys) ≡ last_of (n - length ys) xs ++ last_of n ys
  unfolding last_of
  last_of_append n xs ys = elim (dec_le n (length ys)) [ yes h ↦ inside h | no h ↦ across (omega arith) ]
    where
      inside : n ≤ length ys → drop (length (xs ++ ys) - n) (xs ++ ys) ≡ drop (length xs - (n - length ys)) xs ++ drop (length ys - n) ys
      inside h =
          let e : length (xs ++ ys) - n ≡ length xs + (length ys - n) = omega (arith, length-append xs ys) in
          let k : length xs - (n - length ys) ≡ length xs = omega arith in
          rw (e, k, drop-length) (drop-append-add xs ys (length ys - n))

      across : length ys ≤ n → drop (length (xs ++ ys) - n) (xs ++ ys) ≡ drop (length xs - (n - length ys)) xs ++ drop (length ys - n) ys
      across h =
          let e : length (xs ++ ys) - n ≡ length xs - (n - length ys) = omega (arith, length-append xs ys) in
          let k : length ys - n ≡ 0 = omega arith in
          rw (e, k) (drop-append-le (length xs - (n - length ys)) xs ys (omega arith))

  pub last_of_last_of : (m n : ℕ) (xs : List A) → m ≤ n → last_of m (last_of n xs) ≡ last_of m xs
  unfolding last_of
  last_of_last_of m n xs h =
      let k = length xs - n in
      let e : k + (length (drop k xs) - m) ≡ length xs - m = omega (arith, length-drop k xs) in
      drop-drop (length (drop k xs) - m) k xs ∙ rw e

  -- what is dropped before an append is dropped after it
  pub last_of_trim_append : (n : ℕ) (xs ys : List A) → last_of n (last_of n xs ++ ys) ≡ last_of n (xs ++ ys)
  last_of_trim_append n xs ys =
      last_of_append n (last_of n xs) ys
      ∙ ap (λ zs. zs ++ last_of n ys) (last_of_last_of (n - length ys) n xs (omega arith))
      ∙ sym (last_of_append n xs ys)

pub flatten_append : (xs ys : List (List ℕ)) → flatten (xs ++ ys) ≡ flatten xs ++ flatten ys
unfolding flatten
flatten_append [] ys = refl
flatten_append (x ∷ xs) ys = rw (flatten_append xs ys) (sym (append_assoc x (flatten xs) (flatten ys)))

-- # Writing into a list

pub put_at_none : (at : ℕ) (old : List ℕ) → put_at at [] old ≡ old
unfolding put_at
put_at_none at old =
    let e : at + 0 ≡ at = omega arith in
    rw e (take-append-drop at old)

pub length_put_at : (at : ℕ) (new old : List ℕ) → at + length new ≤ length old → length (put_at at new old) ≡ length old
unfolding put_at
length_put_at at new old h =
    omega (
      arith,
      length-append (take at old) (new ++ drop (at + length new) old),
      length-append new (drop (at + length new) old),
      length-take at old,
      length-drop (at + length new) old,
    )

-- one after the other, or both at once
pub put_at_append : (at : ℕ) (xs ys old : List ℕ) → at + length xs ≤ length old
    → put_at at (xs ++ ys) old ≡ put_at (at + length xs) ys (put_at at xs old)
unfolding put_at
put_at_append at xs ys old h =
    let front = take at old ++ xs in
    let rest = drop (at + length xs) old in
    let size : length front ≡ at + length xs = omega (arith, length-append (take at old) xs, length-take at old) in
    let once : take at old ++ (xs ++ rest) ≡ front ++ rest = sym (append_assoc (take at old) xs rest) in
    let far : at + length (xs ++ ys) ≡ at + length xs + length ys = omega (arith, length-append xs ys) in
    let past : drop (at + length xs + length ys) (front ++ rest) ≡ drop (at + length xs + length ys) old =
    ap (λ n. drop (n + length ys) (front ++ rest)) (sym size) ∙ drop-append-add front rest (length ys) ∙ drop-drop (length ys) (at + length xs) old
    in
    rw (once, take_at front rest (at + length xs) size, past, far) (simp append_assoc)

-- # Rows read back from the table

pub rows_in_put : (rs : List Row) (table : List ℕ) → rows_in (length rs) (flatten (map flat rs) ++ table) ≡ map flat rs
unfolding flatten
rows_in_put [] table = refl
rows_in_put (r ∷ rs) table = ap (λ xs. flat r ∷ xs) (rows_in_put rs table)
