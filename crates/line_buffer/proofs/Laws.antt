-- Laws of the window's bytes, for the functions here and the layers above.
use Prim.Native.Nat.{ℕ, zero, suc, ◌+◌, ◌-◌, ◌≤◌, ◌<◌}
use mathlib.Core.Path.{◌≡◌, refl, ◌∙◌, ap}
use mathlib.Core.Bool.{cond}
use mathlib.Core.List.{List, [], ◌∷◌, ◌++◌, append-nil}
use native.Mathlib.Omega.{arith}
use lib.Dec.{eqb}
use lib.ListN.{length, take, drop, get_or, set, drop_of_length-le, length-append, length-drop, take-append-drop}
use lib.Seq.{drop-append-add, drop-drop, length-take-le, take_all, take_at}
use borrow.Rule.Slice.PartMut.{put_mid}
use Rattle.definition.specs.Text.{part, put_at, replaced}
use Rattle.definition.specs.declared.Binary.{Binary}
use Rattle.definition.specs.declared.Binary.TheVariants.{Convert}
use Rattle.definition.proofs.Uncut.{length_replaced}
use Rattle.line_buffer.specs.Buffer.{converted, rolled}

-- one byte more of a piece, replaced and written over others
pub replaced_next : (b t i : ℕ) (piece old : List ℕ) → i < length piece → i < length old
    → let x = get_or piece i 0 in
    set (replaced b t (take i piece) ++ drop i old) i (cond (eqb x b) t x) ≡ replaced b t (take (suc i) piece) ++ drop (suc i) old
unfolding replaced
replaced_next b t i [] old h k = absurd (omega arith)
replaced_next b t i (x ∷ xs) [] h k = absurd (omega arith)
replaced_next b t zero (x ∷ xs) (y ∷ ys) h k = refl
replaced_next b t (suc i) (x ∷ xs) (y ∷ ys) h k = ap (λ zs. cond (eqb x b) t x ∷ zs) (replaced_next b t i xs ys (omega arith) (omega arith))

-- # The window

-- what stands at the front stays there
pub roll_none : (to : ℕ) (w : List ℕ) → rolled 0 to w ≡ w
unfolding rolled
roll_none to w =
    let e : to - 0 ≡ to = omega arith in
    rw e (take-append-drop to w)

pub length_rolled : (from to : ℕ) (w : List ℕ) → from ≤ to → to ≤ length w → length (rolled from to w) ≡ length w
unfolding rolled
length_rolled from to w h k =
    omega (
      arith,
      length-append (part from to w) (drop (to - from) w),
      length-take-le (to - from) (drop from w) (omega (arith, length-drop from w)),
      length-drop (to - from) w,
    )

-- a piece written into the free tail, as the whole window has it
pub tail_put : (end n : ℕ) (bytes w : List ℕ) → length bytes ≡ n → end + n ≤ length w
    → take end w ++ ((bytes ++ drop n (take (length w - end) (drop end w))) ++ drop (length w - end) (drop end w))
    ≡ put_at end bytes w
unfolding put_at
tail_put end n bytes w e h =
    let size = length-drop end w in
    rw (e, take_all (length w - end) (drop end w) (omega arith), drop_of_length-le (drop end w) {i = length w - end} (omega arith))
    (ap (λ xs. take end w ++ xs) (append-nil (bytes ++ drop n (drop end w)) ∙ ap (λ xs. bytes ++ xs) (drop-drop n end w)))

-- a piece written over as many places as it has bytes
pub part_put : (at : ℕ) (bytes w : List ℕ) → put_mid at (at + length bytes - at) w bytes ≡ put_at at bytes w
unfolding put_at
part_put at bytes w =
    let size : at + length bytes - at ≡ length bytes = omega arith in
    rw size (ap (λ xs. take at w ++ (bytes ++ xs)) (drop-drop (length bytes) at w))

-- Rolled, then taken in behind the held part: the window as a list.
pub roll_take_in : (from to : ℕ) (bytes w : List ℕ) → from ≤ to → to ≤ length w
    → put_at (to - from) bytes (rolled from to w) ≡ part from to w ++ (bytes ++ drop (to - from + length bytes) w)
unfolding put_at rolled
roll_take_in from to bytes w h k =
    let held = part from to w in
    let size : length held ≡ to - from = length-take-le (to - from) (drop from w) (omega (arith, length-drop from w)) in
    let past : drop (length held + length bytes) (held ++ drop (to - from) w) ≡ drop (length bytes) (drop (to - from) w) =
    drop-append-add held (drop (to - from) w) (length bytes)
    in
    rw (take_at held (drop (to - from) w) (to - from) size)
    (ap (λ xs. held ++ (bytes ++ xs)) (rw size at past ∙ drop-drop (length bytes) (to - from) w))

-- a piece whose bytes are replaced, in the free tail
pub converted_put : (binary : Binary) (b t at : ℕ) (piece w tail : List ℕ) → binary ≡ Convert b
    → tail ≡ replaced b t piece ++ drop (length piece) (take (length w - at) (drop at w)) → at + length piece ≤ length w
    → take at w ++ (tail ++ drop (length w - at) (drop at w)) ≡ put_at at (converted binary t piece) w
converted_put binary b t at piece w tail e f h =
    rw (e, f) (tail_put at (length piece) (replaced b t piece) w (length_replaced b t piece) h)
