-- Laws of parts of a window, of the kept part and of the part of a piece before a Quit byte: all hold for any window and piece.
use Rattle.std.proofs.Common.{◌≡◌, ℕ, zero, suc, ◌+◌, ◌-◌, ◌≤◌, List, [], ◌∷◌, ◌++◌, length, take, drop, sym, ap, ◌∙◌, arith, length-drop, length-take, drop-drop, take-add}
use mathlib.Core.List.{flatten}
use lib.Seq.{take-nil}
use Rattle.definition.specs.declared.Binary.{Binary}
use Rattle.definition.specs.declared.Binary.TheVariants.{Ignore, Quit, Convert}
use Rattle.definition.specs.Definition.{last_of, kept_lines}
use Rattle.definition.specs.Text.{part}
use Rattle.definition.proofs.Terminator.{first_le, flatten_last}
use Rattle.session.specs.declared.Session.{Session}
use Rattle.session.specs.Calls.{quit_place}
use Rattle.session.specs.Held.{kept_bytes, kept_from, since_lines}

pub part_length : (a e : ℕ) (w : List ℕ) → a ≤ e → e ≤ length w → length (part a e w) ≡ e - a
part_length a e w h k = omega (arith, length-take (e - a) (drop a w), length-drop a w)

pub part_none : (a : ℕ) (w : List ℕ) → part a a w ≡ []
part_none a w =
    let z : a - a ≡ 0 = omega arith in
    rw z

pub part_split : (a b e : ℕ) (w : List ℕ) → a ≤ b → b ≤ e → part a e w ≡ part a b w ++ part b e w
part_split a b e w h k =
    let n : e - a ≡ (b - a) + (e - b) = omega arith in
    let m : a + (b - a) ≡ b = omega arith in
    rw n (take-add (b - a) (e - b) (drop a w) ∙ rw (drop-drop (b - a) a w, m))

drop_take : (n m : ℕ) (xs : List ℕ) → drop n (take m xs) ≡ take (m - n) (drop n xs)
drop_take zero m xs =
    let e : m - 0 ≡ m = omega arith in
    rw e
drop_take (suc n) zero xs =
    let e : 0 - suc n ≡ 0 = omega arith in
    rw e
drop_take (suc n) (suc m) [] = sym (take-nil (suc m - suc n))
drop_take (suc n) (suc m) (x ∷ xs) =
    let e : suc m - suc n ≡ m - n = omega arith in
    rw e (drop_take n m xs)

-- the end of a part
pub part_drop : (a e n : ℕ) (w : List ℕ) → drop n (part a e w) ≡ part (a + n) e w
part_drop a e n w =
    let k : e - a - n ≡ e - (a + n) = omega arith in
    drop_take n (e - a) (drop a w) ∙ rw (drop-drop n a w, k)

-- # The kept part

pub kept_le : (s : Session) (w : List ℕ) → kept_bytes s w ≤ s.places.next - s.places.floor
unfolding kept_bytes since_lines
kept_le s w =
    omega (
      arith,
      (flatten_last (kept_lines s.walk.settings) s.walk.settings.terminator (part s.places.floor s.places.next w)).0,
      length-take (s.places.next - s.places.floor) (drop s.places.floor w),
    )

-- it is what the window holds before the first unanswered byte
pub kept_part_lem : (s : Session) (w : List ℕ) → s.places.floor ≤ s.places.next → s.places.next ≤ length w
    → part (kept_from s w) s.places.next w ≡ flatten (last_of (kept_lines s.walk.settings) (since_lines s w))
unfolding kept_from kept_bytes since_lines
kept_part_lem s w h k =
    let x = part s.places.floor s.places.next w in
    let f = flatten (last_of (kept_lines s.walk.settings) (since_lines s w)) in
    let last = flatten_last (kept_lines s.walk.settings) s.walk.settings.terminator x in
    let size : length x ≡ s.places.next - s.places.floor = part_length s.places.floor s.places.next w h k in
    let from : s.places.floor + (length x - length f) ≡ s.places.next - length f = omega (arith, last.0) in
    ap (λ a. part a s.places.next w) (sym from) ∙ sym (part_drop s.places.floor s.places.next (length x - length f) w) ∙ last.1

-- # A Quit byte

pub quit_le : (k : Binary) (piece : List ℕ) → quit_place k piece ≤ length piece
quit_le Ignore piece = omega arith
quit_le (Quit b) piece = first_le b piece
quit_le (Convert b) piece = omega arith
