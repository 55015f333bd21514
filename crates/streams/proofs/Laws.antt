-- Laws of what a call did, for the functions here and for the programs above that read.
use Prim.Native.Nat.{ℕ, suc, zero, ◌+◌, ◌-◌, ◌≤◌, ◌<◌, min}
use mathlib.Core.Path.{◌≡◌, refl}
use mathlib.Core.Bool.{Bool, true, false, cond}
use mathlib.Core.List.{List, ◌++◌}
use native.Mathlib.Omega.{arith}
use lib.IntN.{ℤ, pos, negsuc}
use lib.ListN.{length, take, drop, length-append, length-drop, length-take}
use mir.Syntax.{w32}
use mir.Val.{SFits, of_z}
use borrow.Author.Tests.{eq-eqb, ne_eqb}
use lib.Seq.{take-add}
use Rattle.std.specs.Prelude.{Option, Result, Ok, Err}
use Rattle.std.specs.Io.{ReadsAtMost, WritesAtMost}
use Rattle.std.specs.Io.KnownBytes.{Appends, WriteAppends}
use Rattle.std.proofs.KnownBytes.{Appends-kept, Appends-trans}
use Rattle.std.specs.declared.io.Error.{Error}
use Rattle.streams.specs.declared.Failure.TheVariants.{Interrupted, Errno}
use Rattle.streams.specs.Moves.{MovedWithin, errno_of, is_signal, left_of, moved_in, unmoved_by}

-- # What a call did

pub is_signal_lem : (z : ℤ) → SFits w32 z → of_z w32 z ≡ 4 → is_signal z ≡ true
is_signal_lem (pos n) f h = eq-eqb n 4 h
is_signal_lem (negsuc n) f h =
    let m : n < 2147483648 = f.sfits in
    let e : 4294967296 - suc n ≡ 4 = h in
    absurd (omega arith)

pub no_signal : (z : ℤ) → (of_z w32 z ≡ 4 → ⊥) → is_signal z ≡ false
no_signal (pos n) h = ne_eqb n 4 h
no_signal (negsuc n) h = refl

-- what a read moved, which its buffer holds, lies in it
pub moved_within : (got : Result ℕ Error) (buffer : List ℕ) → ReadsAtMost got buffer → MovedWithin (moved_in got (length buffer)) buffer
moved_within (Ok n) buffer h = omega arith
moved_within (Err e) buffer h = tt

-- # The bytes that a writer holds

-- where a write of what was left of a text leaves some of it, what lies before that is written
pub wrote_front : (first old new : Option (List ℕ)) (from left n : ℕ) (text rest : List ℕ) (got : Result ℕ Error) → from + left ≡ length text
    → rest ≡ drop from text → Appends first old (take from text) → WritesAtMost got rest → WriteAppends old new got rest
    → Ok n ≡ left_of (moved_in got left) left → (n ≤ length text) × Appends first new (take (length text - n) text)
unfolding unmoved_by
wrote_front first old new from left n text rest (Ok m) place e before most bytes is =
    let size : length rest ≡ left = rw e (omega (arith, length-drop from text)) in
    let least : min m left ≡ m = omega (arith, most) in
    some m (omega (arith, most)) bytes (rw least at is)
  where
    some : (m : ℕ) → m ≤ left → Appends old new (take m rest) → Ok n ≡ left_of (Ok m) left → (n ≤ length text) × Appends first new (take (length text - n) text)
    some zero l k is = absurd (cc)
    some (suc m) l k is =
        let behind : n ≡ left - suc m = cc in
        let to : length text - n ≡ from + suc m = omega arith in
        let joined = Appends-trans _ _ _ _ _ before k in
        (omega arith, rw (to, take-add from (suc m) text) (rw e at joined))
wrote_front first old new from left n text rest (Err e') place e before most bytes is = none (is_signal (errno_of e')) is
  where
    none : (b : Bool) → Ok n ≡ left_of (Err (cond b Interrupted (Errno (errno_of e')))) left → (n ≤ length text) × Appends first new (take (length text - n) text)
    none true is =
        let all : n ≡ left = cc in
        let to : length text - n ≡ from = omega arith in
        (omega arith, rw to (Appends-kept _ _ _ _ before bytes))
    none false is = absurd (cc)

-- # A buffer read into

-- a tail that was lent and came back leaves the length
pub tail_back : (at : ℕ) (new xs : List ℕ) → at ≤ length xs → length new ≡ length (take (length xs - at) (drop at xs))
    → length (take at xs ++ (new ++ drop (length xs - at) (drop at xs))) ≡ length xs
tail_back at new xs h e =
    omega (
      arith,
      length-append (take at xs) (new ++ drop (length xs - at) (drop at xs)),
      length-append new (drop (length xs - at) (drop at xs)),
      length-take at xs,
      length-take (length xs - at) (drop at xs),
      length-drop (length xs - at) (drop at xs),
      length-drop at xs,
    )
