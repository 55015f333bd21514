-- Laws of the places in the input, the beginning of what is left and what is left once it was moved; of what is printed, and of states.
use Rattle.std.proofs.Common.{◌≡◌, ℕ, ◌+◌, ◌-◌, ◌≤◌, List, ◌++◌, length, take, drop, refl, ap, arith, length-append, length-take, take-take, take_at}
use lib.Seq.{drop-append-le}
use Rattle.definition.specs.Text.{part, put_at}
use Rattle.line_buffer.specs.Buffer.{rolled}
use Rattle.session.specs.declared.Session.{Session}
use Rattle.session.proofs.Parts.{part_drop, part_length}
use Rattle.output.specs.declared.Pending.{Pending}
use Rattle.output.specs.Output.{Tells}
use Rattle.search_machine.specs.declared.Stage.{Stage}
use Rattle.search_machine.specs.Search.{state_at}

pub part_take : (from to n : ℕ) (xs : List ℕ) → from + n ≤ to → part from (from + n) xs ≡ take n (part from to xs)
part_take from to n xs h =
    let e : from + n - from ≡ n = omega arith in
    rw (e, take-take n (to - from) (drop from xs) (omega arith))

-- what was left, moved to the front
pub part_rolled : (from to : ℕ) (xs : List ℕ) → from ≤ to → to ≤ length xs → part 0 (to - from) (rolled from to xs) ≡ part from to xs
unfolding rolled
part_rolled from to xs h k =
    let e : to - from - 0 ≡ to - from = omega arith in
    rw e (take_at (part from to xs) (drop (to - from) xs) (to - from) (part_length from to xs h k))

-- what was put at a list's front is its beginning
pub take_put : (new old : List ℕ) → take (length new) (put_at 0 new old) ≡ new
unfolding put_at
take_put new old = take_at new (drop (0 + length new) old) (length new) refl

-- what is left does not change with what comes behind it
pub part_front : (from to : ℕ) (xs ys : List ℕ) → from ≤ to → to ≤ length xs → part from to (take to xs ++ ys) ≡ part from to xs
part_front from to xs ys h k =
    let size = length-take to xs in
    let e : to - 0 ≡ to = omega arith in
    let z : 0 + from ≡ from = omega arith in
    let front : drop from (take to xs) ≡ part from to xs = rw (e, z) at (part_drop 0 to from xs) in
    rw (drop-append-le from (take to xs) ys (omega arith), front) (take_at (part from to xs) ys (to - from) (part_length from to xs h k))

-- what is printed lies in the output
pub tells_within : {p q : Pending} {out text after : List ℕ} → p.length ≤ length out → Tells p out text q after → q.length ≤ length after
tells_within {p} {q} {out} {text} {after} h t =
    omega (
      arith,
      ap length t.text_is,
      length-append (take p.length out) text,
      length-take p.length out,
      length-take q.length after,
      t.length_is,
    )

pub same_state : (stage : Stage) (l : List ℕ) {s t : Session} {w v rest left : List ℕ} → s ≡ t → w ≡ v → rest ≡ left
    → state_at stage l s w rest ≡ state_at stage l t v left
same_state stage l e f g = rw (e, f, g)
