-- The part shown lies in the window where it is told to lie: the promise of specs/Place.antt.
use Rattle.std.proofs.Common.{◌≡◌, ℕ, ◌+◌, ◌-◌, ◌≤◌, Bool, true, false, cond, eqb, List, [], ◌∷◌, length, take, drop, refl, ap, ◌∙◌, arith, length-take, take-take}
use Rattle.definition.specs.Text.{first_length, handed, part, up_to}
use Rattle.driver_core.specs.Walk.{shown_ahead, waits_ahead}
use Rattle.session.specs.Calls.{shown_from, shown_line}
use Rattle.session.specs.Held.{is_open, unanswered}
use Rattle.session.specs.Place.{ShownThere}
use Rattle.session.specs.Sound.{sound}

-- the bytes before the first terminator are a front
up_front : (t : ℕ) (xs : List ℕ) → up_to t xs ≡ take (length (up_to t xs)) xs
unfolding up_to
up_front t [] = refl
up_front t (x ∷ xs) = go (eqb x t) (up_front t xs)
  where
    go : (b : Bool) → up_to t xs ≡ take (length (up_to t xs)) xs → cond b [] (x ∷ up_to t xs) ≡ take (length (cond b [] (x ∷ up_to t xs))) (x ∷ xs)
    go true h = refl
    go false h = ap (λ ys. x ∷ ys) h

-- of a front of a front
front_there : (t l j : ℕ) (xs : List ℕ) → let shown = up_to t (take l (take j xs)) in shown ≡ take (length shown) xs
front_there t l j xs =
    let ys = take l (take j xs) in
    let k = length (up_to t ys) in
    let inside : k ≤ length ys = first_length_lem t ys in
    let size = length-take l (take j xs) in
    up_front t ys ∙ take-take k l (take j xs) (omega (arith, inside, size)) ∙ take-take k j xs (omega (arith, inside, size, length-take j xs))
  where
    first_length_lem : (t : ℕ) (xs : List ℕ) → length (up_to t xs) ≤ length xs
    first_length_lem t xs = omega (arith, ap length (up_front t xs), length-take (length (up_to t xs)) xs)

part_there : (from n : ℕ) (w : List ℕ) → take n (drop from w) ≡ part from (from + n) w
part_there from n w =
    let e : from + n - from ≡ n = omega arith in
    rw e

pub shown_there : ShownThere
unfolding shown_line shown_from shown_ahead unanswered handed
shown_there s w = go (sound s (length w)) (waits_ahead s.walk (is_open s.places.input) (unanswered s w))
  where
    line_here : List ℕ
    line_here = up_to s.walk.settings.terminator (take (first_length s.walk.settings.terminator (unanswered s w)) (unanswered s w))

    go : (b v : Bool)
        → let shown = cond b (cond v line_here []) [] in
        shown ≡ part (cond b s.places.next 0) (cond b s.places.next 0 + length shown) w
    go true true =
        let next = s.places.next in
        front_there s.walk.settings.terminator (first_length s.walk.settings.terminator (unanswered s w)) (s.places.end - next) (drop next w)
        ∙ part_there next (length line_here) w
    go true false = part_there s.places.next 0 w
    go false v = part_there 0 0 w
