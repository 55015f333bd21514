-- Rolled, taken in, and the session with the places moved along.
use Rattle.session.specs.declared.Session.{Session}
use Rattle.offering.specs.Plan.{Storing}
use Rattle.std.proofs.Common.{ℕ, List, ◌+◌, ◌-◌, ◌≤◌, length, sym, ap, ◌∙◌, arith, length-take-le}
use Rattle.definition.specs.Bounds.{max_input, max_window}
use Rattle.line_buffer.proofs.Laws.{length_rolled}
use Rattle.session.specs.Calls.{stored}
use Rattle.session.specs.Held.{kept_from}
use Rattle.session.specs.Sound.{taken_bytes}
use Rattle.offering.proofs.Laws.{stored_bytes}
use Rattle.offering.proofs.store.Goals as goal

record Facts (s : Session) (w : List ℕ) (from n : ℕ) : Type 0 where
  back : from ≤ s.places.next
  ordered : from ≤ s.places.end
  inside : s.places.end ≤ length w
  fits : s.places.end - from + n ≤ s.places.window
  most : s.places.window ≤ max_window
  size : s.walk.bytes + (s.places.end - s.places.next) ≤ max_input

facts_of : (s : Session) (w piece : List ℕ) (from n : ℕ) → Storing s w piece from n → Facts s w from n
unfolding kept_from
facts_of s w piece from n q =
    let r = q.sounded in
    let a = r.agree in
    record {
      back = omega (arith, r.from_is);
      ordered = omega (arith, r.from_is, a);
      inside = omega (arith, r.same, a);
      fits = q.fits;
      most = a.places.most;
      size = a.walk.size;
    }

pub slice_bounds-part-end : goal.slice_bounds-part-end
slice_bounds-part-end c = sym (length-take-le c.args.plan.taken c.args.piece.now c.requires.some)

pub roll-requires : goal.roll-requires
unfolding kept_from
roll-requires c =
    let facts = facts_of c.args.s c.args.window.now c.args.piece.now c.args.plan.from c.args.plan.taken c.requires in
    (facts.ordered, facts.inside)

pub overflow_sub-end : goal.overflow_sub-end
unfolding kept_from
overflow_sub-end c =
    let facts = facts_of c.args.s c.args.window.now c.args.piece.now c.args.plan.from c.args.plan.taken c.requires in
    facts.ordered

pub take_in-requires : goal.take_in-requires
unfolding kept_from
take_in-requires c =
    let facts = facts_of c.args.s c.args.window.now c.args.piece.now c.args.plan.from c.args.plan.taken c.requires in
    let f = facts in
    let rolled-length = ap length c.roll.ensures ∙ length_rolled c.args.plan.from c.args.s.places.end c.args.window.now f.ordered f.inside in
    omega (arith, f, rolled-length, length-take-le c.args.plan.taken c.args.piece.now c.requires.some, c.requires.sounded.same)

pub taken_bytes-taken-requires : goal.taken_bytes-taken-requires
unfolding kept_from
taken_bytes-taken-requires c =
    let facts = facts_of c.args.s c.args.window.now c.args.piece.now c.args.plan.from c.args.plan.taken c.requires in
    (c.requires.sounded.agree.places.next_end, facts.size)

pub first_replaced-replaced-requires : goal.first_replaced-replaced-requires
unfolding kept_from taken_bytes
first_replaced-replaced-requires c =
    let facts = facts_of c.args.s c.args.window.now c.args.piece.now c.args.plan.from c.args.plan.taken c.requires in
    omega (arith, c.taken_bytes-taken.ensures, facts.size)

pub overflow_sub-places : goal.overflow_sub-places
unfolding kept_from
overflow_sub-places c =
    let facts = facts_of c.args.s c.args.window.now c.args.piece.now c.args.plan.from c.args.plan.taken c.requires in
    facts.back

pub overflow_sub-places-2 : goal.overflow_sub-places-2
unfolding kept_from
overflow_sub-places-2 c =
    let facts = facts_of c.args.s c.args.window.now c.args.piece.now c.args.plan.from c.args.plan.taken c.requires in
    facts.ordered

pub overflow_add-places : goal.overflow_add-places
unfolding kept_from
overflow_add-places c =
    let facts = facts_of c.args.s c.args.window.now c.args.piece.now c.args.plan.from c.args.plan.taken c.requires in
    omega (arith, facts)

pub returns : goal.returns
unfolding stored
returns c = record { value = rw (c.input_after-input.ensures, c.first_replaced-replaced.ensures, c.taken_bytes-taken.ensures, c.requires.sounded.from_is); window_after = c.take_in.ensures ∙ rw c.roll.ensures (stored_bytes c.args.s c.args.window.now c.args.piece.now c.args.plan.from c.args.plan.taken c.requires) }
