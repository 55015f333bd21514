-- In the order of the refusals: a Quit byte at the front, the size, the window, and else what comes in.
use Rattle.std.proofs.Common.{◌≡◌, ◌-◌, ◌≤◌, min, sym, ◌∙◌, arith}
use Rattle.definition.specs.Bounds.{max_input}
use Rattle.session.specs.Held.{kept_from}
use Rattle.session.specs.Sound.{taken_bytes}
use Rattle.reaching.specs.Reached.{reached}
use Rattle.offering.proofs.Laws.{path_front, path_size, path_stuck, path_take}
use Rattle.offering.proofs.decide_from.Goals as goal

pub overflow_sub-free : goal.overflow_sub-free
unfolding kept_from
overflow_sub-free c =
    let from_le : c.args.from ≤ c.args.s.places.end =
    omega (arith, c.requires.sounded.from_is, c.requires.sounded.agree) in
    omega (arith, from_le)

pub taken_bytes-left-requires : goal.taken_bytes-left-requires
taken_bytes-left-requires c = (c.requires.sounded.agree.places.next_end, c.requires.sounded.agree.walk.size)

pub overflow_sub-left : goal.overflow_sub-left
unfolding taken_bytes
overflow_sub-left c = omega (arith, c.taken_bytes-left.ensures, c.requires.sounded.agree)

pub returns-then-reach : goal.returns-then-reach
returns-then-reach c =
    let reach-as : c.reaches-reach.result ≡ reached c.args.s.walk.settings.binary c.args.piece.now (min (c.args.s.places.window - (c.args.s.places.end - c.args.from)) (max_input - taken_bytes c.args.s)) =
    rw (c.min.ensures, c.taken_bytes-left.ensures) at c.reaches-reach.ensures in
    path_front c.args.s c.args.window.now c.args.piece.now c.args.from c.requires.sounded c.requires.piece_value (rw (reach-as) at c.if-reach.true)

pub returns-then-left-eq0 : goal.returns-then-left-eq0
returns-then-left-eq0 c =
    let reach-as : c.reaches-reach.result ≡ reached c.args.s.walk.settings.binary c.args.piece.now (min (c.args.s.places.window - (c.args.s.places.end - c.args.from)) (max_input - taken_bytes c.args.s)) =
    rw (c.min.ensures, c.taken_bytes-left.ensures) at c.reaches-reach.ensures in
    let left_as : c.taken_bytes-left.result ≡ taken_bytes c.args.s =
    c.taken_bytes-left.ensures in
    path_size c.args.s c.args.window.now c.args.piece.now c.args.from c.requires.sounded c.requires.piece_value (rw (reach-as) at c.if-reach.false)
    (rw left_as at c.if-left-eq0.true)

pub is_stuck-requires : goal.is_stuck-requires
is_stuck-requires c = (c.requires.sounded.agree.places.next_end, omega (arith, c.requires.sounded.agree, c.requires.sounded.same))

pub returns-then-is_stuck : goal.returns-then-is_stuck
returns-then-is_stuck c =
    let reach-as : c.reaches-reach.result ≡ reached c.args.s.walk.settings.binary c.args.piece.now (min (c.args.s.places.window - (c.args.s.places.end - c.args.from)) (max_input - taken_bytes c.args.s)) =
    rw (c.min.ensures, c.taken_bytes-left.ensures) at c.reaches-reach.ensures in
    let left_as : c.taken_bytes-left.result ≡ taken_bytes c.args.s =
    c.taken_bytes-left.ensures in
    path_stuck c.args.s c.args.window.now c.args.piece.now c.args.from c.requires.sounded c.requires.piece_value (rw (reach-as) at c.if-reach.false)
    (rw left_as at c.if-left-eq0.false) (sym c.is_stuck.ensures ∙ c.if-is_stuck.true)

pub returns : goal.returns
returns c =
    let reach-as : c.reaches-reach.result ≡ reached c.args.s.walk.settings.binary c.args.piece.now (min (c.args.s.places.window - (c.args.s.places.end - c.args.from)) (max_input - taken_bytes c.args.s)) =
    rw (c.min.ensures, c.taken_bytes-left.ensures) at c.reaches-reach.ensures in
    let left_as : c.taken_bytes-left.result ≡ taken_bytes c.args.s =
    c.taken_bytes-left.ensures in
    rw (reach-as)
    (path_take c.args.s c.args.window.now c.args.piece.now c.args.from c.requires.sounded c.requires.piece_value (rw (reach-as) at c.if-reach.false)
    (rw left_as at c.if-left-eq0.false) (sym c.is_stuck.ensures ∙ c.if-is_stuck.false))
