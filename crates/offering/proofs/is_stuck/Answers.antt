-- The window is looked at only where there is no room.
use Rattle.std.proofs.Common.{not, sym, ap, ◌∙◌, arith, eq-eqb, ne_eqb}
use Rattle.std.specs.Prelude.{is_some}
use Rattle.session.specs.Held.{is_open, unanswered, waits}
use Rattle.offering.proofs.Laws.{and-false, none_ahead}
use Rattle.offering.proofs.is_stuck.Goals as goal

pub returns-then-free-gt0 : goal.returns-then-free-gt0
returns-then-free-gt0 c = rw (ne_eqb c.args.free 0 (λ z. omega arith)) (sym (and-false (not (waits c.args.s c.args.window.now))))

pub returns : goal.returns
unfolding waits
returns c =
    rw (eq-eqb c.args.free 0 (omega arith))
    (none_ahead c.args.s.walk (is_open c.args.s.places.input) (unanswered c.args.s c.args.window.now) c.is_none.result
    (ap is_some (sym c.next_line.ensures) ∙ c.is_none.ensures))
