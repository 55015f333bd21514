-- Refused, or with the end told.
use Rattle.std.proofs.Common.{sym, ◌∙◌}
use Rattle.session.specs.Calls.{tell_result}
use Rattle.machine.specs.Program.{fed_end}
use Rattle.driving.proofs.Laws.{end_refused, end_served}
use Rattle.driving.proofs.tell_end.Goals as goal

pub returns-in-Ok : goal.returns-in-Ok
unfolding fed_end
returns-in-Ok c = end_served c.args.s.session (tell_result c.args.s.session) c.in-Ok.told (sym c.in-Ok.is ∙ c.tell_end.ensures)

pub returns-in-Err : goal.returns-in-Err
unfolding fed_end
returns-in-Err c =
    c.unchanged.ensures ∙ end_refused c.args.s.session (tell_result c.args.s.session) c.in-Err.not_told (sym c.in-Err.is ∙ c.tell_end.ensures) c.from.ensures
