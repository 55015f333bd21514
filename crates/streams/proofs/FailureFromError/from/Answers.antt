-- The one errno that is a signal is told by its number.
use Rattle.std.proofs.Common.{ap, sym}
use mir.Syntax.{w32}
use mir.Val.{SFits}
use mir.ValLaws.{to_z-of_z}
use Rattle.streams.specs.declared.Failure.TheVariants.{Errno}
use Rattle.streams.specs.Moves.{unmoved_by}
use Rattle.streams.proofs.Laws.{is_signal_lem, no_signal}
use Rattle.streams.proofs.FailureFromError.from.Goals as goal

pub returns-then-error-eq-EINTR : goal.returns-then-error-eq-EINTR
unfolding unmoved_by
returns-then-error-eq-EINTR c =
    let fits : SFits w32 c.errno_of-error.result = record { sfits = c.errno_of-error.type_inv } in
    let signal = is_signal_lem c.errno_of-error.result fits c.if-error-eq-EINTR.true in
    rw (sym c.errno_of-error.ensures, signal)

pub returns : goal.returns
unfolding unmoved_by
returns c =
    let fits : SFits w32 c.errno_of-error.result = record { sfits = c.errno_of-error.type_inv } in
    let failure = no_signal c.errno_of-error.result c.if-error-eq-EINTR.false in
    rw (sym c.errno_of-error.ensures, failure) (ap Errno (to_z-of_z w32 c.errno_of-error.result fits))
