-- Each thing that a read can give is what the machine hears.
use Rattle.std.specs.Prelude.{◌≡◌, Ok, Err}
use mathlib.Core.Path.{◌∙◌, ap}
use Rattle.streams.specs.declared.Failure.TheVariants.{Errno}
use Rattle.hearing.proofs.Hearings.{heard_failed, heard_more}
use Rattle.hearing.proofs.heard.Goals as goal

pub returns-in-Ok-eq0 : goal.returns-in-Ok-eq0
returns-in-Ok-eq0 g c =
    let end : c.args.got ≡ Ok 0 = cc in
    λ window literal. rw end (c.ended.ensures window literal c.args.input.now (rw end at c.requires))

pub returns-in-Ok : goal.returns-in-Ok
returns-in-Ok g c =
    λ window literal. rw (c.more.ensures, c.in-Ok.is) (heard_more window literal c.in-Ok.n (rw c.in-Ok.is at c.in-Ok.n-test).1 (rw c.in-Ok.is at c.requires))

pub returns-in-Err-Errno : goal.returns-in-Err-Errno
returns-in-Err-Errno g c =
    let failure : c.args.got ≡ Err (Errno c.in-Err-Errno.reason) = c.in-Err-Errno.is ∙ ap (λ e. Err e) (rw c.in-Err-Errno.is at c.in-Err-Errno.field-0-is) in
    λ window literal. rw failure (heard_failed window literal (rw failure at c.requires) c.failed.ensures)
