-- A refusal other than 6 is told; else the ways are those of the end record.
use Rattle.std.proofs.Common.{sym, ◌∙◌, eq-eqb, ne_eqb}
use Rattle.machine.specs.Program.{fed, fed_window}
use Rattle.driving.proofs.feed.Goals as goal

pub returns-then-refusal-from : goal.returns-then-refusal-from
unfolding fed fed_window
returns-then-refusal-from c =
    let no = ne_eqb c.args.refusal 6 (λ e. c.if-refusal-from.true (e ∙ sym c.from.ensures)) in
    record { value = rw no c.unchanged.ensures; window_after = rw no }

pub returns-in-Ok : goal.returns-in-Ok
unfolding fed fed_window
returns-in-Ok c =
    let is = eq-eqb c.args.refusal 6 (c.if-refusal-from.false ∙ c.from.ensures) in
    let served = sym c.end_record.ensures ∙ c.in-Ok.is in
    record { value = rw (is, served) c.unchanged-in-Ok.ensures; window_after = rw (is, served) }

pub returns-in-Err : goal.returns-in-Err
unfolding fed fed_window
returns-in-Err c =
    let is = eq-eqb c.args.refusal 6 (c.if-refusal-from.false ∙ c.from.ensures) in
    let refused = sym c.end_record.ensures ∙ c.in-Err.is in
    record { value = rw (is, refused) c.feed_on.ensures.value; window_after = rw (is, refused) c.feed_on.ensures.window_after }
