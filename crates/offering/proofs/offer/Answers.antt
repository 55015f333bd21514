-- By the plan: stored, nothing, or refused.
use Rattle.std.proofs.Common.{sym, ap, ◌∙◌, Ok}
use Rattle.session.specs.Calls.{offer_result, offered_window}
use Rattle.offering.proofs.Laws.{nothing_is, refused_is, store_is, storing_of}
use Rattle.offering.proofs.offer.Goals as goal

pub store-next-requires : goal.store-next-requires
store-next-requires c = storing_of c.args.s c.args.window.now c.args.piece.now c.in-Ok-Some.plan (ap Ok (sym c.in-Ok-Some.field-0-is) ∙ sym c.in-Ok-Some.is ∙ c.decide.ensures)

pub returns-in-Ok-Some : goal.returns-in-Ok-Some
unfolding offer_result offered_window
returns-in-Ok-Some c =
    let is = (store_is c.args.s c.args.window.now c.args.piece.now c.in-Ok-Some.plan (ap Ok (sym c.in-Ok-Some.field-0-is) ∙ sym c.in-Ok-Some.is ∙ c.decide.ensures)).0 in
    record { value = rw (is, c.store-next.ensures.value); window_after = rw is c.store-next.ensures.window_after }

pub returns-in-Ok-None : goal.returns-in-Ok-None
unfolding offer_result offered_window
returns-in-Ok-None c =
    let is = nothing_is c.args.s c.args.window.now c.args.piece.now (ap Ok (sym c.in-Ok-None.field-0-is) ∙ sym c.in-Ok-None.is ∙ c.decide.ensures) in
    record { value = rw is; window_after = rw is }

pub returns-in-Err : goal.returns-in-Err
unfolding offer_result offered_window
returns-in-Err c =
    let is = refused_is c.args.s c.args.window.now c.args.piece.now c.in-Err.refusal (sym c.in-Err.is ∙ c.decide.ensures) in
    record { value = rw is; window_after = rw is }
