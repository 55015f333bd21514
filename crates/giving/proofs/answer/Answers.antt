-- As the rows are, with what becomes of the line.
use Rattle.std.proofs.Common.{◌∙◌, sym, ap}
use Rattle.std.proofs.lemmas.Result.{err_from_is_err_and}
use Rattle.definition.specs.State.{fate_of}
use Rattle.driver_core.specs.Answer.{state_since}
use Rattle.giving.specs.Fated.{with_fate}
use Rattle.giving.proofs.Laws.{given_as}
use Rattle.giving.proofs.answer.Goals as goal

pub returns-in_err-rows : goal.returns-in_err-rows
unfolding fate_of state_since
returns-in_err-rows c =
    let is = given_as c.args.walk c.args.since.now c.args.length c.args.hit _ c.args.table.now c.becomes-fate.ensures in
    let p = err_from_is_err_and c.from_residual.result c.from_residual.ensures.1 in
    record {
      value = rw (p.1, p.2) (sym (is.0 ∙ ap (with_fate c.becomes-fate.result) (sym c.give.ensures.value ∙ c.in_err-rows.was)));
      table_after = c.give.ensures.table_after ∙ sym is.1;
    }

pub returns : goal.returns
unfolding fate_of state_since
returns c =
    let is = given_as c.args.walk c.args.since.now c.args.length c.args.hit _ c.args.table.now c.becomes-fate.ensures in
    record {
      value = sym (is.0 ∙ ap (with_fate c.becomes-fate.result) (sym c.give.ensures.value ∙ c.in_ok-rows.was));
      table_after = c.give.ensures.table_after ∙ sym is.1;
    }
