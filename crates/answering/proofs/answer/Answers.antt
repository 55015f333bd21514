-- As the core answers it, with the places moved on.
use Rattle.std.proofs.Common.{ap, ◌∙◌}
use Rattle.answering.proofs.Laws.{answered_given, in_window, table_given, waiting_none}
use Rattle.answering.proofs.answer.Goals as goal

pub returns-in_default : goal.returns-in_default
returns-in_default c =
    let is = waiting_none c.args.s c.args.window.now c.args.table.now c.args.hit c.in_default.ensures in
    record { value = is.0; table_after = is.1 }

pub returns-in-Err : goal.returns-in-Err
returns-in-Err c =
    record {
      value = ap (in_window c.args.s c.in-Some.length) c.in-Err.ensures.value ∙ answered_given _ _ _ _ _ c.in-Some.ensures;
      table_after = c.answer.ensures.table_after ∙ table_given _ _ _ _ _ c.in-Some.ensures;
    }

pub returns-in-Ok : goal.returns-in-Ok
returns-in-Ok c =
    record {
      value =
          rw (c.places_next-places.ensures, c.gets_row.ensures, c.step-walk.ensures)
          (ap (in_window c.args.s c.in-Some.length) c.in-Ok.ensures.value ∙ answered_given _ _ _ _ _ c.in-Some.ensures);
      table_after = c.answer.ensures.table_after ∙ table_given _ _ _ _ _ c.in-Some.ensures;
    }
