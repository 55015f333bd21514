-- The word and its space, then the four numbers.
use Rattle.output.proofs.Laws.{told_more}
use Rattle.printing.proofs.end.Goals as goal

pub returns-clause-told : goal.returns-clause-told
returns-clause-told c = told_more c.text.ensures c.four.ensures.told
