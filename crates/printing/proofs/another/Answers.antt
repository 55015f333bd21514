-- A space, and the number behind it.
use Rattle.output.proofs.Laws.{told_more}
use Rattle.printing.proofs.another.Goals as goal

pub returns-clause-told : goal.returns-clause-told
returns-clause-told c = told_more c.text.ensures c.number.ensures.told
