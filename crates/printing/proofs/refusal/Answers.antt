-- The word and its space, the number, a newline.
use Rattle.output.proofs.Laws.{told_more}
use Rattle.printing.proofs.Laws.{refused_parts, told_same}
use Rattle.printing.proofs.refusal.Goals as goal

pub returns-clause-told : goal.returns-clause-told
returns-clause-told c = told_same (refused_parts c.args.refusal) (told_more (told_more c.text.ensures c.number.ensures.told) c.text-2.ensures)
