-- Four numbers, spaces between them, and a newline.
use Rattle.output.proofs.Laws.{told_more}
use Rattle.printing.proofs.Laws.{four_parts, told_same}
use Rattle.printing.proofs.four.Goals as goal

pub returns-clause-told : goal.returns-clause-told
returns-clause-told c =
    let numbers = told_more (told_more (told_more c.number.ensures.told c.another.ensures.told) c.another-2.ensures.told) c.another-3.ensures.told in
    told_same (four_parts c.args.a c.args.b c.args.c c.args.d) (told_more numbers c.text.ensures)
