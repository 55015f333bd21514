-- Each way a line can stand is a turn of the machine; the literal is what lies before the newline.
use mathlib.Core.Path.{sym, ◌∙◌}
use mathlib.Core.Logic.{inr}
use Rattle.heading.proofs.Heads.{once_begun, once_long, once_wants}
use Rattle.heading.proofs.second.Goals as goal

pub returns-in-Whole : goal.returns-in-Whole
returns-in-Whole c =
    let h = sym c.in-Whole.is ∙ c.look.ensures.value in
    rw c.begun.ensures (once_begun c.args.window.now c.requires.1 h c.requires.0 c.choose.result (rw c.copy_from_slice.ensures.after))

pub returns-in-Unfinished : goal.returns-in-Unfinished
returns-in-Unfinished c = rw c.wanting.ensures.value (once_wants c.args.window.now c.requires.1 (inr c.requires.0) (sym c.in-Unfinished.is ∙ c.look.ensures.value) c.in-Unfinished.ensures.stands c.wanting.ensures.input_after c.wanting.auto.input)

pub returns-in-TooLong : goal.returns-in-TooLong
returns-in-TooLong c = once_long c.args.window.now c.requires.1 (inr c.requires.0) (sym c.in-TooLong.is ∙ c.look.ensures.value) (rw c.from.ensures at c.refused.ensures)
