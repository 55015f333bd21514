-- Each way a line can stand is a turn of the machine.
use mathlib.Core.Path.{sym, ◌∙◌}
use mathlib.Core.Logic.{inl}
use Rattle.heading.proofs.Heads.{once_long, once_opened, once_unasked, once_wants}
use Rattle.heading.proofs.first.Goals as goal

pub returns-in-Some : goal.returns-in-Some
returns-in-Some c = once_opened c.args.window.now c.requires.1 (sym c.in-Whole.is ∙ c.look.ensures.value) c.requires.0 (sym c.in-Some.is ∙ c.first_line.ensures) c.open.ensures

pub returns-in-None : goal.returns-in-None
returns-in-None c = once_unasked c.args.window.now c.requires.1 (sym c.in-Whole.is ∙ c.look.ensures.value) c.requires.0 (sym c.in-None.is ∙ c.first_line.ensures) (rw c.from.ensures at c.refused.ensures)

pub returns-in-Unfinished : goal.returns-in-Unfinished
returns-in-Unfinished c = rw c.wanting.ensures.value (once_wants c.args.window.now c.requires.1 (inl c.requires.0) (sym c.in-Unfinished.is ∙ c.look.ensures.value) c.in-Unfinished.ensures.stands c.wanting.ensures.input_after c.wanting.auto.input)

pub returns-in-TooLong : goal.returns-in-TooLong
returns-in-TooLong c = once_long c.args.window.now c.requires.1 (inl c.requires.0) (sym c.in-TooLong.is ∙ c.look.ensures.value) (rw c.from-in-TooLong.ensures at c.refused-in-TooLong.ensures)
