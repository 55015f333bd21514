-- What is left of the word, behind the value so far, says what the whole word says.
use native.Mathlib.Omega.{arith}
use Rattle.std.proofs.lemmas.Grind.{common_steps}
use Rattle.line_words.proofs.Laws.{digits_none, digits_step, digits_stop}
use Rattle.line_words.proofs.digits.Goals as goal

pub returns-in_err-value : goal.returns-in_err-value
returns-in_err-value c = grind (arith, common_steps, digits_stop)

pub loop-glyph-preserved : goal.loop-glyph-preserved
loop-glyph-preserved c = grind (arith, common_steps, digits_step)

pub returns : goal.returns
returns c = grind (arith, common_steps, digits_none)
