-- Each pattern is a case of the definition.
use native.Mathlib.Omega.{arith}
use Rattle.std.proofs.lemmas.Grind.{common_steps}
use Rattle.line_words.proofs.Laws.{decimal_empty, decimal_more, decimal_one, decimal_zero}
use Rattle.line_words.proofs.decimal.Goals as goal

pub returns-in_default : goal.returns-in_default
returns-in_default c = grind (arith, common_steps, decimal_more, decimal_one)

pub returns-in-empty : goal.returns-in-empty
returns-in-empty c = grind (arith, common_steps, decimal_empty)

pub returns-in-48 : goal.returns-in-48
returns-in-48 c = grind (arith, common_steps, decimal_zero)
