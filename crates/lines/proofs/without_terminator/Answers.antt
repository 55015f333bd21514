-- The last byte is the terminator, and goes, or it is not, and all stays.
use native.Mathlib.Omega.{arith}
use Rattle.std.proofs.lemmas.Grind.{common_steps}
use Rattle.lines.proofs.Laws.{without_empty, without_none, without_one}
use Rattle.lines.proofs.without_terminator.Goals as goal

pub returns-in-len1-up-clause-result_value : goal.returns-in-len1-up-clause-result_value
returns-in-len1-up-clause-result_value c = grind (arith, common_steps, without_one)

pub returns-in_default-clause-result_value : goal.returns-in_default-clause-result_value
returns-in_default-clause-result_value c = grind (arith, common_steps, without_empty)

pub returns-in_default-2-clause-result_value : goal.returns-in_default-2-clause-result_value
returns-in_default-2-clause-result_value c = grind (arith, common_steps, without_none)
