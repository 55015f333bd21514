-- The first line ends after the first terminator, or at the end.
use native.Mathlib.Omega.{arith}
use Rattle.std.proofs.lemmas.Grind.{common_steps}
use Rattle.definition.proofs.Terminator.{first_le}
use Rattle.lines.proofs.Laws.{found_or}
use Rattle.lines.proofs.step.Goals as goal

pub overflow_add-result : goal.overflow_add-result
overflow_add-result c = grind (arith, common_steps, found_or)

pub returns-in-Some : goal.returns-in-Some
returns-in-Some c = grind (arith, common_steps, found_or)

pub returns-in-None : goal.returns-in-None
returns-in-None c = grind (arith, common_steps, found_or, first_le)
