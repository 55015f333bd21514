-- The lines counted and those of the rest are all the lines.
use native.Mathlib.Omega.{arith}
use Rattle.std.proofs.lemmas.Grind.{common_steps}
use Rattle.definition.specs.Text.{lines}
use Rattle.lines.proofs.Laws.{count_head}
use Rattle.lines.proofs.count.Goals as goal

pub loop-rest-preserved : goal.loop-rest-preserved
loop-rest-preserved c = grind (arith, common_steps, count_head)

pub returns : goal.returns
unfolding lines
returns c = grind (arith, common_steps)
