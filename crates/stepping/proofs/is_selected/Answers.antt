-- Below the limit, and the answer differs from invert.
use mathlib.Core.Bool.{xor}
use Rattle.std.proofs.Common.{arith}
use Rattle.std.proofs.lemmas.Grind.{common_steps}
use Rattle.definition.specs.Definition.{selected}
use Rattle.stepping.proofs.is_selected.Goals as goal

pub returns : goal.returns
unfolding selected xor
returns c = grind (arith, common_steps)
