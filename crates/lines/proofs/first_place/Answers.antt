-- The place found, or the length where there is none.
use native.Mathlib.Omega.{arith}
use Rattle.std.proofs.lemmas.Grind.{common_steps}
use Rattle.definition.proofs.Terminator.{first_le}
use Rattle.lines.proofs.Laws.{found_or}
use Rattle.lines.proofs.first_place.Goals as goal

pub returns : goal.returns
returns c = grind (arith, common_steps, found_or, first_le)
