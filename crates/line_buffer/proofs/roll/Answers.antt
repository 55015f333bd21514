-- The part stands over the front; one that starts there stays.
use native.Mathlib.Omega.{arith}
use Rattle.std.proofs.lemmas.Grind.{common_steps}
use Rattle.line_buffer.specs.Buffer.{rolled}
use Rattle.line_buffer.proofs.Laws.{roll_none}
use Rattle.line_buffer.proofs.roll.Goals as goal

pub returns-then-from-eq0 : goal.returns-then-from-eq0
returns-then-from-eq0 c = grind (arith, common_steps, roll_none)

pub returns : goal.returns
unfolding rolled
returns c = grind (arith, common_steps)
