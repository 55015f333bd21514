-- The number of a refusal, and no count.
use Rattle.std.specs.Prelude.{Err}
use Rattle.std.proofs.Common.{refl}
use Rattle.replay_calls.proofs.refused.Goals as goal

pub returns : goal.returns
returns c = (Err c.args.refused.refusal, rw c.from.ensures refl)
