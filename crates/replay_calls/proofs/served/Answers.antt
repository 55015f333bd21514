-- A count.
use Rattle.std.specs.Prelude.{Ok}
use Rattle.std.proofs.Common.{refl}
use Rattle.replay_calls.proofs.served.Goals as goal

pub returns : goal.returns
returns c = (Ok c.args.count, refl)
