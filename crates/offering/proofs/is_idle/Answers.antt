-- The tests are the definition's, one by one.
use Rattle.offering.specs.Plan.{idle_at}
use Rattle.offering.proofs.is_idle.Goals as goal

pub returns : goal.returns
unfolding idle_at
returns c = rw (c.is_on.ensures, c.is_open.ensures)
