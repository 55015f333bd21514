-- The second choice leaves out the first.
use Rattle.rare_bytes.proofs.choose.Goals as goal

pub returns : goal.returns
returns c = rw (c.rarest_but-second.ensures, c.rarest_but-first.ensures)
