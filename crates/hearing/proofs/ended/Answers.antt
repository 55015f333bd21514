-- In either of the first two lines the machine is refused by 1; in the text the end is told.
use Rattle.hearing.proofs.Hearings.{heard_short}
use Rattle.hearing.proofs.ended.Goals as goal

pub returns-in-First : goal.returns-in-First
returns-in-First c = λ window literal input hearing. heard_short window literal hearing c.in-First.is (rw c.from.ensures at c.refused.ensures)
