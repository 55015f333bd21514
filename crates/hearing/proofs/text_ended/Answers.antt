-- The end is told, or its refusal is; the machine hears the same.
use Rattle.hearing.proofs.Hearings.{heard_end, heard_refused, heard_told, told_wants}
use Rattle.hearing.proofs.text_ended.Goals as goal

pub returns-in-Goes : goal.returns-in-Goes
returns-in-Goes c = λ window literal input hearing. rw c.going.ensures (heard_told window literal hearing c.requires.0 c.tell_end-fed.ensures c.in-Goes.is)

pub returns-in-Wants : goal.returns-in-Wants
returns-in-Wants c = λ window literal input hearing. absurd (told_wants c.args.s.searcher.session c.tell_end-fed.ensures c.in-Wants.is)

pub returns-in-Refuses : goal.returns-in-Refuses
returns-in-Refuses c = λ window literal input hearing. heard_refused window literal hearing c.requires.0 c.tell_end-fed.ensures c.in-Refuses.is c.refused.ensures

pub returns-in-Ends : goal.returns-in-Ends
returns-in-Ends c = λ window literal input hearing. heard_end window literal hearing c.requires.0 c.tell_end-fed.ensures c.in-Ends.is c.finished.ensures
