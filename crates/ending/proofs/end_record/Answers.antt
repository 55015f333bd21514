-- The numbers agree: so the places are in order, and a record is made.
use Rattle.std.proofs.Common.{sym, ◌∙◌}
use Rattle.session.proofs.Agree.{agree_of}
use Rattle.ending.proofs.end_record.Goals as goal

pub overflow_sub-p : goal.overflow_sub-p
overflow_sub-p c = (agree_of c.args.s (sym c.agree.ensures ∙ c.if-not-agree.false)).places.next_end

pub record_of-requires : goal.record_of-requires
record_of-requires c = agree_of c.args.s (sym c.agree.ensures ∙ c.if-not-agree.false)
