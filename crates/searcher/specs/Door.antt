-- What the session's calls give with the session as a searcher: nothing else changes at the door.
use Rattle.std.specs.Prelude.{Result, Ok, Err}
use Rattle.session.specs.declared.Answered.{Answered}
use Rattle.session.specs.declared.Offered.{Offered}
use Rattle.session.specs.declared.Refused.{Refused}
use Rattle.session.specs.declared.Session.{Session}
use Rattle.searcher.specs.declared.Searcher.{Searcher}

abbrev pub searcher : Session → Searcher
searcher s = record { session = s }

abbrev pub door_refused : Refused Session → Refused Searcher
door_refused r = record { refusal = r.refusal; next = searcher r.next }

-- of an opening, and of the end told
abbrev pub door_opened : Result Session (Refused Session) → Result Searcher (Refused Searcher)
door_opened (Ok s) = Ok (searcher s)
door_opened (Err r) = Err (door_refused r)

abbrev pub door_offered : Result (Offered Session) (Refused Session) → Result (Offered Searcher) (Refused Searcher)
door_offered (Ok o) = Ok (record { taken = o.taken; next = searcher o.next })
door_offered (Err r) = Err (door_refused r)

abbrev pub door_answered : Result (Answered Session) (Refused Session) → Result (Answered Searcher) (Refused Searcher)
door_answered (Ok a) = Ok (record { rows = a.rows; next = searcher a.next })
door_answered (Err r) = Err (door_refused r)
