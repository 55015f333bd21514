-- What the machine's functions give, with the session as a searcher: nothing else changes.
use Rattle.machine.specs.declared.Fed.{Fed}
use Rattle.session.specs.declared.Session.{Session}
use Rattle.searcher.specs.declared.Searcher.{Searcher}
use Rattle.searcher.specs.Door.{searcher}

abbrev pub door_fed : Fed Session → Fed Searcher
door_fed f = record { session = searcher f.session; taken = f.taken; next = f.next }
