-- A program over the driver: it answers the waiting line by a matcher and prints what that brings; where none waits it prints the end
-- record, offers what is left of what was read, or reads.
use Rattle.std.specs.Prelude.{ℕ, ◌+◌, ◌*◌, Bool, cond, List, [], ◌++◌, length, drop, ◌==◌, Result, Ok, Err}
use Rattle.definition.specs.declared.End.{End}
use Rattle.definition.specs.declared.Refusal.{Refusal}
use Rattle.definition.specs.declared.Row.{Row}
use Rattle.definition.specs.declared.Settings.{Settings}
use Rattle.definition.specs.Bounds.{max_context}
use Rattle.definition.specs.Numbers.{refusal_number}
use Rattle.definition.specs.Rows.{row_size}
use Rattle.driver_core.specs.Answer.{AnswerDecision, AnswerRefused, Give}
use Rattle.session.specs.declared.Offered.{Offered}
use Rattle.session.specs.declared.Refused.{Refused}
use Rattle.session.specs.declared.Session.{Session}
use Rattle.session.specs.Calls.{answer_rows, answer_session, answering, offer_result, offered_window, opened, record_result, shown_line, tell_result}
use Rattle.machine.specs.declared.Fed.{Fed}
use Rattle.machine.specs.declared.Next.{Next}
use Rattle.machine.specs.declared.Next.TheVariants.{Goes, Wants, Refuses, Ends}
use Rattle.machine.specs.Machine.{Machine, Read, Turn, ended, ends, failed, goes, some, wants}

-- # Where no line waits

abbrev pub stays : Session → Next → Fed Session
stays s next = record { session = s; taken = 0; next = next }

abbrev pub fed_by : Session → Result (Offered Session) (Refused Session) → Fed Session
fed_by s (Ok o) = record { session = o.next; taken = o.taken; next = Goes }
fed_by s (Err r) = stays s (Refuses (refusal_number r.refusal))

-- what is at hand is offered, and where nothing is, more is read
abbrev pub fed_more : Session → List ℕ → List ℕ → Fed Session
fed_more s w piece = cond (length piece == 0) (stays s Wants) (fed_by s (offer_result s w piece))

abbrev pub fed_more_window : Session → List ℕ → List ℕ → List ℕ
fed_more_window s w piece = cond (length piece == 0) w (offered_window s w piece)

-- but the end record is printed where it is served
abbrev pub fed_on : Result End Refusal → Session → List ℕ → List ℕ → Fed Session
fed_on (Ok end) s w piece = stays s (Ends end)
fed_on (Err k) s w piece = fed_more s w piece

abbrev pub fed_on_window : Result End Refusal → Session → List ℕ → List ℕ → List ℕ
fed_on_window (Ok end) s w piece = w
fed_on_window (Err k) s w piece = fed_more_window s w piece

-- An answer was refused. By 6, no line waits; any other refusal is told.
unfoldable pub fed : Session → ℕ → List ℕ → List ℕ → Fed Session
fed s refusal w piece =
    cond (refusal == 6) (fed_on (record_result s) s w piece) (stays s (Refuses refusal))

unfoldable pub fed_window : Session → ℕ → List ℕ → List ℕ → List ℕ
fed_window s refusal w piece = cond (refusal == 6) (fed_on_window (record_result s) s w piece) w

-- the end is told
abbrev pub fed_told : Session → Result Session (Refused Session) → Fed Session
fed_told s (Ok t) = record { session = t; taken = 0; next = Goes }
fed_told s (Err r) = stays s (Refuses (refusal_number r.refusal))

unfoldable pub fed_end : Session → Fed Session
fed_end s = fed_told s (tell_result s)

-- # The machine

-- what a program adds to the driver
pub record Program : Type 0 where
  pub matcher : List ℕ → Bool
  -- what is printed of a line, as it was shown, that brought some rows
  pub says : List ℕ → List Row → List ℕ
  pub closes : End → List ℕ
  -- what is printed of a refusal, by its number
  pub refuses : ℕ → List ℕ
  pub fails : List ℕ

-- how it stands: the session, the window, and what was read and not yet taken
pub record Standing : Type 0 where
  pub session : Session
  pub window : List ℕ
  pub rest : List ℕ

-- room for the rows of any answer: B + 2 at most
abbrev pub table_size : ℕ
table_size = row_size * (max_context + 2)

abbrev pub onward : Next → Program → Standing → Turn Standing
onward Goes p st = goes [] st
onward Wants p st = wants st
onward (Refuses k) p st = ends (p.refuses k)
onward (Ends end) p st = ends (p.closes end)

unfoldable pub feeds : Program → Standing → ℕ → Turn Standing
feeds p st k =
    let f = fed st.session k st.window st.rest in
    onward f.next p
    (record { session = f.session; window = fed_window st.session k st.window st.rest; rest = drop f.taken st.rest })

abbrev pub answers : AnswerDecision → Bool → Program → Standing → Turn Standing
answers Give hit p st =
    goes (p.says (shown_line st.session st.window) (answer_rows st.session st.window hit))
    (record { session = answer_session st.session st.window hit; window = st.window; rest = st.rest })
answers (AnswerRefused k) hit p st = feeds p st (refusal_number k)

-- the waiting line is answered as the matcher says of the part shown
unfoldable pub turns : Program → Standing → Turn Standing
turns p st =
    let hit = p.matcher (shown_line st.session st.window) in
    answers (answering st.session st.window table_size hit) hit p st

-- "A read error is never taken for the end of input."
abbrev pub hears : Program → Read → Standing → Turn Standing
hears p (some bytes) st = goes [] (record { session = st.session; window = st.window; rest = st.rest ++ bytes })
hears p ended st =
    onward (fed_end st.session).next p (record { session = (fed_end st.session).session; window = st.window; rest = st.rest })
hears p failed st = ends p.fails

abbrev pub driver : Program → Machine Standing
driver p = record { turn = turns p; hears = hears p }

-- at the start: a search that was opened, and what is at hand
abbrev pub begins : Settings → List ℕ → List ℕ → Standing
begins c w rest = record { session = (opened c (length w)).session; window = w; rest = rest }
