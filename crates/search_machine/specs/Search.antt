-- The program `search` as a machine: a first line with the settings, a second with the literal, then the text.
use Rattle.std.specs.Prelude.{ℕ, ◌+◌, cond, List, [], ◌++◌, map, length, take, drop, ◌==◌, Option, Some, None}
use mathlib.Core.List.{flatten}
use Rattle.definition.specs.declared.Settings.{Settings}
use Rattle.forms.specs.First.{asked_of}
use Rattle.literal_places.specs.Literal.{stands}
use Rattle.machine.specs.Machine.{Machine, Read, Turn, ended, ends, failed, goes, some, wants}
use Rattle.machine.specs.Program.{Program, Standing, hears, turns}
use Rattle.session.specs.declared.Session.{Session}
use Rattle.session.specs.Calls.{opened}
use Rattle.session.specs.Sound.{closed}
use Rattle.streams.specs.Moves.{failed_read}
use Rattle.search_machine.specs.declared.Seen.{Seen}
use Rattle.search_machine.specs.declared.Seen.TheVariants.{Whole, Unfinished, TooLong}
use Rattle.search_machine.specs.declared.Stage.{Stage}
use Rattle.search_machine.specs.declared.Stage.TheVariants.{First, Second, Text}
use Rattle.search_machine.specs.Head.{looked_at}
use Rattle.printing.specs.Texts.{end_text, refused_text, row_text}

-- "A line matches if it contains the literal"; "Rows are printed as they come"
abbrev pub search_for : List ℕ → Program
search_for literal =
    record {
      matcher = stands literal;
      says = λ line rows. flatten (map row_text rows);
      closes = end_text;
      refuses = refused_text;
      fails = failed_read;
    }

pub record State : Type 0 where
  pub stage : Stage
  pub literal : List ℕ
  pub standing : Standing

abbrev pub state_at : Stage → List ℕ → Session → List ℕ → List ℕ → State
state_at stage literal session window rest =
    record { stage = stage; literal = literal; standing = record { session = session; window = window; rest = rest } }

abbrev pub in_text : List ℕ → Turn Standing → Turn State
in_text literal (goes text st) = goes text (record { stage = Text; literal = literal; standing = st })
in_text literal (wants st) = wants (record { stage = Text; literal = literal; standing = st })
in_text literal (ends text) = ends text

-- # The first line

abbrev pub asks : Option Settings → List ℕ → List ℕ → List ℕ → Turn State
asks (Some c) literal window rest =
    cond ((opened c (length window)).refusal == 0)
    (goes [] (state_at Second literal (opened c (length window)).session window rest))
    (ends (refused_text (opened c (length window)).refusal))
asks None literal window rest = ends (refused_text 1)

abbrev pub first_turn : Seen → State → Turn State
first_turn (Whole n) st =
    asks (asked_of (take n st.standing.rest)) st.literal st.standing.window (drop (n + 1) st.standing.rest)
first_turn Unfinished st = wants st
first_turn TooLong st = ends (refused_text 1)

-- # The second

abbrev pub second_turn : Seen → State → Turn State
second_turn (Whole n) st =
    goes []
    (state_at Text (take n st.standing.rest) st.standing.session st.standing.window (drop (n + 1) st.standing.rest))
second_turn Unfinished st = wants st
second_turn TooLong st = ends (refused_text 1)

-- # The machine

abbrev pub turn_at : Stage → State → Turn State
turn_at First st = first_turn (looked_at st.standing.rest) st
turn_at Second st = second_turn (looked_at st.standing.rest) st
turn_at Text st = in_text st.literal (turns (search_for st.literal) st.standing)

unfoldable pub turn_of : State → Turn State
turn_of st = turn_at st.stage st

-- what a read gave before the text begins
abbrev pub head_hears : Read → State → Turn State
head_hears (some bytes) st =
    goes [] (state_at st.stage st.literal st.standing.session st.standing.window (st.standing.rest ++ bytes))
head_hears ended st = ends (refused_text 1)
head_hears failed st = ends failed_read

abbrev pub hears_at : Stage → Read → State → Turn State
hears_at First r st = head_hears r st
hears_at Second r st = head_hears r st
hears_at Text r st = in_text st.literal (hears (search_for st.literal) r st.standing)

unfoldable pub hears_of : Read → State → Turn State
hears_of r st = hears_at st.stage r st

abbrev pub search : Machine State
search = record { turn = turn_of; hears = hears_of }

-- "window 4,096"
abbrev pub window_size : ℕ
window_size = 4096

-- nothing is read yet, and nothing opened
abbrev pub starts : List ℕ → State
starts window = state_at First [] closed window []
