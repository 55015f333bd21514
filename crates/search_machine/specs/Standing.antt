-- What the code is held to: how its values and buffers stand for the machine's state, and what each part of it does to the machine.
use Rattle.std.specs.Prelude.{◌≡◌, ℕ, zero, suc, ◌+◌, ◌-◌, ◌*◌, ◌<◌, ◌≤◌, false, List, [], length, take, Result, Ok, Err}
use Rattle.definition.specs.Numbers.{refusal_number}
use Rattle.definition.specs.Text.{part}
use Rattle.rare_bytes.specs.declared.Pair.{Pair}
use Rattle.machine.specs.Machine.{Closes, Leads, Turn, ended, ends, failed, goes, some, wants}
use Rattle.machine.specs.Program.{table_size}
use Rattle.searcher.specs.declared.Searcher.{Searcher}
use Rattle.searcher.specs.Door.{searcher}
use Rattle.session.specs.declared.Refused.{Refused}
use Rattle.session.specs.declared.Session.{Session}
use Rattle.session.specs.Sound.{closed}
use Rattle.streams.specs.declared.Failure.{Failure}
use Rattle.streams.specs.declared.Failure.TheVariants.{Interrupted, Errno}
use Rattle.output.specs.declared.Pending.{Pending}
use Rattle.output.specs.Output.{Tells, none}
use Rattle.search_machine.specs.declared.Phase.{Phase}
use Rattle.search_machine.specs.declared.Phase.TheVariants.{Going, Wants, Over}
use Rattle.search_machine.specs.declared.Search.{Search}
use Rattle.search_machine.specs.declared.Stage.TheVariants.{First, Second, Text}
use Rattle.search_machine.specs.Head.{longest}
use Rattle.search_machine.specs.Search.{State, hears_of, search, state_at, turn_of, window_size}
use Rattle.printing.specs.Texts.{line_most, refused_text, row_most}

-- the machine's state: literal and what is left of the input lie in the buffers
abbrev pub seen : Search → List ℕ → List ℕ → List ℕ → State
seen s window literal input =
    state_at s.stage (take s.size literal) s.searcher.session window (part s.from s.to input)

-- what is pending
abbrev pub printed : Search → List ℕ → List ℕ
printed r out = take r.pending.length out

-- # The values that stand for it

abbrev pub begins : Search
begins =
    record {
      stage = First;
      phase = Going;
      searcher = searcher closed;
      size = 0;
      pair = record { first = 0; second = 0 };
      from = 0;
      to = 0;
      pending = none;
    }

abbrev pub going_with : Search → Searcher → ℕ → Pending → Search
going_with s searcher from pending =
    record {
      stage = s.stage;
      phase = Going;
      searcher = searcher;
      size = s.size;
      pair = s.pair;
      from = from;
      to = s.to;
      pending = pending;
    }

abbrev pub opened_with : Search → Searcher → ℕ → Search
opened_with s searcher from =
    record {
      stage = Second;
      phase = Going;
      searcher = searcher;
      size = s.size;
      pair = s.pair;
      from = from;
      to = s.to;
      pending = s.pending;
    }

abbrev pub begun_with : Search → ℕ → Pair → ℕ → Search
begun_with s size pair from =
    record {
      stage = Text;
      phase = Going;
      searcher = s.searcher;
      size = size;
      pair = pair;
      from = from;
      to = s.to;
      pending = s.pending;
    }

-- what was left has moved to the input's front
abbrev pub wanting_with : Search → Search
wanting_with s =
    record {
      stage = s.stage;
      phase = Wants;
      searcher = s.searcher;
      size = s.size;
      pair = s.pair;
      from = 0;
      to = s.to - s.from;
      pending = s.pending;
    }

abbrev pub with_more : Search → ℕ → Search
with_more s n =
    record {
      stage = s.stage;
      phase = Going;
      searcher = s.searcher;
      size = s.size;
      pair = s.pair;
      from = s.from;
      to = s.to + n;
      pending = s.pending;
    }

abbrev pub over_with : Search → Pending → Search
over_with s pending =
    record {
      stage = s.stage;
      phase = Over;
      searcher = s.searcher;
      size = s.size;
      pair = s.pair;
      from = s.from;
      to = s.to;
      pending = pending;
    }

abbrev pub written_out : Search → Search
written_out s =
    record {
      stage = s.stage;
      phase = s.phase;
      searcher = s.searcher;
      size = s.size;
      pair = s.pair;
      from = s.from;
      to = s.to;
      pending = none;
    }

-- # Turns

-- the most that one turn prints: a row for each of 1,000 lines before, a break and the match
abbrev pub turn_most : ℕ
turn_most = row_most * 1002

-- where the values lie in the buffers
pub record Placed (s : Search) (input : List ℕ) : Type 0 where
  pub literal_in : s.size ≤ longest
  pub from_to : s.from ≤ s.to
  pub to_in : s.to ≤ length input

pub record NonePending (s : Search) : Type 0 where
  pub none : s.pending.length ≡ 0
  pub kept : s.pending.lost ≡ false

-- the buffers that are lent
pub record Lent (window table literal input out : List ℕ) : Type 0 where
  pub window_is : length window ≡ window_size
  pub table_is : length table ≡ table_size
  pub literal_room : longest ≤ length literal
  pub input_room : longest < length input
  pub out_room : turn_most ≤ length out

-- what a turn asks of them
pub record Ready (s : Search) (window table literal input out : List ℕ) : Type 0 where
  pub placed : Placed s input
  pub nothing : NonePending s
  pub lent : Lent window table literal input out

-- the same in the two lines before the text
pub record HeadReady (s : Search) (literal input out : List ℕ) : Type 0 where
  pub placed : Placed s input
  pub nothing : NonePending s
  pub literal_room : longest ≤ length literal
  pub input_room : longest < length input
  pub out_room : line_most ≤ length out

-- what is pending lies in the output, and no text was lost
pub record Collects (r : Search) (out : List ℕ) : Type 0 where
  pub within : r.pending.length ≤ length out
  pub kept : r.pending.lost ≡ false

-- where a read is wanted there is room for it
abbrev pub HasRoom : Phase → ℕ → List ℕ → Type 0
HasRoom Going to input = Unit {0}
HasRoom Wants to input = to < length input
HasRoom Over to input = Unit {0}

-- What some turns did, by how the program then stands: at least one was made; or the machine now wants a read; or all is printed.
abbrev pub Does : Phase → ℕ → State → List ℕ → State → Type 0
Does Going k st text next = (0 < k) × Leads search k st text next
Does Wants k st text next = Leads search k st text next × (turn_of next ≡ wants next)
Does Over k st text next = Closes search k st text

pub record Turned (st : State) (r : Search) (window literal input out : List ℕ) : Type 0 where
  pub count : ℕ
  pub does : Does r.phase count st (printed r out) (seen r window literal input)
  pub room : HasRoom r.phase r.to input
  pub placed : Placed r input
  pub collects : Collects r out

-- all is told but for what is pending: a text stands behind what was
abbrev pub OverWith : Search → List ℕ → List ℕ → Search → List ℕ → Type 0
OverWith s text out r after = (r ≡ over_with s r.pending) × Tells s.pending out text r.pending after

-- an opening was served, and the second line starts at a place of the input; or it was refused, and that is printed
abbrev pub OpenedTo : Search → Result Session (Refused Session) → ℕ → List ℕ → Search → List ℕ → Type 0
OpenedTo s (Ok opened) from out r after = (r ≡ opened_with s (searcher opened) from) × (after ≡ out)
OpenedTo s (Err refused) from out r after = OverWith s (refused_text (refusal_number refused.refusal)) out r after

-- # What a read gave

-- the read as the machine hears it: no byte is the end; else its bytes lie behind what was left; where a signal came first it waits on
abbrev pub heard_as : Result ℕ Failure → ℕ → List ℕ → State → Turn State
heard_as (Ok zero) to input st = hears_of ended st
heard_as (Ok (suc n)) to input st = hears_of (some (part to (to + suc n) input)) st
heard_as (Err Interrupted) to input st = wants st
heard_as (Err (Errno e)) to input st = hears_of failed st

-- what the program then does, by how it stands: it goes on with a text printed, wants a read with none, or is over with one
abbrev pub Gives : Phase → List ℕ → State → Turn State → Type 0
Gives Going text st turn = turn ≡ goes text st
Gives Wants text st turn = (turn ≡ wants st) × (text ≡ [])
Gives Over text st turn = turn ≡ ends text

pub record Heard (s : Search) (got : Result ℕ Failure) (window literal input : List ℕ) (r : Search) (out : List ℕ) : Type 0 where
  pub hears : Gives r.phase (printed r out) (seen r window literal input) (heard_as got s.to input (seen s window literal input))
  pub room : HasRoom r.phase r.to input
  pub placed : Placed r input
  pub collects : Collects r out

-- how many bytes a read can have moved
abbrev pub Fits : Result ℕ Failure → ℕ → List ℕ → Type 0
Fits (Ok n) to input = to + n ≤ length input
Fits (Err e) to input = Unit {0}

-- What a read asks of the buffers: there was room for it, so that only the end of the input moves no byte.
pub record Hearing (s : Search) (got : Result ℕ Failure) (input out : List ℕ) : Type 0 where
  pub wanted : s.phase ≡ Wants
  pub placed : Placed s input
  pub nothing : NonePending s
  pub room : s.to < length input
  pub fits : Fits got s.to input
  pub out_room : line_most ≤ length out

-- # A step, and a write after it

-- between a write and the next step nothing is pending, and where a read is wanted there is room for it
pub record Rests (s : Search) (input : List ℕ) : Type 0 where
  pub placed : Placed s input
  pub room : HasRoom s.phase s.to input
  pub nothing : NonePending s

-- a read was made, which left the machine's state as it was, and was heard
pub record ReadIn (s : Search) (window literal input : List ℕ) (r : Search) (window' literal' input' out : List ℕ) : Type 0 where
  pub got : Result ℕ Failure
  pub stands : seen s window' literal' input' ≡ seen s window literal input
  pub heard : Heard s got window' literal' input' r out

-- what a step did, by the phase before it: some turns, a read, or nothing
abbrev pub Stepped : Phase → Search → List ℕ → List ℕ → List ℕ → Search → List ℕ → List ℕ → List ℕ → List ℕ → Type 0
Stepped Going s window literal input r window' literal' input' out = Turned (seen s window literal input) r window' literal' input' out
Stepped Wants s window literal input r window' literal' input' out = ReadIn s window literal input r window' literal' input' out
Stepped Over s window literal input r window' literal' input' out = r ≡ s
