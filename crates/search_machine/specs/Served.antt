-- The whole run: steps, each followed by a write of what it left pending, as `serve` makes them. What is written is what the machine
-- prints for what was read. The proofs stand in proofs/Served.antt, under the statements' names in small letters.
use Rattle.std.specs.Prelude.{◌≡◌, ℕ, zero, suc, ◌+◌, List, [], ◌∷◌, ◌++◌, length, Result, Ok, Err}
use Rattle.definition.specs.Text.{part}
use Rattle.machine.specs.Machine.{Read, Turn, ended, ends, failed, run, some, wants}
use Rattle.machine.specs.Promises.{bytes_of, ending_of}
use Rattle.streams.specs.declared.Failure.{Failure}
use Rattle.streams.specs.declared.Failure.TheVariants.{Interrupted, Errno}
use Rattle.search_machine.specs.declared.Phase.{Phase}
use Rattle.search_machine.specs.declared.Phase.TheVariants.{Going, Wants, Over}
use Rattle.search_machine.specs.declared.Search.{Search}
use Rattle.search_machine.specs.Promises.{SearchPrints, heading_of}
use Rattle.search_machine.specs.Search.{State, search, starts, turn_of, window_size}
use Rattle.search_machine.specs.Standing.{ReadIn, Turned, begins, printed, seen, written_out}

-- how the program stands between a write and the next step
pub record Held : Type 0 where
  pub search : Search
  pub window : List ℕ
  pub literal : List ℕ
  pub input : List ℕ

abbrev pub state_of : Held → State
state_of h = seen h.search h.window h.literal h.input

-- what the machine does from there
abbrev pub next_at : Phase → State → Turn State
next_at Going st = turn_of st
next_at Wants st = wants st
next_at Over st = ends []

abbrev pub next_of : Held → Turn State
next_of h = next_at h.search.phase (state_of h)

-- the read that the machine hears, if any
abbrev pub read_of : Result ℕ Failure → ℕ → List ℕ → List Read
read_of (Ok zero) to input = ended ∷ []
read_of (Ok (suc n)) to input = some (part to (to + suc n) input) ∷ []
read_of (Err Interrupted) to input = []
read_of (Err (Errno e)) to input = failed ∷ []

-- once what a step left pending is written
abbrev pub after : Search → List ℕ → List ℕ → List ℕ → Held
after r window literal input = record { search = written_out r; window = window; literal = literal; input = input }

-- from one standing to another: what was read, and what was written
pub data Served : Held → List Read → List ℕ → Held → Type 0 where
  here : (h : Held) → Served h [] [] h
  turned : (h : Held) (r : Search) (window literal input out : List ℕ) (reads : List Read) (text : List ℕ) (end : Held)
      → h.search.phase ≡ Going
      → Turned (state_of h) r window literal input out
      → Served (after r window literal input) reads text end
      → Served h reads (printed r out ++ text) end
  heard : (h : Held) (r : Search) (window literal input out : List ℕ) (reads : List Read) (text : List ℕ) (end : Held)
      → h.search.phase ≡ Wants
      → (p : ReadIn h.search h.window h.literal h.input r window literal input out)
      → Served (after r window literal input) reads text end
      → Served h (read_of p.got h.search.to input ++ reads) (printed r out ++ text) end

-- some turns lead from one to the other: whatever is read later and however many turns follow, the machine prints that text, and then
-- what it prints from there
abbrev pub Comes : Turn State → List Read → List ℕ → Turn State → Type 0
Comes turn reads text next =
    (count : ℕ) × ((n : ℕ) (later : List Read) → run search (count + n) turn (reads ++ later) ≡ text ++ run search n next later)

-- From the start on, what is written is what the machine prints.
abbrev pub WritesWhatIsPrinted : Type 0
WritesWhatIsPrinted =
    (window literal input : List ℕ) (reads : List Read) (text : List ℕ) (end : Held)
    → Served (record { search = begins; window = window; literal = literal; input = input }) reads text end
    → Comes (turn_of (starts window)) reads text (next_of end)

-- Once the program is over, that is all the machine prints, whatever could be read.
abbrev pub WritesAll : Type 0
WritesAll =
    (window literal input : List ℕ) (reads : List Read) (text : List ℕ) (end : Held) → end.search.phase ≡ Over
    → Served (record { search = begins; window = window; literal = literal; input = input }) reads text end
    → (count : ℕ) × ((n : ℕ) (later : List Read) → run search (count + n) (turn_of (starts window)) (reads ++ later) ≡ text)

-- So all that it wrote is what must be printed of all that it read.
abbrev pub WritesWhatMust : Type 0
WritesWhatMust =
    (window literal input : List ℕ) (reads : List Read) (text : List ℕ) (end : Held) → length window ≡ window_size
    → end.search.phase ≡ Over
    → Served (record { search = begins; window = window; literal = literal; input = input }) reads text end
    → SearchPrints (heading_of (bytes_of reads)) (ending_of reads) text
