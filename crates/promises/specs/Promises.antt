-- The promises to the caller of demand 3, over every run. Each is a statement; its proof, under the same name in small letters
-- (`handed_line` for Handed), stands in proofs/Promises.antt.
use Rattle.std.specs.Prelude.{◌≡◌, ℕ, ◌+◌, ◌-◌, ◌*◌, ◌<◌, ◌≤◌, Bool, ◌⊎◌, List, ◌∷◌, ◌++◌, length, map, take, drop, Ok, true}
use mathlib.Core.List.{flatten}
use Rattle.definition.specs.declared.Going.TheVariants.{On}
use Rattle.definition.specs.declared.Settings.{Settings}
use Rattle.definition.specs.Bounds.{max_input}
use Rattle.definition.specs.Definition.{bytes_of, end_of, gone_lines, kept_part, rows_of}
use Rattle.definition.specs.Rows.{flat, row_size}
use Rattle.definition.specs.Text.{handed, lines, text}
use Rattle.session.specs.Calls.{answered, offered, recorded, shown_line, told, waiting, waiting_refusal}
use Rattle.session.specs.Held.{unanswered}
use Rattle.promises.specs.Run.{At, Run, Steps}
use Rattle.session.specs.Sound.{taken_bytes}

-- the end record is served
abbrev pub Ends : At → Type 0
Ends a = (recorded a.session).refusal ≡ 0

-- an offer of some part of what is left is refused for room
abbrev pub NoRoom : At → Type 0
NoRoom a = (k : ℕ) × ((offered a.session a.window (take k a.rest)).refusal ≡ 3)

-- one list of rows is a beginning of another
abbrev pub Begins : List (List ℕ) → List (List ℕ) → Type 0
Begins xs ys = (more : List (List ℕ)) × (xs ++ more ≡ ys)

-- "within 01's size" is read of the text (docs/DECISIONS.md 12)
abbrev pub Within : Settings → List ℕ → Type 0
Within c input = length (text c input) ≤ max_input

-- Finished. Demand 2: "A finished run's rows and end record equal the whole-input definition": where the end record is served, the rows given
-- are the definition's rows and the end record is the definition's, all fields.
abbrev pub Finished : Type 0
Finished =
    (c : Settings) (input : List ℕ) (answers : ℕ → Bool) (a : At) → Run c input answers a → Ends a
    → (a.rows ≡ map flat (rows_of c input answers)) × ((recorded a.session).end ≡ end_of c input answers)

-- Beginning. Demand 3: "the rows are the definition's, or a beginning of them": at every moment the rows given are a beginning of the definition's.
abbrev pub Beginning : Type 0
Beginning =
    (c : Settings) (input : List ℕ) (answers : ℕ → Bool) (a : At) → Run c input answers a → Begins a.rows (map flat (rows_of c input answers))

-- Prompt. "rows are fixed per answer": at every moment the rows given are the definition's rows of the lines answered so far, no more
-- and no fewer.
abbrev pub Prompt : Type 0
Prompt =
    (c : Settings) (input : List ℕ) (answers : ℕ → Bool) (a : At) → Run c input answers a
    → (before later : List (List ℕ))
    × (lines c.terminator (text c input) ≡ before ++ later)
    × (length before ≡ a.count)
    × (a.rows ≡ map flat (gone_lines c answers before).rows)

-- Cut. Demand 3: "However the input is cut, and whatever the window": two finished runs of one input, settings and answers gave the same rows
-- and the same end record.
abbrev pub Cut : Type 0
Cut =
    (c : Settings) (input : List ℕ) (answers : ℕ → Bool) (a b : At) → Run c input answers a → Run c input answers b → Ends a → Ends b
    → (a.rows ≡ b.rows) × ((recorded a.session).end ≡ (recorded b.session).end)

-- Handed. For demand 2, "The matcher is handed the line without its terminator byte": the part shown is the definition's next line
-- without its terminator, so that a matcher's yes or no per line is the answer that the definition speaks of.
abbrev pub Handed : Type 0
Handed =
    (c : Settings) (input : List ℕ) (answers : ℕ → Bool) (a : At) → Run c input answers a → waiting a.session a.window ≡ Ok true
    → (before : List (List ℕ)) × (line : List ℕ) × (later : List (List ℕ))
    × (lines c.terminator (text c input) ≡ before ++ (line ∷ later))
    × (length before ≡ a.count)
    × (shown_line a.session a.window ≡ handed c.terminator line)

-- what a matcher says of the lines as handed to it: a yes or no by line number
unfoldable pub answers_of : (List ℕ → Bool) → Settings → List ℕ → ℕ → Bool
answers_of matcher c input n =
    matcher (handed c.terminator (flatten (take 1 (drop (n - 1) (lines c.terminator (text c input))))))

-- Asked. So a caller may answer by a matcher, asked about each part shown: that is the answer to the line of that number.
abbrev pub Asked : Type 0
Asked =
    (matcher : List ℕ → Bool) (c : Settings) (input : List ℕ) (a : At) → Run c input (answers_of matcher c input) a
    → waiting a.session a.window ≡ Ok true
    → answers_of matcher c input (a.count + 1) ≡ matcher (shown_line a.session a.window)

-- # The history

-- every byte taken by one moment of a run: first the lines gone through, then what the window holds unanswered
pub record Accounts (c : Settings) (input : List ℕ) (a : At) : Type 0 where
  pub settings_stay : a.session.walk.settings ≡ c
  -- the bytes taken
  pub past : List ℕ
  pub input_is : input ≡ past ++ a.rest
  pub taken_is : taken_bytes a.session ≡ length past
  -- the lines gone through
  pub gone : List (List ℕ)
  pub later : List (List ℕ)
  pub lines_are : lines c.terminator (text c input) ≡ gone ++ later
  pub count_is : length gone ≡ a.count
  pub bytes_are : a.session.walk.bytes ≡ length (flatten gone)
  pub text_is : text c past ≡ flatten gone ++ unanswered a.session a.window

-- Account. "counted from the history while the caller leaves the window untouched": no byte taken is lost, doubled or out of its place.
abbrev pub Account : Type 0
Account = (c : Settings) (input : List ℕ) (answers : ℕ → Bool) (a : At) → Run c input answers a → Accounts c input a

-- # Room

-- "kept bytes before j": of the lines before a line, the bytes of those kept
unfoldable pub kept_before : Settings → (ℕ → Bool) → List (List ℕ) → ℕ
kept_before c answers before = bytes_of (kept_part c (gone_lines c answers before))

-- every one of some lines, with the lines kept before it, fitted into a window
abbrev pub Fitted : Settings → (ℕ → Bool) → ℕ → List (List ℕ) → Type 0
Fitted c answers window ls =
    (before : List (List ℕ)) (line : List ℕ) (later : List (List ℕ)) → ls ≡ before ++ (line ∷ later)
    → kept_before c answers before + length line ≤ window

-- "line j is refused exactly when kept bytes before j plus its own (terminator included) exceed the window": the line after the first
-- `count`, which the definition's walk reaches, is the first that does not fit.
pub record TooLong (c : Settings) (input : List ℕ) (answers : ℕ → Bool) (window count : ℕ) : Type 0 where
  pub before : List (List ℕ)
  pub line : List ℕ
  pub later : List (List ℕ)
  pub lines_are : lines c.terminator (text c input) ≡ before ++ (line ∷ later)
  pub count_is : length before ≡ count
  pub reached : (gone_lines c answers before).going ≡ On
  pub fitted : Fitted c answers window before
  pub exceeds : window < kept_before c answers before + length line

-- Room, exactly. Demand 3: ".. or a beginning of them followed by a refusal for room exactly where 01's room rule says."
pub record Exactly (c : Settings) (input : List ℕ) (answers : ℕ → Bool) (a : At) : Type 0 where
  -- An offer is refused by 3 only where the line reached, with the lines kept before it, exceeds the window; every line before it
  -- fitted, and the rows given by then are those of the lines before it.
  pub only :
      NoRoom a
      → (t : TooLong c input answers (length a.window) a.count) × (a.rows ≡ map flat (gone_lines c answers t.before).rows)
  -- Where there is such a line, no run gets past it, ..
  pub never_past : (count : ℕ) → TooLong c input answers (length a.window) count → a.count ≤ count
  -- .. none is finished, ..
  pub never_ends : (count : ℕ) → TooLong c input answers (length a.window) count → Ends a → ⊥
  -- .. and every run can be carried on to where it is refused by 3 there.
  pub refused :
      Within c input → (count : ℕ) → TooLong c input answers (length a.window) count
      → (b : At) × Steps answers a b × NoRoom b × (b.count ≡ count)

abbrev pub Room : Type 0
Room = (c : Settings) (input : List ℕ) (answers : ℕ → Bool) (a : At) → Run c input answers a → Exactly c input answers a

-- # Served

-- what the calls give at one moment of a run
pub record Serves (answers : ℕ → Bool) (a : At) : Type 0 where
  -- "but 3"
  pub offers :
      (k : ℕ)
      → ((offered a.session a.window (take k a.rest)).refusal ≡ 0)
      ⊎ ((offered a.session a.window (take k a.rest)).refusal ≡ 3)
  pub asks : waiting_refusal (waiting a.session a.window) ≡ 0
  pub answering :
      (table : List ℕ) (hit : Bool) → waiting a.session a.window ≡ Ok true
      → row_size * (a.session.walk.settings.before + 2) ≤ length table → (answered a.session a.window table hit).refusal ≡ 0
  pub tells : (told a.session).refusal ≡ 0
  -- 7 where the end record is asked for too early
  pub records : ((recorded a.session).refusal ≡ 0) ⊎ ((recorded a.session).refusal ≡ 7)
  -- the run at hand, carried on
  pub carries : (b : At) × Steps answers a b × (Ends b ⊎ NoRoom b)

-- Served. Demand 1, "Any bytes, settings, pieces and order of calls get an outcome": the caller of demand 3 meets no refusal but 3, and
-- any run can be carried on, extending the run at hand, until its end record is served or it is refused by 3. So none of these promises
-- holds emptily.
abbrev pub Served : Type 0
Served = (c : Settings) (input : List ℕ) (answers : ℕ → Bool) (a : At) → Run c input answers a → Within c input → Serves answers a

-- # Memory

-- Memory. Demand 3, "whatever the window": of two runs of one input and answers, in windows of any two lengths, the rows of one are a
-- beginning of the rows of the other; and what finishes in a window can be carried to the same end in every longer one.
abbrev pub Memory : Type 0
Memory =
    (c : Settings) (input : List ℕ) (answers : ℕ → Bool) (a b : At) → Run c input answers a → Run c input answers b
    → (Begins a.rows b.rows ⊎ Begins b.rows a.rows)
    × (Within c input → Ends a → length a.window ≤ length b.window
    → (b' : At) × Steps answers b b' × Ends b' × (b'.rows ≡ a.rows) × ((recorded b'.session).end ≡ (recorded a.session).end))
