-- What every program over the driver prints, for any reads: `Prints` says it in the words of the definition and of 01's rules for room
-- and size, and nothing in it speaks of reads, pieces or calls. The proofs stand in proofs/Promises.antt, under the statements' names in
-- small letters.
use Rattle.std.specs.Prelude.{◌≡◌, ℕ, ◌+◌, ◌*◌, ◌<◌, ◌≤◌, Bool, true, ◌⊎◌, List, [], ◌∷◌, ◌++◌, map, length, ◌≢◌}
use mathlib.Core.List.{flatten}
use Rattle.definition.specs.declared.Going.TheVariants.{On}
use Rattle.definition.specs.declared.Row.{Row}
use Rattle.definition.specs.declared.Settings.{Settings}
use Rattle.definition.specs.Bounds.{max_input}
use Rattle.definition.specs.Definition.{end_of, gone_lines, quit_met, rows_of}
use Rattle.definition.specs.State.{State, begun, step_rows, step_state}
use Rattle.definition.specs.Text.{first_place, handed, lines, text}
use Rattle.session.specs.Calls.{opened}
use Rattle.promises.specs.Promises.{Fitted, TooLong, Within, answers_of, kept_before}
use Rattle.machine.specs.Machine.{Read, ended, failed, run, some}
use Rattle.machine.specs.Program.{Program, begins, driver, turns}

-- # What was read

-- the bytes of the reads, up to the first that gave none
unfoldable pub bytes_of : List Read → List ℕ
bytes_of [] = []
bytes_of (some bytes ∷ reads) = bytes ++ bytes_of reads
bytes_of (ended ∷ reads) = []
bytes_of (failed ∷ reads) = []

-- and what that one was: none yet, the end, or a failure
pub data Ending : Type 0 where
  unended : Ending
  whole : Ending
  broken : Ending

unfoldable pub ending_of : List Read → Ending
ending_of [] = unended
ending_of (some bytes ∷ reads) = ending_of reads
ending_of (ended ∷ reads) = whole
ending_of (failed ∷ reads) = broken

-- # What is printed of the lines gone through

-- of lines from a state of the definition on: of each what the program says of it, as handed over, and of its rows
unfoldable pub said_from : Program → Settings → (ℕ → Bool) → State → List (List ℕ) → List ℕ
said_from p c answers s [] = []
said_from p c answers s (l ∷ ls) =
    p.says (handed c.terminator l) (step_rows s.going c s (length l) (answers (s.lines + 1)))
    ++ said_from p c answers (step_state s.going c s (length l) (answers (s.lines + 1))) ls

unfoldable pub said : Program → Settings → List ℕ → List (List ℕ) → List ℕ
said p c input = said_from p c (answers_of p.matcher c input) (begun c)

-- # What must be printed

abbrev pub Whole : ℕ → List (List ℕ) → Type 0
Whole t [] = Unit {0}
Whole t (l ∷ ls) = (first_place t l < length l) × Whole t ls

-- the lines gone through: each was reached, and fitted, and all are within the size
pub record Gone (c : Settings) (input : List ℕ) (answers : ℕ → Bool) (window : ℕ) (before later : List (List ℕ)) : Type 0 where
  pub lines_are : lines c.terminator (text c input) ≡ before ++ later
  pub reached : (xs : List (List ℕ)) (l : List ℕ) (ys : List (List ℕ)) → before ≡ xs ++ (l ∷ ys) → (gone_lines c answers xs).going ≡ On
  pub fitted : Fitted c answers window before
  pub within : length (flatten before) ≤ max_input

-- the input has ended: by its end, or by a Quit byte
abbrev pub HasEnded : Settings → List ℕ → Ending → Type 0
HasEnded c input how = (how ≡ whole) ⊎ (quit_met c.binary input ≡ true)

-- what is printed where the input was not read to its end
abbrev pub breaks_off : Ending → Program → List ℕ
breaks_off unended p = []
breaks_off whole p = []
breaks_off broken p = p.fails

module _ (p : Program) (c : Settings) (window : ℕ) (input : List ℕ) (how : Ending) where
  -- what the matcher says of each line
  abbrev pub asked : ℕ → Bool
  asked = answers_of p.matcher c input

  pub data Prints : List ℕ → Type 0 where
    -- The rows of the definition, then its end record: a stop has come, or all lines are gone through and the input has ended.
    finished : (before later : List (List ℕ)) → Gone c input asked window before later
        → ((gone_lines c asked before).going ≢ On) ⊎ (later ≡ [])
        → (HasEnded c input how) ⊎ (((gone_lines c asked before).going ≢ On) × Whole c.terminator before)
        → Prints (said p c input before ++ p.closes (end_of c input asked))
    -- Those of a beginning, then a refusal for room: with the lines kept before it the next line exceeds the window, which fills before
    -- the size is taken.
    no_room : (before : List (List ℕ)) (line : List ℕ) (later : List (List ℕ)) → Gone c input asked window before (line ∷ later)
        → (gone_lines c asked before).going ≡ On
        → window < kept_before c asked before + length line
        → length (flatten before) + window < max_input + kept_before c asked before
        → Prints (said p c input before ++ p.refuses 3)
    -- Those of a beginning, then a refusal for the size: the next line passes it, and had room up to there.
    too_large : (before : List (List ℕ)) (line : List ℕ) (later : List (List ℕ)) → Gone c input asked window before (line ∷ later)
        → (gone_lines c asked before).going ≡ On
        → max_input < length (flatten before) + length line
        → max_input + kept_before c asked before ≤ length (flatten before) + window
        → Prints (said p c input before ++ p.refuses 5)
    -- The input was not read to its end: those of its whole lines, and that a read failed if one did; never the end record.
    cut_off : (before : List (List ℕ)) (rest : List ℕ) → Gone c input asked window before (lines c.terminator rest)
        → (HasEnded c input how → ⊥)
        → (gone_lines c asked before).going ≡ On
        → Whole c.terminator before
        → length rest ≤ first_place c.terminator rest
        → kept_before c asked before + length rest ≤ window
        → length (flatten before) + length rest ≤ max_input
        → Prints (said p c input before ++ breaks_off how p)

-- # The promises

-- turns and reads enough for an input
abbrev pub enough : List ℕ → List Read → ℕ
enough input reads = 2 * length input + 2 * length reads + 3

-- Printed. A program that is opened on a window with some bytes at hand, and then reads, prints what must be printed of those bytes
-- and all that was read: however many turns it is given beyond `enough`.
abbrev pub Printed : Type 0
Printed =
    (p : Program) (c : Settings) (w front : List ℕ) (reads : List Read) (n : ℕ) → (opened c (length w)).refusal ≡ 0
    → enough (front ++ bytes_of reads) reads ≤ n
    → Prints p c (length w) (front ++ bytes_of reads) (ending_of reads) (run (driver p) n (turns p (begins c w front)) reads)

-- OneText. And that is one text: the cases of `Prints` exclude each other.
abbrev pub OneText : Type 0
OneText =
    (p : Program) (c : Settings) (window : ℕ) (input : List ℕ) (how : Ending) (x y : List ℕ) → Prints p c window input how x
    → Prints p c window input how y → x ≡ y

-- Cut. So however the same bytes are cut into reads, the output is the same.
abbrev pub Cut : Type 0
Cut =
    (p : Program) (c : Settings) (w v front start : List ℕ) (reads others : List Read) (n m : ℕ) → (opened c (length w)).refusal ≡ 0
    → length v ≡ length w
    → front ++ bytes_of reads ≡ start ++ bytes_of others
    → ending_of reads ≡ ending_of others
    → enough (front ++ bytes_of reads) reads ≤ n
    → enough (start ++ bytes_of others) others ≤ m
    → run (driver p) n (turns p (begins c w front)) reads ≡ run (driver p) m (turns p (begins c v start)) others

-- CauseTold. Where the input was not read to its end, an end record names what ended the run: a Quit byte, the limit or a nonmatch, and
-- never the end of the input.
abbrev pub CauseTold : Type 0
CauseTold =
    (c : Settings) (input : List ℕ) (answers : ℕ → Bool) (window : ℕ) (how : Ending) (before later : List (List ℕ))
    → Gone c input answers window before later
    → (HasEnded c input how) ⊎ ((gone_lines c answers before).going ≢ On)
    → (how ≢ whole) → (end_of c input answers).cause ≢ 0

-- Rows. Where a program prints rows one by one, what is said of lines gone through are their rows, printed; and where `Prints` has
-- finished, these are the rows of the definition.
abbrev pub RowByRow : Program → (Row → List ℕ) → Type 0
RowByRow p printRow = (line : List ℕ) (rows : List Row) → p.says line rows ≡ flatten (map printRow rows)

abbrev pub Rows : Type 0
Rows =
    (p : Program) (printRow : Row → List ℕ) → RowByRow p printRow
    → ((c : Settings) (input : List ℕ) (before : List (List ℕ))
    → said p c input before ≡ flatten (map printRow (gone_lines c (answers_of p.matcher c input) before).rows))
    × ((c : Settings) (input : List ℕ) (answers : ℕ → Bool) (window : ℕ) (before later : List (List ℕ))
    → Gone c input answers window before later → ((gone_lines c answers before).going ≢ On) ⊎ (later ≡ [])
    → (gone_lines c answers before).rows ≡ rows_of c input answers)

-- Ended. In the words of demand 3, for an input read to its end and within the size: the rows of the definition and its end record, or
-- the rows of a beginning followed by a refusal for room exactly where 01's room rule says.
abbrev pub Ended : Type 0
Ended =
    (p : Program) (printRow : Row → List ℕ) → RowByRow p printRow
    → (c : Settings) (window : ℕ) (input x : List ℕ) → Prints p c window input whole x → Within c input
    → let answers = answers_of p.matcher c input in
    (x ≡ flatten (map printRow (rows_of c input answers)) ++ p.closes (end_of c input answers))
    ⊎ ((count : ℕ) × (t : TooLong c input answers window count)
    × (x ≡ flatten (map printRow (gone_lines c answers t.before).rows) ++ p.refuses 3))
