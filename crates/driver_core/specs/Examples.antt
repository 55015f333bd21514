-- Examples of the core, by computation: every example of the definition as a caller without any window walks it, and single answers and
-- tests where they turn. proofs/Examples.antt proves the claims.
use Rattle.std.specs.Prelude.{◌≡◌, ℕ, zero, suc, ◌+◌, ◌-◌, ◌*◌, Bool, true, false, cond, List, [], ◌∷◌, ◌++◌, map, length, take, drop, replicate, Some, None, Result, Ok, Err}
use mathlib.Core.List.{flatten}
use Rattle.definition.specs.declared.Fate.TheVariants.{Match, NoRow}
use Rattle.definition.specs.declared.Going.{Going}
use Rattle.definition.specs.declared.Going.TheVariants.{On, LimitMet}
use Rattle.definition.specs.declared.Binary.TheVariants.{Ignore}
use Rattle.definition.specs.declared.Refusal.{Refusal}
use Rattle.definition.specs.declared.Refusal.TheVariants.{TableShort, Unsound}
use Rattle.definition.specs.declared.Settings.{Settings}
use Rattle.definition.specs.Bounds.{max_input}
use Rattle.definition.specs.Definition.{binary_place, cause_number, cause_of, end_numbers, quit_met}
use Rattle.definition.specs.Examples.{Example, T, answers_at, context, r, settings}
use Rattle.definition.specs.Rows.{row_size}
use Rattle.definition.specs.Text.{text}
use Rattle.driver_core.specs.declared.Given.{Given}
use Rattle.driver_core.specs.declared.Walk.{Walk}
use Rattle.driver_core.specs.Answer.{gets_row, given, given_table, walk_next}
use Rattle.driver_core.specs.Walk.{line_ahead, remains_ahead, shown_ahead, walk_agrees, walk_end, walk_start}

-- a row table as it was
abbrev pub nines : ℕ → List ℕ
nines n = replicate n 9

-- # A text in memory

-- the numbers of the rows, and those of the end record
pub record Walked : Type 0 where
  pub rows : List ℕ
  pub end : List ℕ

-- where no line waits: cause and place as the definition says, from the whole input
abbrev pub at_end : List ℕ → Walk → List ℕ → Walked
at_end input k rows =
    let c = k.settings in
    let cause = cause_of k.going (quit_met c.binary input) in
    record { rows = rows; end = end_numbers (walk_end k (cause_number cause) (binary_place c.binary c.terminator cause k.bytes input)) }

-- line after line, with a table of B + 2 rows: fuel; the input and the answers; the walk, the bytes since the last line with a row, the
-- bytes ahead, the numbers so far
abbrev pub walking : ℕ → List ℕ → (ℕ → Bool) → Walk → List ℕ → List ℕ → List ℕ → Walked
walking zero input hits k since ahead rows = at_end input k rows
walking (suc fuel) input hits k since ahead rows =
    elim (line_ahead k false ahead) [
      | Some len ↦
          let hit = hits (k.lines + 1) in
          let table = nines (row_size * (k.settings.before + 2)) in
          elim (given k since len table hit) [
            | Ok g ↦
                walking fuel input hits (walk_next k since len hit) (cond (gets_row g.fate) [] (since ++ take len ahead)) (drop len ahead)
                (rows ++ take (row_size * g.rows) (given_table k since len table hit))
            | Err refusal ↦ at_end input k rows
          ]
      | None ↦ at_end input k rows
    ]

-- each line has a byte: the text's length is fuel enough
abbrev pub walked : Example → Walked
walked x =
    let ahead = text x.settings x.input in
    walking (length ahead) x.input (answers_at x.hits) (walk_start x.settings) [] ahead []

-- The claim about a table of the definition's: the rows and the end record are the ones written.
abbrev pub Walks : List Example → Type 0
Walks table = map walked table ≡ map (λ x. record { rows = flatten x.outcome.rows; end = x.outcome.end }) table

-- # Single answers

-- a call beside what it gives
abbrev pub Each : {A : Type 0} → List (A × A) → Type 0
Each table = map (λ p. p.0) table ≡ map (λ p. p.1) table

-- a walk that a caller made up: bytes, lines, matches, lines of after-context still owed, whether some row was given
abbrev pub made_up : Settings → ℕ → ℕ → ℕ → ℕ → Bool → Going → Walk
made_up c bytes count matches left given going =
    record {
      settings = c;
      bytes = bytes;
      lines = count;
      matches = matches;
      left = left;
      given = given;
      going = going;
    }

-- under B 2, two lines lie since any row, of so many gone through; then a line of 2 bytes is answered, with a table of so many numbers
abbrev pub after : ℕ → Walk
after count = made_up (context 2 0) 4 count 0 0 false On

abbrev pub answer : ℕ → Bool → ℕ → Result Given Refusal × List ℕ
answer count hit size =
    (given (after count) (take 4 T) 2 (nines size) hit, given_table (after count) (take 4 T) 2 (nines size) hit)

-- a refusal changes nothing
abbrev pub refused : Refusal → ℕ → Result Given Refusal × List ℕ
refused refusal size = (Err refusal, nines size)

-- two before rows and the match; so many numbers stay
abbrev pub matched : ℕ → Result Given Refusal × List ℕ
matched size = (Ok (record { rows = 3; fate = Match }), flatten (r 2 0 2 1 ∷ r 2 2 2 2 ∷ r 1 4 2 3 ∷ []) ++ nines size)

abbrev pub skipped : Result Given Refusal × List ℕ
skipped = (Ok (record { rows = 0; fate = NoRow }), [])

abbrev pub Answers : Type 0
Answers =
    Each (
    -- a table that is a number short, one that is just enough, and one that is longer: "other rows stay"
    (answer 2 true 11, refused TableShort 11)
    ∷ (answer 2 true 12, matched 0)
    ∷ (answer 2 true 14, matched 2)
    -- "a before row whose number would fall below 1"; "6 before 4"; where no row is given neither
    ∷ (answer 1 true 12, refused Unsound 12)
    ∷ (answer 1 true 0, refused Unsound 0)
    ∷ (answer 1 false 0, skipped)
    ∷ []
    )

-- # Single tests

-- of 4 bytes gone through: lines, matches, lines owed; the bytes since the last line with a row, the bytes ahead
abbrev pub agreeing : Settings → ℕ → ℕ → ℕ → ℕ → ℕ → Bool
agreeing c count matches left since ahead = walk_agrees (made_up c 4 count matches left false On) since ahead

abbrev pub one : Settings
one = settings 0 0 false false false (Some 1) Ignore

-- each of the eight tests at its bound and past it
abbrev pub Bounds : List (Bool × Bool)
Bounds =
    (agreeing (context 1000 0) 2 1 0 2 1, agreeing (context 1001 0) 2 1 0 2 1)
    ∷ (agreeing (context 0 0) 2 1 0 4 1, agreeing (context 0 0) 2 1 0 5 1)
    ∷ (agreeing (context 0 0) 2 1 0 2 (max_input - 4), agreeing (context 0 0) 2 1 0 2 (max_input - 3))
    ∷ (agreeing (context 0 0) 4 1 0 2 1, agreeing (context 0 0) 5 1 0 2 1)
    ∷ (agreeing (context 0 0) 2 2 0 2 1, agreeing (context 0 0) 2 3 0 2 1)
    ∷ (agreeing one 2 1 0 2 1, agreeing one 2 2 0 2 1)
    ∷ (agreeing (context 0 1) 2 1 1 0 1, agreeing (context 0 1) 2 1 2 0 1)
    ∷ (agreeing (context 0 1) 2 1 0 1 1, agreeing (context 0 1) 2 1 1 1 1)
    ∷ []

-- all hold at the bound; past it that one fails alone
abbrev pub Agreeing : Type 0
Agreeing = Bounds ≡ replicate 8 (true, false)

-- a walk that goes on, and one that has stopped
abbrev pub going : Walk
going = after 2

abbrev pub stopped : Walk
stopped = made_up (context 0 0) 4 2 0 0 false LimitMet

-- "At the end an unterminated rest becomes a waiting line." "after a stop no line waits"
abbrev pub Ahead : Type 0
Ahead =
    Each (
    (line_ahead going true (97 ∷ 10 ∷ 98 ∷ []), Some 2)
    ∷ (line_ahead going true (97 ∷ 98 ∷ []), None)
    ∷ (line_ahead going false (97 ∷ 98 ∷ []), Some 2)
    ∷ (line_ahead going false [], None)
    ∷ (line_ahead stopped false (97 ∷ 10 ∷ []), None)
    ∷ []
    )

-- "without its terminator"; empty where none waits
abbrev pub Showing : Type 0
Showing =
    Each (
    (shown_ahead going true (97 ∷ 10 ∷ 98 ∷ []), 97 ∷ [])
    ∷ (shown_ahead going true (97 ∷ 98 ∷ []), [])
    ∷ (shown_ahead going false (97 ∷ 98 ∷ []), 97 ∷ 98 ∷ [])
    ∷ []
    )

-- "while lines or input remain and no stop has come"
abbrev pub Remaining : Type 0
Remaining =
    Each (
    (remains_ahead going true 0, true)
    ∷ (remains_ahead going false 1, true)
    ∷ (remains_ahead going false 0, false)
    ∷ (remains_ahead stopped true 1, false)
    ∷ []
    )
