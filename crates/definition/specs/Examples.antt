-- 01, "Examples on both sides": P1 to P11, the ones to be proved, as one table under one claim about the definition; and a second table
-- under the same claim for what those leave open. proofs/Examples.antt proves both claims by computation.
use Rattle.std.specs.Prelude.{ℕ, ◌≡◌, Bool, true, false, ◌||◌, List, [], ◌∷◌, map, eqb, Option, Some, None}
use Rattle.definition.specs.declared.Binary.{Binary}
use Rattle.definition.specs.declared.Binary.TheVariants.{Ignore, Quit, Convert}
use Rattle.definition.specs.declared.Settings.{Settings}
use Rattle.definition.specs.Definition.{rows_of, end_numbers, end_of}
use Rattle.definition.specs.Rows.{flat}
use Rattle.definition.specs.State.{begun, kept_rows}
use Rattle.definition.specs.Text.{handed, lines, text}

-- the rows and the end record, as 01 writes them: four numbers a row, and six of the end
pub record Outcome : Type 0 where
  pub rows : List (List ℕ)
  pub end : List ℕ

pub record Example : Type 0 where
  pub settings : Settings
  pub input : List ℕ
  -- the numbers of the lines whose answer is yes
  pub hits : List ℕ
  pub outcome : Outcome

abbrev pub answers_at : List ℕ → ℕ → Bool
answers_at [] n = false
answers_at (h ∷ hits) n = eqb h n || answers_at hits n

abbrev pub computed : Example → Outcome
computed e =
    record {
      rows = map flat (rows_of e.settings e.input (answers_at e.hits));
      end = end_numbers (end_of e.settings e.input (answers_at e.hits));
    }

abbrev pub written : Example → Outcome
written e = e.outcome

-- The claim about a table: the definition computes what is written.
abbrev pub Holds : List Example → Type 0
Holds table = map computed table ≡ map written table

-- And so does the walk that forgets all lines but the kept ones.
abbrev pub kept : Example → List (List ℕ)
kept e = map flat (kept_rows e.settings (answers_at e.hits) (begun e.settings) (lines e.settings.terminator (text e.settings e.input)))

abbrev pub HoldsKept : List Example → Type 0
HoldsKept table = map kept table ≡ map (λ e. e.outcome.rows) table

-- "The matcher is handed the line without its terminator byte; a carriage return is an ordinary byte of the line."
abbrev pub HandsOver : Type 0
HandsOver = handed 10 (97 ∷ 13 ∷ 10 ∷ []) ≡ 97 ∷ 13 ∷ []

-- newline for terminator; invert, passthru and stop in this order
abbrev pub settings : ℕ → ℕ → Bool → Bool → Bool → Option ℕ → Binary → Settings
settings b a invert passthru stop limit binary =
    record {
      before = b;
      after = a;
      invert = invert;
      passthru = passthru;
      stop = stop;
      limit = limit;
      terminator = 10;
      binary = binary;
    }

abbrev pub context : ℕ → ℕ → Settings
context b a = settings b a false false false None Ignore

abbrev pub r : ℕ → ℕ → ℕ → ℕ → List ℕ
r kind offset length number = kind ∷ (offset ∷ (length ∷ (number ∷ [])))

abbrev pub e : ℕ → ℕ → ℕ → ℕ → ℕ → ℕ → List ℕ
e bytes lines matches cause flag offset = bytes ∷ (lines ∷ (matches ∷ (cause ∷ (flag ∷ (offset ∷ [])))))

abbrev pub ex : Settings → List ℕ → List ℕ → List (List ℕ) → List ℕ → Example
ex c input hits rows end = record { settings = c; input = input; hits = hits; outcome = record { rows = rows; end = end } }

-- "T is a b c d e, each ended by newline (10 bytes)"
abbrev pub T : List ℕ
T = 97 ∷ 10 ∷ 98 ∷ 10 ∷ 99 ∷ 10 ∷ 100 ∷ 10 ∷ 101 ∷ 10 ∷ []

-- "bytes a newline b 0 c newline"
abbrev pub N : List ℕ
N = 97 ∷ 10 ∷ 98 ∷ 0 ∷ 99 ∷ 10 ∷ []

-- "yes at b and e"
abbrev pub at_be : List ℕ
at_be = 2 ∷ 5 ∷ []

-- P1 to P11. 01 gives P1, P8 whole; of the others' end records and of the rows of P4 and P5, what 01 leaves out is worked out by hand.
abbrev pub P : List Example
P =
    -- P1
    ex (context 0 0) T at_be (r 1 2 2 2 ∷ r 1 8 2 5 ∷ []) (e 10 5 2 0 0 0)
    -- P2; the end by hand
    ∷ ex (context 1 0) T at_be (r 2 0 2 1 ∷ r 1 2 2 2 ∷ r 5 0 0 0 ∷ r 2 6 2 4 ∷ r 1 8 2 5 ∷ []) (e 10 5 2 0 0 0)
    -- P3; the end by hand
    ∷ ex (context 0 1) T at_be (r 1 2 2 2 ∷ r 3 4 2 3 ∷ r 5 0 0 0 ∷ r 1 8 2 5 ∷ []) (e 10 5 2 0 0 0)
    -- P4: 01 gives the kinds; offsets, lengths, numbers and the end by hand
    ∷ ex (context 1 1) T at_be (r 2 0 2 1 ∷ r 1 2 2 2 ∷ r 3 4 2 3 ∷ r 2 6 2 4 ∷ r 1 8 2 5 ∷ []) (e 10 5 2 0 0 0)
    -- P5: 01 gives the offsets; lengths, numbers and the end by hand
    ∷ ex (settings 0 0 true false false None Ignore) T at_be (r 1 0 2 1 ∷ r 1 4 2 3 ∷ r 1 6 2 4 ∷ []) (e 10 5 3 0 0 0)
    -- P6; lines and matches of the end by hand
    ∷ ex (settings 0 2 false false false (Some 1) Ignore) T (2 ∷ 3 ∷ []) (r 1 2 2 2 ∷ r 3 4 2 3 ∷ r 3 6 2 4 ∷ []) (e 8 4 1 2 0 0)
    -- P7; lines and matches of the end by hand
    ∷ ex (settings 0 1 true false false (Some 1) Ignore) T [] (r 1 0 2 1 ∷ r 3 2 2 2 ∷ []) (e 4 2 1 2 0 0)
    -- P8
    ∷ ex (context 0 0) [] [] [] (e 0 0 0 0 0 0)
    -- P9; the end by hand
    ∷ ex (context 0 0) (97 ∷ []) (1 ∷ []) (r 1 0 1 1 ∷ []) (e 1 1 1 0 0 0)
    -- P10; lines and matches of the end by hand
    ∷ ex (settings 0 0 false false false None (Quit 0)) N (1 ∷ 2 ∷ 3 ∷ []) (r 1 0 2 1 ∷ r 1 2 1 2 ∷ []) (e 3 2 2 1 1 3)
    -- P11; lines, matches and cause of the end by hand
    ∷ ex (settings 0 0 false false false None (Convert 0)) N (1 ∷ 2 ∷ 3 ∷ []) (r 1 0 2 1 ∷ r 1 2 2 2 ∷ r 1 4 2 3 ∷ []) (e 6 3 3 0 1 3)
    ∷ []

abbrev pub all : List ℕ
all = 1 ∷ 2 ∷ 3 ∷ 4 ∷ 5 ∷ []

-- What P1 to P11 leave open, worked out by hand from 01 and docs/DECISIONS.md.
abbrev pub Further : List Example
Further =
    -- lines before the first row: no break, since no row was given
    ex (context 1 0) T (5 ∷ []) (r 2 6 2 4 ∷ r 1 8 2 5 ∷ []) (e 10 5 1 0 0 0)
    -- a limit of 0 stops at opening
    ∷ ex (settings 0 0 false false false (Some 0) Ignore) T all [] (e 0 0 0 2 0 0)
    -- but not under pass-through, where nothing is selected
    ∷ ex (settings 0 0 false true false (Some 0) Ignore) N all (r 4 0 2 1 ∷ r 4 2 4 2 ∷ []) (e 6 2 0 0 0 0)
    -- stop-on-nonmatch: lines before the first match do not stop
    ∷ ex (settings 0 0 false false true None Ignore) T (2 ∷ []) (r 1 2 2 2 ∷ []) (e 6 3 1 3 0 0)
    -- an after-context line past the limit is unselected
    ∷ ex (settings 0 2 false false true (Some 1) Ignore) T all (r 1 0 2 1 ∷ r 3 2 2 2 ∷ []) (e 4 2 1 3 0 0)
    -- both stops at once: the limit is the cause
    ∷ ex (settings 0 1 false false true (Some 1) Ignore) T all (r 1 0 2 1 ∷ r 3 2 2 2 ∷ []) (e 4 2 1 2 0 0)
    -- the limit is reached and after-left is above 0 where the text ends
    ∷ ex (settings 0 2 false false false (Some 1) Ignore) T (5 ∷ []) (r 1 8 2 5 ∷ []) (e 10 5 1 0 0 0)
    -- a stop at the last line before the Quit byte: no binary offset
    ∷ ex (settings 0 0 false false false (Some 1) (Quit 0)) (97 ∷ 10 ∷ 0 ∷ []) all (r 1 0 2 1 ∷ []) (e 2 1 1 2 0 0)
    -- the replaced byte is not gone through
    ∷ ex (settings 0 0 false false false (Some 1) (Convert 0)) N all (r 1 0 2 1 ∷ []) (e 2 1 1 2 0 0)
    -- both of the last two lines before the second match have a row: neither comes again
    ∷ ex (context 2 1) T (1 ∷ 3 ∷ []) (r 1 0 2 1 ∷ r 3 2 2 2 ∷ r 1 4 2 3 ∷ r 3 6 2 4 ∷ []) (e 10 5 2 0 0 0)
    -- a binary byte that is the terminator: Quit cuts, Convert does nothing
    ∷ ex (settings 0 0 false false false None (Quit 10)) T all (r 1 0 1 1 ∷ []) (e 1 1 1 1 1 1)
    ∷ ex (settings 0 0 false false false None (Convert 10)) N (2 ∷ []) (r 1 2 4 2 ∷ []) (e 6 2 1 0 0 0)
    ∷ []
