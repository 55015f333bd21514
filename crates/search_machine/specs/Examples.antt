-- Runs of the machine, worked out by computation (proofs/Examples.antt): what each read gave, and what is printed. `/` in the comments
-- stands for a newline.
use Rattle.std.specs.Prelude.{◌≡◌, ℕ, List, [], ◌∷◌, map, replicate}
use Rattle.machine.specs.Machine.{Read, ended, failed, run, some}
use Rattle.search_machine.specs.Search.{search, starts, turn_of}

pub record Example : Type 0 where
  pub window : ℕ
  pub reads : List Read
  pub output : List ℕ

abbrev pub computed : Example → List ℕ
computed e = run search 200 (turn_of (starts (replicate e.window 0))) e.reads

abbrev pub written : Example → List ℕ
written e = e.output

-- The claim about the table: the machine prints what is written.
abbrev pub Holds : List Example → Type 0
Holds table = map computed table ≡ map written table

abbrev pub ex : ℕ → List Read → List ℕ → Example
ex window reads output = record { window = window; reads = reads; output = output }

abbrev pub Runs : List Example
Runs =
    -- 01's own example, in one read
    -- 1 0 0 0 1/b/a/b/c/ | ended
    -- 2 1 0 2/1 2 2 2/end 4 2 1 2/
    ex 8 (some (49 ∷ 32 ∷ 48 ∷ 32 ∷ 48 ∷ 32 ∷ 48 ∷ 32 ∷ 49 ∷ 10 ∷ 98 ∷ 10 ∷ 97 ∷ 10 ∷ 98 ∷ 10 ∷ 99 ∷ 10 ∷ []) ∷ ended ∷ []) (50 ∷ 32 ∷ 49 ∷ 32 ∷ 48 ∷ 32 ∷ 50 ∷ 10 ∷ 49 ∷ 32 ∷ 50 ∷ 32 ∷ 50 ∷ 32 ∷ 50 ∷ 10 ∷ 101 ∷ 110 ∷ 100 ∷ 32 ∷ 52 ∷ 32 ∷ 50 ∷ 32 ∷ 49 ∷ 32 ∷ 50 ∷ 10 ∷ [])
    -- the same cut within every line
    -- 1 0 |  0 0 1/b | /a | /b/ | c/ | ended
    -- 2 1 0 2/1 2 2 2/end 4 2 1 2/
    ∷ ex 8 (some (49 ∷ 32 ∷ 48 ∷ []) ∷ some (32 ∷ 48 ∷ 32 ∷ 48 ∷ 32 ∷ 49 ∷ 10 ∷ 98 ∷ []) ∷ some (10 ∷ 97 ∷ []) ∷ some (10 ∷ 98 ∷ 10 ∷ []) ∷ some (99 ∷ 10 ∷ []) ∷ ended ∷ []) (50 ∷ 32 ∷ 49 ∷ 32 ∷ 48 ∷ 32 ∷ 50 ∷ 10 ∷ 49 ∷ 32 ∷ 50 ∷ 32 ∷ 50 ∷ 32 ∷ 50 ∷ 10 ∷ 101 ∷ 110 ∷ 100 ∷ 32 ∷ 52 ∷ 32 ∷ 50 ∷ 32 ∷ 49 ∷ 32 ∷ 50 ∷ 10 ∷ [])
    -- a first line of another form
    -- 01 0 0 0 -/b/a/b/ | ended
    -- refused 1/
    ∷ ex 8 (some (48 ∷ 49 ∷ 32 ∷ 48 ∷ 32 ∷ 48 ∷ 32 ∷ 48 ∷ 32 ∷ 45 ∷ 10 ∷ 98 ∷ 10 ∷ 97 ∷ 10 ∷ 98 ∷ 10 ∷ []) ∷ ended ∷ []) (114 ∷ 101 ∷ 102 ∷ 117 ∷ 115 ∷ 101 ∷ 100 ∷ 32 ∷ 49 ∷ 10 ∷ [])
    -- a setting out of range
    -- 1001 0 0 0 -/b/a/b/ | ended
    -- refused 1/
    ∷ ex 8 (some (49 ∷ 48 ∷ 48 ∷ 49 ∷ 32 ∷ 48 ∷ 32 ∷ 48 ∷ 32 ∷ 48 ∷ 32 ∷ 45 ∷ 10 ∷ 98 ∷ 10 ∷ 97 ∷ 10 ∷ 98 ∷ 10 ∷ []) ∷ ended ∷ []) (114 ∷ 101 ∷ 102 ∷ 117 ∷ 115 ∷ 101 ∷ 100 ∷ 32 ∷ 49 ∷ 10 ∷ [])
    -- a second line without newline
    -- 1 0 0 0 -/b | ended
    -- refused 1/
    ∷ ex 8 (some (49 ∷ 32 ∷ 48 ∷ 32 ∷ 48 ∷ 32 ∷ 48 ∷ 32 ∷ 45 ∷ 10 ∷ 98 ∷ []) ∷ ended ∷ []) (114 ∷ 101 ∷ 102 ∷ 117 ∷ 115 ∷ 101 ∷ 100 ∷ 32 ∷ 49 ∷ 10 ∷ [])
    -- an empty literal and an empty text
    -- 2 2 0 0 -// | ended
    -- end 0 0 0 0/
    ∷ ex 8 (some (50 ∷ 32 ∷ 50 ∷ 32 ∷ 48 ∷ 32 ∷ 48 ∷ 32 ∷ 45 ∷ 10 ∷ 10 ∷ []) ∷ ended ∷ []) (101 ∷ 110 ∷ 100 ∷ 32 ∷ 48 ∷ 32 ∷ 48 ∷ 32 ∷ 48 ∷ 32 ∷ 48 ∷ 10 ∷ [])
    -- a break, and a last line without newline
    -- 1 1 0 0 -/b/a/b/x | /x/x/x/ab | ended
    -- 2 1 0 2/1 2 2 2/3 3 4 2/5 0 0 0/2 6 10 2/1 7 12 2/end 14 7 2 0/
    ∷ ex 8 (some (49 ∷ 32 ∷ 49 ∷ 32 ∷ 48 ∷ 32 ∷ 48 ∷ 32 ∷ 45 ∷ 10 ∷ 98 ∷ 10 ∷ 97 ∷ 10 ∷ 98 ∷ 10 ∷ 120 ∷ []) ∷ some (10 ∷ 120 ∷ 10 ∷ 120 ∷ 10 ∷ 120 ∷ 10 ∷ 97 ∷ 98 ∷ []) ∷ ended ∷ []) (50 ∷ 32 ∷ 49 ∷ 32 ∷ 48 ∷ 32 ∷ 50 ∷ 10 ∷ 49 ∷ 32 ∷ 50 ∷ 32 ∷ 50 ∷ 32 ∷ 50 ∷ 10 ∷ 51 ∷ 32 ∷ 51 ∷ 32 ∷ 52 ∷ 32 ∷ 50 ∷ 10 ∷ 53 ∷ 32 ∷ 48 ∷ 32 ∷ 48 ∷ 32 ∷ 48 ∷ 10 ∷ 50 ∷ 32 ∷ 54 ∷ 32 ∷ 49 ∷ 48 ∷ 32 ∷ 50 ∷ 10 ∷ 49 ∷ 32 ∷ 55 ∷ 32 ∷ 49 ∷ 50 ∷ 32 ∷ 50 ∷ 10 ∷ 101 ∷ 110 ∷ 100 ∷ 32 ∷ 49 ∷ 52 ∷ 32 ∷ 55 ∷ 32 ∷ 50 ∷ 32 ∷ 48 ∷ 10 ∷ [])
    -- a line that just fits the window, then one a byte too long
    -- 0 0 0 0 -/b/b/a/bb/bbb/b/ | ended
    -- 1 1 0 2/1 3 4 3/refused 3/
    ∷ ex 3 (some (48 ∷ 32 ∷ 48 ∷ 32 ∷ 48 ∷ 32 ∷ 48 ∷ 32 ∷ 45 ∷ 10 ∷ 98 ∷ 10 ∷ 98 ∷ 10 ∷ 97 ∷ 10 ∷ 98 ∷ 98 ∷ 10 ∷ 98 ∷ 98 ∷ 98 ∷ 10 ∷ 98 ∷ 10 ∷ []) ∷ ended ∷ []) (49 ∷ 32 ∷ 49 ∷ 32 ∷ 48 ∷ 32 ∷ 50 ∷ 10 ∷ 49 ∷ 32 ∷ 51 ∷ 32 ∷ 52 ∷ 32 ∷ 51 ∷ 10 ∷ 114 ∷ 101 ∷ 102 ∷ 117 ∷ 115 ∷ 101 ∷ 100 ∷ 32 ∷ 51 ∷ 10 ∷ [])
    -- a read fails within the text: the rows of the lines that are whole, and no end record
    -- 1 0 0 0 -/b/a/ | b/c | failed
    -- 2 1 0 2/1 2 2 2/failed read/
    ∷ ex 8 (some (49 ∷ 32 ∷ 48 ∷ 32 ∷ 48 ∷ 32 ∷ 48 ∷ 32 ∷ 45 ∷ 10 ∷ 98 ∷ 10 ∷ 97 ∷ 10 ∷ []) ∷ some (98 ∷ 10 ∷ 99 ∷ []) ∷ failed ∷ []) (50 ∷ 32 ∷ 49 ∷ 32 ∷ 48 ∷ 32 ∷ 50 ∷ 10 ∷ 49 ∷ 32 ∷ 50 ∷ 32 ∷ 50 ∷ 32 ∷ 50 ∷ 10 ∷ 102 ∷ 97 ∷ 105 ∷ 108 ∷ 101 ∷ 100 ∷ 32 ∷ 114 ∷ 101 ∷ 97 ∷ 100 ∷ 10 ∷ [])
    -- a read fails before the text
    -- 1 0 0 | failed
    -- failed read/
    ∷ ex 8 (some (49 ∷ 32 ∷ 48 ∷ 32 ∷ 48 ∷ []) ∷ failed ∷ []) (102 ∷ 97 ∷ 105 ∷ 108 ∷ 101 ∷ 100 ∷ 32 ∷ 114 ∷ 101 ∷ 97 ∷ 100 ∷ 10 ∷ [])
    -- a read fails after the limit was met: it is not made
    -- 1 0 0 0 1/b/a/b/c/ | failed
    -- 2 1 0 2/1 2 2 2/end 4 2 1 2/
    ∷ ex 8 (some (49 ∷ 32 ∷ 48 ∷ 32 ∷ 48 ∷ 32 ∷ 48 ∷ 32 ∷ 49 ∷ 10 ∷ 98 ∷ 10 ∷ 97 ∷ 10 ∷ 98 ∷ 10 ∷ 99 ∷ 10 ∷ []) ∷ failed ∷ []) (50 ∷ 32 ∷ 49 ∷ 32 ∷ 48 ∷ 32 ∷ 50 ∷ 10 ∷ 49 ∷ 32 ∷ 50 ∷ 32 ∷ 50 ∷ 32 ∷ 50 ∷ 10 ∷ 101 ∷ 110 ∷ 100 ∷ 32 ∷ 52 ∷ 32 ∷ 50 ∷ 32 ∷ 49 ∷ 32 ∷ 50 ∷ 10 ∷ [])
    ∷ []
