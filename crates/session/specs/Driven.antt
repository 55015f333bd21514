-- Examples of the session, by computation, as one table: calls made one after the other, with what each gives.
-- proofs/Driven.antt proves the claim.
use Rattle.std.specs.Prelude.{◌≡◌, ℕ, zero, suc, ◌+◌, ◌-◌, ◌*◌, Bool, true, false, cond, ◌&&◌, List, [], ◌∷◌, ◌++◌, map, length, take, drop, replicate, ◌==◌, Some, None}
use Rattle.definition.specs.declared.Binary.TheVariants.{Ignore, Quit, Convert}
use Rattle.definition.specs.declared.Going.TheVariants.{On}
use Rattle.definition.specs.declared.Settings.{Settings}
use Rattle.definition.specs.Bounds.{plain}
use Rattle.definition.specs.Examples.{Example, answers_at, context, settings, r, e, N, all, P}
use Rattle.definition.specs.Definition.{end_numbers}
use Rattle.definition.specs.Rows.{row_size, rows_in}
use Rattle.driver_core.specs.Walk.{is_on}
use Rattle.session.specs.declared.Input.TheVariants.{Open}
use Rattle.session.specs.declared.Session.{Session}
use Rattle.session.specs.Calls.{answered, answered_table, offered, offered_window, opened, recorded, shown_line, told, waiting, waiting_refusal}
use Rattle.session.specs.Held.{is_open, waits}
use Rattle.session.specs.Sound.{closed}

-- # Calls and what is seen of them

pub data Call : Type 0 where
  -- opens, with the window as it stands
  start : Settings → Call
  -- what an opening with a window of a length gives
  try : Settings → ℕ → Call
  -- the caller makes up a session
  hand : Session → Call
  -- the caller alters the window
  alter : List ℕ → Call
  offer : List ℕ → Call
  show : Call
  -- with a table of so many numbers
  answer : Bool → ℕ → Call
  tell : Call
  ask : Call
  -- the caller looks at the session's own numbers
  look : Call
  -- the caller of demand 3: the input in pieces of a size, the lines whose answer is yes
  drive : ℕ → List ℕ → List ℕ → Call

pub data Seen : Type 0 where
  -- refusal, count taken, the window after
  took : ℕ → ℕ → List ℕ → Seen
  -- refusal, the part
  showed : ℕ → List ℕ → Seen
  -- refusal, the rows, the numbers behind them in the table
  gave : ℕ → List (List ℕ) → List ℕ → Seen
  heard : ℕ → Seen
  -- refusal, the end record
  ended : ℕ → List ℕ → Seen
  stood : Session → Seen
  -- the refusal that ended the run or 0, the rows, the end record
  drove : ℕ → List (List ℕ) → List ℕ → Seen

-- a window of so many 7s, and so many numbers of a table as it was
abbrev pub sevens : ℕ → List ℕ
sevens n = replicate n 7

abbrev pub nines : ℕ → List ℕ
nines n = replicate n 9

-- "a refused end record is all zeros"
abbrev pub zeros : List ℕ
zeros = e 0 0 0 0 0 0

-- # The caller of demand 3

pub data Turn : Type 0 where
  answers offers tells asks : Turn

abbrev pub turn : Session → List ℕ → List ℕ → Turn
turn s w rest = cond (waits s w) answers (cond (is_on s.walk.going && is_open s.places.input) (cond (length rest == 0) tells offers) asks)

-- fuel; the answers; the piece size; session, window, rest of the input, rows so far
abbrev pub driven : ℕ → (ℕ → Bool) → ℕ → Session → List ℕ → List ℕ → List (List ℕ) → Seen
driven zero hits size s w rest rows = heard 0
driven (suc fuel) hits size s w rest rows =
    elim (turn s w rest) [
      | answers ↦
          let hit = hits (s.walk.lines + 1) in
          let table = nines (row_size * (s.walk.settings.before + 2)) in
          let a = answered s w table hit in
          driven fuel hits size a.session w rest (rows ++ rows_in a.rows (answered_table s w table hit))
      | offers ↦
          let o = offered s w (take size rest) in
          let go = driven fuel hits size o.session (offered_window s w (take size rest)) (drop o.taken rest) rows in
          elim (o.refusal == 0) [ true ↦ go | false ↦ drove o.refusal rows zeros ]
      | tells ↦ driven fuel hits size (told s).session w rest rows
      | asks ↦ drove (recorded s).refusal rows (end_numbers (recorded s).end)
    ]

-- # The table

abbrev pub play : Session → List ℕ → List Call → List Seen
play s w [] = []
play s w (start c ∷ calls) = heard (opened c (length w)).refusal ∷ play (opened c (length w)).session w calls
play s w (try c n ∷ calls) = heard (opened c n).refusal ∷ play s w calls
play s w (hand s' ∷ calls) = play s' w calls
play s w (alter w' ∷ calls) = play s w' calls
play s w (offer piece ∷ calls) =
    let o = offered s w piece in
    let w' = offered_window s w piece in
    took o.refusal o.taken w' ∷ play o.session w' calls
play s w (show ∷ calls) = showed (waiting_refusal (waiting s w)) (shown_line s w) ∷ play s w calls
play s w (answer hit n ∷ calls) =
    let table = nines n in
    let a = answered s w table hit in
    let table' = answered_table s w table hit in
    gave a.refusal (rows_in a.rows table') (drop (row_size * a.rows) table') ∷ play a.session w calls
play s w (tell ∷ calls) = heard (told s).refusal ∷ play (told s).session w calls
play s w (ask ∷ calls) = ended (recorded s).refusal (end_numbers (recorded s).end) ∷ play s w calls
play s w (look ∷ calls) = stood s ∷ play s w calls
play s w (drive size input hits ∷ calls) = driven 100 (answers_at hits) size s w input [] ∷ play s w calls

pub record Script : Type 0 where
  pub window : List ℕ
  pub calls : List Call
  pub seen : List Seen

abbrev pub played : Script → List Seen
played x = play closed x.window x.calls

-- The claim: each call gives what is written.
abbrev pub Plays : List Script → Type 0
Plays table = map played table ≡ map (λ (x : Script). x.seen) table

abbrev pub script : List ℕ → List Call → List Seen → Script
script w calls seen = record { window = w; calls = calls; seen = seen }

-- an example of the definition, in a window of a length, in pieces of a size, by the caller of demand 3
abbrev pub run : ℕ → ℕ → Example → Script
run window size x =
    script (sevens window) (start x.settings ∷ drive size x.input x.hits ∷ [])
    (heard 0 ∷ drove 0 x.outcome.rows x.outcome.end ∷ [])

-- three lines of 2 bytes
abbrev pub T3 : List ℕ
T3 = 97 ∷ 10 ∷ 98 ∷ 10 ∷ 99 ∷ 10 ∷ []

abbrev pub quitting : ℕ → Settings
quitting b = settings b 0 false false false None (Quit 0)

abbrev pub converting : Settings
converting = settings 0 0 false false false None (Convert 0)

-- a limit of 0, which stops at opening
abbrev pub unasked : Settings
unasked = settings 0 0 false false false (Some 0) Ignore

-- a session by its numbers: its window's length; lines gone through; bytes taken, held unanswered from `next` to `end`
abbrev pub session : Settings → ℕ → ℕ → ℕ → ℕ → ℕ → Session
session c window count taken next end =
    record {
      walk =
          record {
            settings = c;
            bytes = taken - (end - next);
            lines = count;
            matches = 0;
            left = 0;
            given = false;
            going = On;
          };
      places = record { window = window; floor = next; next = next; end = end; input = Open; replaced = None };
    }

-- one that a caller made up
abbrev pub made_up : Settings → ℕ → ℕ → ℕ → Session
made_up c = session c 4 5

-- "Window 4, B1, three lines of 2 bytes, all no: 3 at the third line; window 6 finishes. All yes: window 2 finishes."
abbrev pub Rooms : List Script
Rooms =
    script (sevens 4) (start (context 1 0) ∷ drive 1 T3 [] ∷ []) (heard 0 ∷ drove 3 [] zeros ∷ [])
    ∷ script (sevens 6) (start (context 1 0) ∷ drive 1 T3 [] ∷ []) (heard 0 ∷ drove 0 [] (e 6 3 0 0 0 0) ∷ [])
    ∷ script (sevens 2) (start (context 1 0) ∷ drive 1 T3 all ∷ [])
    (heard 0 ∷ drove 0 (r 1 0 2 1 ∷ r 1 2 2 2 ∷ r 1 4 2 3 ∷ []) (e 6 3 3 0 0 0) ∷ [])
    -- the kept part before any row: two empty lines, B 0, A 1, window 1
    ∷ script (sevens 1) (start (context 0 1) ∷ drive 1 (10 ∷ 10 ∷ []) [] ∷ []) (heard 0 ∷ drove 3 [] zeros ∷ [])
    -- a last line without terminator that fills the window
    ∷ script (sevens 2) (start (context 0 0) ∷ drive 9 (97 ∷ 98 ∷ []) all ∷ []) (heard 0 ∷ drove 0 (r 1 0 2 1 ∷ []) (e 2 1 1 0 0 0) ∷ [])
    ∷ []

abbrev pub Refusals : List Script
Refusals =
    -- "B 1,000 served, 1,001 refused by 1"; 1 before 2; 2; the closed session answers 6 to everything
    script (sevens 1)
    (start (context 1000 0) ∷ start (context 1001 0) ∷ show ∷ try (context 0 0) 65536 ∷ try (context 0 0) 65537 ∷ [])
    (heard 0 ∷ heard 1 ∷ showed 6 [] ∷ heard 0 ∷ heard 2 ∷ [])
    ∷ script []
    (start (context 1001 0) ∷ start (context 0 0) ∷ offer T3 ∷ offer [] ∷ answer true 8 ∷ tell ∷ ask ∷ [])
    (heard 1 ∷ heard 2 ∷ took 6 0 [] ∷ took 6 0 [] ∷ gave 6 [] (nines 8) ∷ heard 6 ∷ ended 6 zeros ∷ [])
    -- the session as opened; the closed one, a constant (docs/DECISIONS.md 14)
    ∷ script (sevens 4)
    (start (context 1 0) ∷ look ∷ start (context 1001 0) ∷ look ∷ [])
    (heard 0 ∷ stood (session (context 1 0) 4 0 0 0 0) ∷ heard 1 ∷ stood (session (plain 0) 0 0 0 0 0) ∷ [])
    -- A and the limit at their bounds and past them; pass-through with context before or after
    ∷ script (sevens 1)
    (try (context 0 1000) 1
    ∷ try (context 0 1001) 1
    ∷ try (settings 0 0 false false false (Some 4294967295) Ignore) 1
    ∷ try (settings 0 0 false false false (Some 4294967296) Ignore) 1
    ∷ try (settings 0 0 false true false None Ignore) 1
    ∷ try (settings 1 0 false true false None Ignore) 1
    ∷ try (settings 0 1 false true false None Ignore) 1
    ∷ [])
    (heard 0 ∷ heard 1 ∷ heard 0 ∷ heard 1 ∷ heard 0 ∷ heard 1 ∷ heard 1 ∷ [])
    -- no line waits; a window of another length
    ∷ script (sevens 2)
    (start (context 0 0) ∷ answer true 8 ∷ alter (sevens 3) ∷ offer T3 ∷ show ∷ answer true 8 ∷ alter (sevens 2) ∷ offer T3 ∷ show ∷ [])
    (heard 0 ∷ gave 6 [] (nines 8) ∷ took 6 0 (sevens 3) ∷ showed 6 [] ∷ gave 6 [] (nines 8) ∷ took 0 2 (97 ∷ 10 ∷ []) ∷ showed 0 (97 ∷ []) ∷ [])
    -- a table that is a number short, and one that is just enough
    ∷ script (sevens 6)
    (start (context 1 0) ∷ offer T3 ∷ answer false 0 ∷ answer true 7 ∷ answer true 8 ∷ [])
    (heard 0 ∷ took 0 6 T3 ∷ gave 0 [] [] ∷ gave 4 [] (nines 7) ∷ gave 0 (r 2 0 2 1 ∷ r 1 2 2 2 ∷ []) [] ∷ [])
    -- the end record before the input has ended, while a line waits, and then
    ∷ script (sevens 2)
    (start (context 0 0) ∷ ask ∷ offer (97 ∷ []) ∷ tell ∷ ask ∷ answer true 4 ∷ ask ∷ tell ∷ ask ∷ [])
    (heard 0
    ∷ ended 7 zeros
    ∷ took 0 1 (97 ∷ 7 ∷ [])
    ∷ heard 0
    ∷ ended 7 zeros
    ∷ gave 0 (r 1 0 1 1 ∷ []) []
    ∷ ended 0 (e 1 1 1 0 0 0)
    ∷ heard 0
    ∷ ended 0 (e 1 1 1 0 0 0)
    ∷ [])
    -- an empty piece, and one after the end, takes 0 and changes nothing; so does telling the end after a stop
    ∷ script (sevens 4)
    (start (context 0 0) ∷ offer (97 ∷ 10 ∷ 98 ∷ 99 ∷ []) ∷ answer false 8 ∷ offer [] ∷ [])
    (heard 0 ∷ took 0 4 (97 ∷ 10 ∷ 98 ∷ 99 ∷ []) ∷ gave 0 [] (nines 8) ∷ took 0 0 (97 ∷ 10 ∷ 98 ∷ 99 ∷ []) ∷ [])
    ∷ script (sevens 2)
    (start (context 0 0) ∷ tell ∷ offer T3 ∷ show ∷ ask ∷ [])
    (heard 0 ∷ heard 0 ∷ took 0 0 (sevens 2) ∷ showed 0 [] ∷ ended 0 zeros ∷ [])
    ∷ script (sevens 2) (start unasked ∷ tell ∷ look ∷ []) (heard 0 ∷ heard 0 ∷ stood (opened unasked 2).session ∷ [])
    -- the size: one byte left, then none; 5 before 3; a Quit byte at the front before 5
    ∷ script (120 ∷ 121 ∷ 7 ∷ 7 ∷ [])
    (hand (made_up (context 0 0) 4294967294 0 2) ∷ offer (97 ∷ 98 ∷ []) ∷ offer (98 ∷ []) ∷ [])
    (took 0 1 (120 ∷ 121 ∷ 97 ∷ 7 ∷ []) ∷ took 5 0 (120 ∷ 121 ∷ 97 ∷ 7 ∷ []) ∷ [])
    ∷ script (1 ∷ 2 ∷ 3 ∷ 4 ∷ []) (hand (made_up (context 0 0) 4294967295 0 4) ∷ offer (97 ∷ []) ∷ []) (took 5 0 (1 ∷ 2 ∷ 3 ∷ 4 ∷ []) ∷ [])
    ∷ script (1 ∷ 2 ∷ 3 ∷ 4 ∷ [])
    (hand (made_up (quitting 0) 4294967295 0 4) ∷ offer (0 ∷ []) ∷ show ∷ [])
    (took 0 0 (1 ∷ 2 ∷ 3 ∷ 4 ∷ []) ∷ showed 0 (1 ∷ 2 ∷ 3 ∷ 4 ∷ []) ∷ [])
    -- a refused offer does not move what is held
    ∷ script (1 ∷ 2 ∷ 3 ∷ 4 ∷ []) (hand (made_up (context 0 0) 4294967295 2 4) ∷ offer (97 ∷ []) ∷ []) (took 5 0 (1 ∷ 2 ∷ 3 ∷ 4 ∷ []) ∷ [])
    -- numbers that contradict each other: more lines than bytes
    ∷ script (1 ∷ 2 ∷ 3 ∷ 4 ∷ []) (hand (made_up (context 0 0) 4 0 4) ∷ show ∷ offer T3 ∷ []) (showed 6 [] ∷ took 6 0 (1 ∷ 2 ∷ 3 ∷ 4 ∷ []) ∷ [])
    ∷ []

abbrev pub QuitBytes : List Script
QuitBytes =
    -- at the front of the first piece, inside, after the terminator, in the next piece
    script (sevens 4) (start (quitting 0) ∷ offer (0 ∷ 97 ∷ []) ∷ offer (97 ∷ []) ∷ ask ∷ [])
    (heard 0 ∷ took 0 0 (sevens 4) ∷ took 0 0 (sevens 4) ∷ ended 0 (e 0 0 0 1 1 0) ∷ [])
    ∷ script (sevens 4)
    (start (quitting 0) ∷ offer (97 ∷ 0 ∷ 98 ∷ []) ∷ show ∷ answer true 8 ∷ ask ∷ [])
    (heard 0 ∷ took 0 1 (97 ∷ 7 ∷ 7 ∷ 7 ∷ []) ∷ showed 0 (97 ∷ []) ∷ gave 0 (r 1 0 1 1 ∷ []) (nines 4) ∷ ended 0 (e 1 1 1 1 1 1) ∷ [])
    ∷ script (sevens 4)
    (start (quitting 0) ∷ offer (97 ∷ 10 ∷ 0 ∷ []) ∷ tell ∷ answer false 8 ∷ ask ∷ [])
    (heard 0 ∷ took 0 2 (97 ∷ 10 ∷ 7 ∷ 7 ∷ []) ∷ heard 0 ∷ gave 0 [] (nines 8) ∷ ended 0 (e 2 1 0 1 1 2) ∷ [])
    -- next after bytes that fill the window: it takes no room
    ∷ script (sevens 2)
    (start (quitting 0) ∷ offer (97 ∷ 98 ∷ 0 ∷ []) ∷ answer true 8 ∷ ask ∷ [])
    (heard 0 ∷ took 0 2 (97 ∷ 98 ∷ []) ∷ gave 0 (r 1 0 2 1 ∷ []) (nines 4) ∷ ended 0 (e 2 1 1 1 1 2) ∷ [])
    -- at the front of a piece the held part moves (docs/DECISIONS.md 2), but not after a stop
    ∷ script (97 ∷ 10 ∷ 98 ∷ 99 ∷ [])
    (start (quitting 0) ∷ offer (97 ∷ 10 ∷ 98 ∷ 99 ∷ []) ∷ answer false 8 ∷ offer (0 ∷ []) ∷ show ∷ [])
    (heard 0 ∷ took 0 4 (97 ∷ 10 ∷ 98 ∷ 99 ∷ []) ∷ gave 0 [] (nines 8) ∷ took 0 0 (98 ∷ 99 ∷ 98 ∷ 99 ∷ []) ∷ showed 0 (98 ∷ 99 ∷ []) ∷ [])
    ∷ script (sevens 4)
    (start (settings 0 0 false false false (Some 1) (Quit 0)) ∷ offer T3 ∷ answer true 8 ∷ offer (0 ∷ []) ∷ show ∷ ask ∷ [])
    (heard 0
    ∷ took 0 4 (97 ∷ 10 ∷ 98 ∷ 10 ∷ [])
    ∷ gave 0 (r 1 0 2 1 ∷ []) (nines 4)
    ∷ took 0 0 (97 ∷ 10 ∷ 98 ∷ 10 ∷ [])
    ∷ showed 0 []
    ∷ ended 0 (e 2 1 1 2 0 0)
    ∷ [])
    -- of two replaced bytes the first is told, in one piece or in two
    ∷ script (sevens 4)
    (start converting ∷ offer (97 ∷ 0 ∷ 0 ∷ []) ∷ answer true 8 ∷ answer true 8 ∷ tell ∷ ask ∷ [])
    (heard 0
    ∷ took 0 3 (97 ∷ 10 ∷ 10 ∷ 7 ∷ [])
    ∷ gave 0 (r 1 0 2 1 ∷ []) (nines 4)
    ∷ gave 0 (r 1 2 1 2 ∷ []) (nines 4)
    ∷ heard 0
    ∷ ended 0 (e 3 2 2 0 1 1)
    ∷ [])
    ∷ script (sevens 4)
    (start converting ∷ offer (97 ∷ 0 ∷ []) ∷ offer (0 ∷ []) ∷ answer true 8 ∷ answer true 8 ∷ tell ∷ ask ∷ [])
    (heard 0
    ∷ took 0 2 (97 ∷ 10 ∷ 7 ∷ 7 ∷ [])
    ∷ took 0 1 (97 ∷ 10 ∷ 10 ∷ 7 ∷ [])
    ∷ gave 0 (r 1 0 2 1 ∷ []) (nines 4)
    ∷ gave 0 (r 1 2 1 2 ∷ []) (nines 4)
    ∷ heard 0
    ∷ ended 0 (e 3 2 2 0 1 1)
    ∷ [])
    -- a replaced byte that is taken and not gone through
    ∷ script (sevens 6)
    (start (settings 0 0 false false false (Some 1) (Convert 0)) ∷ offer N ∷ answer true 8 ∷ ask ∷ [])
    (heard 0 ∷ took 0 6 (97 ∷ 10 ∷ 98 ∷ 10 ∷ 99 ∷ 10 ∷ []) ∷ gave 0 (r 1 0 2 1 ∷ []) (nines 4) ∷ ended 0 (e 2 1 1 2 0 0) ∷ [])
    ∷ []

abbrev pub Alterations : List Script
Alterations =
    -- a terminator appears, and goes again: waiting is read from the window as it stands
    script (sevens 4)
    (start (context 0 0) ∷ offer (97 ∷ 98 ∷ []) ∷ show ∷ alter (97 ∷ 10 ∷ 7 ∷ 7 ∷ []) ∷ show ∷ alter (97 ∷ 98 ∷ 7 ∷ 7 ∷ []) ∷ show ∷ [])
    (heard 0 ∷ took 0 2 (97 ∷ 98 ∷ 7 ∷ 7 ∷ []) ∷ showed 0 [] ∷ showed 0 (97 ∷ []) ∷ showed 0 [] ∷ [])
    -- two lines before the waiting one where there was one: the second has number 1, the other would have 0
    ∷ script (sevens 4)
    (start (context 1 0) ∷ offer T3 ∷ answer false 8 ∷ alter (10 ∷ 10 ∷ 98 ∷ 10 ∷ []) ∷ answer true 12 ∷ [])
    (heard 0 ∷ took 0 4 (97 ∷ 10 ∷ 98 ∷ 10 ∷ []) ∷ gave 0 [] (nines 8) ∷ gave 0 (r 2 1 1 1 ∷ r 1 2 2 2 ∷ []) (nines 4) ∷ [])
    -- the same with B 2: "a before row whose number would fall below 1", and 6 before 4
    ∷ script (sevens 4)
    (start (context 2 0) ∷ offer T3 ∷ answer false 8 ∷ alter (10 ∷ 10 ∷ 98 ∷ 10 ∷ []) ∷ answer true 16 ∷ answer true 0 ∷ answer false 0 ∷ [])
    (heard 0 ∷ took 0 4 (97 ∷ 10 ∷ 98 ∷ 10 ∷ []) ∷ gave 0 [] (nines 8) ∷ gave 6 [] (nines 16) ∷ gave 6 [] [] ∷ gave 0 [] [] ∷ [])
    -- a kept line that lost its terminator still counts as a line
    ∷ script (sevens 4)
    (start (context 1 0) ∷ offer T3 ∷ answer false 8 ∷ alter (97 ∷ 97 ∷ 98 ∷ 10 ∷ []) ∷ answer true 8 ∷ offer (99 ∷ []) ∷ [])
    (heard 0
    ∷ took 0 4 (97 ∷ 10 ∷ 98 ∷ 10 ∷ [])
    ∷ gave 0 [] (nines 8)
    ∷ gave 0 (r 2 0 2 1 ∷ r 1 2 2 2 ∷ []) []
    ∷ took 0 1 (99 ∷ 97 ∷ 98 ∷ 10 ∷ [])
    ∷ [])
    ∷ []

-- The worked run of docs/SESSION.md: T in a window of 6, B 1, yes at b and e.
abbrev pub Worked : Script
Worked =
    script (sevens 6)
    (start (context 1 0)
    ∷ offer (97 ∷ 10 ∷ 98 ∷ [])
    ∷ show
    ∷ answer false 12
    ∷ show
    ∷ offer (10 ∷ 99 ∷ 10 ∷ 100 ∷ 10 ∷ 101 ∷ 10 ∷ [])
    ∷ show
    ∷ answer true 12
    ∷ show
    ∷ answer false 12
    ∷ offer (100 ∷ 10 ∷ 101 ∷ 10 ∷ [])
    ∷ show
    ∷ answer false 12
    ∷ show
    ∷ answer true 12
    ∷ ask
    ∷ tell
    ∷ ask
    ∷ [])
    (heard 0
    ∷ took 0 3 (97 ∷ 10 ∷ 98 ∷ 7 ∷ 7 ∷ 7 ∷ [])
    ∷ showed 0 (97 ∷ [])
    ∷ gave 0 [] (nines 12)
    ∷ showed 0 []
    ∷ took 0 3 (97 ∷ 10 ∷ 98 ∷ 10 ∷ 99 ∷ 10 ∷ [])
    ∷ showed 0 (98 ∷ [])
    ∷ gave 0 (r 2 0 2 1 ∷ r 1 2 2 2 ∷ []) (nines 4)
    ∷ showed 0 (99 ∷ [])
    ∷ gave 0 [] (nines 12)
    ∷ took 0 4 (99 ∷ 10 ∷ 100 ∷ 10 ∷ 101 ∷ 10 ∷ [])
    ∷ showed 0 (100 ∷ [])
    ∷ gave 0 [] (nines 12)
    ∷ showed 0 (101 ∷ [])
    ∷ gave 0 (r 5 0 0 0 ∷ r 2 6 2 4 ∷ r 1 8 2 5 ∷ []) []
    ∷ ended 7 zeros
    ∷ heard 0
    ∷ ended 0 (e 10 5 2 0 0 0)
    ∷ [])

abbrev pub Table : List Script
Table =
    map (run 6 1) P
    ++ (map (run 7 3) P ++ (map (run 64 100) P ++ (Rooms ++ (Refusals ++ (QuitBytes ++ (Alterations ++ (Worked ∷ [])))))))
