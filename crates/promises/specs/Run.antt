-- Runs: everything that the caller of demand 3 may do, as a type of traces.
use Rattle.std.specs.Prelude.{◌≡◌, ℕ, ◌+◌, ◌*◌, ◌≤◌, Bool, List, [], ◌++◌, length, take, drop, ◌≢◌, Ok, true}
use Rattle.definition.specs.declared.Going.TheVariants.{On}
use Rattle.definition.specs.declared.Settings.{Settings}
use Rattle.definition.specs.Rows.{row_size, rows_in}
use Rattle.session.specs.declared.Input.TheVariants.{Open}
use Rattle.session.specs.declared.Session.{Session}
use Rattle.session.specs.Calls.{answered, answered_table, offered, offered_window, opened, told, waiting}

-- where a run stands, as its caller knows it
pub record At : Type 0 where
  pub session : Session
  pub window : List ℕ
  -- what is left of the input
  pub rest : List ℕ
  -- how many lines were answered
  pub count : ℕ
  -- the rows given, as the numbers that the table held
  pub rows : List (List ℕ)

abbrev pub at_start : Settings → List ℕ → List ℕ → At
at_start c window input =
    record { session = (opened c (length window)).session; window = window; rest = input; count = 0; rows = [] }

-- "offered pieces": the first k bytes of what is left; untaken bytes stay in what is left
abbrev pub at_offer : ℕ → At → At
at_offer k a =
    record {
      session = (offered a.session a.window (take k a.rest)).session;
      window = offered_window a.session a.window (take k a.rest);
      rest = drop (offered a.session a.window (take k a.rest)).taken a.rest;
      count = a.count;
      rows = a.rows;
    }

-- "answered": with the yes or no fixed for that line; the rows are read from the table's front
abbrev pub at_answer : (ℕ → Bool) → List ℕ → At → At
at_answer answers table a =
    record {
      session = (answered a.session a.window table (answers (a.count + 1))).session;
      window = a.window;
      rest = a.rest;
      count = a.count + 1;
      rows =
          a.rows
          ++ rows_in (answered a.session a.window table (answers (a.count + 1))).rows
          (answered_table a.session a.window table (answers (a.count + 1)));
    }

-- an answer that is refused, as by 6 where no line waits: a caller may ask by answering
abbrev pub at_refused : List ℕ → Bool → At → At
at_refused table hit a =
    record {
      session = (answered a.session a.window table hit).session;
      window = a.window;
      rest = a.rest;
      count = a.count;
      rows = a.rows;
    }

-- "told of the end"
abbrev pub at_end : At → At
at_end a =
    record {
      session = (told a.session).session;
      window = a.window;
      rest = a.rest;
      count = a.count;
      rows = a.rows;
    }

-- What the caller may do from one moment on: offer any part of what is left; answer the waiting line, with room for B + 2 rows; ask,
-- which changes nothing; answer what is refused; tell the end, but while the run goes on and the input is open only when nothing is left.
pub data Steps (answers : ℕ → Bool) (from : At) : At → Type 0 where
  here : Steps answers from from
  offer : {a : At} (k : ℕ) → Steps answers from a → Steps answers from (at_offer k a)
  answer : {a : At} (table : List ℕ) → waiting a.session a.window ≡ Ok true
      → row_size * (a.session.walk.settings.before + 2) ≤ length table → Steps answers from a → Steps answers from (at_answer answers table a)
  ask : {a : At} → Steps answers from a → Steps answers from a
  refused : {a : At} (table : List ℕ) (hit : Bool) → ((answered a.session a.window table hit).refusal ≢ 0)
      → Steps answers from a → Steps answers from (at_refused table hit a)
  tell : {a : At} → (a.session.walk.going ≡ On → a.session.places.input ≡ Open → a.rest ≡ []) → Steps answers from a → Steps answers from (at_end a)

-- A run: any settings and a window of any length and contents, if the opening is served, and then such steps.
pub record Run (c : Settings) (input : List ℕ) (answers : ℕ → Bool) (a : At) : Type 0 where
  pub window : List ℕ
  pub served : (opened c (length window)).refusal ≡ 0
  pub steps : Steps answers (at_start c window input) a
