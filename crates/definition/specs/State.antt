-- The walk of Definition.antt once more, in the form that is easy to reason with: rows and state as two recursions over the lines,
-- where the state holds the lines since the last line with a row. proofs/Same.antt proves that both give the same rows and end record.
use Rattle.std.specs.Prelude.{ℕ, ◌+◌, Bool, true, false, cond, not, ◌&&◌, List, [], ◌∷◌, ◌++◌, map, length, ltb}
use Rattle.definition.specs.declared.Kind.{Kind}
use Rattle.definition.specs.declared.Row.{Row}
use Rattle.definition.specs.declared.Fate.{Fate}
use Rattle.definition.specs.declared.Fate.TheVariants.{Match, After, Other, NoRow}
use Rattle.definition.specs.declared.Going.{Going}
use Rattle.definition.specs.declared.Going.TheVariants.{On, LimitMet, NonmatchMet}
use Rattle.definition.specs.declared.Settings.{Settings}
use Rattle.definition.specs.Bounds.{contextual}
use Rattle.definition.specs.Definition.{fate, selected, after_left_next, matches_next, is_match, going_next, kept_lines, last_of}
use Rattle.definition.specs.Rows.{Line, row, break}

pub record State : Type 0 where
  -- bytes and lines gone through, and matches
  pub bytes : ℕ
  pub lines : ℕ
  pub matches : ℕ
  pub after_left : ℕ
  -- whether some row was given
  pub given : Bool
  -- the lines since the last line with a row
  pub since : List Line
  pub going : Going

unfoldable pub begun : Settings → State
begun c =
    record {
      bytes = 0;
      lines = 0;
      matches = 0;
      after_left = 0;
      given = false;
      since = [];
      going = going_next c false 0 0;
    }

-- the next line, if it has this length
unfoldable pub next_line : State → ℕ → Line
next_line s len = record { offset = s.bytes; length = len; number = s.lines + 1 }

-- a break comes where more lines lie since the last row than come as before-context
unfoldable pub breaks : Settings → State → List Row
breaks c s = cond (contextual c && s.given && ltb c.before (length s.since)) (break ∷ []) []

abbrev pub rows_for : Fate → Settings → State → Line → List Row
rows_for Match c s l = breaks c s ++ (map (row Kind.Before) (last_of c.before s.since) ++ (row Kind.Match l ∷ []))
rows_for After c s l = row Kind.After l ∷ []
rows_for Other c s l = row Kind.Other l ∷ []
rows_for NoRow c s l = []

abbrev pub given_next : Fate → Bool → Bool
given_next Match given = true
given_next After given = true
given_next Other given = true
given_next NoRow given = given

abbrev pub since_next : Fate → List Line → Line → List Line
since_next Match since l = []
since_next After since l = []
since_next Other since l = []
since_next NoRow since l = since ++ (l ∷ [])

unfoldable pub state_next : Fate → Settings → State → ℕ → State
state_next f c s len =
    record {
      bytes = s.bytes + len;
      lines = s.lines + 1;
      matches = matches_next f s.matches;
      after_left = after_left_next f c s.after_left;
      given = given_next f s.given;
      since = since_next f s.since (next_line s len);
      going = going_next c (not (is_match f)) (matches_next f s.matches) (after_left_next f c s.after_left);
    }

-- what becomes of the next line, by its answer
unfoldable pub fate_of : Settings → State → Bool → Fate
fate_of c s answer = fate c (selected c s.matches answer) s.after_left

-- the rows that the next line brings; after a stop none
abbrev pub step_rows : Going → Settings → State → ℕ → Bool → List Row
step_rows On c s len answer = rows_for (fate_of c s answer) c s (next_line s len)
step_rows LimitMet c s len answer = []
step_rows NonmatchMet c s len answer = []

-- the state after the next line; after a stop the same
abbrev pub step_state : Going → Settings → State → ℕ → Bool → State
step_state On c s len answer = state_next (fate_of c s answer) c s len
step_state LimitMet c s len answer = s
step_state NonmatchMet c s len answer = s

unfoldable pub state : Settings → (ℕ → Bool) → State → List (List ℕ) → State
state c answers s [] = s
state c answers s (l ∷ ls) = state c answers (step_state s.going c s (length l) (answers (s.lines + 1))) ls

unfoldable pub rows : Settings → (ℕ → Bool) → State → List (List ℕ) → List Row
rows c answers s [] = []
rows c answers s (l ∷ ls) =
    step_rows s.going c s (length l) (answers (s.lines + 1))
    ++ rows c answers (step_state s.going c s (length l) (answers (s.lines + 1))) ls

-- with all lines forgotten but the kept ones
unfoldable pub trim : Settings → State → State
trim c s =
    record {
      bytes = s.bytes;
      lines = s.lines;
      matches = s.matches;
      after_left = s.after_left;
      given = s.given;
      since = last_of (kept_lines c) s.since;
      going = s.going;
    }

-- the rows of a walk that before each line forgets all lines but the kept ones
unfoldable pub kept_rows : Settings → (ℕ → Bool) → State → List (List ℕ) → List Row
kept_rows c answers s [] = []
kept_rows c answers s (l ∷ ls) =
    step_rows s.going c (trim c s) (length l) (answers (s.lines + 1))
    ++ kept_rows c answers (step_state s.going c (trim c s) (length l) (answers (s.lines + 1))) ls
