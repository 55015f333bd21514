-- What is proved of the definition, for all settings, inputs and answers. The proofs stand in proofs/ under the names given.
use Rattle.std.specs.Prelude.{ℕ, ◌+◌, ◌≤◌, ◌<◌, ◌≡◌, Bool, false, length, take, drop}
use mathlib.Core.List.{List, [], ◌∷◌, ◌++◌, flatten}
use Rattle.definition.specs.declared.Settings.{Settings}
use Rattle.definition.specs.Definition.{end_record, going_next, gone_lines, kept_part, rows_of, end_of}
use Rattle.definition.specs.State.{State, begun, state, rows, trim, kept_rows}
use Rattle.definition.specs.Text.{first_place, handed, lines, replaced, text}

-- the state after all lines of an input
unfoldable pub final_state : Settings → List ℕ → (ℕ → Bool) → State
final_state c input answers = state c answers (begun c) (lines c.terminator (text c input))

-- The form of State.antt gives the definition's rows (Same.same_rows) ..
abbrev pub SameRows : Type 0
SameRows =
    (c : Settings) (input : List ℕ) (answers : ℕ → Bool)
    → rows_of c input answers ≡ rows c answers (begun c) (lines c.terminator (text c input))

-- .. and its end record (Same.same_end).
abbrev pub SameEnd : Type 0
SameEnd =
    (c : Settings) (input : List ℕ) (answers : ℕ → Bool)
    → let s = final_state c input answers in
    end_of c input answers ≡ end_record c input s.bytes s.lines s.matches s.going

-- The same after any lines: the rows, how the run stands, and the kept part (Same.same_lines).
abbrev pub SameLines : Type 0
SameLines =
    (c : Settings) (answers : ℕ → Bool) (ls : List (List ℕ))
    → ((gone_lines c answers ls).rows ≡ rows c answers (begun c) ls)
    × ((gone_lines c answers ls).going ≡ (state c answers (begun c) ls).going)
    × (kept_part c (gone_lines c answers ls) ≡ (trim c (state c answers (begun c) ls)).since)

-- The rows of a beginning of the lines are a beginning of the rows (Kept.rows_append).
abbrev pub RowsBegin : Type 0
RowsBegin =
    (c : Settings) (answers : ℕ → Bool) (s : State) (xs ys : List (List ℕ))
    → rows c answers s (xs ++ ys) ≡ rows c answers s xs ++ rows c answers (state c answers s xs) ys

-- B + 1 kept lines are enough: a walk that forgets all others gives the same rows (Kept.kept_enough).
abbrev pub KeptEnough : Type 0
KeptEnough =
    (c : Settings) (answers : ℕ → Bool) (s : State) (ls : List (List ℕ)) → kept_rows c answers s ls ≡ rows c answers s ls

-- The same at one moment: with the other lines forgotten the same rows come (Kept.trim_rows) ..
abbrev pub TrimRows : Type 0
TrimRows =
    (c : Settings) (answers : ℕ → Bool) (s : State) (ls : List (List ℕ)) → rows c answers (trim c s) ls ≡ rows c answers s ls

-- .. and the same state, but for lines that are not kept (Kept.trim_state).
abbrev pub TrimState : Type 0
TrimState =
    (c : Settings) (answers : ℕ → Bool) (s : State) (ls : List (List ℕ))
    → trim c (state c answers (trim c s) ls) ≡ trim c (state c answers s ls)

-- An empty text has no rows, and nothing is gone through (Same.empty_text).
abbrev pub EmptyText : Type 0
EmptyText =
    (c : Settings) (input : List ℕ) (answers : ℕ → Bool) → text c input ≡ []
    → (rows_of c input answers ≡ []) × (end_of c input answers ≡ end_record c input 0 0 0 (going_next c false 0 0))

-- "b equal to the terminator: Convert does nothing" (Terminator.convert_same).
abbrev pub ConvertSame : Type 0
ConvertSame = (t : ℕ) (bytes : List ℕ) → replaced t t bytes ≡ bytes

-- The lines are the text and nothing else (Terminator.lines_whole).
abbrev pub LinesWhole : Type 0
LinesWhole = (t : ℕ) (bytes : List ℕ) → flatten (lines t bytes) ≡ bytes

-- Where there is a terminator the first line ends after the first one (Terminator.lines_first) ..
abbrev pub LinesFirst : Type 0
LinesFirst =
    (t : ℕ) (bytes : List ℕ) → first_place t bytes < length bytes
    → lines t bytes ≡ take (first_place t bytes + 1) bytes ∷ lines t (drop (first_place t bytes + 1) bytes)

-- .. otherwise what there is forms the only line (Terminator.lines_rest).
abbrev pub LinesRest : Type 0
LinesRest = (t : ℕ) (bytes : List ℕ) → 0 < length bytes → length bytes ≤ first_place t bytes → lines t bytes ≡ bytes ∷ []

-- What is handed of a line that ends in the terminator is the line without it (Terminator.handed_whole).
abbrev pub HandedWhole : Type 0
HandedWhole = (t : ℕ) (bytes : List ℕ) → first_place t bytes < length bytes → handed t (take (first_place t bytes + 1) bytes) ≡ take (first_place t bytes) bytes
