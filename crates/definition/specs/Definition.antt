-- 01, "The whole-input definition", in its own words: the rows and the end record of a search, from the settings, the whole input
-- and a yes or no for each line. Nothing here speaks of windows, pieces or calls.
use Rattle.std.specs.Prelude.{ℕ, ◌+◌, ◌-◌, Bool, true, false, cond, not, ◌&&◌, ◌||◌, List, [], ◌∷◌, ◌++◌, map, length, drop, ltb, leb, eqb, Option, Some, None}
use Rattle.std.specs.Bool.{xor}
use Rattle.definition.specs.declared.Kind.{Kind}
use Rattle.definition.specs.declared.Row.{Row}
use Rattle.definition.specs.declared.Fate.{Fate}
use Rattle.definition.specs.declared.Fate.TheVariants.{Match, After, Other, NoRow}
use Rattle.definition.specs.declared.Binary.{Binary}
use Rattle.definition.specs.declared.Binary.TheVariants.{Ignore, Quit, Convert}
use Rattle.definition.specs.declared.Cause.{Cause}
use Rattle.definition.specs.declared.Cause.TheVariants.{InputEnd, QuitByte, Limit, Nonmatch}
use Rattle.definition.specs.declared.End.{End}
use Rattle.definition.specs.declared.Going.{Going}
use Rattle.definition.specs.declared.Going.TheVariants.{On, LimitMet, NonmatchMet}
use Rattle.definition.specs.declared.Settings.{Settings}
use Rattle.definition.specs.Bounds.{contextual}
use Rattle.definition.specs.Rows.{Line, row, break, placed}
use Rattle.definition.specs.Text.{first_place, lines, text}

-- # Which lines get which row

abbrev pub limit_reached : Option ℕ → ℕ → Bool
limit_reached None matches = false
limit_reached (Some n) matches = leb n matches

-- "A line is selected when the limit is not yet reached and its answer differs from invert."
unfoldable pub selected : Settings → ℕ → Bool → Bool
selected c matches answer = not (limit_reached c.limit matches) && xor answer c.invert

-- "Selected: .. the match. .. Else if after-left is above 0: after-context .. Else if pass-through: other context. Else no row."
unfoldable pub fate : Settings → Bool → ℕ → Fate
fate c isSelected after_left = cond isSelected Match (cond (ltb 0 after_left) After (cond c.passthru Other NoRow))

-- "After-left becomes A. .. after-left falls by 1."
abbrev pub after_left_next : Fate → Settings → ℕ → ℕ
after_left_next Match c left = c.after
after_left_next After c left = left - 1
after_left_next Other c left = left
after_left_next NoRow c left = left

abbrev pub matches_next : Fate → ℕ → ℕ
matches_next Match m = m + 1
matches_next After m = m
matches_next Other m = m
matches_next NoRow m = m

abbrev pub is_match : Fate → Bool
is_match Match = true
is_match After = false
is_match Other = false
is_match NoRow = false

-- whether a line has a row among those given
unfoldable pub has_row : List Row → Line → Bool
has_row [] l = false
has_row (r ∷ rows) l = eqb r.number l.number || has_row rows l

-- those of some lines that have no row yet
unfoldable pub rowless : List Row → List Line → List Line
rowless rows [] = []
rowless rows (l ∷ ls) = cond (has_row rows l) (rowless rows ls) (l ∷ rowless rows ls)

-- the last n of a list; all of it where it is shorter
unfoldable pub last_of {ℓ} : {A : Type ℓ} → ℕ → List A → List A
last_of n xs = drop (length xs - n) xs

-- "those of the last B lines before it that have no row yet come as before-context, then the match"
abbrev pub own_rows : Fate → Settings → List Line → List Row → Line → List Row
own_rows Match c seen rows l = map (row Kind.Before) (rowless rows (last_of c.before seen)) ++ (row Kind.Match l ∷ [])
own_rows After c seen rows l = row Kind.After l ∷ []
own_rows Other c seen rows l = row Kind.Other l ∷ []
own_rows NoRow c seen rows l = []

-- # Breaks

-- the line number of the last of some rows, n where there are none
unfoldable pub last_number : ℕ → List Row → ℕ
last_number n [] = n
last_number n (r ∷ rows) = last_number r.number rows

-- the lines that lie between two line numbers
unfoldable pub between : ℕ → ℕ → List Line → List Line
between a b [] = []
between a b (l ∷ ls) = cond (ltb a l.number && ltb l.number b) (l ∷ between a b ls) (between a b ls)

-- "A break comes before a row when B or A is above 0, some row was given, and at least one line without a row lies between."
unfoldable pub break_before : Settings → List Line → List Row → Row → Bool
break_before c seen rows r =
    contextual c
    && ltb 0 (length rows)
    && ltb 0 (length (rowless rows (between (last_number 0 rows) r.number seen)))

-- some rows given after others, each with the break that it needs
unfoldable pub give : Settings → List Line → List Row → List Row → List Row
give c seen rows [] = rows
give c seen rows (r ∷ more) = give c seen (rows ++ (cond (break_before c seen rows r) (break ∷ []) [] ++ (r ∷ []))) more

-- # Stops

-- "The run stops at once when the limit is reached, after-left is 0 and pass-through is off ..; or, with stop-on-nonmatch, after an
-- unselected line that follows some match. If both hold, the limit is the cause."
unfoldable pub going_next : Settings → Bool → ℕ → ℕ → Going
going_next c unselected matches after_left =
    cond (limit_reached c.limit matches && eqb after_left 0 && not c.passthru) LimitMet
    (cond (c.stop && unselected && ltb 0 matches) NonmatchMet On)

-- # The walk

-- what the lines gone through have left behind
pub record Gone : Type 0 where
  pub seen : List Line
  pub rows : List Row
  pub matches : ℕ
  pub after_left : ℕ
  pub going : Going

-- before any line: "(a limit of 0: at opening)"
unfoldable pub start : Settings → Gone
start c = record { seen = []; rows = []; matches = 0; after_left = 0; going = going_next c false 0 0 }

abbrev pub gone_next : Fate → Settings → Gone → Line → Gone
gone_next f c g l =
    record {
      seen = g.seen ++ (l ∷ []);
      rows = give c g.seen g.rows (own_rows f c g.seen g.rows l);
      matches = matches_next f g.matches;
      after_left = after_left_next f c g.after_left;
      going = going_next c (not (is_match f)) (matches_next f g.matches) (after_left_next f c g.after_left);
    }

-- a line after a stop is not gone through
abbrev pub go_through : Going → Settings → Gone → Line → Bool → Gone
go_through On c g l answer = gone_next (fate c (selected c g.matches answer) g.after_left) c g l
go_through LimitMet c g l answer = g
go_through NonmatchMet c g l answer = g

-- "Take the lines in order." The answers go by line number.
unfoldable pub walk : Settings → (ℕ → Bool) → Gone → List Line → Gone
walk c answers g [] = g
walk c answers g (l ∷ ls) = walk c answers (go_through g.going c g l (answers l.number)) ls

-- what some lines, from the first on, have left behind
unfoldable pub gone_lines : Settings → (ℕ → Bool) → List (List ℕ) → Gone
gone_lines c answers ls = walk c answers (start c) (placed 0 1 ls)

unfoldable pub gone : Settings → List ℕ → (ℕ → Bool) → Gone
gone c input answers = gone_lines c answers (lines c.terminator (text c input))

-- # The kept part

-- 01, "Kept part": "with B = A = 0 nothing; otherwise the last B + 1 lines .."
unfoldable pub kept_lines : Settings → ℕ
kept_lines c = cond (contextual c) (c.before + 1) 0

-- the lines gone through after the last line with a row
unfoldable pub since_last : Gone → List Line
since_last g = between (last_number 0 g.rows) (length g.seen + 1) g.seen

-- ".. but only those after the last line with a row"
unfoldable pub kept_part : Settings → Gone → List Line
kept_part c g = last_of (kept_lines c) (since_last g)

-- # The end record

-- whether the input has a Quit byte
abbrev pub quit_met : Binary → List ℕ → Bool
quit_met Ignore input = false
quit_met (Quit b) input = ltb (first_place b input) (length input)
quit_met (Convert b) input = false

-- why a search ended, where it met a Quit byte or not
abbrev pub cause_of : Going → Bool → Cause
cause_of On quit = cond quit QuitByte InputEnd
cause_of LimitMet quit = Limit
cause_of NonmatchMet quit = Nonmatch

-- "cause (0 end of input, 1 Quit byte, 2 limit, 3 nonmatch)"
abbrev pub cause_number : Cause → ℕ
cause_number InputEnd = 0
cause_number QuitByte = 1
cause_number Limit = 2
cause_number Nonmatch = 3

-- "the Quit byte's under cause 1, under Convert the first replaced byte among those gone through, else none"
abbrev pub binary_place : Binary → ℕ → Cause → ℕ → List ℕ → Option ℕ
binary_place Ignore terminator cause bytes input = None
binary_place (Quit b) terminator cause bytes input = cond (eqb (cause_number cause) 1) (Some (first_place b input)) None
binary_place (Convert b) terminator cause bytes input =
    cond (not (eqb b terminator) && ltb (first_place b input) bytes) (Some (first_place b input)) None

abbrev pub end_with : ℕ → ℕ → ℕ → ℕ → Option ℕ → End
end_with bytes count matches cause place =
    record { bytes = bytes; lines = count; matches = matches; cause = cause; offset = place }

unfoldable pub end_record : Settings → List ℕ → ℕ → ℕ → ℕ → Going → End
end_record c input bytes count matches going =
    end_with bytes count matches (cause_number (cause_of going (quit_met c.binary input)))
    (binary_place c.binary c.terminator (cause_of going (quit_met c.binary input)) bytes input)

-- "binary offset: .. else none, written as flag 0 and number 0"
abbrev pub flag_of : Option ℕ → ℕ
flag_of None = 0
flag_of (Some p) = 1

abbrev pub offset_of : Option ℕ → ℕ
offset_of None = 0
offset_of (Some p) = p

-- an end record as the six numbers that 01 writes
abbrev pub end_numbers : End → List ℕ
end_numbers e =
    e.bytes ∷ (e.lines ∷ (e.matches ∷ (e.cause ∷ (flag_of e.offset ∷ (offset_of e.offset ∷ [])))))

-- the bytes of some lines
unfoldable pub bytes_of : List Line → ℕ
bytes_of [] = 0
bytes_of (l ∷ ls) = l.length + bytes_of ls

-- # What a search gives

unfoldable pub rows_of : Settings → List ℕ → (ℕ → Bool) → List Row
rows_of c input answers = (gone c input answers).rows

unfoldable pub end_of : Settings → List ℕ → (ℕ → Bool) → End
end_of c input answers =
    let g = gone c input answers in
    end_record c input (bytes_of g.seen) (length g.seen) g.matches g.going
