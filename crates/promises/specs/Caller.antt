-- The promises to any caller: no rule at all is kept, and the window may be altered at will between calls. Each is a statement; its
-- proof, under the same name in small letters, stands in proofs/Caller.antt. Every call is a function of its arguments, so each has
-- exactly one outcome.
use Rattle.std.specs.Prelude.{◌≡◌, ℕ, ◌+◌, ◌*◌, ◌<◌, ◌≤◌, Bool, true, false, cond, ◌⊎◌, ◌↔◌, List, [], ◌∷◌, length, drop, ◌≢◌, nat_lt, Ok}
use Rattle.definition.specs.declared.Going.TheVariants.{On}
use Rattle.definition.specs.declared.Settings.{Settings}
use Rattle.definition.specs.Bounds.{allowed, max_input, max_window}
use Rattle.definition.specs.Rows.{row_size}
use Rattle.definition.specs.Text.{first_place, lines}
use Rattle.driver_core.specs.Walk.{is_on}
use Rattle.session.specs.declared.Input.TheVariants.{Open, QuitFound}
use Rattle.session.specs.declared.Session.{Session}
use Rattle.session.specs.Calls.{Plain, answer_rows, answered, answered_table, below_one, idle, no_record, offered, offered_window, opened, quit_front, recorded, remains, shown_line, told, waiting, waiting_refusal}
use Rattle.session.specs.Held.{held_bytes, is_open, unanswered, waits}
use Rattle.session.specs.Sound.{agrees, closed, sound, taken_bytes}

-- A session reached from a served opening by any calls, with any windows, pieces, tables and answers, and the bytes taken by then,
-- as the offers told them.
pub data Reached : ℕ → Session → Type 0 where
  opens : (c : Settings) (window : ℕ) → (opened c window).refusal ≡ 0 → Reached 0 (opened c window).session
  offers : {n : ℕ} {s : Session} (w piece : List ℕ) → Reached n s → Reached (n + (offered s w piece).taken) (offered s w piece).session
  answers : {n : ℕ} {s : Session} (w table : List ℕ) (hit : Bool) → Reached n s → Reached n (answered s w table hit).session
  tells : {n : ℕ} {s : Session} → Reached n s → Reached n (told s).session

-- "by a list fixed in docs/ that no session reached by calls from a served opening meets"
abbrev pub Agreeing : Type 0
Agreeing = (n : ℕ) (s : Session) → Reached n s → agrees s ≡ true

-- # Refusals change nothing

-- "changes neither session, window nor row table"; "0 taken, 0 rows ..; a refused end record is all zeros"; "Refusals 1 and 2 hand back a
-- closed session that answers 6 to everything."
pub record Unchanged (s : Session) (w piece table : List ℕ) (hit : Bool) (c : Settings) (window : ℕ) : Type 0 where
  pub offer :
      ((offered s w piece).refusal ≢ 0)
      → ((offered s w piece).session ≡ s) × ((offered s w piece).taken ≡ 0) × (offered_window s w piece ≡ w)
  pub answer :
      ((answered s w table hit).refusal ≢ 0)
      → ((answered s w table hit).session ≡ s) × ((answered s w table hit).rows ≡ 0) × (answered_table s w table hit ≡ table)
  pub tell : ((told s).refusal ≢ 0) → (told s).session ≡ s
  pub record_zeros : ((recorded s).refusal ≢ 0) → (recorded s).end ≡ no_record
  pub part_empty : (waiting s w ≢ Ok true) → shown_line s w ≡ []
  pub opening_closed : ((opened c window).refusal ≢ 0) → (opened c window).session ≡ closed
  pub closed_6 :
      ((offered closed w piece).refusal ≡ 6)
      × (waiting_refusal (waiting closed w) ≡ 6)
      × ((answered closed w table hit).refusal ≡ 6)
      × ((told closed).refusal ≡ 6)
      × ((recorded closed).refusal ≡ 6)

abbrev pub RefusalsChangeNothing : Type 0
RefusalsChangeNothing =
    (s : Session) (w piece table : List ℕ) (hit : Bool) (c : Settings) (window : ℕ) → Unchanged s w piece table hit c window

-- # "When, and only then"

-- what is served: an idle piece, one led by a Quit byte, or one for which size and window have room; a waiting line is room enough,
-- since nothing need be taken
abbrev pub OfferServed : Session → List ℕ → List ℕ → Type 0
OfferServed s w piece =
    (sound s (length w) ≡ true)
    × ((idle s piece ≡ true)
    ⊎ ((quit_front s piece ≡ true)
    ⊎ ((taken_bytes s < max_input) × ((waits s w ≡ true) ⊎ (held_bytes s w < s.places.window)))))

pub record Offers (s : Session) (w piece : List ℕ) : Type 0 where
  pub six : ((offered s w piece).refusal ≡ 6) ↔ (sound s (length w) ≡ false)
  pub five : ((offered s w piece).refusal ≡ 5) ↔ (Plain s w piece × (max_input ≤ taken_bytes s))
  pub three :
      ((offered s w piece).refusal ≡ 3)
      ↔ (Plain s w piece × (taken_bytes s < max_input) × (waits s w ≡ false) × (s.places.window ≤ held_bytes s w))
  pub zero : ((offered s w piece).refusal ≡ 0) ↔ OfferServed s w piece

pub record Answers (s : Session) (w table : List ℕ) (hit : Bool) : Type 0 where
  pub six :
      ((answered s w table hit).refusal ≡ 6)
      ↔ ((sound s (length w) ≡ false) ⊎ ((waits s w ≡ false) ⊎ (below_one s w hit ≡ true)))
  pub four :
      ((answered s w table hit).refusal ≡ 4)
      ↔ ((sound s (length w) ≡ true) × (waits s w ≡ true) × (below_one s w hit ≡ false) × (length table < row_size * length (answer_rows s w hit)))
  pub zero :
      ((answered s w table hit).refusal ≡ 0)
      ↔ ((sound s (length w) ≡ true) × (waits s w ≡ true) × (below_one s w hit ≡ false) × (row_size * length (answer_rows s w hit) ≤ length table))

pub record Others (s : Session) (w : List ℕ) (c : Settings) (window : ℕ) : Type 0 where
  pub opening_1 : ((opened c window).refusal ≡ 1) ↔ (allowed c ≡ false)
  pub opening_2 : ((opened c window).refusal ≡ 2) ↔ ((allowed c ≡ true) × ((window ≡ 0) ⊎ (max_window < window)))
  pub opening_0 : ((opened c window).refusal ≡ 0) ↔ ((allowed c ≡ true) × (0 < window) × (window ≤ max_window))
  pub waiting_6 : (waiting_refusal (waiting s w) ≡ 6) ↔ (sound s (length w) ≡ false)
  pub waiting_line : (waiting s w ≡ Ok true) ↔ ((sound s (length w) ≡ true) × (waits s w ≡ true))
  pub telling_6 : ((told s).refusal ≡ 6) ↔ (agrees s ≡ false)
  pub telling_0 : ((told s).refusal ≡ 0) ↔ (agrees s ≡ true)
  pub record_6 : ((recorded s).refusal ≡ 6) ↔ (agrees s ≡ false)
  pub record_7 : ((recorded s).refusal ≡ 7) ↔ ((agrees s ≡ true) × (remains s ≡ true))
  pub record_0 : ((recorded s).refusal ≡ 0) ↔ ((agrees s ≡ true) × (remains s ≡ false))

abbrev pub WhenAndOnlyThen : Type 0
WhenAndOnlyThen =
    (s : Session) (w piece table : List ℕ) (hit : Bool) (c : Settings) (window : ℕ)
    → Offers s w piece × Answers s w table hit × Others s w c window

-- # Bytes taken

-- the bytes of whole lines among some lines, and of what is no whole line
unfoldable pub whole_bytes : ℕ → List (List ℕ) → ℕ
whole_bytes t [] = 0
whole_bytes t (l ∷ ls) = cond (nat_lt (first_place t l) (length l)) (length l) 0 + whole_bytes t ls

unfoldable pub lone_bytes : ℕ → List (List ℕ) → ℕ
lone_bytes t [] = 0
lone_bytes t (l ∷ ls) = cond (nat_lt (first_place t l) (length l)) 0 (length l) + lone_bytes t ls

-- "waiting (every whole line held unanswered)"; at the end an unterminated rest too; after a stop none
abbrev pub waiting_in : Bool → Bool → ℕ → List ℕ → ℕ
waiting_in true true t bytes = whole_bytes t (lines t bytes)
waiting_in true false t bytes = length bytes
waiting_in false more t bytes = 0

-- "unfinished (what was taken after those)"; "bytes still held count as unfinished" after a stop
abbrev pub unfinished_in : Bool → Bool → ℕ → List ℕ → ℕ
unfinished_in true true t bytes = lone_bytes t (lines t bytes)
unfinished_in true false t bytes = 0
unfinished_in false more t bytes = length bytes

unfoldable pub waiting_bytes : Session → List ℕ → ℕ
waiting_bytes s w = waiting_in (is_on s.walk.going) (is_open s.places.input) s.walk.settings.terminator (unanswered s w)

unfoldable pub unfinished_bytes : Session → List ℕ → ℕ
unfinished_bytes s w = unfinished_in (is_on s.walk.going) (is_open s.places.input) s.walk.settings.terminator (unanswered s w)

-- "Bytes taken always equal bytes gone through plus waiting .. plus unfinished", the bytes taken as the offers told them; a line waits
-- exactly where bytes wait, and "after a stop no line waits".
abbrev pub Balance : Type 0
Balance =
    (n : ℕ) (s : Session) (w : List ℕ) → Reached n s → length w ≡ s.places.window
    → (n ≡ s.walk.bytes + waiting_bytes s w + unfinished_bytes s w)
    × ((waits s w ≡ true) ↔ (0 < waiting_bytes s w))
    × ((s.walk.going ≢ On) → waits s w ≡ false)

-- # What a served call does

-- "Where no line waits and the input is open, a piece with bytes gets at least one taken, finds the Quit byte, or is refused."
abbrev pub Progress : Type 0
Progress =
    (s : Session) (w piece : List ℕ) → waits s w ≡ false → s.places.input ≡ Open → s.walk.going ≡ On → 0 < length piece
    → (0 < (offered s w piece).taken) ⊎ (((offered s w piece).session.places.input ≡ QuitFound) ⊎ ((offered s w piece).refusal ≢ 0))

-- "An answer writes at most B + 2 rows, from the table's front; other rows stay."
abbrev pub RowsStay : Type 0
RowsStay =
    (s : Session) (w table : List ℕ) (hit : Bool)
    → let n = (answered s w table hit).rows in
    (n ≤ s.walk.settings.before + 2)
    × (length (answered_table s w table hit) ≡ length table)
    × (drop (row_size * n) (answered_table s w table hit) ≡ drop (row_size * n) table)

-- "Window places beyond the new held end stay as they were."
abbrev pub WindowStays : Type 0
WindowStays =
    (s : Session) (w piece : List ℕ)
    → let end = (offered s w piece).session.places.end in
    (length (offered_window s w piece) ≡ length w) × (drop end (offered_window s w piece) ≡ drop end w)

-- "An empty piece, or one after the end or a stop, takes 0 and changes nothing." "Telling the end again, or after a stop, changes nothing."
abbrev pub NothingTwice : Type 0
NothingTwice =
    (s : Session) (w piece : List ℕ)
    → let over = (s.places.input ≢ Open) ⊎ (s.walk.going ≢ On) in
    ((length piece ≡ 0) ⊎ over → ((offered s w piece).taken ≡ 0) × ((offered s w piece).session ≡ s) × (offered_window s w piece ≡ w))
    × (over → (told s).session ≡ s)
