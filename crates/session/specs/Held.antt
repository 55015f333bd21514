-- What a window shows of a session: the bytes held, whether a line waits, the kept part, and the definition's state.
-- All is read from the window as it stands (docs/DECISIONS.md 9 and 10).
use Rattle.std.specs.Prelude.{ℕ, ◌+◌, ◌-◌, Bool, true, false, List, length}
use mathlib.Core.List.{flatten}
use Rattle.definition.specs.Definition.{last_of, kept_lines}
use Rattle.definition.specs.State.{State}
use Rattle.definition.specs.Text.{first_length, lines, part}
use Rattle.driver_core.specs.Answer.{state_since}
use Rattle.driver_core.specs.Walk.{waits_ahead}
use Rattle.session.specs.declared.Input.{Input}
use Rattle.session.specs.declared.Input.TheVariants.{Open, Ended, QuitFound}
use Rattle.session.specs.declared.Session.{Session}

abbrev pub is_open : Input → Bool
is_open Open = true
is_open Ended = false
is_open QuitFound = false

-- # The waiting line

-- held and not answered
unfoldable pub unanswered : Session → List ℕ → List ℕ
unanswered s w = part s.places.next s.places.end w

-- whether a line waits there
unfoldable pub waits : Session → List ℕ → Bool
waits s w = waits_ahead s.walk (is_open s.places.input) (unanswered s w)

-- its length with terminator
unfoldable pub line_length : Session → List ℕ → ℕ
line_length s w = first_length s.walk.settings.terminator (unanswered s w)

-- # The lines since the last line with a row, and the kept part

-- the bytes between the floor and the first byte not answered
abbrev pub since : Session → List ℕ → List ℕ
since s w = part s.places.floor s.places.next w

unfoldable pub since_lines : Session → List ℕ → List (List ℕ)
since_lines s w = lines s.walk.settings.terminator (since s w)

-- "the last B + 1 lines before j, but only those after the last line with a row", in bytes
unfoldable pub kept_bytes : Session → List ℕ → ℕ
kept_bytes s w = length (flatten (last_of (kept_lines s.walk.settings) (since_lines s w)))

-- held from the kept part on: kept and not answered
unfoldable pub held_bytes : Session → List ℕ → ℕ
held_bytes s w = kept_bytes s w + (s.places.end - s.places.next)

-- the place where the kept part starts
unfoldable pub kept_from : Session → List ℕ → ℕ
kept_from s w = s.places.next - kept_bytes s w

-- # The definition's state

unfoldable pub shown : Session → List ℕ → State
shown s w = state_since s.walk (since s w)
