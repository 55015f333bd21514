-- The line that waits in a window, where the session is sound: its length.
use Rattle.std.specs.Prelude.{ℕ, cond, List, length, Option, None}
use Rattle.driver_core.specs.Walk.{line_ahead}
use Rattle.session.specs.declared.Session.{Session}
use Rattle.session.specs.Held.{is_open, unanswered}
use Rattle.session.specs.Sound.{sound}

unfoldable pub waiting_line : Session → List ℕ → Option ℕ
waiting_line s w = cond (sound s (length w)) (line_ahead s.walk (is_open s.places.input) (unanswered s w)) None
