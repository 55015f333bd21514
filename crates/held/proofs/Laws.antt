-- Laws of the places: a sound session, its window, and the kept part.
use Rattle.std.proofs.Common.{◌≡◌, ℕ, ◌+◌, ◌-◌, ◌≤◌, true, eqb, List, length, arith, eq-eqb}
use mathlib.Core.Bool.{and-eq-true_iff}
use Rattle.definition.specs.Definition.{kept_lines}
use Rattle.definition.specs.Text.{part}
use Rattle.definition.proofs.Terminator.{flatten_last}
use Rattle.lines.specs.Lines.{last_start}
use Rattle.session.specs.declared.Session.{Session}
use Rattle.session.specs.Held.{held_bytes, kept_bytes, kept_from, since_lines}
use Rattle.session.specs.Sound.{Agree, agrees, sound}
use Rattle.session.proofs.Agree.{agrees_of}
use Rattle.session.proofs.Parts.{kept_le, part_length}

-- A session that agrees, with its window.
pub sound_of : (s : Session) (n : ℕ) → Agree s → n ≡ s.places.window → sound s n ≡ true
unfolding sound
sound_of s n a e = (and-eq-true_iff (agrees s) (eqb n s.places.window)).1 (agrees_of s a, eq-eqb n s.places.window e)

-- # The kept part

-- what is held from there on
pub held_from : (s : Session) (w : List ℕ) → s.places.next ≤ s.places.end → s.places.end - kept_from s w ≡ held_bytes s w
unfolding kept_from held_bytes
held_from s w h = omega (arith, kept_le s w)

-- where it starts, found backwards from the first byte not answered
pub kept_back : (s : Session) (w : List ℕ) → s.places.floor ≤ s.places.next → s.places.next ≤ length w
    → s.places.floor + last_start (kept_lines s.walk.settings) s.walk.settings.terminator (part s.places.floor s.places.next w) ≡ kept_from s w
unfolding kept_from kept_bytes since_lines last_start
kept_back s w h k =
    let x = part s.places.floor s.places.next w in
    let last = (flatten_last (kept_lines s.walk.settings) s.walk.settings.terminator x).0 in
    omega (arith, part_length s.places.floor s.places.next w h k, last)
