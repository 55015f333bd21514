-- 01, refusal 6: the list of numbers that contradict each other, and the closed session.
use Rattle.std.specs.Prelude.{ℕ, ◌+◌, ◌-◌, ◌<◌, ◌≤◌, Bool, ◌&&◌, List, [], ◌∷◌, ◌==◌, nat_le, nat_lt, None}
use Rattle.definition.specs.Bounds.{max_window, plain}
use Rattle.driver_core.specs.Walk.{WalkAgree, every, walk_agrees, walk_start}
use Rattle.session.specs.declared.Input.TheVariants.{Open}
use Rattle.session.specs.declared.Places.{Places}
use Rattle.session.specs.declared.Session.{Session}

-- how many bytes lie between the floor and the first byte not answered, and how many are held unanswered
abbrev pub since_bytes : Session → ℕ
since_bytes s = s.places.next - s.places.floor

abbrev pub ahead_bytes : Session → ℕ
ahead_bytes s = s.places.end - s.places.next

-- "Bytes taken always equal bytes gone through plus" what is held and not answered
unfoldable pub taken_bytes : Session → ℕ
taken_bytes s = s.walk.bytes + ahead_bytes s

-- The list for the places: each test fails where they contradict each other. A closed session fails the first.
unfoldable pub places_tests : Places → List Bool
places_tests p =
    nat_lt 0 p.window
    ∷ nat_le p.window max_window
    ∷ nat_le p.floor p.next
    ∷ nat_le p.next p.end
    ∷ nat_le p.end p.window
    ∷ []

unfoldable pub places_agree : Places → Bool
places_agree p = every (places_tests p)

-- the places among themselves, and the walk with them
unfoldable pub agrees : Session → Bool
agrees s = places_agree s.places && walk_agrees s.walk (since_bytes s) (ahead_bytes s)

-- what the tests say, as facts (proofs/Agree.antt: agree_of, agrees_of)
pub record PlacesAgree (p : Places) : Type 0 where
  pub some : 0 < p.window
  pub most : p.window ≤ max_window
  pub floor_next : p.floor ≤ p.next
  pub next_end : p.next ≤ p.end
  pub end_window : p.end ≤ p.window

pub record Agree (s : Session) : Type 0 where
  pub places : PlacesAgree s.places
  pub walk : WalkAgree s.walk (since_bytes s) (ahead_bytes s)

-- "any call on a closed session, with a window of another length than at opening, or on a session whose numbers contradict each other"
unfoldable pub sound : Session → ℕ → Bool
sound s window = agrees s && window == s.places.window

-- nothing held in a window of some length
abbrev pub places_start : ℕ → Places
places_start window = record { window = window; floor = 0; next = 0; end = 0; input = Open; replaced = None }

-- "a closed session that answers 6 to everything"
abbrev pub closed : Session
closed = record { walk = walk_start (plain 0); places = places_start 0 }
