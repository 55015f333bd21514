-- The decision of an offer with the place where the kept part starts, and what the parts of the code lean on.
use Rattle.std.specs.Prelude.{◌≡◌, ℕ, ◌+◌, ◌-◌, ◌≤◌, Bool, not, ◌||◌, List, length, ◌==◌, Option, Some, None, Result, Ok, Err}
use Rattle.definition.specs.declared.Refusal.{Refusal}
use Rattle.driver_core.specs.Walk.{is_on}
use Rattle.session.specs.declared.Session.{Session}
use Rattle.session.specs.Calls.{Idle, OfferDecision, OfferRefused, Take, offering, quit_place}
use Rattle.session.specs.Held.{is_open, kept_from}
use Rattle.session.specs.Sound.{Agree}
use Rattle.offering.specs.declared.Plan.{Plan}

abbrev pub plan_of : OfferDecision → ℕ → Result (Option Plan) Refusal
plan_of (OfferRefused k) from = Err k
plan_of Idle from = Ok None
plan_of (Take n quit) from = Ok (Some (record { from = from; taken = n; quit = quit }))

unfoldable pub planned : Session → List ℕ → List ℕ → Result (Option Plan) Refusal
planned s w piece = plan_of (offering s w piece) (kept_from s w)

-- `idle` of a piece's length
unfoldable pub idle_at : Session → ℕ → Bool
idle_at s piece = piece == 0 || not (is_open s.places.input) || not (is_on s.walk.going)

-- a session that agrees with itself and the window, and where its kept part starts
pub record Sounded (s : Session) (w : List ℕ) (from : ℕ) : Type 0 where
  pub agree : Agree s
  pub same : length w ≡ s.places.window
  pub from_is : from ≡ kept_from s w

-- and bytes of a piece that have room behind it and no Quit byte among them
pub record Storing (s : Session) (w piece : List ℕ) (from n : ℕ) : Type 0 where
  pub sounded : Sounded s w from
  pub fits : s.places.end - from + n ≤ s.places.window
  pub some : n ≤ length piece
  pub uncut : n ≤ quit_place s.walk.settings.binary piece
