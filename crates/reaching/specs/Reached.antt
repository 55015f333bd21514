-- How far a piece reaches: what of it comes in where there is only so much room.
use Rattle.std.specs.Prelude.{ℕ, min, ◌&&◌, List, ltb, eqb, length}
use Rattle.definition.specs.declared.Binary.{Binary}
use Rattle.session.specs.Calls.{quit_place}
use Rattle.reaching.specs.declared.Reach.{Reach}

-- as many bytes as come before a Quit byte and have room
unfoldable pub reached : Binary → List ℕ → ℕ → Reach
reached binary piece room =
    record {
      taken = min (quit_place binary piece) room;
      quit = eqb (min (quit_place binary piece) room) (quit_place binary piece) && ltb (min (quit_place binary piece) room) (length piece);
    }
