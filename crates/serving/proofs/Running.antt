-- Laws of the loop that reads and writes: how the program stands between a write and the next step.
use Rattle.std.specs.Prelude.{Result, Ok, Err}
use Prim.Native.Nat.{ℕ, ◌+◌, ◌≤◌}
use mathlib.Core.Path.{◌≡◌, refl, sym, ◌∙◌, ap, subst}
use mathlib.Core.List.{List, ◌++◌}
use native.Mathlib.Omega.{arith}
use lib.ListN.{length, take}
use Rattle.definition.specs.Text.{part}
use Rattle.streams.specs.declared.Failure.{Failure}
use Rattle.streams.specs.Moves.{MovedWithin}
use Rattle.search_machine.specs.declared.Phase.{Phase}
use Rattle.search_machine.specs.declared.Phase.TheVariants.{Wants}
use Rattle.search_machine.specs.declared.Search.{Search}
use Rattle.search_machine.specs.Standing.{Collects, Fits, HasRoom, Heard, Hearing, Placed, Rests, Stepped, begins, written_out}
use Rattle.printing.specs.Texts.{line_most}
use Rattle.search_machine.proofs.Places.{part_front, same_state}

pub rests_start : (input : List ℕ) → Rests begins input
rests_start input =
    record {
      placed = record { literal_in = omega arith; from_to = omega arith; to_in = omega arith };
      room = tt;
      nothing = record { none = refl; kept = refl };
    }

pub rests_written : {r : Search} {input : List ℕ} → Placed r input → HasRoom r.phase r.to input → Rests (written_out r) input
rests_written p h =
    record {
      placed = record { literal_in = p.literal_in; from_to = p.from_to; to_in = p.to_in };
      room = h;
      nothing = record { none = refl; kept = refl };
    }

pub collects_none : {s : Search} {input : List ℕ} (out : List ℕ) → Rests s input → Collects s out
collects_none out r = record { within = omega (arith, r.nothing); kept = r.nothing.kept }

-- a read behind what was left leaves the machine's state as it was
pub read_in : {s r : Search} {got : Result ℕ Failure} {window literal input after out : List ℕ} (behind : List ℕ) → s.phase ≡ Wants → Rests s input
    → after ≡ take s.to input ++ behind
    → Heard s got window literal after r out
    → Stepped s.phase s window literal input r window literal after out
read_in {s} {r} {got} {window} {literal} {input} {after} {out} behind w rests e h =
    let left : part s.from s.to after ≡ part s.from s.to input = ap (λ xs. part s.from s.to xs) e ∙ part_front s.from s.to input behind rests.placed.from_to rests.placed.to_in in
    subst (λ phase. Stepped phase s window literal input r window literal after out) (sym w)
    (record { got = got; stands = same_state s.stage (take s.size literal) refl refl left; heard = h })

-- what a read moved into the room behind a place fits
moved_fits : (got : Result ℕ Failure) (to : ℕ) (input lent : List ℕ) → to + length lent ≤ length input → MovedWithin got lent → Fits got to input
moved_fits (Ok n) to input lent h w = omega (arith, w)
moved_fits (Err e) to input lent h w = tt

pub rests_hearing : {s : Search} {got : Result ℕ Failure} {input after out : List ℕ} (lent : List ℕ) → Rests s input → s.phase ≡ Wants
    → length after ≡ length input → s.to + length lent ≤ length input → MovedWithin got lent → line_most ≤ length out → Hearing s got after out
rests_hearing {s} {got} {input} {after} lent r e i h w o =
    let room : HasRoom Wants s.to input = subst (λ phase. HasRoom phase s.to input) e r.room in
    record {
      wanted = e;
      placed = record { literal_in = r.placed.literal_in; from_to = r.placed.from_to; to_in = omega (arith, r.placed.to_in) };
      nothing = r.nothing;
      room = omega (arith, room);
      fits = moved_fits got s.to after lent (omega arith) w;
      out_room = o;
    }
