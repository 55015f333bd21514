-- The invariant: the turns made so far lead from the state at entry to the state as it stands, and what they print is pending.
use mathlib.Core.Path.{◌≡◌}
use Rattle.search_machine.specs.Standing.{seen}
use Rattle.turning.proofs.Looping.{Loop}
use Rattle.turning.proofs.turns.Given as goal

abbrev pub invariant-loop : goal.invariant-loop
invariant-loop l =
    (l.told.room.ghost_name ≡ l.initial.told.room.ghost_name)
    × Loop l.s (seen l.s l.initial.window l.literal l.initial.input) l.initial.window l.initial.table l.literal l.initial.input l.initial.told.room.now l.window l.table l.input l.told.room.now l.searcher l.at l.told.pending l.counter
