-- The output keeps its buffer.
use mathlib.Core.Path.{◌≡◌}
use Rattle.replay_input.proofs.Reading.next_line.Given as goal

abbrev pub invariant-loop : goal.invariant-loop
invariant-loop g l = l.out.room.ghost_name ≡ l.initial.out.room.ghost_name
