-- The output keeps its buffer.
use mathlib.Core.Path.{◌≡◌}
use Rattle.replay_says.proofs.said_rows.Given as goal

abbrev pub invariant-loop-row : goal.invariant-loop-row
invariant-loop-row l = l.out.room.ghost_name ≡ l.initial.out.room.ghost_name
