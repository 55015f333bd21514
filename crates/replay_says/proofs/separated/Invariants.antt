-- The output keeps its buffer.
use mathlib.Core.Path.{◌≡◌}
use Rattle.replay_says.proofs.separated.Given as goal

abbrev pub invariant-loop-number : goal.invariant-loop-number
invariant-loop-number l = l.out.room.ghost_name ≡ l.initial.out.room.ghost_name
