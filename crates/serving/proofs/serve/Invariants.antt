-- Between a write and the next step nothing is pending, and a read that is wanted has room.
use Rattle.search_machine.specs.Standing.{Rests}
use Rattle.serving.proofs.serve.Given as goal

abbrev pub invariant-loop : goal.invariant-loop
invariant-loop g l = Rests l.s l.input
