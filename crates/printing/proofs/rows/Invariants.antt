-- The invariant: the rows before this one are printed, and take no more than the most that so many can.
use lib.ListN.{take}
use Rattle.output.specs.Output.{seen}
use Rattle.printing.proofs.Laws.{RowsTold}
use Rattle.printing.proofs.rows.Given as goal

abbrev pub invariant-loop-numbers : goal.invariant-loop-numbers
invariant-loop-numbers l = RowsTold (seen l.initial.out) (take l.numbers-index l.numbers-items) (seen l.out)
