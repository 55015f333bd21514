-- The rows before each are printed; those of the table's front are its first chunks.
use native.Mathlib.Omega.{arith}
use Rattle.output.specs.Output.{seen}
use Rattle.printing.proofs.Laws.{rows_front, told_same, told_next, told_none}
use Rattle.printing.proofs.rows.Goals as goal

pub loop-numbers-init : goal.loop-numbers-init
loop-numbers-init c = told_none (seen c.args.out.now)

pub loop-numbers-preserved : goal.loop-numbers-preserved
loop-numbers-preserved c = told_next _ c.loop-numbers.numbers-index c.loop-numbers-test.true c.loop-numbers.invariant c.row.ensures.told c.row.ensures.most

pub returns-clause-told : goal.returns-clause-told
returns-clause-told c =
    let all = rows_front c.args.count c.loop-numbers.numbers-index c.args.table.now c.as_chunks.result.0.now c.as_chunks.ensures.front (omega arith) c.loop-numbers-test.false in
    told_same all c.loop-numbers.invariant.told
