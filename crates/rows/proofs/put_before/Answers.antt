-- The rows still to come, put into the table as it stands, are the rows wanted.
use Rattle.rows.proofs.Laws.{left_done, row_fits, turn}
use Rattle.rows.proofs.put_before.Goals as goal

pub put_row-requires : goal.put_row-requires
put_row-requires c =
    (row_fits _ _ _ c.loop-rest.rest.now _ _ c.loop-rest.invariant c.loop-rest-test.ensures c.step-length.result c.step-length.ensures).2

pub loop-rest-preserved : goal.loop-rest-preserved
loop-rest-preserved c =
    turn _ _ _ c.loop-rest.rest.now _ _ c.loop-rest.invariant c.loop-rest-test.ensures c.step-length.result c.step-length.ensures _ c.put_row.ensures

pub returns : goal.returns
returns c = left_done _ _ _ c.loop-rest.rest.now _ _ c.loop-rest.invariant c.loop-rest-test.ensures
