-- The rows still to come, put into the table as it stands, are the rows wanted.
use lib.ListN.{length}
use Rattle.definition.specs.Text.{put_at}
use Rattle.rows.specs.Table.{before_numbers}
use Rattle.rows.proofs.Laws.{Left}
use Rattle.rows.proofs.put_before.Given as goal

abbrev pub invariant-loop-rest : goal.invariant-loop-rest
invariant-loop-rest l =
    Left l.terminator (put_at l.at (before_numbers l.terminator l.offset l.number l.part) l.initial.table) l.table l.rest l.place l.row

abbrev pub decreases-loop-rest : goal.decreases-loop-rest
decreases-loop-rest l = length l.rest
