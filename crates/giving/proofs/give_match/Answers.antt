-- A before row below 1, no room, or the rows of a match.
use Rattle.giving.proofs.Laws.{match_below, match_few, match_gives}
use Rattle.giving.proofs.give_match.Goals as goal

pub returns-then-walk-before : goal.returns-then-walk-before
returns-then-walk-before c =
    let below = rw c.before_lines-before.ensures at c.if-walk-before.true in
    let is = match_below c.args.walk c.args.since.now c.args.length c.args.table.now below in
    record { value = is.0; table_after = is.1 }

pub returns-then-table-count : goal.returns-then-table-count
returns-then-table-count c =
    let most = rw c.before_lines-before.ensures at c.if-walk-before.false in
    let few = rw (c.gap_before-gap.ensures, c.before_lines-before.ensures) at c.if-table-count.true in
    let is = match_few c.args.walk c.args.since.now c.args.length c.args.table.now most few in
    record { value = is.0; table_after = is.1 }

pub returns : goal.returns
returns c =
    let most = rw c.before_lines-before.ensures at c.if-walk-before.false in
    let room = rw (c.gap_before-gap.ensures, c.before_lines-before.ensures) at c.if-table-count.false in
    let is = match_gives c.args.walk c.args.since.now c.args.length c.args.table.now c.requires.back most room in
    rw (c.put_match.ensures, c.gap_before-gap.ensures, c.before_lines-before.ensures) (record { value = is.0; table_after = is.1 })
