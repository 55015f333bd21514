-- Found backwards, then counted.
use Rattle.std.proofs.Common.{◌≤◌, length, arith, rules}
use Rattle.match_rows.proofs.Laws.{before_lines, from_le}
use Rattle.match_rows.proofs.before_lines.Goals as goal

pub slice_bounds-count-count : goal.slice_bounds-count-count
slice_bounds-count-count c = omega (arith, c.preceding-from.ensures, (from_le c.args.walk c.args.since.now).0)

pub slice_bounds-count-start : goal.slice_bounds-count-start
slice_bounds-count-start c =
    let h : c.preceding-from.result ≤ length c.args.since.now = omega (arith, c.preceding-from.ensures, (from_le c.args.walk c.args.since.now).0) in
    search rules

pub returns : goal.returns
returns c = rw (c.count.ensures, c.preceding-from.ensures, before_lines c.args.walk c.args.since.now)
