-- Break, before rows and the match, one after the other.
use Rattle.std.proofs.Common.{◌≤◌, length, arith, rules}
use Rattle.match_rows.specs.MatchTable.{match_table}
use Rattle.match_rows.proofs.Laws.{length_part, placing_fits, placing_from}
use Rattle.match_rows.proofs.put_match.Goals as goal

pub slice_bounds-part-count : goal.slice_bounds-part-count
slice_bounds-part-count c = placing_from _ _ _ _ _ _ c.requires

pub slice_bounds-part-start : goal.slice_bounds-part-start
slice_bounds-part-start c =
    let h : c.args.before.from ≤ length c.args.since.now = placing_from _ _ _ _ _ _ c.requires in
    search rules

pub overflow_sub-offset : goal.overflow_sub-offset
overflow_sub-offset c = omega (arith, length_part c.args.before.from c.args.since.now, c.requires.agree)

pub put_before-requires : goal.put_before-requires
put_before-requires c = rw c.put_break.ensures (placing_fits _ _ _ _ _ _ c.requires)

pub returns : goal.returns
unfolding match_table
returns c =
    rw (
      c.put_row.ensures,
      c.line_row.ensures,
      c.from.ensures,
      c.put_before.ensures,
      c.put_break.ensures,
      length_part c.args.before.from c.args.since.now,
    )
