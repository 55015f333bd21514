-- By what becomes of the line.
use Rattle.std.proofs.Common.{refl, ◌∙◌}
use Rattle.definition.specs.declared.Kind.{Kind}
use Rattle.definition.specs.declared.Fate.TheVariants.{After, Other}
use Rattle.giving.proofs.Laws.{after_row, line_rows_lem, line_table_lem, none_given, none_table, other_row}
use Rattle.giving.proofs.give.Goals as goal

pub returns-in-Match : goal.returns-in-Match
returns-in-Match c = rw c.in-Match.is c.give_match.ensures

pub returns-in-After : goal.returns-in-After
returns-in-After c =
    let one = after_row c.args.walk c.args.since.now c.args.length in
    rw c.in-After.is (
    record {
      value = c.give_line.ensures.value ∙ line_rows_lem After Kind.After _ _ _ refl one _;
      table_after = c.give_line.ensures.table_after ∙ line_table_lem After Kind.After _ _ _ refl one _;
    }
    )

pub returns-in-Other : goal.returns-in-Other
returns-in-Other c =
    let one = other_row c.args.walk c.args.since.now c.args.length in
    rw c.in-Other.is (
    record {
      value = c.give_line-in-Other.ensures.value ∙ line_rows_lem Other Kind.Other _ _ _ refl one _;
      table_after = c.give_line-in-Other.ensures.table_after ∙ line_table_lem Other Kind.Other _ _ _ refl one _;
    }
    )

pub returns-in-NoRow : goal.returns-in-NoRow
returns-in-NoRow c = rw c.in-NoRow.is (record { value = none_given _ _ _ _; table_after = none_table _ _ _ _ })
