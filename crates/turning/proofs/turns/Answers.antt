-- Each way through a turn, and out of the loop, is what the loop's laws say of it.
use Rattle.std.proofs.Common.{rules, ◌≡◌, ℕ, ◌+◌, ◌*◌, ◌≤◌, length, take, ap, ◌∙◌, inl, inr, arith}
use Rattle.definition.specs.Rows.{row_size}
use Rattle.turning.proofs.Answers.{Asked, asked_by, asked_rows}
use Rattle.turning.proofs.Looping.{loop_ends, loop_gives, loop_goes, loop_refuses, loop_stops, loop_taken, loop_wants}
use Rattle.turning.proofs.turns.Goals.{After-answer, in-Ok, in-Err+in-Goes, else-loop-test, then-loop-test+then-told-lt-TURN}
use Rattle.turning.proofs.turns.Goals as goal

-- the waiting line was shown, matched and answered
asked : (c : After-answer) → Asked c.args.s.stage (take c.args.s.size c.args.literal.now) c.loop.searcher.session c.loop.window c.loop.table c.answer.result c.answer.new.table
asked c = asked_by c.requires.0 (c.loop.invariant.1.table_size ∙ c.requires.1.lent.table_is) c.line.ensures.0 c.contains_by-hit.ensures c.answer.ensures

pub rows-requires : goal.rows-requires
rows-requires c =
    let rows = asked_rows (asked (goal.at.rows-requires c).After-answer) c.in-Ok.is in
    (omega (arith, rows, c.answer.auto.table), omega (arith, rows, c.loop.invariant.1.table_size, c.loop.invariant.1.within, c.requires.1.lent.table_is))

pub overflow_add-at : goal.overflow_add-at
overflow_add-at c =
    let asked = asked (goal.at.overflow_add-at c).After-answer in
    omega (arith, c.well_formed, c.requires.1.placed, loop_taken c.loop.invariant.1 c.requires.1.placed asked c.in-Err.is c.from-refusal.ensures c.feed-fed.ensures.value c.feed-fed.ensures.window_after)

pub wanting-requires : goal.wanting-requires
wanting-requires c =
    let asked = asked (goal.at.wanting-requires c).After-answer in
    rw c.going-left.ensures (loop_taken c.loop.invariant.1 c.requires.1.placed asked c.in-Err.is c.from-refusal.ensures c.feed-fed.ensures.value c.feed-fed.ensures.window_after, omega (arith, c.requires.1.placed, ap length c.loop.invariant.1.input_is))

pub returns-in-Wants : goal.returns-in-Wants
returns-in-Wants c =
    let asked = asked (goal.at.returns-in-Wants c).After-answer in
    let done = loop_wants c.loop.invariant.1 c.requires.1.placed asked c.in-Err.is c.from-refusal.ensures c.feed-fed.ensures.value c.feed-fed.ensures.window_after (omega (arith, c.requires.1.lent.input_room)) c.in-Wants.is (rw c.going-left.ensures at c.wanting.ensures.input_after) c.wanting.auto.input in
    rw (c.wanting.ensures.value, c.going-left.ensures) (search rules)

pub returns-in-Refuses : goal.returns-in-Refuses
returns-in-Refuses c =
    let asked = asked (goal.at.returns-in-Refuses c).After-answer in
    let done = loop_refuses c.loop.invariant.1 c.requires.1.placed asked c.in-Err.is c.from-refusal.ensures c.feed-fed.ensures.value c.feed-fed.ensures.window_after c.in-Refuses.is c.refusal.ensures.told.1 in
    rw c.over.ensures (search rules)

pub returns-in-Ends : goal.returns-in-Ends
returns-in-Ends c =
    let asked = asked (goal.at.returns-in-Ends c).After-answer in
    let done = loop_ends c.loop.invariant.1 c.requires.1.placed asked c.in-Err.is c.from-refusal.ensures c.feed-fed.ensures.value c.feed-fed.ensures.window_after c.in-Ends.is c.end.ensures.told.1 in
    rw c.over-in-Ends.ensures (search rules)

pub loop-preserved : goal.loop-preserved
loop-preserved c =
    let asked = asked (goal.at.loop-preserved c).After-answer in
    elim c.match-answer.branch [
      | in-Ok w ↦
          rw (w.window-is, w.told-is, w.searcher-is, w.at-is)
          (w.rows.ensures.same_reference ∙ c.loop.invariant.0, loop_gives c.loop.invariant.1 c.requires.1.placed asked w.in-Ok.is c.answer.auto.table w.rows.ensures.told.1)
      | in-Err+in-Goes w ↦
          rw (w.window-is, w.told-is, w.searcher-is, w.at-is)
          (c.loop.invariant.0, loop_goes c.loop.invariant.1 c.requires.1.placed asked w.in-Err.is w.from-refusal.ensures w.feed-fed.ensures.value w.feed-fed.ensures.window_after w.in-Goes.is w.feed-fed.auto.window c.answer.auto.table)
    ]

pub returns : goal.returns
returns c =
    let done = loop_stops c.loop.invariant.1 c.requires.1.placed (elim c.loop-test.branch [
      | else-loop-test w ↦ inr (omega (arith, w.loop-test.false))
      | then-loop-test+then-told-lt-TURN w ↦ inl (omega (arith, w.if-told-lt-TURN.true, c.loop.invariant.1.out_size, c.requires.1.lent.out_room))
    ]) in
    rw c.going.ensures (search rules)
