-- The claims of specs/Examples.antt, by computation.
use mathlib.Core.Path.{refl}
use mathlib.Core.Bool.{xor}
use mathlib.Core.List.{flatten}
use Rattle.definition.specs.Bounds.{allowed, contextual}
use Rattle.definition.specs.Definition.{selected, fate, going_next, last_of}
use Rattle.definition.specs.Examples.{Further, P}
use Rattle.definition.specs.State.{next_line, breaks, state_next, fate_of}
use Rattle.definition.specs.Text.{handed, up_to, first_place, replaced, text, onto, lines}
use Rattle.driver_core.specs.Answer.{answering_since, back_from, below_one_since, given, given_table, put_rows, rows_since, state_since, walk_next}
use Rattle.driver_core.specs.Examples.{Agreeing, Ahead, Answers, Remaining, Showing, Walks}
use Rattle.driver_core.specs.Walk.{line_ahead, remains_ahead, shown_ahead, waits_ahead, walk_agrees, walk_end, walk_tests}

pub examples_walk : Walks P × Walks Further
unfolding xor flatten contextual selected fate going_next last_of next_line breaks state_next fate_of up_to first_place replaced text onto lines answering_since back_from below_one_since given given_table put_rows rows_since state_since walk_next line_ahead waits_ahead walk_end
examples_walk = (refl, refl)

pub answers_give : Answers
unfolding xor flatten contextual selected fate going_next last_of next_line breaks state_next fate_of up_to onto lines answering_since back_from below_one_since given given_table put_rows rows_since state_since walk_next
answers_give = refl

pub numbers_agree : Agreeing
unfolding flatten allowed contextual walk_agrees walk_tests
numbers_agree = refl

pub lines_ahead : Ahead
unfolding up_to first_place line_ahead waits_ahead
lines_ahead = refl

pub shown_ahead_lem : Showing
unfolding up_to first_place handed shown_ahead waits_ahead
shown_ahead_lem = refl

pub remain_ahead : Remaining
unfolding remains_ahead
remain_ahead = refl
