-- What a caller leans on: the rows given lie in the table.
use Rattle.std.proofs.Common.{ℕ, ◌*◌, ◌≤◌, Bool, List, length, arith}
use Rattle.definition.specs.Rows.{row_size}
use Rattle.driver_core.specs.Answer.{AnswerDecision, AnswerRefused, Give}
use Rattle.session.specs.declared.Session.{Session}
use Rattle.session.specs.Calls.{answer_answer, answer_result, answered, answering}
use Rattle.session.proofs.Keeps.{GivenIf, answer_given}

pub rows_le : (s : Session) (w table : List ℕ) (hit : Bool) → row_size * (answered s w table hit).rows ≤ length table
unfolding answer_result answered
rows_le s w table hit = go (answering s w (length table) hit) (answer_given s w (length table) hit)
  where
    go : (o : AnswerDecision) → GivenIf s w (length table) hit o → row_size * (answer_answer o s w hit).rows ≤ length table
    go (AnswerRefused k) t = omega arith
    go Give t = t.1
