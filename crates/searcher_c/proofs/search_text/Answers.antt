-- The rows of an answer lie in the table.
use Rattle.std.specs.Prelude.{Result, Ok, Err}
use Rattle.std.proofs.Common.{◌≡◌, ℕ, ◌*◌, ◌≤◌, Bool, List, length, sym, ◌∙◌, arith}
use Rattle.definition.specs.Rows.{row_size}
use Rattle.searcher.specs.declared.Searcher.{Searcher}
use Rattle.searcher.specs.Door.{door_answered}
use Rattle.searcher.proofs.Laws.{rows_le}
use Rattle.session.specs.declared.Answered.{Answered}
use Rattle.session.specs.declared.Refused.{Refused}
use Rattle.session.specs.declared.Session.{Session}
use Rattle.session.specs.Calls.{answer_result, answer_told, answered}
use Rattle.searcher_c.proofs.search_text.Goals as goal

rows_fit : (s : Session) (w table : List ℕ) (hit : Bool) (a : Answered Searcher) → Ok a ≡ door_answered (answer_result s w table hit)
    → row_size * a.rows ≤ length table
unfolding answered answer_result
rows_fit s w table hit a e = go (answer_result s w table hit) (rows_le s w table hit) e
  where
    go : (r : Result (Answered Session) (Refused Session)) → row_size * (answer_told r).rows ≤ length table → Ok a ≡ door_answered r → row_size * a.rows ≤ length table
    go (Ok b) h e =
        let same : a.rows ≡ b.rows = cc in
        omega (arith, same, h)
    go (Err k) h e =
        let none : ⊥ = cc in
        absurd none

pub sum_up-sum-requires : goal.sum_up-sum-requires
sum_up-sum-requires c =
    let fit = rows_fit c.loop.s.session c.loop.window c.loop.table c.contains_by-hit.result c.in-Ok.answered (sym c.in-Ok.is ∙ c.answer.ensures.0) in
    omega (arith, fit, c.answer.auto.table)
