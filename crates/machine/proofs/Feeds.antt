-- Which case of a turn each case of the calls is.
use Rattle.std.proofs.Common.{◌≡◌, ℕ, ◌<◌, ◌≤◌, Bool, true, false, cond, eqb, List, [], length, drop, sym, ap, ◌∙◌, arith, eq-eqb, ne_eqb}
use Rattle.std.specs.Prelude.{Result, Ok, Err}
use Rattle.definition.specs.declared.End.{End}
use Rattle.definition.specs.declared.Refusal.{Refusal}
use Rattle.definition.specs.declared.Refusal.TheVariants.{Unsound}
use Rattle.driver_core.specs.Answer.{AnswerRefused, Give}
use Rattle.session.specs.declared.Offered.{Offered}
use Rattle.session.specs.declared.Refused.{Refused}
use Rattle.session.specs.declared.Session.{Session}
use Rattle.session.specs.Calls.{answer_rows, answer_session, answering, offer_result, offer_told, offered, offered_window, record_result, recorded, shown_line, tell_result, told}
use Rattle.session.proofs.Refusals.{offer_err, offer_ok, record_err, record_ok, tell_ok}
use Rattle.promises.proofs.Taking.{taken_le}
use Rattle.machine.specs.declared.Next.TheVariants.{Wants, Refuses}
use Rattle.machine.specs.Machine.{ended, ends, goes, wants}
use Rattle.machine.specs.Program.{Program, Standing, answers, fed, fed_by, fed_end, fed_on, fed_told, fed_window, feeds, hears, stays, table_size, turns}

abbrev pub at : Session → List ℕ → List ℕ → Standing
at s w rest = record { session = s; window = w; rest = rest }

module _ (p : Program) (s : Session) (w rest : List ℕ) where
  -- the waiting line is answered
  pub turn_gives : (hit : Bool) → p.matcher (shown_line s w) ≡ hit → answering s w table_size hit ≡ Give
      → turns p (at s w rest) ≡ goes (p.says (shown_line s w) (answer_rows s w hit)) (at (answer_session s w hit) w rest)
  unfolding turns
  turn_gives hit h g =
      ap (λ (b : Bool). answers (answering s w table_size b) b p (at s w rest)) h
      ∙ ap (λ o. answers o hit p (at s w rest)) g

  -- none waits
  pub turn_feeds : ((hit : Bool) → answering s w table_size hit ≡ AnswerRefused Unsound) → turns p (at s w rest) ≡ feeds p (at s w rest) 6
  unfolding turns
  turn_feeds g =
      let hit = p.matcher (shown_line s w) in
      ap (λ o. answers o hit p (at s w rest)) (g hit)

  pub feeds_ends : (recorded s).refusal ≡ 0 → feeds p (at s w rest) 6 ≡ ends (p.closes (recorded s).end)
  unfolding feeds fed recorded
  feeds_ends e = rw (record_ok (record_result s) e)

  pub feeds_wants : ((recorded s).refusal ≡ 0 → ⊥) → rest ≡ [] → feeds p (at s w rest) 6 ≡ wants (at s w rest)
  unfolding feeds fed fed_window recorded
  feeds_wants e n = rw ((record_err (record_result s) e).1, eq-eqb (length rest) 0 (ap length n))

  pub feeds_refused : (k : ℕ) → ((recorded s).refusal ≡ 0 → ⊥) → 0 < length rest → (offered s w rest).refusal ≡ k → (k ≡ 0 → ⊥)
      → feeds p (at s w rest) 6 ≡ ends (p.refuses k)
  unfolding feeds fed fed_window recorded offered offer_result
  feeds_refused k e n o z =
      let refused = offer_err (offer_result s w rest) (λ x. z (sym o ∙ x)) in
      rw (
        (record_err (record_result s) e).1,
        ne_eqb (length rest) 0 (λ x. omega (arith, n, x)),
        refused.1,
      )
      (ap (λ j. ends (p.refuses j)) (sym refused.2 ∙ o))

  pub feeds_goes : ((recorded s).refusal ≡ 0 → ⊥) → 0 < length rest → (offered s w rest).refusal ≡ 0
      → feeds p (at s w rest) 6 ≡ goes [] (at (offered s w rest).session (offered_window s w rest) (drop (offered s w rest).taken rest))
  unfolding feeds fed fed_window recorded offered offer_result
  feeds_goes e n o =
      rw (
        (record_err (record_result s) e).1,
        ne_eqb (length rest) 0 (λ x. omega (arith, n, x)),
        offer_ok (offer_result s w rest) o,
      )

  pub hears_end : (told s).refusal ≡ 0 → hears p ended (at s w rest) ≡ goes [] (at (told s).session w rest)
  unfolding fed_end told
  hears_end e = rw (tell_ok (tell_result s) e)

-- no more is taken than was at hand
told_taken : (s : Session) (w piece : List ℕ) → (offer_told (offer_result s w piece)).taken ≤ length piece
unfolding offered offer_result
told_taken s w piece = taken_le s w piece

pub fed_taken : (s : Session) (refusal : ℕ) (w piece : List ℕ) → (fed s refusal w piece).taken ≤ length piece
unfolding fed
fed_taken s refusal w piece = go (eqb refusal 6)
  where
    by : (r : Result (Offered Session) (Refused Session)) → (offer_told r).taken ≤ length piece → (fed_by s r).taken ≤ length piece
    by (Ok o) h = h
    by (Err k) h = omega arith

    none : (b : Bool) → (cond b (stays s Wants) (fed_by s (offer_result s w piece))).taken ≤ length piece
    none true = omega arith
    none false = by (offer_result s w piece) (told_taken s w piece)

    on : (r : Result End Refusal) → (fed_on r s w piece).taken ≤ length piece
    on (Ok end) = omega arith
    on (Err k) = none (eqb (length piece) 0)

    go : (b : Bool) → (cond b (fed_on (record_result s) s w piece) (stays s (Refuses refusal))).taken ≤ length piece
    go true = on (record_result s)
    go false = omega arith

-- telling the end takes nothing
pub end_taken : (s : Session) (most : ℕ) → (fed_end s).taken ≤ most
unfolding fed_end
end_taken s most = go (tell_result s)
  where
    go : (r : Result Session (Refused Session)) → (fed_told s r).taken ≤ most
    go (Ok t) = omega arith
    go (Err k) = omega arith
