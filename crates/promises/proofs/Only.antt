-- What each number says of an offer or an answer.
use Rattle.std.proofs.Common.{◌≡◌, ℕ, ◌*◌, ◌<◌, ◌≤◌, Bool, true, false, eqb, ◌⊎◌, List, length, refl, inl, inr}
use borrow.Author.Tests.{eqb-false}
use Rattle.definition.specs.Bounds.{max_input}
use Rattle.definition.specs.Rows.{row_size}
use Rattle.driver_core.specs.Answer.{AnswerDecision}
use Rattle.session.specs.declared.Session.{Session}
use Rattle.session.specs.Calls.{OfferDecision, Plain, answer_answer, answer_rows, below_one, offer_answer, taking}
use Rattle.session.specs.Held.{held_bytes, waits}
use Rattle.session.specs.Sound.{sound, taken_bytes}
use Rattle.session.proofs.Cases.{AnswerCase, OfferCase, below, few, full, gives, idling, none, quits, sized, takes, unsound}
use Rattle.promises.specs.Caller.{OfferServed}

never : {A : Type 0} (m n : ℕ) → eqb m n ≡ false → m ≡ n → A
never m n e z = absurd (eqb-false m n e z)

-- what each number says of an offer
pub offer_only : (s : Session) (w piece : List ℕ) (o : OfferDecision) → OfferCase s w piece o
    → let n = (offer_answer o s w piece).refusal in
    (n ≡ 6 → sound s (length w) ≡ false)
    × (n ≡ 5 → Plain s w piece × (max_input ≤ taken_bytes s))
    × (n ≡ 3 → Plain s w piece × (taken_bytes s < max_input) × (waits s w ≡ false) × (s.places.window ≤ held_bytes s w))
    × (n ≡ 0 → OfferServed s w piece)
unfolding taking
offer_only s w piece _ (unsound e) = (λ z. e, never 6 5 refl, never 6 3 refl, never 6 0 refl)
offer_only s w piece _ (idling e d) = (never 0 6 refl, never 0 5 refl, never 0 3 refl, λ z. (e, inl d))
offer_only s w piece _ (quits e d q) = (never 0 6 refl, never 0 5 refl, never 0 3 refl, λ z. (e, inr (inl q)))
offer_only s w piece _ (sized p m) = (never 5 6 refl, λ z. (p, m), never 5 3 refl, never 5 0 refl)
offer_only s w piece _ (full p m v f) = (never 3 6 refl, never 3 5 refl, λ z. (p, m, v, f), never 3 0 refl)
offer_only s w piece _ (takes p m v) = (never 0 6 refl, never 0 5 refl, never 0 3 refl, λ z. (p.0, inr (inr (m, v))))

module _ (s : Session) (w : List ℕ) (table : ℕ) (hit : Bool) where
  -- what each number says of an answer
  pub answer_only : (o : AnswerDecision) → AnswerCase s w table hit o
      → let n = (answer_answer o s w hit).refusal in
      (n ≡ 6 → (sound s (length w) ≡ false) ⊎ ((waits s w ≡ false) ⊎ (below_one s w hit ≡ true)))
      × (n ≡ 4 → (sound s (length w) ≡ true) × (waits s w ≡ true) × (below_one s w hit ≡ false) × (table < row_size * length (answer_rows s w hit)))
      × (n ≡ 0 → (sound s (length w) ≡ true) × (waits s w ≡ true) × (below_one s w hit ≡ false) × (row_size * length (answer_rows s w hit) ≤ table))
  answer_only _ (unsound e) = (λ z. inl e, never 6 4 refl, never 6 0 refl)
  answer_only _ (none e v) = (λ z. inr (inl v), never 6 4 refl, never 6 0 refl)
  answer_only _ (below e v b) = (λ z. inr (inr b), never 6 4 refl, never 6 0 refl)
  answer_only _ (few e v b m) = (never 4 6 refl, λ z. (e, v, b, m), never 4 0 refl)
  answer_only _ (gives e v b m) = (never 0 6 refl, never 0 4 refl, λ z. (e, v, b, m))
