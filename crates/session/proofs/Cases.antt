-- Why an offer or an answer decides as it does: a case for each way through the tests.
use Rattle.std.proofs.Common.{◌≡◌, ℕ, ◌*◌, ◌<◌, ◌≤◌, Bool, true, false, cond, not, ◌&&◌, ltb, leb, ◌⊎◌, List, length, refl, inl, inr, ltb-false, ltb-true, le-ltb, lt-ltb, le-leb, leb-false, leb-true}
use borrow.Author.Tests.{lt-leb}
use Rattle.definition.specs.declared.Refusal.TheVariants.{SizeTaken, TableShort, Unsound, WindowFull}
use Rattle.definition.specs.Bounds.{max_input}
use Rattle.definition.specs.Rows.{row_size}
use Rattle.driver_core.specs.Answer.{AnswerDecision, AnswerRefused, Give, answering_since}
use Rattle.session.specs.declared.Session.{Session}
use Rattle.session.specs.Calls.{Idle, OfferDecision, OfferRefused, Plain, answer_rows, answering, below_one, idle, offering, quit_front, taking}
use Rattle.session.specs.Held.{held_bytes, waits}
use Rattle.session.specs.Sound.{sound, taken_bytes}

and-false : (b : Bool) → (b && false) ≡ false
and-false true = refl
and-false false = refl

module _ (s : Session) (w piece : List ℕ) where
  pub data OfferCase : OfferDecision → Type 0 where
    unsound : sound s (length w) ≡ false → OfferCase (OfferRefused Unsound)
    idling : sound s (length w) ≡ true → idle s piece ≡ true → OfferCase Idle
    quits : sound s (length w) ≡ true → idle s piece ≡ false → quit_front s piece ≡ true → OfferCase (taking s w piece)
    sized : Plain s w piece → max_input ≤ taken_bytes s → OfferCase (OfferRefused SizeTaken)
    full : Plain s w piece → taken_bytes s < max_input → waits s w ≡ false → s.places.window ≤ held_bytes s w → OfferCase (OfferRefused WindowFull)
    takes : Plain s w piece → taken_bytes s < max_input → (waits s w ≡ true) ⊎ (held_bytes s w < s.places.window) → OfferCase (taking s w piece)

  offer_room : (b v : Bool) → waits s w ≡ b → leb s.places.window (held_bytes s w) ≡ v → Plain s w piece → taken_bytes s < max_input
      → OfferCase (cond (not b && v) (OfferRefused WindowFull) (taking s w piece))
  offer_room true v e k p m = takes p m (inl e)
  offer_room false true e k p m = full p m e (leb-true s.places.window (held_bytes s w) k)
  offer_room false false e k p m = takes p m (inr (leb-false s.places.window (held_bytes s w) k))

  offer_size : (b : Bool) → leb max_input (taken_bytes s) ≡ b → Plain s w piece
      → OfferCase (cond b (OfferRefused SizeTaken) (cond (not (waits s w) && leb s.places.window (held_bytes s w)) (OfferRefused WindowFull) (taking s w piece)))
  offer_size true e p = sized p (leb-true max_input (taken_bytes s) e)
  offer_size false e p = offer_room (waits s w) (leb s.places.window (held_bytes s w)) refl refl p (leb-false max_input (taken_bytes s) e)

  offer_first : (b i q : Bool) → sound s (length w) ≡ b → idle s piece ≡ i → quit_front s piece ≡ q
      → OfferCase
      (cond (not b) (OfferRefused Unsound)
      (cond i Idle
      (cond q (taking s w piece)
      (cond (leb max_input (taken_bytes s)) (OfferRefused SizeTaken)
      (cond (not (waits s w) && leb s.places.window (held_bytes s w)) (OfferRefused WindowFull) (taking s w piece))))))
  offer_first false i q e j k = unsound e
  offer_first true true q e j k = idling e j
  offer_first true false true e j k = quits e j k
  offer_first true false false e j k = offer_size (leb max_input (taken_bytes s)) refl (e, j, k)

  pub offer_case : OfferCase (offering s w piece)
  unfolding offering
  offer_case = offer_first (sound s (length w)) (idle s piece) (quit_front s piece) refl refl refl

  -- and each case decides
  pub offer_is : (o : OfferDecision) → OfferCase o → offering s w piece ≡ o
  unfolding offering
  offer_is _ (unsound e) = rw e
  offer_is _ (idling e j) = rw (e, j)
  offer_is _ (quits e j k) = rw (e, j, k)
  offer_is _ (sized p m) = rw (p.0, p.1, p.2, le-leb max_input (taken_bytes s) m)
  offer_is _ (full p m v f) = rw (p.0, p.1, p.2, lt-leb max_input (taken_bytes s) m, v, le-leb s.places.window (held_bytes s w) f)
  offer_is _ (takes p m (inl v)) = rw (p.0, p.1, p.2, lt-leb max_input (taken_bytes s) m, v)
  offer_is _ (takes p m (inr f)) =
      rw (p.0, p.1, p.2, lt-leb max_input (taken_bytes s) m, lt-leb s.places.window (held_bytes s w) f, and-false (not (waits s w)))

module _ (s : Session) (w : List ℕ) (table : ℕ) (hit : Bool) where
  pub data AnswerCase : AnswerDecision → Type 0 where
    unsound : sound s (length w) ≡ false → AnswerCase (AnswerRefused Unsound)
    none : sound s (length w) ≡ true → waits s w ≡ false → AnswerCase (AnswerRefused Unsound)
    below : sound s (length w) ≡ true → waits s w ≡ true → below_one s w hit ≡ true → AnswerCase (AnswerRefused Unsound)
    few : sound s (length w) ≡ true → waits s w ≡ true → below_one s w hit ≡ false → table < row_size * length (answer_rows s w hit)
        → AnswerCase (AnswerRefused TableShort)
    gives : sound s (length w) ≡ true → waits s w ≡ true → below_one s w hit ≡ false → row_size * length (answer_rows s w hit) ≤ table
        → AnswerCase Give

  answer_first : (b v l f : Bool) → sound s (length w) ≡ b → waits s w ≡ v → below_one s w hit ≡ l
      → ltb table (row_size * length (answer_rows s w hit)) ≡ f
      → AnswerCase
      (cond (not b) (AnswerRefused Unsound) (cond (not v) (AnswerRefused Unsound) (cond l (AnswerRefused Unsound) (cond f (AnswerRefused TableShort) Give))))
  answer_first false v l f e i j k = unsound e
  answer_first true false l f e i j k = none e i
  answer_first true true true f e i j k = below e i j
  answer_first true true false true e i j k = few e i j (ltb-true table (row_size * length (answer_rows s w hit)) k)
  answer_first true true false false e i j k = gives e i j (ltb-false table (row_size * length (answer_rows s w hit)) k)

  pub answer_case : AnswerCase (answering s w table hit)
  unfolding answering answering_since below_one answer_rows
  answer_case =
      answer_first (sound s (length w)) (waits s w) (below_one s w hit) (ltb table (row_size * length (answer_rows s w hit))) refl refl refl refl

  -- and each case decides
  pub answer_is : (o : AnswerDecision) → AnswerCase o → answering s w table hit ≡ o
  unfolding answering answering_since below_one answer_rows
  answer_is _ (unsound e) = rw e
  answer_is _ (none e v) = rw (e, v)
  answer_is _ (below e v b) = rw (e, v, b)
  answer_is _ (few e v b m) = rw (e, v, b, lt-ltb table (row_size * length (answer_rows s w hit)) m)
  answer_is _ (gives e v b m) = rw (e, v, b, le-ltb table (row_size * length (answer_rows s w hit)) m)
