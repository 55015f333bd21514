-- Each call leaves one outcome, since its contract is an equation for each thing that it gives back.
use Rattle.std.proofs.Common.{◌≡◌, sym, ◌∙◌}
use Rattle.searcher.specs.Outcomes.{OneOutcome}

same : {A : Type 0} (a b c : A) → a ≡ c → b ≡ c → a ≡ b
same a b c h k = h ∙ sym k

pub one_outcome : OneOutcome
one_outcome =
    record {
      closing = λ r q h k. same r q _ h k;
      opening = λ c window r q h k. same r q _ h k;
      offer = λ self w piece r q v u h k. (same r q _ h.0 k.0, same v u _ h.1 k.1);
      waiting = λ self w r q h k. same r q _ h k;
      line = λ self w at r q n m h k. (same r q _ h.0 k.0, same n m _ h.1 k.1);
      answer = λ self w table hit r q v u h k. (same r q _ h.0 k.0, same v u _ h.1 k.1);
      tell_end = λ self r q h k. same r q _ h k;
      end_record = λ self r q h k. same r q _ h k;
    }
