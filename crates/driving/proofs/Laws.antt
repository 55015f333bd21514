-- Which case of the machine's functions each way through the code is.
use Rattle.std.proofs.Common.{◌≡◌, ℕ, ap, ◌∙◌, Result, Ok, Err}
use Rattle.definition.specs.Numbers.{refusal_number}
use Rattle.machine.specs.declared.Next.TheVariants.{Goes, Refuses}
use Rattle.machine.specs.Program.{fed_told, stays}
use Rattle.searcher.specs.declared.Searcher.{Searcher}
use Rattle.searcher.specs.Door.{door_opened}
use Rattle.session.specs.declared.Refused.{Refused}
use Rattle.session.specs.declared.Session.{Session}
use Rattle.driving.specs.Door.{door_fed}

-- # Told of the end

module _ (s : Session) where
  pub end_served : (r : Result Session (Refused Session)) (t : Searcher) → Ok t ≡ door_opened r
      → record { session = t; taken = 0; next = Goes } ≡ door_fed (fed_told s r)
  end_served (Ok told) t e = cc
  end_served (Err k) t e = absurd cc

  pub end_refused : (r : Result Session (Refused Session)) (k : Refused Searcher) → Err k ≡ door_opened r
      → {n : ℕ} → n ≡ refusal_number k.refusal → door_fed (stays s (Refuses n)) ≡ door_fed (fed_told s r)
  end_refused (Ok told) k e h = absurd cc
  end_refused (Err m) k e h =
      let same : k.refusal ≡ m.refusal = ap (λ (x : Result Searcher (Refused Searcher)). elim x [ Ok t ↦ k.refusal | Err n ↦ n.refusal ]) e in
      ap (λ (x : ℕ). door_fed (stays s (Refuses x))) (h ∙ ap refusal_number same)
