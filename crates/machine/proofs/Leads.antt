-- What some turns lead to, and what one more adds: for the code of any program.
use Rattle.std.proofs.Common.{◌≡◌, ℕ, suc, ◌+◌, List, [], ◌++◌, sym, ap, ◌∙◌, append_assoc, arith}
use Rattle.machine.specs.Machine.{Closes, Leads, Machine, ends, goes, run}

module _ {S : Type 0} (m : Machine S) where
  one_more : (k n : ℕ) → k + 1 + n ≡ k + suc n
  one_more k n = omega arith

  pub leads_none : (s : S) → Leads m 0 s [] s
  leads_none s n reads =
      let e : 0 + n ≡ n = omega arith in
      ap (λ j. run m j (m.turn s) reads) e

  pub leads_goes : (k : ℕ) (s : S) (before : List ℕ) (st : S) (text : List ℕ) (next : S) → Leads m k s before st → m.turn st ≡ goes text next
      → Leads m (k + 1) s (before ++ text) next
  unfolding run
  leads_goes k s before st text next h e n reads =
      ap (λ j. run m j (m.turn s) reads) (one_more k n)
      ∙ h (suc n) reads
      ∙ ap (λ t. before ++ run m (suc n) t reads) e
      ∙ sym (append_assoc before text (run m n (m.turn next) reads))

  pub closes_ends : (k : ℕ) (s : S) (before : List ℕ) (st : S) (text : List ℕ) → Leads m k s before st → m.turn st ≡ ends text
      → Closes m (k + 1) s (before ++ text)
  unfolding run
  closes_ends k s before st text h e n reads =
      ap (λ j. run m j (m.turn s) reads) (one_more k n) ∙ h (suc n) reads ∙ ap (λ t. before ++ run m (suc n) t reads) e
