-- One turn of a machine.
use Rattle.std.proofs.Common.{◌≡◌, ℕ, suc, List, [], ◌∷◌, ◌++◌, ap, ◌∙◌}
use Rattle.machine.specs.Machine.{Machine, Read, Turn, ends, goes, run, wants}

module _ {S : Type 0} (m : Machine S) (n : ℕ) (t : Turn S) (reads : List Read) where
  pub run_goes : (text : List ℕ) (s : S) → t ≡ goes text s → run m (suc n) t reads ≡ text ++ run m n (m.turn s) reads
  unfolding run
  run_goes text s e = ap (λ x. run m (suc n) x reads) e

  pub run_ends : (text : List ℕ) → t ≡ ends text → run m (suc n) t reads ≡ text
  unfolding run
  run_ends text e = ap (λ x. run m (suc n) x reads) e

  pub run_waits : (s : S) → t ≡ wants s → reads ≡ [] → run m (suc n) t reads ≡ []
  unfolding run
  run_waits s e k = ap (λ x. run m (suc n) x reads) e ∙ ap (λ x. run m (suc n) (wants s) x) k

  pub run_hears : (s : S) (r : Read) (more : List Read) → t ≡ wants s → reads ≡ r ∷ more → run m (suc n) t reads ≡ run m n (m.hears r s) more
  unfolding run
  run_hears s r more e k = ap (λ x. run m (suc n) x reads) e ∙ ap (λ x. run m (suc n) (wants s) x) k
