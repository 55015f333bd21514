-- Every byte of the literal is compared.
use Prim.Native.Nat.{◌+◌}
use mathlib.Core.Path.{refl, ◌∙◌}
use native.Mathlib.Omega.{arith}
use lib.Dec.{eqb}
use lib.ListN.{length, get_or}
use Rattle.std.proofs.Common.{rules}
use Rattle.std.proofs.lemmas.Iterator.{YieldsList-from_range}
use Rattle.std.proofs.lemmas.Iterator.Search.{all_from_yields_List}
use Rattle.literal_places.proofs.Stands.{starts_all}
use Rattle.literal_places.proofs.Sought.starts_at.Goals as goal

pub returns : goal.returns
returns c =
    all_from_yields_List
    (λ j. eqb (get_or c.args.self.line.now (c.args.at + j) 0) (get_or c.args.self.literal.now j 0)) _ _ _ c.all.ensures.ran
    (YieldsList-from_range 0 (length c.args.self.literal.now) (length c.args.self.literal.now) refl (omega arith)) (λ x b q k. search rules)
    ∙ starts_all c.args.self.literal.now c.args.self.line.now c.args.at (omega arith)
