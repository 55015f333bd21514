-- The literal fits at the places searched and at no other.
use mathlib.Core.Path.{sym}
use native.Mathlib.Omega.{arith}
use lib.ListN.{length-drop}
use Rattle.literal.proofs.Blocks.{swept_whole}
use Rattle.literal_places.proofs.Stands.{starts_short, stands_empty, stands_nowhere}
use Rattle.literal.proofs.contains_by.Goals as goal

pub returns-then-size-eq0 : goal.returns-then-size-eq0
returns-then-size-eq0 c = sym (stands_empty _ _ c.if-size-eq0.true)

pub returns-then-line-size : goal.returns-then-line-size
returns-then-line-size c = sym (stands_nowhere c.args.literal.now c.args.line.now (λ j l. starts_short _ _ (omega (arith, length-drop j c.args.line.now))))

pub returns : goal.returns
returns c = swept_whole c.search.ensures (omega arith)
