-- What is chosen from here on is what is chosen from the start.
use mathlib.Core.Path.{◌≡◌}
use lib.ListN.{drop}
use Rattle.rare_bytes.specs.Choice.{rarest_of, rarest_but}
use Rattle.rare_bytes.proofs.rarest_but.Given as goal

abbrev pub invariant-loop-at : goal.invariant-loop-at
invariant-loop-at l = rarest_but l.but l.literal ≡ rarest_of l.but l.best l.top l.at (drop l.at l.literal)
