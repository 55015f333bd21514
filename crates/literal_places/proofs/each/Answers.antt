-- A place that the two bytes do not rule out is compared; the others are passed.
use mathlib.Core.Path.{sym, ◌∙◌}
use Rattle.literal_places.proofs.Sweeps.{miss, no_start, swept_found, nowhere_more}
use Rattle.literal_places.proofs.Stands.{stands_at}
use Rattle.literal_places.proofs.each.Goals as goal
use Rattle.literal_places.proofs.each.Goals.{else-any_hit-via-then-any_hit+else-starts_at, else-any_hit-via-else-any_hit}

pub returns-then-starts_at : goal.returns-then-starts_at
returns-then-starts_at c =
    swept_found (stands_at c.args.sought.literal.now c.args.sought.line.now c.loop-at.at (sym c.starts_at.ensures ∙ c.if-starts_at.true))

pub loop-at-preserved : goal.loop-at-preserved
loop-at-preserved c = nowhere_more _ _ _ c.loop-at.at _ c.loop-at.invariant (elim c.else-any_hit.branch [
  | else-any_hit-via-then-any_hit+else-starts_at w ↦ no_start _ _ _ (sym w.starts_at.ensures ∙ w.if-starts_at.false)
  | else-any_hit-via-else-any_hit w ↦ miss _ _ _ 1 c.args.sought.one c.args.sought.other c.any_hit.ensures w.if-any_hit.false
])
