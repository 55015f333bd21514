-- What is chosen from here on is what is chosen from the start.
use mathlib.Core.Path.{◌≡◌, refl, sym, ◌∙◌}
use native.Mathlib.Omega.{arith}
use lib.ListN.{length}
use Rattle.std.proofs.lemmas.Bool.{lt-ltb, le-ltb}
use Rattle.rare_bytes.specs.Choice.{rarest_but}
use Rattle.rare_bytes.proofs.Rarity.{rarest_step, rarest_end}
use Rattle.rare_bytes.proofs.rarest_but.Goals as goal
use Rattle.rare_bytes.proofs.rarest_but.Goals.{then-top-rarity+then-ne, else-top-rarity, else-top-rarity-via-then-top-rarity+else-ne, else-top-rarity-via-else-top-rarity}

pub loop-at-init : goal.loop-at-init
unfolding rarest_but
loop-at-init c = refl

pub loop-at-preserved : goal.loop-at-preserved
loop-at-preserved c =
    let step = rarest_step c.args.but c.loop-at.best c.loop-at.top c.args.literal.now c.loop-at.at _ (omega arith) c.rarity_of-rarity.ensures in
    c.loop-at.invariant ∙ step ∙ (elim c.if-top-rarity.branch [
      | then-top-rarity+then-ne w ↦ rw (w.best-is, w.top-is, lt-ltb _ _ w.if-top-rarity.true, sym w.ne.ensures ∙ w.if-ne.true)
      | else-top-rarity w ↦ rw (w.best-is, w.top-is) (elim w.else-top-rarity.branch [
        | else-top-rarity-via-then-top-rarity+else-ne v ↦ rw (lt-ltb _ _ v.if-top-rarity.true, sym v.ne.ensures ∙ v.if-ne.false)
        | else-top-rarity-via-else-top-rarity v ↦ rw (le-ltb _ _ v.if-top-rarity.false)
      ])
    ])

pub returns : goal.returns
returns c =
    let e : c.loop-at.at ≡ length c.args.literal.now = omega arith in
    sym (c.loop-at.invariant ∙ rw e (rarest_end c.args.but c.loop-at.best c.loop-at.top (length c.args.literal.now) c.args.literal.now))
