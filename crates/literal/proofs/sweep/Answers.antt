-- A block with a hit is looked at more closely; the others are passed.
use Prim.Native.Nat.{◌-◌}
use native.Mathlib.Omega.{arith}
use Rattle.literal_places.proofs.Sweeps.{miss, swept_none, nowhere_more}
use Rattle.literal.proofs.Blocks.{block_last}
use Rattle.literal.proofs.sweep.Goals as goal
use Rattle.literal.proofs.sweep.Goals.{else-loop-at-test, then-loop-at-test+else-any_hit+else-at-step-last, else-any_hit-via-then-any_hit+else-closer, else-any_hit-via-else-any_hit, then-any_hit-2, else-any_hit-2}

pub loop-at-preserved : goal.loop-at-preserved
loop-at-preserved g c = (
  omega arith,
  nowhere_more _ _ _ c.loop-at.at _ c.loop-at.invariant.1
      (elim c.else-any_hit.branch [
        | else-any_hit-via-then-any_hit+else-closer w ↦ (c.requires.told _ _ _ (omega arith) (omega arith) w.closer.ensures).none w.if-closer.false
        | else-any_hit-via-else-any_hit w ↦ miss _ _ _ _ c.args.sought.one c.args.sought.other c.any_hit.ensures w.if-any_hit.false
      ]),
)

pub returns : goal.returns
returns g c =
    block_last c.args.sought.literal.now c.args.sought.line.now c.args.from (c.args.to - g.row.N) c.args.to c.if-any_hit-2.result
    (elim c.loop-at-test.branch [
      | else-loop-at-test w ↦ λ j a b. c.loop-at.invariant.1 j a (omega arith)
      | then-loop-at-test+else-any_hit+else-at-step-last w ↦ λ j a b. nowhere_more _ _ _ c.loop-at.at _ c.loop-at.invariant.1
          (elim w.else-any_hit.branch [
            | else-any_hit-via-then-any_hit+else-closer v ↦ (c.requires.told _ _ _ (omega arith) (omega arith) v.closer.ensures).none v.if-closer.false
            | else-any_hit-via-else-any_hit v ↦ miss _ _ _ _ c.args.sought.one c.args.sought.other w.any_hit.ensures v.if-any_hit.false
          ]) j a (omega arith)
    ])
    (elim c.if-any_hit-2.branch [
      | then-any_hit-2 w ↦ rw w.result-is (c.requires.told _ _ _ (omega arith) (omega arith) w.closer-then-any_hit-2.ensures)
      | else-any_hit-2 w ↦
          rw (w.result-is, w.if-any_hit-2.false) (swept_none (λ j a b. miss _ _ (c.args.to - g.row.N) g.row.N c.args.sought.one c.args.sought.other c.any_hit-2.ensures w.if-any_hit-2.false j a (omega arith)))
    ])
