-- A byte more, replaced, stands over the tail.
use Rattle.std.proofs.Common.{◌≡◌, arith, add-one, cond, eqb, get_or}
use Rattle.std.proofs.lemmas.Grind.{common_steps}
use Rattle.definition.specs.Text.{replaced}
use Rattle.line_buffer.proofs.Laws.{replaced_next}
use Rattle.line_buffer.proofs.replace_bytes.Goals as goal
use Rattle.line_buffer.proofs.replace_bytes.Goals.{then-x-byte, else-x-byte}

pub loop-i-init : goal.loop-i-init
unfolding replaced
loop-i-init c = grind (arith, common_steps)

pub loop-i-preserved : goal.loop-i-preserved
loop-i-preserved c =
    let x = get_or c.args.piece.now c.loop-i.i 0 in
    let byte : c.if-x-byte.tail ≡ cond (eqb x c.args.byte) c.args.by x =
    elim c.if-x-byte.branch [ then-x-byte w ↦ grind (arith, common_steps) | else-x-byte w ↦ grind (arith, common_steps) ] in
    rw (c.loop-i.invariant, byte, add-one) (replaced_next c.args.byte c.args.by c.loop-i.i c.args.piece.now c.args.tail.now (omega arith) (omega arith))
