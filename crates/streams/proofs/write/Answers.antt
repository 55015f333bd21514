-- What is left after a turn says how far the text is written.
use Rattle.std.proofs.Common.{◌-◌, length, arith, length-drop, take, drop, ◌≡◌}
use lib.Seq.{take_all}
use Rattle.streams.proofs.Laws.{wrote_front}
use Rattle.streams.proofs.write.Goals as goal

pub loop-preserved : goal.loop-preserved
loop-preserved g c =
    let text = c.args.text.now in
    let left = c.loop.left in
    let from = length text - left in
    let all : take (length text - from) (drop from text) ≡ drop from text = take_all _ _ (omega (arith, length-drop from text)) in
    wrote_front _ _ _ from left c.in-Ok.n text _ c.write.result (omega arith) all c.loop.invariant.1 c.write.ensures.bound c.write.ensures.bytes (cc)
