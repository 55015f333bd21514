-- The last lines still wanted are the last of those before the place reached.
use Prim.Native.Nat.{◌-◌}
use mathlib.Core.Path.{◌≡◌}
use native.Mathlib.Omega.{arith}
use lib.ListN.{take}
use Rattle.std.proofs.lemmas.Grind.{common_steps}
use Rattle.lines.proofs.Laws.{last_back, last_empty, last_le, last_none}
use Rattle.lines.proofs.preceding.Goals as goal

pub returns-then-start-eq0 : goal.returns-then-start-eq0
returns-then-start-eq0 c = grind (arith, common_steps, last_empty)

pub loop-preserved : goal.loop-preserved
loop-preserved c =
    let back = last_back c.args.terminator (c.args.n - c.loop.counter) c.loop.start c.args.s.now (omega arith) (omega arith) (omega arith) in
    let inside = last_le 1 c.args.terminator (take c.loop.start c.args.s.now) in
    grind (arith, common_steps, back, inside)

pub returns : goal.returns
returns c =
    let zero : c.args.n - c.loop.counter ≡ 0 = omega arith in
    grind (arith, common_steps, rw zero at c.loop.invariant.1, last_none c.args.terminator (take c.loop.start c.args.s.now))
