-- Going back, no terminator was met but perhaps at the very end: the last line starts after the first one met.
use Prim.Native.Nat.{◌+◌, ◌-◌}
use mathlib.Core.Path.{◌≡◌, sym}
use native.Mathlib.Omega.{arith}
use Rattle.lines.proofs.Laws.{ended_before, first_later, last_here, last_whole}
use Rattle.lines.proofs.last_line.Goals as goal

pub returns-then-s-i : goal.returns-then-s-i
returns-then-s-i c =
    let p = c.loop-i.i - 1 in
    sym (last_here c.args.terminator p c.args.s.now (omega arith) c.loop-i.invariant (ended_before c.args.terminator p c.args.s.now (omega arith) (omega arith) c.if-s-i.true))

pub loop-i-preserved : goal.loop-i-preserved
loop-i-preserved c =
    let p = c.loop-i.i - 1 in
    let e : p - 1 + 1 ≡ p = omega arith in
    omega (arith, rw e at (first_later c.args.terminator (p - 1) c.args.s.now (omega arith) c.if-s-i.false))

pub returns : goal.returns
returns c =
    let e : c.loop-i.i - 1 ≡ 0 = omega arith in
    sym (last_whole c.args.terminator c.args.s.now (omega (arith, rw e at c.loop-i.invariant)))
