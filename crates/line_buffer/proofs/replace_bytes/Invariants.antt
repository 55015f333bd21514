-- As far as the loop has come, the piece with its bytes replaced stands over the tail.
use Rattle.std.proofs.Common.{◌≡◌, ◌++◌, take, drop}
use Rattle.definition.specs.Text.{replaced}
use Rattle.line_buffer.proofs.replace_bytes.Given as goal

abbrev pub invariant-loop-i : goal.invariant-loop-i
invariant-loop-i l = l.tail ≡ replaced l.byte l.by (take l.i l.piece) ++ drop l.i l.initial.tail
