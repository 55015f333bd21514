-- By the binary setting: the bytes go as they are, or replaced, into the window's free tail.
use Rattle.std.proofs.Common.{arith, rules}
use Rattle.std.proofs.lemmas.Grind.{common_steps}
use Rattle.line_buffer.proofs.Laws.{converted_put, part_put}
use Rattle.line_buffer.proofs.take_in.Goals as goal

pub returns-in-Ignore : goal.returns-in-Ignore
returns-in-Ignore c = grind (arith, common_steps, part_put)

pub returns-in-Convert : goal.returns-in-Convert
returns-in-Convert c = converted_put c.args.binary _ c.args.terminator c.args.end c.args.piece.now c.args.window.now _ c.in-Convert.is (search rules) (omega arith)
