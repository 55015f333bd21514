-- The word wanted is one of the rest of the line, after as many spaces as are left to pass.
use native.Mathlib.Omega.{arith}
use Rattle.std.proofs.lemmas.Grind.{common_steps}
use Rattle.definition.proofs.Terminator.{first_le}
use Rattle.line_words.proofs.Laws.{up_to_place, word_past}
use Rattle.line_words.specs.Words.{word_of}
use Rattle.line_words.proofs.word.Goals as goal

pub loop-preserved : goal.loop-preserved
loop-preserved c = grind (arith, common_steps, word_past)

pub slice_bounds-result-end : goal.slice_bounds-result-end
slice_bounds-result-end c = grind (arith, common_steps, first_le)

pub returns : goal.returns
unfolding word_of
returns c = grind (arith, common_steps, up_to_place)
