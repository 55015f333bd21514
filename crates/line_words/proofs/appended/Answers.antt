-- Each step that may fail is a test of the definition.
use native.Mathlib.Omega.{arith}
use Rattle.std.proofs.lemmas.Grind.{common_steps}
use Rattle.line_words.specs.Numbers.{digit_behind, is_digit}
use Rattle.line_words.proofs.appended.Goals as goal

pub returns-then-not-is_ascii_digit : goal.returns-then-not-is_ascii_digit
unfolding digit_behind is_digit
returns-then-not-is_ascii_digit c = grind (arith, common_steps)

pub returns-in_err-checked_mul : goal.returns-in_err-checked_mul
unfolding digit_behind is_digit
returns-in_err-checked_mul c = grind (arith, common_steps)

pub returns : goal.returns
unfolding digit_behind is_digit
returns c = grind (arith, common_steps)
