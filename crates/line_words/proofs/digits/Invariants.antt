-- What is left of the word, behind the value so far, says what the whole word says.
use mathlib.Core.Path.{◌≡◌}
use Prim.Native.Nat.{◌<◌}
use lib.ListN.{drop}
use Rattle.line_words.specs.Numbers.{digits_behind, top}
use Rattle.line_words.proofs.digits.Given as goal

abbrev pub invariant-loop-glyph : goal.invariant-loop-glyph
invariant-loop-glyph l = (l.value < top) × (digits_behind 0 l.word ≡ digits_behind l.value (drop l.glyph-index l.word))
