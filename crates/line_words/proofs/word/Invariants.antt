-- The word wanted is one of the rest of the line, after as many spaces as are left to pass.
use mathlib.Core.Path.{◌≡◌}
use Prim.Native.Nat.{◌-◌}
use Rattle.line_words.specs.Words.{word_of}
use Rattle.line_words.proofs.word.Given as goal

abbrev pub invariant-loop : goal.invariant-loop
invariant-loop l = word_of l.n l.line ≡ word_of (l.n - l.counter) l.rest
