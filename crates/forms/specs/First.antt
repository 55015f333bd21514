-- 01, "Program": the first line, `before after invert pass limit`.
use Rattle.std.specs.Prelude.{ℕ, false, cond, List, eqb, Option, Some, None}
use Rattle.definition.specs.declared.Binary.TheVariants.{Ignore}
use Rattle.definition.specs.declared.Settings.{Settings}
use Rattle.line_words.specs.Numbers.{decimal_of}
use Rattle.line_words.specs.Words.{spaces_of, word_of}
use Rattle.forms.specs.Limits.{◌>>=◌, flag_of, limit_of}

-- "decimal without leading zeros, single spaces, flags 0 or 1, limit `-` for none": five words, so four spaces;
-- "newline, no binary, no stop-on-nonmatch"
unfoldable pub asked_of : List ℕ → Option Settings
asked_of line = cond (eqb (spaces_of line) 4) (do
  before ← decimal_of (word_of 0 line)
  after ← decimal_of (word_of 1 line)
  invert ← decimal_of (word_of 2 line) >>= flag_of
  pass ← decimal_of (word_of 3 line) >>= flag_of
  limit ← limit_of (word_of 4 line)
  Some record {
    before = before;
    after = after;
    invert = invert;
    passthru = pass;
    stop = false;
    limit = limit;
    terminator = 10;
    binary = Ignore;
  }) None
