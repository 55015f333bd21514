-- 01, "Settings and sizes": the bounds, each in one place, and which settings are served.
use Rattle.std.specs.Prelude.{ℕ, Bool, true, false, not, ◌&&◌, ◌||◌, ltb, leb, Option, Some, None}
use Rattle.definition.specs.declared.Binary.TheVariants.{Ignore}
use Rattle.definition.specs.declared.Settings.{Settings}

-- "Before B and after A: 0 to 1,000 each."
abbrev pub max_context : ℕ
max_context = 1000

-- "Limit: none, or 0 to 4,294,967,295."
abbrev pub max_limit : ℕ
max_limit = 4294967295

-- "Window: 1 to 65,536 bytes"
abbrev pub max_window : ℕ
max_window = 65536

-- "Input: at most 4,294,967,295 bytes."
abbrev pub max_input : ℕ
max_input = 4294967295

abbrev pub limit_in_range : Option ℕ → Bool
limit_in_range None = true
limit_in_range (Some n) = leb n max_limit

-- Whether context is asked for: "B or A is above 0".
unfoldable pub contextual : Settings → Bool
contextual c = ltb 0 c.before || ltb 0 c.after

-- The settings that an opening serves: in range, and no "pass-through with B or A above 0".
unfoldable pub allowed : Settings → Bool
allowed c =
    leb c.before max_context
    && leb c.after max_context
    && limit_in_range c.limit
    && not (c.passthru && contextual c)

-- nothing asked for but the lines that end in a byte
abbrev pub plain : ℕ → Settings
plain terminator =
    record {
      before = 0;
      after = 0;
      invert = false;
      passthru = false;
      stop = false;
      limit = None;
      terminator = terminator;
      binary = Ignore;
    }
