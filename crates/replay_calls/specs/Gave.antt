-- What the call of a command gave, as the two numbers that are said of it.
use Rattle.std.specs.Prelude.{◌≡◌, ℕ, Result, Ok, Err}
use Rattle.definition.specs.declared.Refusal.{Refusal}
use Rattle.definition.specs.Numbers.{refusal_number}
use Rattle.replay_calls.specs.declared.Called.{Called}
use Rattle.replay_calls.specs.declared.Script.{Script}

-- 0 and so many bytes taken or rows written; or the number of a refusal, "with 0 taken, 0 rows"
abbrev pub called : Script → Result ℕ Refusal → Called
called script (Ok count) = record { script = script; refusal = 0; count = count }
called script (Err refusal) = record { script = script; refusal = refusal_number refusal; count = 0 }

-- one of the two, never both, and no number that is not in the refusal table
abbrev pub Gave : Called → Type 0
Gave c = (r : Result ℕ Refusal) × (c ≡ called c.script r)
