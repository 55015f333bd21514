-- What a read did to the input, and where a line ends in it.
use Rattle.std.specs.Prelude.{ℕ, zero, suc, ◌<◌, ◌≤◌, Bool, true, false, Option, Some, None, Result, Ok, Err}
use Rattle.streams.specs.declared.Failure.{Failure}

-- whether no more will come
abbrev pub is_end : Result ℕ Failure → Bool
is_end (Ok zero) = true
is_end (Ok (suc n)) = false
is_end (Err reason) = false

-- the newline of a line that was found stands before a place
abbrev pub EndsBefore : Option ℕ → ℕ → Type 0
EndsBefore (Some end) to = end < to
EndsBefore None to = Unit

-- a line that was found ends no earlier than it starts
abbrev pub EndsBehind : Option ℕ → ℕ → Type 0
EndsBehind (Some end) from = from ≤ end
EndsBehind None from = Unit
