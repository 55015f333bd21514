-- 01's numbers for what the code has as an enum and no search gives: the refusals.
use Rattle.std.specs.Prelude.{ℕ}
use Rattle.definition.specs.declared.Refusal.{Refusal}
use Rattle.definition.specs.declared.Refusal.TheVariants.{BadSettings, BadWindow, WindowFull, TableShort, SizeTaken, Unsound, Unfinished}

-- the table of refusals
abbrev pub refusal_number : Refusal → ℕ
refusal_number BadSettings = 1
refusal_number BadWindow = 2
refusal_number WindowFull = 3
refusal_number TableShort = 4
refusal_number SizeTaken = 5
refusal_number Unsound = 6
refusal_number Unfinished = 7
