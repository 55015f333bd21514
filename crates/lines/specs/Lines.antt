-- The line rules on lists, for any terminator: each is what its function in src/lib.rt gives.
use Rattle.std.specs.Prelude.{ℕ, ◌-◌, cond, eqb, length, position, Option}
use mathlib.Core.List.{List, [], ◌∷◌, flatten}
use Rattle.definition.specs.Definition.{last_of}
use Rattle.definition.specs.Text.{lines}

-- the first place of a byte, if it has one
unfoldable pub found : ℕ → List ℕ → Option ℕ
found b = position (λ x. eqb x b)

-- the place where the last n lines start
unfoldable pub last_start : ℕ → ℕ → List ℕ → ℕ
last_start n t bytes = length bytes - length (flatten (last_of n (lines t bytes)))

-- all but a terminator at the very end
unfoldable pub without_terminator : ℕ → List ℕ → List ℕ
without_terminator t [] = []
without_terminator t (x ∷ []) = cond (eqb x t) [] (x ∷ [])
without_terminator t (x ∷ (y ∷ ys)) = x ∷ without_terminator t (y ∷ ys)
