-- Examples of the definition, worked out by hand; Examples.examples_hold proves the claim.
use Rattle.std.specs.Prelude.{ℕ, ◌≡◌, Bool, true, false, List, [], ◌∷◌, map}
use Rattle.literal_places.specs.Literal.{stands}

pub record Example : Type 0 where
  pub literal : List ℕ
  pub line : List ℕ
  pub answer : Bool

abbrev ex : List ℕ → List ℕ → Bool → Example
ex literal line answer = record { literal = literal; line = line; answer = answer }

abbrev pub Table : List Example
Table =
    -- an empty literal stands in every line, in the empty one too
    ex [] [] true
    ∷ ex [] (97 ∷ []) true
    -- nothing else stands in an empty line, nor a literal that is longer than the line
    ∷ ex (97 ∷ []) [] false
    ∷ ex (97 ∷ 97 ∷ []) (97 ∷ []) false
    -- the whole line, its front, its end
    ∷ ex (97 ∷ 98 ∷ []) (97 ∷ 98 ∷ []) true
    ∷ ex (97 ∷ 98 ∷ []) (97 ∷ 98 ∷ 99 ∷ []) true
    ∷ ex (97 ∷ 98 ∷ []) (99 ∷ 99 ∷ 97 ∷ 98 ∷ []) true
    -- a false start that overlaps the true one
    ∷ ex (97 ∷ 97 ∷ 98 ∷ []) (97 ∷ 97 ∷ 97 ∷ 98 ∷ []) true
    -- every byte is there, in another order or with one between
    ∷ ex (97 ∷ 98 ∷ []) (98 ∷ 97 ∷ []) false
    ∷ ex (97 ∷ 98 ∷ []) (97 ∷ 99 ∷ 98 ∷ []) false
    -- the end of the literal is cut off
    ∷ ex (97 ∷ 98 ∷ 99 ∷ []) (99 ∷ 97 ∷ 98 ∷ []) false
    -- the least and the greatest byte
    ∷ ex (0 ∷ 255 ∷ []) (255 ∷ 0 ∷ 255 ∷ 0 ∷ []) true
    ∷ ex (0 ∷ 0 ∷ []) (0 ∷ 255 ∷ 0 ∷ []) false
    ∷ []

abbrev pub Holds : Type 0
Holds = map (λ e. stands e.literal e.line) Table ≡ map (λ e. e.answer) Table
