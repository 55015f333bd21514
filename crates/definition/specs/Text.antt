-- 01, "Text", "Lines": what of the input is searched, how it falls into lines, and what the matcher is handed of a line.
use Rattle.std.specs.Prelude.{ℕ, ◌+◌, ◌-◌, min, cond, List, [], ◌∷◌, ◌++◌, map, eqb, length, take, drop}
use Rattle.definition.specs.declared.Binary.{Binary}
use Rattle.definition.specs.declared.Binary.TheVariants.{Ignore, Quit, Convert}
use Rattle.definition.specs.declared.Settings.{Settings}

-- the bytes from one place up to another
abbrev pub part : ℕ → ℕ → List ℕ → List ℕ
part from to bytes = take (to - from) (drop from bytes)

-- a list with others written into it from a place on
unfoldable pub put_at : ℕ → List ℕ → List ℕ → List ℕ
put_at at new old = take at old ++ (new ++ drop (at + length new) old)

-- the bytes before the first b; all of them where there is none
unfoldable pub up_to : ℕ → List ℕ → List ℕ
up_to b [] = []
up_to b (x ∷ xs) = cond (eqb x b) [] (x ∷ up_to b xs)

-- the first place of b, counting from 0; the length where there is none
unfoldable pub first_place : ℕ → List ℕ → ℕ
first_place b bytes = length (up_to b bytes)

-- each b becomes t
unfoldable pub replaced : ℕ → ℕ → List ℕ → List ℕ
replaced b t = map (λ x. cond (eqb x b) t x)

-- "under Quit(b), the input up to its first b; under Convert(b), each b becomes the terminator; otherwise the input."
abbrev pub text_under : Binary → ℕ → List ℕ → List ℕ
text_under Ignore t input = input
text_under (Quit b) t input = up_to b input
text_under (Convert b) t input = replaced b t input

unfoldable pub text : Settings → List ℕ → List ℕ
text c input = text_under c.binary c.terminator input

-- a byte that is no terminator, before the lines that follow it
unfoldable pub onto : ℕ → List (List ℕ) → List (List ℕ)
onto x [] = (x ∷ []) ∷ []
onto x (l ∷ ls) = (x ∷ l) ∷ ls

-- "each ends after its terminator; bytes left at the end form a last line. An empty text has no lines."
unfoldable pub lines : ℕ → List ℕ → List (List ℕ)
lines t [] = []
lines t (x ∷ xs) = cond (eqb x t) ((x ∷ []) ∷ lines t xs) (onto x (lines t xs))

-- the length of the first line, with its terminator
abbrev pub first_length : ℕ → List ℕ → ℕ
first_length t bytes = min (first_place t bytes + 1) (length bytes)

-- "The matcher is handed the line without its terminator byte; a carriage return is an ordinary byte of the line."
-- A line has its terminator only at its end.
unfoldable pub handed : ℕ → List ℕ → List ℕ
handed t line = up_to t line
