-- How bytes are written in hexadecimal digits.
use Rattle.std.specs.Prelude.{ℕ, ◌+◌, ◌/◌, ◌%◌, cond, List, [], ◌∷◌, ltb}

-- `0` to `9`, then `a` to `f`
abbrev pub glyph_of : ℕ → ℕ
glyph_of d = cond (ltb d 10) (48 + d) (87 + d)

unfoldable pub hexed : List ℕ → List ℕ
hexed [] = []
hexed (b ∷ bs) = glyph_of (b / 16) ∷ (glyph_of (b % 16) ∷ hexed bs)

-- two digits a byte; a dash for none
unfoldable pub hex_text : List ℕ → List ℕ
hex_text [] = 45 ∷ []
hex_text (b ∷ bs) = hexed (b ∷ bs)
