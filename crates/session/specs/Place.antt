-- Where a part of a lent slice lies, in the toolchain's words for a place in memory: a block, and how far into it.
use Rattle.std.specs.Prelude.{◌≡◌, ℕ, ◌+◌, List, length}
use Rattle.definition.specs.Text.{part}
use Rattle.session.specs.declared.Session.{Session}
use Rattle.session.specs.Calls.{shown_from, shown_line}

-- so many bytes behind a place
abbrev pub place_in : ℕ × ℕ → ℕ → ℕ × ℕ
place_in place n = (place.0, n + place.1)

-- "The waiting line is shown as that part of the lent window itself": the bytes shown are the window's from the place told on.
abbrev pub ShownThere : Type 0
ShownThere =
    (s : Session) (w : List ℕ)
    → let from = shown_from s (length w) in
    shown_line s w ≡ part from (from + length (shown_line s w)) w
