-- The window after rolling, every byte of it, and the bytes of a piece as they are taken in.
use Rattle.std.specs.Prelude.{ℕ, ◌-◌, List, ◌++◌, drop}
use Rattle.definition.specs.declared.Binary.{Binary}
use Rattle.definition.specs.declared.Binary.TheVariants.{Ignore, Quit, Convert}
use Rattle.definition.specs.Text.{part, replaced}

-- the part between two places at the front; beyond it the window as it was
unfoldable pub rolled : ℕ → ℕ → List ℕ → List ℕ
rolled from to window = part from to window ++ drop (to - from) window

-- the bytes of a piece as they are stored
abbrev pub converted : Binary → ℕ → List ℕ → List ℕ
converted Ignore t piece = piece
converted (Quit b) t piece = piece
converted (Convert b) t piece = replaced b t piece
