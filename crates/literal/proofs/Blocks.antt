-- What the search learns of blocks of any width, and what it knows at the end of the line.
use Prim.Native.Nat.{ℕ, ◌+◌, ◌≤◌, ◌<◌}
use mathlib.Core.Path.{◌≡◌, refl, sym}
use mathlib.Core.Bool.{Bool, true, false}
use mathlib.Core.List.{List}
use native.Mathlib.Decide.{dec_lt}
use native.Mathlib.Omega.{arith}
use lib.ListN.{length, drop, length-drop}
use Rattle.literal_places.specs.Literal.{starts_with, stands}
use Rattle.literal_places.specs.Sweeps.{Nowhere, Swept}
use Rattle.literal_places.proofs.Sweeps.{nowhere_more}
use Rattle.literal_places.proofs.Stands.{starts_short, stands_nowhere}

-- the last block, which reaches back over places already seen
pub block_last : (literal line : List ℕ) (from last to : ℕ) (r : Bool) → Nowhere literal line from last → Swept literal line last to r → Swept literal line from to r
block_last literal line from last to r seen block =
    record { found = block.found; none = λ e. nowhere_more literal line from last to seen (block.none e) }

-- the answer for all places at which the literal fits is the answer for the line
pub swept_whole : {literal line : List ℕ} {to : ℕ} {r : Bool} → Swept literal line 0 to r → length line < to + length literal → r ≡ stands literal line
swept_whole {r = true} told l = sym (told.found refl)
swept_whole {literal} {line} {to} {r = false} told l = sym (stands_nowhere literal line nowhere)
  where
    nowhere : (j : ℕ) → j ≤ length line → starts_with literal (drop j line) ≡ false
    nowhere j m =
        elim (dec_lt j to) [
          | yes k ↦ told.none refl j (omega arith) k
          | no k ↦ starts_short literal (drop j line) (omega (arith, length-drop j line))
        ]
