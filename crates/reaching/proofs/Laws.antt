-- Laws of how far a piece reaches: what comes before a Quit byte in a front of the piece, and that one byte past the room is enough to
-- look at.
use Prim.Native.Nat.{ℕ, zero, suc, min, ◌+◌, ◌≤◌}
use mathlib.Core.Path.{◌≡◌, sym, ◌∙◌}
use mathlib.Core.List.{List, [], ◌∷◌}
use native.Mathlib.Omega.{arith}
use lib.ListN.{take, length-take, length}
use Rattle.std.proofs.lemmas.Grind.{common_steps}
use Rattle.definition.specs.declared.Binary.{Binary}
use Rattle.definition.specs.declared.Binary.TheVariants.{Ignore, Quit, Convert}
use Rattle.definition.specs.Text.{first_place, up_to}
use Rattle.session.specs.Calls.{quit_place}
use mathlib.Core.Bool.{◌&&◌}
use native.Mathlib.Decide.{dec_le}
use lib.Dec.{ltb, eqb}
use borrow.Author.Tests.{ne_eqb}
use Rattle.session.proofs.Parts.{quit_le}
use Rattle.reaching.specs.Reached.{reached}

first_take : (b n : ℕ) (xs : List ℕ) → first_place b (take n xs) ≡ min (first_place b xs) n
unfolding first_place up_to
first_take b zero xs = omega arith
first_take b (suc n) [] = omega arith
first_take b (suc n) (x ∷ xs) = grind (arith, common_steps, first_take b n xs)

pub quit_take : (k : Binary) (n : ℕ) (piece : List ℕ) → quit_place k (take n piece) ≡ min (quit_place k piece) n
quit_take Ignore n piece = omega (arith, length-take n piece)
quit_take (Quit b) n piece = first_take b n piece
quit_take (Convert b) n piece = omega (arith, length-take n piece)

-- a byte past the room is enough to tell whether a Quit byte comes next
next_quit : (q before room len : ℕ) → q ≤ len → before ≡ min q (min len (room + 1))
    → (eqb (min before room) before && ltb (min before room) len) ≡ (eqb (min q room) q && ltb (min q room) len)
next_quit q before room len h e = elim (dec_le q room) [
  | yes k ↦
      let same : before ≡ q = omega arith in
      rw same
  | no k ↦
      let short : min before room ≡ room = omega arith in
      let full : min q room ≡ room = omega arith in
      rw (short, full, ne_eqb room before (λ z. omega arith), ne_eqb room q (λ z. omega arith))
]

pub reach_is : (k : Binary) (piece : List ℕ) (room before taken : ℕ)
    → before ≡ quit_place k (take (min (length piece) (room + 1)) piece) → taken ≡ min before room
    → record { taken = taken; quit = eqb taken before && ltb taken (length piece) } ≡ reached k piece room
unfolding reached
reach_is k piece room before taken e f =
    let q = quit_place k piece in
    let seen : before ≡ min q (min (length piece) (room + 1)) = e ∙ quit_take k (min (length piece) (room + 1)) piece in
    let count : taken ≡ min q room = omega (arith, quit_le k piece) in
    let flag = next_quit q before room (length piece) (quit_le k piece) seen in
    let mine : min before room ≡ min q room = sym f ∙ count in
    rw (count, sym flag, mine)
