-- What the search asks and tells on its way; the contracts of `literal`'s public functions do not cite it.
use Rattle.std.specs.Prelude.{ℕ, zero, suc, ◌+◌, ◌≤◌, ◌<◌, ◌≡◌, Bool, true, false, ◌&&◌, ◌||◌, List, eqb, get_or, drop}
use Rattle.literal_places.specs.Literal.{starts_with, stands}

-- the literal stands at none of the places from `from` up to `to`
abbrev pub Nowhere : List ℕ → List ℕ → ℕ → ℕ → Type 0
Nowhere literal line from to = (j : ℕ) → from ≤ j → j < to → starts_with literal (drop j line) ≡ false

-- what a look at the places from `from` up to `to` tells of the line
pub record Swept (literal line : List ℕ) (from to : ℕ) (answer : Bool) : Type 0 where
  pub found : answer ≡ true → stands literal line ≡ true
  pub none : answer ≡ false → Nowhere literal line from to

-- whether at one of the n places from `at` on both chosen bytes stand where the literal would have them
unfoldable pub any_hit : List ℕ → List ℕ → ℕ → ℕ → ℕ → ℕ → Bool
any_hit literal line first second at zero = false
any_hit literal line first second at (suc n) =
    any_hit literal line first second at n
    || (eqb (get_or line (at + first + n) 0) (get_or literal first 0) && eqb (get_or line (at + second + n) 0) (get_or literal second 0))
