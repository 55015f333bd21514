-- Decimal numbers without leading zeros that 64 bits hold, and the dash that stands for none.
use Rattle.std.specs.Prelude.{ℕ, bytes_eq, ◌+◌, ◌-◌, ◌*◌, Bool, true, false, cond, ◌&&◌, List, [], ◌∷◌, eqb, leb, ltb, Option, Some, None}

-- the first number that 64 bits do not hold
abbrev pub top : ℕ
top = 18446744073709551616

-- `0` to `9`
unfoldable pub is_digit : ℕ → Bool
is_digit x = leb 48 x && leb x 57

unfoldable pub are_digits : List ℕ → Bool
are_digits [] = true
are_digits (x ∷ xs) = is_digit x && are_digits xs

-- the value of digits that are written behind a number
unfoldable pub behind : ℕ → List ℕ → ℕ
behind n [] = n
behind n (x ∷ xs) = behind (10 * n + (x - 48)) xs

-- a number with one digit more
unfoldable pub digit_behind : ℕ → ℕ → Option ℕ
digit_behind n x = cond (is_digit x && ltb (10 * n + (x - 48)) top) (Some (10 * n + (x - 48))) None

-- a number with more digits
unfoldable pub digits_behind : ℕ → List ℕ → Option ℕ
digits_behind n xs = cond (are_digits xs && ltb (behind n xs) top) (Some (behind n xs)) None

-- at least one digit, and a zero in front only where it is alone
unfoldable pub decimal_of : List ℕ → Option ℕ
decimal_of [] = None
decimal_of (x ∷ []) = digits_behind 0 (x ∷ [])
decimal_of (x ∷ (y ∷ ys)) = cond (eqb x 48) None (digits_behind 0 (x ∷ (y ∷ ys)))

-- a dash alone
unfoldable pub is_dash : List ℕ → Bool
is_dash word = bytes_eq word (45 ∷ [])
