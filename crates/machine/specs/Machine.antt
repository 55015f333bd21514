-- A machine: a program's run as a function from what each read gave, in order, to what it prints, byte for byte.
use Rattle.std.specs.Prelude.{◌≡◌, ℕ, zero, suc, ◌+◌, List, [], ◌∷◌, ◌++◌}

-- what a read gave: some bytes, the end of the input, or a failure
pub data Read : Type 0 where
  some : List ℕ → Read
  ended : Read
  failed : Read

-- what a turn does: print and go on, want a read, or print and be over
pub data Turn (S : Type 0) : Type 0 where
  goes : List ℕ → S → Turn S
  wants : S → Turn S
  ends : List ℕ → Turn S

pub record Machine (S : Type 0) : Type 0 where
  -- what it does next, by how it stands
  pub turn : S → Turn S
  -- what it does with what a read gave
  pub hears : Read → S → Turn S

-- What a machine prints in so many turns and reads; where no more is read it waits.
unfoldable pub run : {S : Type 0} → Machine S → ℕ → Turn S → List Read → List ℕ
run m zero t reads = []
run m (suc n) (goes text s) reads = text ++ run m n (m.turn s) reads
run m (suc n) (ends text) reads = text
run m (suc n) (wants s) [] = []
run m (suc n) (wants s) (r ∷ reads) = run m n (m.hears r s) reads

-- # What the code is held to

-- Some turns lead from one standing to another, and a text is printed on the way: whatever is read after them and however many turns
-- follow, the machine prints that text, and then what it prints from there.
abbrev pub Leads : {S : Type 0} → Machine S → ℕ → S → List ℕ → S → Type 0
Leads m k s text s' = (n : ℕ) (reads : List Read) → run m (k + n) (m.turn s) reads ≡ text ++ run m n (m.turn s') reads

-- Some turns lead to the end: that text is printed, and nothing after it, whatever could be read.
abbrev pub Closes : {S : Type 0} → Machine S → ℕ → S → List ℕ → Type 0
Closes m k s text = (n : ℕ) (reads : List Read) → run m (k + n) (m.turn s) reads ≡ text
