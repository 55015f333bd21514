-- What output does to the buffer that collects it, and how numbers are written.
use Rattle.std.specs.Prelude.{ℕ, suc, zero, ◌+◌, ◌/◌, ◌%◌, ◌≡◌, Bool, true, false, cond, List, [], ◌∷◌, ◌++◌, leb, ltb, length, take}
use Rattle.definition.specs.Text.{put_at}
use Rattle.output.specs.declared.Output.{Output}
use Rattle.output.specs.declared.Pending.{Pending}

abbrev pub none : Pending
none = record { length = 0; lost = false }

-- What an output is to a clause: which buffer is lent, what stands in it, and how much is collected at its front.
pub record Collected : Type 0 where
  pub loan : ℕ
  pub room : List ℕ
  pub pending : Pending

abbrev pub seen : Output → Collected
seen o = record { loan = o.room.ghost_name; room = o.room.now; pending = o.pending }

abbrev pub over : ℕ → List ℕ → Pending → Collected
over loan room pending = record { loan = loan; room = room; pending = pending }

-- the text that is collected
abbrev pub text_of : Collected → List ℕ
text_of o = take o.pending.length o.room

-- a text stands behind what was pending
abbrev pub added : Collected → List ℕ → Collected
added o text = over o.loan (put_at o.pending.length text o.room) (record { length = o.pending.length + length text; lost = o.pending.lost })

-- whether a text has room behind what is pending
unfoldable pub fits : Collected → List ℕ → Bool
fits o text = leb (o.pending.length + length text) (length o.room)

-- A text that has room is put behind what is pending; one that has none is lost, and that is told.
unfoldable pub collected : Collected → List ℕ → Collected
collected o text = cond (fits o text) (added o text) (over o.loan o.room (record { length = o.pending.length; lost = true }))

-- A text stands behind what was pending, and nothing before it has changed: from a buffer and what was pending in it to both after.
pub record Tells (p : Pending) (out text : List ℕ) (r : Pending) (after : List ℕ) : Type 0 where
  pub length_is : r.length ≡ p.length + length text
  pub lost_is : r.lost ≡ p.lost
  pub text_is : take r.length after ≡ take p.length out ++ text
  pub size_is : length after ≡ length out

-- the same of an output, in the same buffer
abbrev pub Told : Collected → List ℕ → Collected → Type 0
Told o text r = (r.loan ≡ o.loan) × Tells o.pending o.room text r.pending r.room

-- # Numbers

-- the decimal digits of a number, the most significant first; turns enough are the number itself
unfoldable pub spelled : ℕ → ℕ → List ℕ
spelled zero n = (48 + n % 10) ∷ []
spelled (suc turns) n = cond (ltb n 10) ((48 + n) ∷ []) (spelled turns (n / 10) ++ ((48 + n % 10) ∷ []))

unfoldable pub decimal : ℕ → List ℕ
decimal n = spelled n n
