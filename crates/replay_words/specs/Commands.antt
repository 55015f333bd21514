-- What the words behind a command's name ask for; where a word is out of reach the line is no command.
use Rattle.std.specs.Prelude.{ℕ, ◌+◌, ◌*◌, Bool, cond, ◌&&◌, eqb, leb, Option, Some, None}
use Rattle.definition.specs.Bounds.{max_context, max_window}
use Rattle.definition.specs.Rows.{row_size}
use Rattle.replay_words.specs.declared.Command.{Command}
use Rattle.replay_words.specs.declared.Command.TheVariants.{Answer, Lend, Offer, Poke, Table}

-- how many bytes the room has
abbrev pub room : ℕ
room = max_window + 1

-- how many numbers the table has
abbrev pub table : ℕ
table = row_size * (max_context + 4)

-- a number that is at most so large
abbrev pub at_most : ℕ → ℕ → Option ℕ
at_most n most = cond (leb n most) (Some n) None

abbrev pub offer_of : Option ℕ → Option Command
offer_of (Some count) = Some (Offer count)
offer_of None = None

abbrev pub lend_of : Option ℕ → Option Command
lend_of (Some length) = cond (leb length room) (Some (Lend length)) None
lend_of None = None

abbrev pub answer_of : Option ℕ → Option ℕ → Option Command
answer_of (Some hit) (Some size) = cond (leb hit 1 && leb size table) (Some (Answer (eqb hit 1) size)) None
answer_of (Some hit) None = None
answer_of None size = None

abbrev pub table_of : Option ℕ → Option ℕ → Option Command
table_of (Some first) (Some last) = cond (leb first last && leb last table) (Some (Table first last)) None
table_of (Some first) None = None
table_of None last = None

-- the bytes have room behind the place
abbrev pub poke_of : Option ℕ → Option ℕ → Option Command
poke_of (Some place) (Some count) = cond (leb place room && leb (place + count) room) (Some (Poke place count)) None
poke_of (Some place) None = None
poke_of None count = None
