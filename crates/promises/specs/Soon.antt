-- How soon a run is over, whose caller does what is next. The proof, `soon`, stands in proofs/Soon.antt.
use Rattle.std.specs.Prelude.{◌≡◌, ℕ, zero, suc, ◌+◌, ◌*◌, ◌≤◌, Bool, cond, ◌&&◌, ◌⊎◌, List, length, take, ◌==◌}
use Rattle.definition.specs.declared.Settings.{Settings}
use Rattle.definition.specs.Rows.{row_size}
use Rattle.driver_core.specs.Walk.{is_on}
use Rattle.session.specs.Calls.{offered}
use Rattle.session.specs.Held.{is_open, waits}
use Rattle.promises.specs.Promises.{Ends, NoRoom, Within}
use Rattle.promises.specs.Run.{At, Run, Steps, at_answer, at_end, at_offer}
use Rattle.session.specs.Sound.{ahead_bytes}

-- What is next, with one table lent to every answer: a line that waits is answered; else, while the run goes on and the input is open,
-- all that is left is offered, or the end is told where nothing is left; else there is nothing to do.
unfoldable pub next_call : (ℕ → Bool) → List ℕ → At → At
next_call answers table a =
    cond (waits a.session a.window) (at_answer answers table a)
    (cond (is_on a.session.walk.going && is_open a.session.places.input)
    (cond (length a.rest == 0) (at_end a) (at_offer (length a.rest) a))
    a)

-- so many calls later
unfoldable pub calls_from : ℕ → (ℕ → Bool) → List ℕ → At → At
calls_from zero answers table a = a
calls_from (suc n) answers table a = calls_from n answers table (next_call answers table a)

-- an offer of some part of what is left is refused for the size
abbrev pub NoSize : At → Type 0
NoSize a = (k : ℕ) × ((offered a.session a.window (take k a.rest)).refusal ≡ 5)

-- Soon. Demand 1, "Any bytes, settings, pieces and order of calls get an outcome", and it is not far: from any moment of any run, with
-- room for B + 2 rows, every such call is one that the caller of demand 3 may make; and after two for each byte left, one for each byte
-- held unanswered and one for the end, the run is finished, refused by 3 or refused by 5, within the size not by 5. So a program's loop
-- needs no other bound.
abbrev pub Soon : Type 0
Soon =
    (c : Settings) (input : List ℕ) (answers : ℕ → Bool) (a : At) → Run c input answers a
    → (table : List ℕ) → row_size * (c.before + 2) ≤ length table → (n : ℕ)
    → let b = calls_from n answers table a in
    Steps answers a b
    × (2 * length a.rest + ahead_bytes a.session + 1 ≤ n
    → (Ends b ⊎ (NoRoom b ⊎ NoSize b)) × (Within c input → Ends b ⊎ NoRoom b))
