-- What the steps come to: the turns of one after the other are turns of the machine.
use Rattle.std.specs.Prelude.{Result, Ok, Err}
use Rattle.std.proofs.Common.{◌≡◌, ℕ, zero, suc, ◌+◌, List, [], ◌∷◌, ◌++◌, sym, refl, ap, ◌∙◌, subst, append_assoc, append-nil, arith}
use Rattle.machine.specs.Machine.{Read, Turn, ended, ends, failed, run, some, wants}
use Rattle.definition.specs.Text.{part}
use Rattle.streams.specs.declared.Failure.{Failure}
use Rattle.streams.specs.declared.Failure.TheVariants.{Interrupted, Errno}
use Rattle.search_machine.specs.declared.Phase.{Phase}
use Rattle.search_machine.specs.declared.Phase.TheVariants.{Going, Wants, Over}
use Rattle.machine.specs.Promises.{bytes_of, ending_of}
use Rattle.search_machine.specs.Promises.{SearchPrints, heading_of, search_enough}
use Rattle.search_machine.specs.Search.{State, hears_of, search, starts, turn_of}
use Rattle.search_machine.specs.Served.{Comes, Held, Served, WritesAll, WritesWhatIsPrinted, WritesWhatMust, after, heard, here, next_at, next_of, read_of, state_of, turned}
use Rattle.search_machine.proofs.Promises.{searched}
use Rattle.search_machine.specs.Standing.{Does, Gives, begins, heard_as, printed, seen}

-- where all is over nothing more is printed
over_none : (n : ℕ) (later : List Read) → run search n (ends []) later ≡ []
unfolding run
over_none zero later = refl
over_none (suc n) later = refl

-- # One step

turns_come : (phase : Phase) (k : ℕ) (st : State) (text : List ℕ) (next : State) → Does phase k st text next
    → Comes (turn_of st) [] text (next_at phase next)
turns_come Going k st text next d = (k, λ n later. d.1 n later)
turns_come Wants k st text next d = (k, λ n later. d.0 n later ∙ ap (λ t. text ++ run search n t later) d.1)
turns_come Over k st text next d = (k, λ n later. d n later ∙ sym (append-nil text) ∙ ap (λ xs. text ++ xs) (sym (over_none n later)))

-- a read that the machine hears
read_comes : (phase : Phase) (read : Read) (st : State) (text : List ℕ) (next : State) → Gives phase text next (hears_of read st)
    → Comes (wants st) (read ∷ []) text (next_at phase next)
unfolding run
read_comes Going read st text next g = (
  2,
  λ n later.
      let e : 2 + n ≡ suc (suc n) = omega arith in
      ap (λ j. run search j (wants st) (read ∷ later)) e ∙ ap (λ t. run search (suc n) t later) g,
)
read_comes Wants read st text next g = (
  1,
  λ n later.
      let e : 1 + n ≡ suc n = omega arith in
      ap (λ j. run search j (wants st) (read ∷ later)) e ∙ ap (λ t. run search n t later) g.0 ∙ ap (λ xs. xs ++ run search n (wants next) later) (sym g.1),
)
read_comes Over read st text next g = (
  2,
  λ n later.
      let e : 2 + n ≡ suc (suc n) = omega arith in
      ap (λ j. run search j (wants st) (read ∷ later)) e ∙ ap (λ t. run search (suc n) t later) g ∙ sym (append-nil text) ∙ ap (λ xs. text ++ xs) (sym (over_none n later)),
)

-- a signal that came first
signal_comes : (phase : Phase) (st : State) (text : List ℕ) (next : State) → Gives phase text next (wants st) → Comes (wants st) [] text (next_at phase next)
signal_comes Going st text next g =
    let z : ◌≡◌ {A = ℕ} 0 1 = cc in
    absurd (omega arith)
signal_comes Wants st text next g = (
  0,
  λ n later.
      let e : 0 + n ≡ n = omega arith in
      ap (λ j. run search j (wants st) later) e ∙ ap (λ t. run search n t later) g.0 ∙ ap (λ xs. xs ++ run search n (wants next) later) (sym g.1),
)
signal_comes Over st text next g =
    let z : ◌≡◌ {A = ℕ} 0 1 = cc in
    absurd (omega arith)

hears_come : (got : Result ℕ Failure) (phase : Phase) (to : ℕ) (input : List ℕ) (st : State) (text : List ℕ) (next : State)
    → Gives phase text next (heard_as got to input st)
    → Comes (wants st) (read_of got to input) text (next_at phase next)
hears_come (Ok zero) phase to input st text next g = read_comes phase ended st text next g
hears_come (Ok (suc n)) phase to input st text next g = read_comes phase (some (part to (to + suc n) input)) st text next g
hears_come (Err Interrupted) phase to input st text next g = signal_comes phase st text next g
hears_come (Err (Errno e)) phase to input st text next g = read_comes phase failed st text next g

-- # One step after the other

then : (a : Turn State) (reads more : List Read) (text rest : List ℕ) (b c : Turn State) → Comes a reads text b → Comes b more rest c
    → Comes a (reads ++ more) (text ++ rest) c
then a reads more text rest b c f g = (
  f.0 + g.0,
  λ n later.
      let e : f.0 + g.0 + n ≡ f.0 + (g.0 + n) = omega arith in
      ap (λ j. run search j a ((reads ++ more) ++ later)) e
      ∙ ap (λ rs. run search (f.0 + (g.0 + n)) a rs) (append_assoc reads more later)
      ∙ f.1 (g.0 + n) (more ++ later)
      ∙ ap (λ xs. text ++ xs) (g.1 n later)
      ∙ sym (append_assoc text rest (run search n c later)),
)

comes_none : (a : Turn State) → Comes a [] [] a
comes_none a = (
  0,
  λ n later.
      let e : 0 + n ≡ n = omega arith in
      ap (λ j. run search j a later) e,
)

serves : (h : Held) (reads : List Read) (text : List ℕ) (end : Held) → Served h reads text end → Comes (next_of h) reads text (next_of end)
serves h _ _ _ (here _) = comes_none (next_of h)
serves h reads _ end (turned _ r window literal input out _ text _ e t s) =
    let next = next_at r.phase (seen r window literal input) in
    let first = turns_come r.phase t.count (state_of h) (printed r out) (seen r window literal input) t.does in
    then (next_of h) [] reads (printed r out) text next (next_of end)
    (subst (λ phase. Comes (next_at phase (state_of h)) [] (printed r out) next) (sym e) first)
    (serves (after r window literal input) reads text end s)
serves h _ _ end (heard _ r window literal input out reads text _ e p s) =
    let next = next_at r.phase (seen r window literal input) in
    let read = read_of p.got h.search.to input in
    let first = hears_come p.got r.phase h.search.to input (seen h.search window literal input) (printed r out) (seen r window literal input) p.heard.hears in
    then (next_of h) read reads (printed r out) text next (next_of end)
    (subst (λ phase. Comes (next_at phase (state_of h)) read (printed r out) next) (sym e)
    (subst (λ st. Comes (wants st) read (printed r out) next) p.stands first))
    (serves (after r window literal input) reads text end s)

-- # From the start on

pub writes_what_is_printed : WritesWhatIsPrinted
writes_what_is_printed window literal input reads text end s = serves (record { search = begins; window = window; literal = literal; input = input }) reads text end s

pub writes_all : WritesAll
writes_all window literal input reads text end e s =
    let c = writes_what_is_printed window literal input reads text end s in
    (c.0, λ n later. c.1 n later ∙ ap (λ phase. text ++ run search n (next_at phase (state_of end)) later) e ∙ ap (λ xs. text ++ xs) (over_none n later) ∙ append-nil text)

pub writes_what_must : WritesWhatMust
writes_what_must window literal input reads text end size over s =
    let all = writes_all window literal input reads text end over s in
    let n = search_enough reads in
    let printed = searched window reads (all.0 + n) size (omega arith) in
    subst (SearchPrints (heading_of (bytes_of reads)) (ending_of reads))
    (ap (λ rs. run search (all.0 + n) (turn_of (starts window)) rs) (sym (append-nil reads)) ∙ all.1 n []) printed
