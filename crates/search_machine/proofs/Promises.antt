-- The promises of specs/Promises.antt: the first two lines, read by read, then what every program over the driver is promised.
use Rattle.std.specs.Prelude.{Option, Some, None}
use Rattle.std.proofs.Common.{◌≡◌, ℕ, zero, suc, ◌+◌, ◌*◌, ◌<◌, ◌≤◌, Bool, true, false, eqb, List, [], ◌∷◌, ◌++◌, length, take, drop, sym, refl, ap, ◌∙◌, subst, append_assoc, append-nil, arith, length-append, length-drop, eqb-true}
use lib.Seq.{drop-append-le, take-append-le}
use Rattle.definition.specs.declared.Settings.{Settings}
use Rattle.definition.specs.Text.{first_place}
use Rattle.forms.specs.First.{asked_of}
use Rattle.machine.specs.Machine.{Read, Turn, ended, ends, failed, goes, run, some, wants}
use Rattle.machine.specs.Program.{Standing, begins, driver, hears, turns}
use Rattle.machine.specs.Promises.{Ending, Prints, bytes_of, ending_of}
use Rattle.machine.proofs.Promises.{one_text, printed}
use Rattle.machine.proofs.Runs.{run_ends, run_goes, run_hears, run_waits}
use Rattle.session.specs.Calls.{opened}
use Rattle.session.specs.Sound.{closed}
use Rattle.streams.specs.Moves.{failed_read}
use Rattle.search_machine.specs.declared.Seen.{Seen}
use Rattle.search_machine.specs.declared.Seen.TheVariants.{Whole, Unfinished, TooLong}
use Rattle.search_machine.specs.declared.Stage.TheVariants.{First, Second, Text}
use Rattle.search_machine.specs.Head.{looked_at}
use Rattle.search_machine.specs.Promises.{Heading, SearchPrints, Searched, SearchedAlike, asked_line, bad, first_line, good, heading_of, second_line, short, short_text}
use Rattle.search_machine.specs.Search.{State, asks, first_turn, hears_of, in_text, search, search_for, second_turn, starts, turn_of, window_size}
use Rattle.printing.specs.Texts.{newline, refused_text}
use Rattle.search_machine.proofs.Looked.{Looks, begins as unfinished-yet, ends as whole-yet, long_more, looks, passes, whole_more}

-- # The text

-- from the text's start on the machine is that of a program over the driver
text_run : (literal : List ℕ) (n : ℕ) (t : Turn Standing) (reads : List Read)
    → run search n (in_text literal t) reads ≡ run (driver (search_for literal)) n t reads
unfolding run turn_of hears_of
text_run literal zero t reads = refl
text_run literal (suc n) (goes text st) reads = ap (λ x. text ++ x) (text_run literal n (turns (search_for literal) st) reads)
text_run literal (suc n) (ends text) reads = refl
text_run literal (suc n) (wants st) [] = refl
text_run literal (suc n) (wants st) (r ∷ reads) = text_run literal n (hears (search_for literal) r st) reads

-- # A line before the text

-- what must be printed, by how the line stands: a line that is whole hands over to what comes after it
abbrev Then : Type 1
Then = ℕ → List ℕ → Ending → List ℕ → Type 0

abbrev LinePrints : Then → Seen → List ℕ → Ending → List ℕ → Type 0
LinePrints P (Whole n) bytes how x = P n bytes how x
LinePrints P Unfinished bytes how x = x ≡ short_text how
LinePrints P TooLong bytes how x = x ≡ refused_text 1

abbrev line_turn : Seen → State → (ℕ → Turn State) → Turn State
line_turn (Whole n) st next = next n
line_turn Unfinished st next = wants st
line_turn TooLong st next = ends (refused_text 1)

-- how the program stands while a line is read, and what the machine does then
module _ (at : List ℕ → State) (next : List ℕ → ℕ → Turn State) (P : Then) (extra : ℕ)
    (turn_is : (rest : List ℕ) → turn_of (at rest) ≡ line_turn (looked_at rest) (at rest) (next rest))
    (some_is : (rest bytes : List ℕ) → hears_of (some bytes) (at rest) ≡ goes [] (at (rest ++ bytes)))
    (ended_is : (rest : List ℕ) → hears_of ended (at rest) ≡ ends (refused_text 1))
    (failed-is : (rest : List ℕ) → hears_of failed (at rest) ≡ ends failed_read)
    (goes_on : (rest : List ℕ) (reads : List Read) (n : ℕ) → first_place newline rest < length rest
    → 2 * length (rest ++ bytes_of reads) + 2 * length reads + extra ≤ n
    → P (first_place newline rest) (rest ++ bytes_of reads) (ending_of reads) (run search n (next rest (first_place newline rest)) reads)) where
  abbrev Reads : ℕ → Type 0
  Reads n =
      (rest : List ℕ) (reads : List Read) → 2 * length (rest ++ bytes_of reads) + 2 * length reads + (extra + 2) ≤ n
      → LinePrints P (looked_at (rest ++ bytes_of reads)) (rest ++ bytes_of reads) (ending_of reads) (run search n (turn_of (at rest)) reads)

  -- the line is not whole yet, and a read is wanted
  line_waits : (n : ℕ) → Reads n → (rest : List ℕ) (reads : List Read) → looked_at rest ≡ Unfinished
      → 2 * length (rest ++ bytes_of reads) + 2 * length reads + (extra + 2) ≤ suc (suc n)
      → LinePrints P (looked_at (rest ++ bytes_of reads)) (rest ++ bytes_of reads) (ending_of reads) (run search (suc (suc n)) (wants (at rest)) reads)
  unfolding bytes_of ending_of
  line_waits n on rest [] e l =
      rw (append-nil rest, e) (run_waits search (suc n) (wants (at rest)) [] (at rest) refl refl)
  line_waits n on rest (some bytes ∷ reads) e l =
      let whole_is = append_assoc rest bytes (bytes_of reads) in
      let heard = run_hears search (suc n) (wants (at rest)) (some bytes ∷ reads) (at rest) (some bytes) reads refl refl
      ∙ run_goes search n (hears_of (some bytes) (at rest)) reads [] (at (rest ++ bytes)) (some_is rest bytes) in
      subst (LinePrints P (looked_at (rest ++ (bytes ++ bytes_of reads))) (rest ++ (bytes ++ bytes_of reads)) (ending_of reads)) (sym heard)
      (subst (λ x. LinePrints P (looked_at x) x (ending_of reads) (run search n (turn_of (at (rest ++ bytes))) reads)) whole_is
      (on (rest ++ bytes) reads (omega (arith, l, ap length whole_is))))
  line_waits n on rest (ended ∷ reads) e l =
      rw (append-nil rest, e)
      (run_hears search (suc n) (wants (at rest)) (ended ∷ reads) (at rest) ended reads refl refl
      ∙ run_ends search n (hears_of ended (at rest)) reads (refused_text 1) (ended_is rest))
  line_waits n on rest (failed ∷ reads) e l =
      rw (append-nil rest, e)
      (run_hears search (suc n) (wants (at rest)) (failed ∷ reads) (at rest) failed reads refl refl
      ∙ run_ends search n (hears_of failed (at rest)) reads failed_read (failed-is rest))

  line_by : (n : ℕ) → Reads n → (rest : List ℕ) (reads : List Read) (seen : Seen) → Looks rest seen → looked_at rest ≡ seen
      → 2 * length (rest ++ bytes_of reads) + 2 * length reads + (extra + 2) ≤ suc (suc n)
      → LinePrints P (looked_at (rest ++ bytes_of reads)) (rest ++ bytes_of reads) (ending_of reads) (run search (suc (suc n)) (turn_of (at rest)) reads)
  line_by n on rest reads _ (whole-yet h k) e l =
      let turn : turn_of (at rest) ≡ next rest (first_place newline rest) = turn_is rest ∙ ap (λ s. line_turn s (at rest) (next rest)) e in
      let prints = goes_on rest reads (suc (suc n)) k (omega (arith, l)) in
      subst (λ s. LinePrints P s (rest ++ bytes_of reads) (ending_of reads) (run search (suc (suc n)) (turn_of (at rest)) reads)) (sym (whole_more rest (bytes_of reads) h k))
      (subst (λ t. P (first_place newline rest) (rest ++ bytes_of reads) (ending_of reads) (run search (suc (suc n)) t reads)) (sym turn) prints)
  line_by n on rest reads _ (unfinished-yet h k) e l =
      let turn : turn_of (at rest) ≡ wants (at rest) = turn_is rest ∙ ap (λ s. line_turn s (at rest) (next rest)) e in
      subst (λ t. LinePrints P (looked_at (rest ++ bytes_of reads)) (rest ++ bytes_of reads) (ending_of reads) (run search (suc (suc n)) t reads)) (sym turn)
      (line_waits n on rest reads e l)
  line_by n on rest reads _ (passes h) e l =
      let turn : turn_of (at rest) ≡ ends (refused_text 1) = turn_is rest ∙ ap (λ s. line_turn s (at rest) (next rest)) e in
      subst (λ s. LinePrints P s (rest ++ bytes_of reads) (ending_of reads) (run search (suc (suc n)) (turn_of (at rest)) reads)) (sym (long_more rest (bytes_of reads) h))
      (run_ends search (suc n) (turn_of (at rest)) reads (refused_text 1) turn)

  line_reads : (n : ℕ) → Reads n
  line_reads zero rest reads l = absurd (omega (arith, l))
  line_reads (suc zero) rest reads l = absurd (omega (arith, l))
  line_reads (suc (suc n)) rest reads l = line_by n (line_reads n) rest reads (looked_at rest) (looks rest) refl l

-- what lies behind a line, and more after it
module _ (rest more : List ℕ) (k : first_place newline rest < length rest) where
  abbrev n : ℕ
  n = first_place newline rest

  line_more : take n (rest ++ more) ≡ take n rest
  line_more = take-append-le n rest more (omega (arith, k))

  behind_more : drop (n + 1) (rest ++ more) ≡ drop (n + 1) rest ++ more
  behind_more = drop-append-le (n + 1) rest more (omega (arith, k))

  behind_less : length (drop (n + 1) rest ++ more) + 1 ≤ length (rest ++ more)
  behind_less = omega (arith, k, length-append (drop (n + 1) rest) more, length-append rest more, length-drop (n + 1) rest)

-- # The second line

module _ (c : Settings) (w : List ℕ) (size : length w ≡ window_size) (served : (opened c (length w)).refusal ≡ 0) where
  abbrev second_at : List ℕ → State
  second_at rest = record { stage = Second; literal = []; standing = begins c w rest }

  abbrev second_next : List ℕ → ℕ → Turn State
  second_next rest n = goes [] (record { stage = Text; literal = take n rest; standing = begins c w (drop (n + 1) rest) })

  abbrev SecondPrints : Then
  SecondPrints n bytes how x = Prints (search_for (take n bytes)) c window_size (drop (n + 1) bytes) how x

  second_turn_lem : (rest : List ℕ) → turn_of (second_at rest) ≡ line_turn (looked_at rest) (second_at rest) (second_next rest)
  unfolding turn_of
  second_turn_lem rest = go (looked_at rest)
    where
      go : (s : Seen) → second_turn s (second_at rest) ≡ line_turn s (second_at rest) (second_next rest)
      go (Whole n) = refl
      go Unfinished = refl
      go TooLong = refl

  -- the text begins
  text_prints : (rest : List ℕ) (reads : List Read) (n : ℕ) → first_place newline rest < length rest
      → 2 * length (rest ++ bytes_of reads) + 2 * length reads + 2 ≤ n
      → SecondPrints (first_place newline rest) (rest ++ bytes_of reads) (ending_of reads) (run search n (second_next rest (first_place newline rest)) reads)
  unfolding turn_of
  text_prints rest reads zero k l = absurd (omega (arith, l))
  text_prints rest reads (suc n) k l =
      let m = first_place newline rest in
      let literal = take m rest in
      let behind = drop (m + 1) rest in
      let p = search_for literal in
      let st : State = record { stage = Text; literal = literal; standing = begins c w behind } in
      let same : run search (suc n) (second_next rest m) reads ≡ run (driver p) n (turns p (begins c w behind)) reads =
      run_goes search n (second_next rest m) reads [] st refl ∙ text_run literal n (turns p (begins c w behind)) reads
      in
      let prints = printed p c w behind reads n served (omega (arith, l, behind_less rest (bytes_of reads) k)) in
      subst (λ x. Prints (search_for x) c window_size (drop (m + 1) (rest ++ bytes_of reads)) (ending_of reads) (run search (suc n) (second_next rest m) reads)) (sym (line_more rest (bytes_of reads) k))
      (subst (λ x. Prints p c window_size x (ending_of reads) (run search (suc n) (second_next rest m) reads)) (sym (behind_more rest (bytes_of reads) k))
      (subst (Prints p c window_size (behind ++ bytes_of reads) (ending_of reads)) (sym same)
      (subst (λ x. Prints p c x (behind ++ bytes_of reads) (ending_of reads) (run (driver p) n (turns p (begins c w behind)) reads)) size prints)))

  second_is : (s : Seen) (bytes : List ℕ) (how : Ending) (x : List ℕ) → LinePrints SecondPrints s bytes how x → SearchPrints (second_line s c bytes) how x
  second_is (Whole n) bytes how x h = h
  second_is Unfinished bytes how x h = h
  second_is TooLong bytes how x h = h

  second_reads : (n : ℕ) (rest : List ℕ) (reads : List Read) → 2 * length (rest ++ bytes_of reads) + 2 * length reads + 4 ≤ n
      → SearchPrints (second_line (looked_at (rest ++ bytes_of reads)) c (rest ++ bytes_of reads)) (ending_of reads) (run search n (turn_of (second_at rest)) reads)
  unfolding hears_of
  second_reads n rest reads l =
      second_is (looked_at (rest ++ bytes_of reads)) (rest ++ bytes_of reads) (ending_of reads) (run search n (turn_of (second_at rest)) reads)
      (line_reads second_at second_next SecondPrints 2 second_turn_lem (λ _ _. refl) (λ _. refl) (λ _. refl) text_prints n rest reads (omega (arith, l)))

-- # The first

module _ (w : List ℕ) (size : length w ≡ window_size) where
  abbrev first_at : List ℕ → State
  first_at rest = record { stage = First; literal = []; standing = record { session = closed; window = w; rest = rest } }

  abbrev first_next : List ℕ → ℕ → Turn State
  first_next rest n = asks (asked_of (take n rest)) [] w (drop (n + 1) rest)

  abbrev FirstPrints : Then
  FirstPrints n bytes how x = SearchPrints (asked_line (asked_of (take n bytes)) (drop (n + 1) bytes)) how x

  first_turn_lem : (rest : List ℕ) → turn_of (first_at rest) ≡ line_turn (looked_at rest) (first_at rest) (first_next rest)
  unfolding turn_of
  first_turn_lem rest = go (looked_at rest)
    where
      go : (s : Seen) → first_turn s (first_at rest) ≡ line_turn s (first_at rest) (first_next rest)
      go (Whole n) = refl
      go Unfinished = refl
      go TooLong = refl

  -- the search is opened, or refused
  open_prints : (c : Settings) (b : Bool) → eqb (opened c (length w)).refusal 0 ≡ b → (behind : List ℕ) (reads : List Read) (n : ℕ)
      → 2 * length (behind ++ bytes_of reads) + 2 * length reads + 4 ≤ n
      → SearchPrints (asked_line (Some c) (behind ++ bytes_of reads)) (ending_of reads) (run search (suc n) (asks (Some c) [] w behind) reads)
  open_prints c true e behind reads n l =
      let served = eqb-true (opened c (length w)).refusal 0 e in
      let turn : asks (Some c) [] w behind ≡ goes [] (record { stage = Second; literal = []; standing = begins c w behind }) = rw e in
      let heading : asked_line (Some c) (behind ++ bytes_of reads) ≡ second_line (looked_at (behind ++ bytes_of reads)) c (behind ++ bytes_of reads) =
      rw (ap (λ x. eqb (opened c x).refusal 0) (sym size) ∙ e)
      in
      subst (λ h. SearchPrints h (ending_of reads) (run search (suc n) (asks (Some c) [] w behind) reads)) (sym heading)
      (subst (SearchPrints (second_line (looked_at (behind ++ bytes_of reads)) c (behind ++ bytes_of reads)) (ending_of reads))
      (sym (run_goes search n (asks (Some c) [] w behind) reads [] (record { stage = Second; literal = []; standing = begins c w behind }) turn))
      (second_reads c w size served n behind reads l))
  open_prints c false e behind reads n l =
      let k = (opened c (length w)).refusal in
      let turn : asks (Some c) [] w behind ≡ ends (refused_text k) = rw e in
      let heading : asked_line (Some c) (behind ++ bytes_of reads) ≡ bad k =
      rw (ap (λ x. eqb (opened c x).refusal 0) (sym size) ∙ e) (ap (λ x. bad (opened c x).refusal) (sym size))
      in
      subst (λ h. SearchPrints h (ending_of reads) (run search (suc n) (asks (Some c) [] w behind) reads)) (sym heading)
      (run_ends search n (asks (Some c) [] w behind) reads (refused_text k) turn)

  ask_prints : (a : Option Settings) (behind : List ℕ) (reads : List Read) (n : ℕ) → 2 * length (behind ++ bytes_of reads) + 2 * length reads + 4 ≤ n
      → SearchPrints (asked_line a (behind ++ bytes_of reads)) (ending_of reads) (run search (suc n) (asks a [] w behind) reads)
  ask_prints (Some c) behind reads n l = open_prints c (eqb (opened c (length w)).refusal 0) refl behind reads n l
  ask_prints None behind reads n l = run_ends search n (ends (refused_text 1)) reads (refused_text 1) refl

  asked_prints : (rest : List ℕ) (reads : List Read) (n : ℕ) → first_place newline rest < length rest
      → 2 * length (rest ++ bytes_of reads) + 2 * length reads + 3 ≤ n
      → FirstPrints (first_place newline rest) (rest ++ bytes_of reads) (ending_of reads) (run search n (first_next rest (first_place newline rest)) reads)
  asked_prints rest reads zero k l = absurd (omega (arith, l))
  asked_prints rest reads (suc n) k l =
      let m = first_place newline rest in
      let behind = drop (m + 1) rest in
      subst (λ x. SearchPrints (asked_line (asked_of x) (drop (m + 1) (rest ++ bytes_of reads))) (ending_of reads) (run search (suc n) (first_next rest m) reads)) (sym (line_more rest (bytes_of reads) k))
      (subst (λ x. SearchPrints (asked_line (asked_of (take m rest)) x) (ending_of reads) (run search (suc n) (first_next rest m) reads)) (sym (behind_more rest (bytes_of reads) k))
      (ask_prints (asked_of (take m rest)) behind reads n (omega (arith, l, behind_less rest (bytes_of reads) k))))

  first_is : (s : Seen) (bytes : List ℕ) (how : Ending) (x : List ℕ) → LinePrints FirstPrints s bytes how x → SearchPrints (first_line s bytes) how x
  first_is (Whole n) bytes how x h = h
  first_is Unfinished bytes how x h = h
  first_is TooLong bytes how x h = h

pub searched : Searched
unfolding heading_of hears_of
searched w reads n size l =
    first_is w size (looked_at (bytes_of reads)) (bytes_of reads) (ending_of reads) (run search n (turn_of (starts w)) reads)
    (line_reads (first_at w size) (first_next w size) (FirstPrints w size) 3 (first_turn_lem w size) (λ _ _. refl) (λ _. refl) (λ _. refl) (asked_prints w size) n [] reads (omega (arith, l)))

pub searched_alike : SearchedAlike
searched_alike w v reads others n m size same bytes ending k l =
    let left = searched w reads n size k in
    let right =
    subst (λ x. SearchPrints (heading_of x) (ending_of reads) (run search m (turn_of (starts v)) others)) (sym bytes)
    (subst (λ x. SearchPrints (heading_of (bytes_of others)) x (run search m (turn_of (starts v)) others)) (sym ending) (searched v others m same l))
    in
    go (heading_of (bytes_of reads)) left right
  where
    go : (h : Heading) → SearchPrints h (ending_of reads) (run search n (turn_of (starts w)) reads) → SearchPrints h (ending_of reads) (run search m (turn_of (starts v)) others)
        → run search n (turn_of (starts w)) reads ≡ run search m (turn_of (starts v)) others
    go (bad j) a b = a ∙ sym b
    go short a b = a ∙ sym b
    go (good c literal text) a b = one_text (search_for literal) c window_size text (ending_of reads) _ _ a b
