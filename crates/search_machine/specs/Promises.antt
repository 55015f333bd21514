-- What `search` is promised to print, for any reads. The proofs stand in proofs/Promises.antt, under the statements' names in small
-- letters.
use Rattle.std.specs.Prelude.{◌≡◌, ℕ, ◌+◌, ◌*◌, ◌≤◌, cond, List, [], length, take, drop, ◌==◌, Option, Some, None}
use Rattle.definition.specs.declared.Settings.{Settings}
use Rattle.forms.specs.First.{asked_of}
use Rattle.machine.specs.Machine.{Read, run}
use Rattle.machine.specs.Promises.{Ending, Prints, broken, bytes_of, ending_of, unended, whole}
use Rattle.session.specs.Calls.{opened}
use Rattle.streams.specs.Moves.{failed_read}
use Rattle.search_machine.specs.declared.Seen.{Seen}
use Rattle.search_machine.specs.declared.Seen.TheVariants.{Whole, Unfinished, TooLong}
use Rattle.search_machine.specs.Head.{looked_at}
use Rattle.search_machine.specs.Search.{search, search_for, starts, turn_of, window_size}
use Rattle.printing.specs.Texts.{refused_text}

-- # What the first two lines say

-- a refusal; or they are not whole yet; or settings, literal and the text after them
pub data Heading : Type 0 where
  bad : ℕ → Heading
  short : Heading
  good : Settings → List ℕ → List ℕ → Heading

abbrev pub second_line : Seen → Settings → List ℕ → Heading
second_line (Whole n) c bytes = good c (take n bytes) (drop (n + 1) bytes)
second_line Unfinished c bytes = short
second_line TooLong c bytes = bad 1

abbrev pub asked_line : Option Settings → List ℕ → Heading
asked_line (Some c) bytes =
    cond ((opened c window_size).refusal == 0) (second_line (looked_at bytes) c bytes) (bad (opened c window_size).refusal)
asked_line None bytes = bad 1

abbrev pub first_line : Seen → List ℕ → Heading
first_line (Whole n) bytes = asked_line (asked_of (take n bytes)) (drop (n + 1) bytes)
first_line Unfinished bytes = short
first_line TooLong bytes = bad 1

unfoldable pub heading_of : List ℕ → Heading
heading_of bytes = first_line (looked_at bytes) bytes

-- "either of the first two lines missing its newline .. is refused by 1"; but a failed read is not the end
abbrev pub short_text : Ending → List ℕ
short_text unended = []
short_text whole = refused_text 1
short_text broken = failed_read

-- # What is printed

abbrev pub SearchPrints : Heading → Ending → List ℕ → Type 0
SearchPrints (bad k) how x = x ≡ refused_text k
SearchPrints short how x = x ≡ short_text how
SearchPrints (good c literal text) how x = Prints (search_for literal) c window_size text how x

-- turns and reads enough for an input
abbrev pub search_enough : List Read → ℕ
search_enough reads = 2 * length (bytes_of reads) + 2 * length reads + 5

-- Searched. Whatever the reads give, `search` prints what the first two lines and the text ask for.
abbrev pub Searched : Type 0
Searched =
    (w : List ℕ) (reads : List Read) (n : ℕ) → length w ≡ window_size → search_enough reads ≤ n
    → SearchPrints (heading_of (bytes_of reads)) (ending_of reads) (run search n (turn_of (starts w)) reads)

-- SearchedAlike. However the same bytes are cut into reads, the output is the same.
abbrev pub SearchedAlike : Type 0
SearchedAlike =
    (w v : List ℕ) (reads others : List Read) (n m : ℕ) → length w ≡ window_size → length v ≡ window_size
    → bytes_of reads ≡ bytes_of others → ending_of reads ≡ ending_of others → search_enough reads ≤ n → search_enough others ≤ m
    → run search n (turn_of (starts w)) reads ≡ run search m (turn_of (starts v)) others
