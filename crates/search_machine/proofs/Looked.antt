-- How a line at the front of some bytes stands once more bytes follow.
use Rattle.std.proofs.Common.{◌≡◌, ℕ, ◌<◌, ◌≤◌, Bool, true, false, cond, ltb, leb, List, ◌++◌, length, refl, ap, ◌∙◌, arith, length-append, ltb-false, ltb-true, le-ltb, lt-ltb, le-leb, leb-false, leb-true}
use native.Mathlib.Decide.{dec_lt}
use borrow.Author.Tests.{lt-leb}
use Rattle.definition.specs.Text.{first_place}
use Rattle.definition.proofs.Terminator.{first_append, first_append_none, first_le}
use Rattle.search_machine.specs.declared.Seen.{Seen}
use Rattle.search_machine.specs.declared.Seen.TheVariants.{Whole, Unfinished, TooLong}
use Rattle.search_machine.specs.Head.{longest, looked_at}
use Rattle.printing.specs.Texts.{newline}

-- why a line stands as it does
module _ (bytes : List ℕ) where
  pub data Looks : Seen → Type 0 where
    ends : first_place newline bytes ≤ longest → first_place newline bytes < length bytes → Looks (Whole (first_place newline bytes))
    begins : first_place newline bytes ≤ longest → length bytes ≤ first_place newline bytes → Looks Unfinished
    passes : longest < first_place newline bytes → Looks TooLong

  looks_by : (b v : Bool) → leb (first_place newline bytes) longest ≡ b → ltb (first_place newline bytes) (length bytes) ≡ v
      → Looks (cond b (cond v (Whole (first_place newline bytes)) Unfinished) TooLong)
  looks_by true true e k = ends (leb-true (first_place newline bytes) longest e) (ltb-true (first_place newline bytes) (length bytes) k)
  looks_by true false e k = begins (leb-true (first_place newline bytes) longest e) (ltb-false (first_place newline bytes) (length bytes) k)
  looks_by false v e k = passes (leb-false (first_place newline bytes) longest e)

  pub looks : Looks (looked_at bytes)
  unfolding looked_at
  looks = looks_by (leb (first_place newline bytes) longest) (ltb (first_place newline bytes) (length bytes)) refl refl

  pub looks_is : (seen : Seen) → Looks seen → looked_at bytes ≡ seen
  unfolding looked_at
  looks_is _ (ends h k) = rw (le-leb (first_place newline bytes) longest h, lt-ltb (first_place newline bytes) (length bytes) k)
  looks_is _ (begins h k) = rw (le-leb (first_place newline bytes) longest h, le-ltb (first_place newline bytes) (length bytes) k)
  looks_is _ (passes h) = rw (lt-leb (first_place newline bytes) longest h)

-- a line that is whole stays so
pub whole_more : (bytes more : List ℕ) → first_place newline bytes ≤ longest → first_place newline bytes < length bytes
    → looked_at (bytes ++ more) ≡ Whole (first_place newline bytes)
whole_more bytes more h k =
    let same = first_append newline bytes more k in
    looks_is (bytes ++ more) _ (ends (omega (arith, same)) (omega (arith, same, length-append bytes more)))
    ∙ ap Whole same

-- and one that is too long
pub long_more : (bytes more : List ℕ) → longest < first_place newline bytes → looked_at (bytes ++ more) ≡ TooLong
long_more bytes more h = looks_is (bytes ++ more) _ (passes far)
  where
    far : longest < first_place newline (bytes ++ more)
    far = elim (dec_lt (first_place newline bytes) (length bytes)) [
      | yes k ↦ omega (arith, first_append newline bytes more k)
      | no k ↦ omega (arith, first_append_none newline bytes more (omega arith), first_le newline bytes)
    ]
