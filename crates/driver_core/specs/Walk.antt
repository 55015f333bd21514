-- How far a search has come through its lines, as the struct `Walk`: which of its numbers contradict each other, whether a line waits
-- ahead of it, and what it leaves for the end record. The bytes since the last line with a row, and the bytes ahead, are lent, wherever
-- they lie.
use Rattle.std.specs.Prelude.{◌≡◌, ℕ, ◌+◌, ◌≤◌, Bool, true, false, cond, not, ◌&&◌, ◌||◌, List, [], ◌∷◌, length, take, ◌==◌, nat_le, nat_lt, Option, Some, None}
use Rattle.definition.specs.declared.End.{End}
use Rattle.definition.specs.declared.Going.{Going}
use Rattle.definition.specs.declared.Going.TheVariants.{On, LimitMet, NonmatchMet}
use Rattle.definition.specs.declared.Settings.{Settings}
use Rattle.definition.specs.Bounds.{allowed, max_input}
use Rattle.definition.specs.Definition.{end_with, going_next}
use Rattle.definition.specs.Text.{first_length, first_place, handed}
use Rattle.driver_core.specs.declared.Walk.{Walk}

-- before any line: "(a limit of 0: at opening)"
abbrev pub walk_start : Settings → Walk
walk_start c =
    record {
      settings = c;
      bytes = 0;
      lines = 0;
      matches = 0;
      left = 0;
      given = false;
      going = going_next c false 0 0;
    }

abbrev pub is_on : Going → Bool
is_on On = true
is_on LimitMet = false
is_on NonmatchMet = false

-- # Numbers that contradict each other

abbrev pub within_limit : Option ℕ → ℕ → Bool
within_limit None matches = true
within_limit (Some n) matches = nat_le matches n

-- The list: each test fails where numbers contradict each other, or how many bytes lie since the last line with a row and ahead.
unfoldable pub walk_tests : Walk → ℕ → ℕ → List Bool
walk_tests k since ahead =
    allowed k.settings
    ∷ nat_le since k.bytes
    ∷ nat_le (k.bytes + ahead) max_input
    ∷ nat_le k.lines k.bytes
    ∷ nat_le k.matches k.lines
    ∷ within_limit k.settings.limit k.matches
    ∷ nat_le k.left k.settings.after
    ∷ (k.left == 0 || since == 0)
    ∷ []

abbrev pub every : List Bool → Bool
every [] = true
every (b ∷ bs) = b && every bs

unfoldable pub walk_agrees : Walk → ℕ → ℕ → Bool
walk_agrees k since ahead = every (walk_tests k since ahead)

-- what the tests say, as facts (proofs/Laws.antt: walk_agree_of, walk_agrees_of)
pub record WalkAgree (k : Walk) (since ahead : ℕ) : Type 0 where
  pub set : allowed k.settings ≡ true
  pub back : since ≤ k.bytes
  pub size : k.bytes + ahead ≤ max_input
  pub counted : k.lines ≤ k.bytes
  pub matched : k.matches ≤ k.lines
  pub limited : within_limit k.settings.limit k.matches ≡ true
  pub left_after : k.left ≤ k.settings.after
  pub owed : (k.left == 0 || since == 0) ≡ true

-- # The waiting line

-- "At the end an unterminated rest becomes a waiting line." "after a stop no line waits": whether a line waits at the front of the bytes
-- ahead, where more may come or not
unfoldable pub waits_ahead : Walk → Bool → List ℕ → Bool
waits_ahead k more ahead =
    is_on k.going
    && (nat_lt (first_place k.settings.terminator ahead) (length ahead)
    || (not more && nat_lt 0 (length ahead)))

-- the line that waits, with its length
unfoldable pub line_ahead : Walk → Bool → List ℕ → Option ℕ
line_ahead k more ahead = cond (waits_ahead k more ahead) (Some (first_length k.settings.terminator ahead)) None

-- "The waiting line is shown .. without its terminator": a part of the bytes ahead, from their front; empty where none waits
unfoldable pub shown_ahead : Walk → Bool → List ℕ → List ℕ
shown_ahead k more ahead =
    cond (waits_ahead k more ahead) (handed k.settings.terminator (take (first_length k.settings.terminator ahead) ahead)) []

-- # The end record

-- "7: end record asked while lines or input remain and no stop has come", by how many bytes lie ahead
unfoldable pub remains_ahead : Walk → Bool → ℕ → Bool
remains_ahead k more ahead = is_on k.going && (more || nat_lt 0 ahead)

-- what was gone through, with a cause and a place
unfoldable pub walk_end : Walk → ℕ → Option ℕ → End
walk_end k cause place = end_with k.bytes k.lines k.matches cause place
