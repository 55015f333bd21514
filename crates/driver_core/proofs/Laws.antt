-- Laws of a walk: its numbers as tests and as facts, the waiting line, and one step.
use Rattle.std.specs.Prelude.{◌≡◌, ℕ, ◌+◌, ◌≤◌, Bool, true, false, cond, not, ◌&&◌, leb, List, [], ◌∷◌, Some, None}
use mathlib.Core.Path.{refl}
use mathlib.Core.Bool.{and-eq-true_iff}
use native.Mathlib.Omega.{arith}
use borrow.Author.Tests.{le-leb, leb-true}
use Rattle.definition.specs.declared.Settings.{Settings}
use Rattle.definition.specs.Bounds.{allowed, contextual, limit_in_range, max_context, max_input}
use Rattle.definition.specs.State.{fate_of, state_next}
use Rattle.definition.specs.Text.{first_length}
use Rattle.driver_core.specs.declared.Walk.{Walk}
use Rattle.driver_core.specs.Answer.{state_since, walk_next}
use Rattle.driver_core.specs.Step.{walk_step}
use Rattle.driver_core.specs.Walk.{WalkAgree, every, line_ahead, waits_ahead, walk_agrees, walk_tests}

-- # Numbers that contradict each other

abbrev pub All : List Bool → Type 0
All [] = Unit {0}
All (b ∷ bs) = (b ≡ true) × All bs

pub every_all : (bs : List Bool) → every bs ≡ true → All bs
every_all [] e = tt
every_all (b ∷ bs) e = (((and-eq-true_iff b (every bs)).0 e).0, every_all bs ((and-eq-true_iff b (every bs)).0 e).1)

pub all_every : (bs : List Bool) → All bs → every bs ≡ true
all_every [] h = refl
all_every (b ∷ bs) h = (and-eq-true_iff b (every bs)).1 (h.0, all_every bs h.1)

-- tests joined from the left, as the code joins them
abbrev chain : Bool → List Bool → Bool
chain b [] = b
chain b (x ∷ xs) = chain (b && x) xs

abbrev pub joined : List Bool → Bool
joined [] = true
joined (b ∷ bs) = chain b bs

chain_every : (b : Bool) (bs : List Bool) → chain b bs ≡ (b && every bs)
chain_every true [] = refl
chain_every false [] = refl
chain_every true (x ∷ xs) = chain_every x xs
chain_every false (x ∷ xs) = chain_every false xs

pub joined_every : (bs : List Bool) → joined bs ≡ every bs
joined_every [] = refl
joined_every (b ∷ bs) = chain_every b bs

pub walk_agree_of : (k : Walk) (since ahead : ℕ) → walk_agrees k since ahead ≡ true → WalkAgree k since ahead
unfolding walk_agrees walk_tests
walk_agree_of k since ahead e =
    let h = every_all (walk_tests k since ahead) e in
    record {
      set = h.0;
      back = leb-true since k.bytes h.1.0;
      size = leb-true (k.bytes + ahead) max_input h.1.1.0;
      counted = leb-true k.lines k.bytes h.1.1.1.0;
      matched = leb-true k.matches k.lines h.1.1.1.1.0;
      limited = h.1.1.1.1.1.0;
      left_after = leb-true k.left k.settings.after h.1.1.1.1.1.1.0;
      owed = h.1.1.1.1.1.1.1.0;
    }

pub walk_agrees_of : (k : Walk) (since ahead : ℕ) → WalkAgree k since ahead → walk_agrees k since ahead ≡ true
unfolding walk_agrees walk_tests
walk_agrees_of k since ahead a =
    all_every (walk_tests k since ahead) (
      a.set,
      (
        le-leb since k.bytes a.back,
        (
          le-leb (k.bytes + ahead) max_input a.size,
          (
            le-leb k.lines k.bytes a.counted,
            (
              le-leb k.matches k.lines a.matched,
              (a.limited, (le-leb k.left k.settings.after a.left_after, (a.owed, tt))),
            ),
          ),
        ),
      ),
    )

pub before_allowed : (c : Settings) → allowed c ≡ true → c.before ≤ max_context
unfolding allowed
before_allowed c h =
    let b = leb c.before max_context in
    let a = leb c.after max_context in
    let l = limit_in_range c.limit in
    let n = not (c.passthru && contextual c) in
    leb-true c.before max_context
    ((and-eq-true_iff b a).0 ((and-eq-true_iff (b && a) l).0 ((and-eq-true_iff (b && a && l) n).0 h).0).0).0

-- # The waiting line

-- what the answer says
pub waits_line : (k : Walk) (more : Bool) (ahead : List ℕ) (n : ℕ) → Some n ≡ line_ahead k more ahead
    → (waits_ahead k more ahead ≡ true) × (n ≡ first_length k.settings.terminator ahead)
unfolding line_ahead
waits_line k more ahead n h = go (waits_ahead k more ahead) (first_length k.settings.terminator ahead) h
  where
    go : (b : Bool) (m : ℕ) → Some n ≡ cond b (Some m) None → (b ≡ true) × (n ≡ m)
    go true m h = (refl, cc)
    go false m h =
        let z : ◌≡◌ {A = ℕ} 0 1 = cc in
        absurd (omega arith)

pub waits_none : (k : Walk) (more : Bool) (ahead : List ℕ) → None ≡ line_ahead k more ahead → waits_ahead k more ahead ≡ false
unfolding line_ahead
waits_none k more ahead h = go (waits_ahead k more ahead) (first_length k.settings.terminator ahead) h
  where
    go : (b : Bool) (m : ℕ) → None ≡ cond b (Some m) None → b ≡ false
    go true m h =
        let z : ◌≡◌ {A = ℕ} 0 1 = cc in
        absurd (omega arith)
    go false m h = refl

-- # One step

-- the definition's own step, by what becomes of the line
pub walk_next_is : (k : Walk) (since : List ℕ) (len : ℕ) (hit : Bool)
    → walk_next k since len hit ≡ walk_step (fate_of k.settings (state_since k since) hit) k len
unfolding walk_next state_next state_since walk_step
walk_next_is k since len hit = refl
