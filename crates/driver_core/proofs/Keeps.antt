-- Opening and each answered line keep the list of contradictions empty; why a line waits.
use Rattle.std.specs.Prelude.{◌≡◌, ℕ, ◌+◌, ◌-◌, ◌<◌, ◌≤◌, Bool, true, false, cond, not, ◌&&◌, ◌||◌, eqb, ltb, ◌⊎◌, List, length, Option, Some, None}
use mathlib.Core.Path.{refl}
use mathlib.Core.Bool.{and-eq-true_iff, false≢true, or-true}
use mathlib.Core.Logic.{inl, inr, ⊎_elim}
use native.Mathlib.Omega.{arith}
use borrow.Author.Tests.{eq-eqb, eqb-true, le-leb, leb-false, ltb-true, not-true}
use Rattle.definition.specs.declared.Fate.{Fate}
use Rattle.definition.specs.declared.Fate.TheVariants.{Match, After, Other, NoRow}
use Rattle.definition.specs.declared.Going.{Going}
use Rattle.definition.specs.declared.Going.TheVariants.{On, LimitMet, NonmatchMet}
use Rattle.definition.specs.declared.Settings.{Settings}
use Rattle.definition.specs.Bounds.{allowed, max_input}
use Rattle.definition.specs.Definition.{limit_reached, selected}
use Rattle.definition.specs.State.{State, fate_of, state_next}
use Rattle.definition.specs.Text.{first_length, first_place}
use Rattle.definition.proofs.Fates.{FateCase, selects, owes, passes, skips, fate_case, selected_below}
use Rattle.driver_core.specs.Answer.{gets_row, state_since, walk_next, walk_of}
use Rattle.driver_core.specs.declared.Walk.{Walk}
use Rattle.driver_core.specs.Walk.{WalkAgree, is_on, waits_ahead, walk_start, within_limit}

-- # What is kept

-- fewer bytes lie since the last line with a row, and others ahead
pub agree_fewer : (k : Walk) (since ahead n m : ℕ) → WalkAgree k since ahead → n ≤ since → k.bytes + m ≤ max_input → WalkAgree k n m
agree_fewer k since ahead n m a h size =
    record {
      set = a.set;
      back = omega (arith, a.back);
      size = size;
      counted = a.counted;
      matched = a.matched;
      limited = a.limited;
      left_after = a.left_after;
      owed = go (eqb k.left 0) (eqb since 0) refl a.owed;
    }
  where
    go : (b d : Bool) → eqb since 0 ≡ d → (b || d) ≡ true → (b || eqb n 0) ≡ true
    go true d j e = refl
    go false true j e = eq-eqb n 0 (omega (arith, eqb-true since 0 j))
    go false false j e = absurd (false≢true e)

within_none : (l : Option ℕ) → within_limit l 0 ≡ true
within_none None = refl
within_none (Some n) = le-leb 0 n (omega arith)

pub agree_start : (c : Settings) (ahead : ℕ) → allowed c ≡ true → ahead ≤ max_input → WalkAgree (walk_start c) 0 ahead
agree_start c ahead h k =
    record {
      set = h;
      back = omega arith;
      size = omega arith;
      counted = omega arith;
      matched = omega arith;
      limited = within_none c.limit;
      left_after = omega arith;
      owed = refl;
    }

within_next : (l : Option ℕ) (m : ℕ) → limit_reached l m ≡ false → within_limit l (m + 1) ≡ true
within_next None m e = refl
within_next (Some n) m e = le-leb (m + 1) n (omega (arith, leb-false n m e))

-- the bytes since the last line with a row, once a line of some length is gone through
abbrev pub since_now : Bool → ℕ → ℕ → ℕ
since_now row since len = cond row 0 (since + len)

since_most : (row : Bool) (since len bytes : ℕ) → since ≤ bytes → since_now row since len ≤ bytes + len
since_most true since len bytes h = omega arith
since_most false since len bytes h = omega arith

owed_next : (row : Bool) (left since len : ℕ) → (row ≡ true) ⊎ (left ≡ 0) → (eqb left 0 || eqb (since_now row since len) 0) ≡ true
owed_next row left since len (inl e) = rw (e, eq-eqb 0 0 refl) (or-true (eqb left 0))
owed_next row left since len (inr e) = rw (eq-eqb left 0 e)

module _ (k : Walk) (n ahead len : ℕ) (a : WalkAgree k n ahead) (some : 0 < len) (fits : len ≤ ahead) where
  agree_stepped : (t : State) (row : Bool) → t.bytes ≡ k.bytes + len → t.lines ≡ k.lines + 1 → t.matches ≤ k.matches + 1
      → within_limit k.settings.limit t.matches ≡ true → t.after_left ≤ k.settings.after → (row ≡ true) ⊎ (t.after_left ≡ 0)
      → WalkAgree (walk_of k.settings t) (since_now row n len) (ahead - len)
  agree_stepped t row bytes count matches limited left owed =
      record {
        set = a.set;
        back = rw bytes (since_most row n len k.bytes a.back);
        size = omega (arith, bytes, a.size);
        counted = omega (arith, bytes, count, a.counted);
        matched = omega (arith, count, matches, a.matched);
        limited = limited;
        left_after = left;
        owed = owed_next row t.after_left n len owed;
      }

  -- the numbers of the definition's step, by what becomes of the line
  agree_fate : (since : List ℕ) (hit : Bool) (f : Fate) → FateCase k.settings (selected k.settings k.matches hit) k.left f
      → WalkAgree (walk_of k.settings (state_next f k.settings (state_since k since) len)) (since_now (gets_row f) n len) (ahead - len)
  unfolding state_next state_since
  agree_fate since hit _ (selects e) =
      agree_stepped (state_next Match k.settings (state_since k since) len) true refl refl (omega arith)
      (within_next k.settings.limit k.matches (selected_below k.settings k.matches hit e)) (omega arith) (inl refl)
  agree_fate since hit _ (owes e l) =
      agree_stepped (state_next After k.settings (state_since k since) len) true refl refl (omega arith) a.limited (omega (arith, a.left_after))
      (inl refl)
  agree_fate since hit _ (passes e l p) =
      agree_stepped (state_next Other k.settings (state_since k since) len) true refl refl (omega arith) a.limited a.left_after (inl refl)
  agree_fate since hit _ (skips e l p) =
      agree_stepped (state_next NoRow k.settings (state_since k since) len) false refl refl (omega arith) a.limited a.left_after (inr l)

  -- An answered line keeps the list empty.
  pub agree_next : (since : List ℕ) (hit : Bool)
      → WalkAgree (walk_next k since len hit) (since_now (gets_row (fate_of k.settings (state_since k since) hit)) n len) (ahead - len)
  unfolding walk_next fate_of state_since
  agree_next since hit = agree_fate since hit _ (fate_case k.settings (selected k.settings k.matches hit) k.left)

-- # The waiting line

pub is_on_lem : (g : Going) → is_on g ≡ true → g ≡ On
is_on_lem On e = refl
is_on_lem LimitMet e = absurd (false≢true e)
is_on_lem NonmatchMet e = absurd (false≢true e)

-- why a line waits
abbrev pub Waits : Walk → Bool → List ℕ → Type 0
Waits k more ahead =
    (k.going ≡ On) × ((first_place k.settings.terminator ahead < length ahead) ⊎ ((more ≡ false) × (0 < length ahead)))

pub waits_why : (k : Walk) (more : Bool) (ahead : List ℕ) → waits_ahead k more ahead ≡ true → Waits k more ahead
unfolding waits_ahead
waits_why k more ahead e =
    let place = first_place k.settings.terminator ahead in
    let both = (and-eq-true_iff (is_on k.going) (ltb place (length ahead) || (not more && ltb 0 (length ahead)))).0 e in
    (is_on_lem k.going both.0, go place (length ahead) (ltb place (length ahead)) refl both.1)
  where
    go : (i n : ℕ) (b : Bool) → ltb i n ≡ b → (b || (not more && ltb 0 n)) ≡ true → (i < n) ⊎ ((more ≡ false) × (0 < n))
    go i n true j e = inl (ltb-true i n j)
    go i n false j e =
        let both = (and-eq-true_iff (not more) (ltb 0 n)).0 e in
        inr (not-true more both.0, ltb-true 0 n both.1)

-- a waiting line has a byte
pub waiting_some : (k : Walk) (more : Bool) (ahead : List ℕ) → waits_ahead k more ahead ≡ true → 0 < first_length k.settings.terminator ahead
waiting_some k more ahead e = ⊎_elim (λ h. omega arith) (λ h. omega arith) (waits_why k more ahead e).1
