-- The definition in 01's words and the form in State.antt give the same rows and the same end record, for all inputs, settings and
-- answers. The invariant: the lines seen are those up to the last with a row, then those since; no row lies past the first part, and
-- the last B lines of it all have one.
use Prim.Native.Nat.{ℕ, ◌+◌, ◌-◌, ◌<◌}
use mathlib.Core.Path.{◌≡◌, refl, sym, ◌∙◌, ap, ap₂}
use mathlib.Core.Bool.{Bool, true, false, cond, not, ◌&&◌, true≢false}
use mathlib.Core.List.{List, [], ◌∷◌, ◌++◌, map, append_assoc, append-nil}
use native.Mathlib.Decide.{dec_le}
use native.Mathlib.Omega.{arith}
use lib.Dec.{ltb}
use lib.ListN.{length, take, length-append, length-take, take-append-drop}
use borrow.Author.Tests.{lt-ltb, le-ltb}
use Rattle.definition.specs.declared.Kind.{Kind}
use Rattle.definition.specs.declared.Row.{Row}
use Rattle.definition.specs.declared.Fate.{Fate}
use Rattle.definition.specs.declared.Fate.TheVariants.{Match, After, Other, NoRow}
use Rattle.definition.specs.declared.Going.{Going}
use Rattle.definition.specs.declared.Going.TheVariants.{On, LimitMet, NonmatchMet}
use Rattle.definition.specs.declared.Settings.{Settings}
use Rattle.definition.specs.Bounds.{contextual}
use Rattle.definition.specs.Definition.{fate, selected, after_left_next, matches_next, is_match, going_next, last_of, rowless, between, last_number, give, own_rows, Gone, start, gone_next, go_through, walk, gone_lines, gone, kept_lines, since_last, kept_part, bytes_of, end_record, rows_of, end_of}
use Rattle.definition.specs.Laws.{SameLines, SameRows, SameEnd, EmptyText, final_state}
use Rattle.definition.specs.Rows.{Line, row, break, placed}
use Rattle.definition.specs.State.{State, begun, next_line, breaks, rows_for, state_next, given_next, since_next, fate_of, step_rows, step_state, state, rows, trim}
use Rattle.definition.specs.Text.{lines, text}
use Rattle.definition.proofs.Fates.{FateCase, selects, owes, passes, skips, fate_case}
use Rattle.definition.proofs.Given.{Numbered, numbered_append, numbered_join, AtMost, at_most_join, at_most_more, at_most_rows, last_number_append, own_row, keeps_left, keeps_right, rowless_append, rowless_later, Covered, covered_more, covered_drop, covered_given, covered_snoc, between_append, between_before, between_behind, between_inside, follow_rows, give_next, gap, give_gap}
use Rattle.definition.proofs.Kept.{state_stopped, rows_stopped}
use Rattle.definition.proofs.Lists.{last_of_append, last_of_last_of}

pub record Agree (c : Settings) (g : Gone) (s : State) : Type 0 where
  -- the lines up to the last with a row
  pub done : List Line
  pub seen_is : g.seen ≡ done ++ s.since
  pub numbers : Numbered 1 g.seen
  pub at_most : AtMost (length done) g.rows
  pub last_is : last_number 0 g.rows ≡ length done
  pub given_is : s.given ≡ ltb 0 (length g.rows)
  pub covered : Covered g.rows (last_of c.before done)
  pub left_none : 0 < s.after_left → s.since ≡ []
  pub pass_none : c.passthru ≡ true → s.since ≡ []
  pub bytes_is : bytes_of g.seen ≡ s.bytes
  pub lines_is : length g.seen ≡ s.lines
  pub matches_is : g.matches ≡ s.matches
  pub left_is : g.after_left ≡ s.after_left
  pub going_is : g.going ≡ s.going

agree_start : (c : Settings) → Agree c (start c) (begun c)
unfolding start begun last_number rowless last_of bytes_of
agree_start c =
    record {
      done = [];
      seen_is = refl;
      numbers = tt;
      at_most = tt;
      last_is = refl;
      given_is = refl;
      covered = rw (let e : 0 - c.before ≡ 0 = omega arith in e);
      left_none = λ h. refl;
      pass_none = λ e. refl;
      bytes_is = refl;
      lines_is = refl;
      matches_is = refl;
      left_is = refl;
      going_is = refl;
    }

-- # The rows of a match, over the parts that the invariant names

module _ (rs : List Row) (done since : List Line) (numbers : Numbered 1 (done ++ since)) (at_most : AtMost (length done) rs) where
  since_numbers : Numbered (1 + length done) since
  since_numbers = (numbered_append 1 done since numbers).1

  -- "those of the last B lines before it that have no row yet" are the last B of the lines since
  before_are : (n : ℕ) → Covered rs (last_of n done) → rowless rs (last_of n (done ++ since)) ≡ last_of n since
  unfolding last_of
  before_are n covered =
      let old : Covered rs (last_of (n - length since) done) =
      rw (last_of_last_of (n - length since) n done (omega arith))
      at (covered_drop (length (last_of n done) - (n - length since)) rs (last_of n done) covered)
      in
      let split = take-append-drop (length since - n) since in
      let back = (numbered_append (1 + length done) (take (length since - n) since) (last_of n since) (rw split since_numbers)).1 in
      rw (last_of_append n done since, rowless_append rs (last_of (n - length since) done) (last_of n since), old)
      (rowless_later (length done) (1 + length done + length (take (length since - n) since)) rs (last_of n since) at_most back (omega arith))

  -- the lines between the last row and the first of those are the lines since that lie further back
  between_are : (early late : List Line) → since ≡ early ++ late → last_number 0 rs ≡ length done
      → rowless rs (between (last_number 0 rs) (1 + length done + length early) (done ++ since)) ≡ early
  between_are early late e last =
      let n = length done in
      let b = 1 + n + length early in
      let parts = numbered_append (1 + n) early late (rw e at since_numbers) in
      rw (
        e,
        last,
        between_append n b done (early ++ late),
        between_append n b early late,
        between_before n b 1 done (numbered_append 1 done since numbers).0 (omega arith),
        between_inside n b (1 + n) early parts.0 (omega arith) (omega arith),
        between_behind n b (1 + n + length early) late parts.1 (omega arith),
        append-nil early,
      )
      (rowless_later n (1 + n) rs early at_most parts.0 (omega arith))

  -- the rows that a match gives
  match_rows : (c : Settings) (l : Line) → l.number ≡ 1 + length (done ++ since) → last_number 0 rs ≡ length done → Covered rs (last_of c.before done)
      → give c (done ++ since) rs (own_rows Match c (done ++ since) rs l)
      ≡ rs ++ (gap c rs (take (length since - c.before) since) ++ (map (row Kind.Before) (last_of c.before since) ++ (row Kind.Match l ∷ [])))
  unfolding last_of
  match_rows c l number last covered =
      let early = take (length since - c.before) since in
      let late = last_of c.before since in
      let split = take-append-drop (length since - c.before) since in
      let back = (numbered_append (1 + length done) early late (rw split since_numbers)).1 in
      let own : l.number ≡ 1 + length done + length early + length late =
      omega (arith, number, length-append done since, length-append early late, ap length split)
      in
      rw (before_are c.before covered)
      (give_gap c (done ++ since) rs (1 + length done + length early) early (map (row Kind.Before) late) (row Kind.Match l)
      (follow_rows Kind.Before (1 + length done + length early) late (row Kind.Match l) back own)
      (between_are early late (sym split) last))

at_most_break : (n : ℕ) (b : Bool) → AtMost n (cond b (break ∷ []) [])
at_most_break n true = (omega arith, tt)
at_most_break n false = tt

-- # One line

bytes_of_append : (xs ys : List Line) → bytes_of (xs ++ ys) ≡ bytes_of xs + bytes_of ys
unfolding bytes_of
bytes_of_append [] ys = omega arith
bytes_of_append (x ∷ xs) ys = omega (arith, bytes_of_append xs ys)

module _ (c : Settings) (g : Gone) (s : State) (a : Agree c g s) (len : ℕ) where
  number_is : (next_line s len).number ≡ 1 + length g.seen
  unfolding next_line
  number_is = omega (arith, a.lines_is)

  numbers_next : Numbered 1 (g.seen ++ (next_line s len ∷ []))
  numbers_next = numbered_join 1 g.seen (next_line s len ∷ []) a.numbers (number_is, tt)

  bytes_next : bytes_of (g.seen ++ (next_line s len ∷ [])) ≡ s.bytes + len
  unfolding next_line bytes_of
  bytes_next = omega (arith, bytes_of_append g.seen (next_line s len ∷ []), a.bytes_is)

  lines_next : length (g.seen ++ (next_line s len ∷ [])) ≡ s.lines + 1
  lines_next = omega (arith, length-append g.seen (next_line s len ∷ []), a.lines_is)

  going_next_lem : (f : Fate)
      → going_next c (not (is_match f)) (matches_next f g.matches) (after_left_next f c g.after_left)
      ≡ going_next c (not (is_match f)) (matches_next f s.matches) (after_left_next f c s.after_left)
  going_next_lem f =
      ap₂ (λ m left. going_next c (not (is_match f)) (matches_next f m) (after_left_next f c left)) a.matches_is a.left_is

  -- a line that gets a row: the lines up to it are all done
  agree_given : (f : Fate) (k : Kind) (rs : List Row) → since_next f s.since (next_line s len) ≡ [] → given_next f s.given ≡ true
      → (gone_next f c g (next_line s len)).rows ≡ rs ++ (row k (next_line s len) ∷ []) → AtMost (length g.seen) rs
      → Covered (rs ++ (row k (next_line s len) ∷ [])) (last_of c.before g.seen)
      → Agree c (gone_next f c g (next_line s len)) (state_next f c s len)
  unfolding state_next last_number
  agree_given f k rs none-since some-given rows_are most cover =
      let l = next_line s len in
      let len_is = length-append g.seen (l ∷ []) in
      record {
        done = g.seen ++ (l ∷ []);
        seen_is = rw none-since (sym (append-nil (g.seen ++ (l ∷ []))));
        numbers = numbers_next;
        at_most = rw rows_are (at_most_join (length (g.seen ++ (l ∷ []))) rs (row k l ∷ []) (at_most_more (length g.seen) (length (g.seen ++ (l ∷ []))) rs (omega (arith, len_is)) most) (omega (arith, len_is, number_is), tt));
        last_is = rw rows_are (last_number_append 0 rs (row k l ∷ []) ∙ omega (arith, len_is, number_is));
        given_is = rw (some-given, rows_are) (sym (lt-ltb 0 (length (rs ++ (row k l ∷ []))) (omega (arith, length-append rs (row k l ∷ [])))));
        covered = rw rows_are (covered_snoc c.before (rs ++ (row k l ∷ [])) g.seen l cover (own_row rs k l));
        left_none = λ h. none-since;
        pass_none = λ e. none-since;
        bytes_is = bytes_next;
        lines_is = lines_next;
        matches_is = ap (matches_next f) a.matches_is;
        left_is = ap (after_left_next f c) a.left_is;
        going_is = going_next_lem f;
      }

  -- why a line that gets no match gets what it gets
  abbrev Right : Fate → Type 0
  Right Match = Unit {0}
  Right After = s.since ≡ []
  Right Other = s.since ≡ []
  Right NoRow = (s.after_left ≡ 0) × (c.passthru ≡ false)

  abbrev Step : Fate → Type 0
  Step f =
      ((gone_next f c g (next_line s len)).rows ≡ g.rows ++ rows_for f c s (next_line s len))
      × Agree c (gone_next f c g (next_line s len)) (state_next f c s len)

  -- a row right after the last one
  step_next : (f : Fate) (k : Kind) → s.since ≡ [] → since_next f s.since (next_line s len) ≡ [] → given_next f s.given ≡ true
      → own_rows f c g.seen g.rows (next_line s len) ≡ row k (next_line s len) ∷ [] → rows_for f c s (next_line s len) ≡ row k (next_line s len) ∷ []
      → Step f
  step_next f k none none-since some-given own own' =
      let l = next_line s len in
      let all_done : g.seen ≡ a.done = a.seen_is ∙ (rw none (append-nil a.done)) in
      let follows : l.number ≡ last_number 0 g.rows + 1 = omega (arith, number_is, a.last_is, ap length all_done) in
      let given : give c g.seen g.rows (own_rows f c g.seen g.rows l) ≡ g.rows ++ (row k l ∷ []) =
      rw own (give_next c g.seen g.rows (row k l ∷ []) (follows, tt))
      in
      let cover : Covered (g.rows ++ (row k l ∷ [])) (last_of c.before g.seen) =
      rw all_done (covered_more g.rows (g.rows ++ (row k l ∷ [])) (last_of c.before a.done) (keeps_left g.rows (row k l ∷ [])) a.covered)
      in
      (given ∙ rw own', agree_given f k g.rows none-since some-given given (rw all_done a.at_most) cover)

  -- the lines since that are too far back to come with a match
  early : List Line
  early = take (length s.since - c.before) s.since

  -- the definition's break is the state's
  gap_is : gap c g.rows early ≡ breaks c s
  unfolding early breaks
  gap_is =
      let n = length-take (length s.since - c.before) s.since in
      let more : ltb 0 (length (take (length s.since - c.before) s.since)) ≡ ltb c.before (length s.since) =
      elim (dec_le (length s.since) c.before) [
        | yes h ↦ le-ltb 0 (length (take (length s.since - c.before) s.since)) (omega (arith, n)) ∙ sym (le-ltb c.before (length s.since) h)
        | no h ↦ lt-ltb 0 (length (take (length s.since - c.before) s.since)) (omega (arith, n)) ∙ sym (lt-ltb c.before (length s.since) (omega arith))
      ]
      in
      rw (more, a.given_is)

  match_own : (gone_next Match c g (next_line s len)).rows
      ≡ g.rows ++ (gap c g.rows early ++ (map (row Kind.Before) (last_of c.before s.since) ++ (row Kind.Match (next_line s len) ∷ [])))
  unfolding early
  match_own =
      rw a.seen_is
      (match_rows g.rows a.done s.since (rw a.seen_is at a.numbers) a.at_most c (next_line s len) (rw a.seen_is at number_is) a.last_is a.covered)

  late_most : AtMost (length g.seen) (map (row Kind.Before) (last_of c.before s.since))
  unfolding last_of
  late_most =
      let split = take-append-drop (length s.since - c.before) s.since in
      let late = last_of c.before s.since in
      let front = take (length s.since - c.before) s.since in
      let numbers = since_numbers g.rows a.done s.since (rw a.seen_is at a.numbers) a.at_most in
      let back = (numbered_append (1 + length a.done) front late (rw split numbers)).1 in
      at_most_rows Kind.Before (length g.seen) (1 + length a.done + length front) late back
      (omega (arith, ap length a.seen_is, length-append a.done s.since, length-append front late, ap length split))

  step_match : Step Match
  step_match =
      let l = next_line s len in
      let gaps = gap c g.rows early in
      let befores = map (row Kind.Before) (last_of c.before s.since) in
      let rs = g.rows ++ (gaps ++ befores) in
      let own : (gone_next Match c g l).rows ≡ rs ++ (row Kind.Match l ∷ []) = match_own ∙ simp append_assoc in
      let most : AtMost (length g.seen) rs =
      at_most_join (length g.seen) g.rows (gaps ++ befores)
      (at_most_more (length a.done) (length g.seen) g.rows (omega (arith, ap length a.seen_is, length-append a.done s.since)) a.at_most)
      (at_most_join (length g.seen) gaps befores (at_most_break (length g.seen) (contextual c && ltb 0 (length g.rows) && ltb 0 (length early))) late_most)
      in
      let late-are : rowless g.rows (last_of c.before g.seen) ≡ last_of c.before s.since =
      rw a.seen_is (before_are g.rows a.done s.since (rw a.seen_is at a.numbers) a.at_most c.before a.covered)
      in
      let cover : Covered (rs ++ (row Kind.Match l ∷ [])) (last_of c.before g.seen) =
      covered_given Kind.Before g.rows (rs ++ (row Kind.Match l ∷ [])) (last_of c.before g.seen)
      (λ x e. keeps_left rs (row Kind.Match l ∷ []) x (keeps_left g.rows (gaps ++ befores) x e))
      (λ x e. keeps_left rs (row Kind.Match l ∷ []) x (keeps_right g.rows (gaps ++ befores) x (keeps_right gaps befores x (rw late-are at e))))
      in
      (match_own ∙ rw gap_is, agree_given Match Kind.Match rs refl refl own most cover)

  step_none : Right NoRow → Step NoRow
  unfolding give state_next next_line
  step_none h =
      let l = next_line s len in (
        sym (append-nil g.rows),
        record {
          done = a.done;
          seen_is = rw a.seen_is (append_assoc a.done s.since (l ∷ []));
          numbers = numbers_next;
          at_most = a.at_most;
          last_is = a.last_is;
          given_is = a.given_is;
          covered = a.covered;
          left_none = λ k. absurd (omega (arith, k, h.0));
          pass_none = λ e. absurd (true≢false (sym e ∙ h.1));
          bytes_is = bytes_next;
          lines_is = lines_next;
          matches_is = a.matches_is;
          left_is = a.left_is;
          going_is = going_next_lem NoRow;
        },
      )

  step : (f : Fate) → Right f → Step f
  step Match h = step_match
  step After h = step_next After Kind.After h refl refl refl refl
  step Other h = step_next Other Kind.Other h refl refl refl refl
  step NoRow h = step_none h

-- # All lines

right : (c : Settings) (g : Gone) (s : State) (a : Agree c g s) (len : ℕ) (sel : Bool) (f : Fate) → FateCase c sel s.after_left f → Right c g s a len f
right c g s a len sel Match (selects e) = tt
right c g s a len sel After (owes e h) = a.left_none h
right c g s a len sel Other (passes e h p) = a.pass_none p
right c g s a len sel NoRow (skips e h p) = (h, p)

-- after a stop the walk goes through no line
go_through_stopped : (k : Going) (c : Settings) (g : Gone) (l : Line) (answer : Bool) → (k ≡ On → ⊥) → go_through k c g l answer ≡ g
go_through_stopped On c g l answer h = absurd (h refl)
go_through_stopped LimitMet c g l answer h = refl
go_through_stopped NonmatchMet c g l answer h = refl

walk_stopped : (c : Settings) (answers : ℕ → Bool) (g : Gone) (ls : List Line) → (g.going ≡ On → ⊥) → walk c answers g ls ≡ g
unfolding walk
walk_stopped c answers g [] h = refl
walk_stopped c answers g (l ∷ ls) h =
    ap (λ (x : Gone). walk c answers x ls) (go_through_stopped g.going c g l (answers l.number) h) ∙ walk_stopped c answers g ls h

abbrev Same : (c : Settings) (answers : ℕ → Bool) (g : Gone) (s : State) (ls : List (List ℕ)) → Type 0
Same c answers g s ls =
    ((walk c answers g (placed s.bytes (s.lines + 1) ls)).rows ≡ g.rows ++ rows c answers s ls)
    × Agree c (walk c answers g (placed s.bytes (s.lines + 1) ls)) (state c answers s ls)

same_stopped : (c : Settings) (answers : ℕ → Bool) (g : Gone) (s : State) (ls : List (List ℕ)) → Agree c g s → (s.going ≡ On → ⊥) → Same c answers g s ls
same_stopped c answers g s ls a h =
    rw (walk_stopped c answers g (placed s.bytes (s.lines + 1) ls) (λ k. h (sym a.going_is ∙ k)), rows_stopped c answers s ls h, state_stopped c answers s ls h)
    (sym (append-nil g.rows), a)

-- one line with the run going on, then the others
same_on : (c : Settings) (answers : ℕ → Bool) (g : Gone) (s : State) (l : List ℕ) (ls : List (List ℕ)) → Agree c g s → s.going ≡ On
    → ((g' : Gone) (s' : State) → Agree c g' s' → Same c answers g' s' ls) → Same c answers g s (l ∷ ls)
unfolding walk placed rows state state_next next_line fate_of
same_on c answers g s l ls a e ih =
    let len = length l in
    let answer = answers (s.lines + 1) in
    let next = next_line s len in
    let f = fate_of c s answer in
    let rest = placed (s.bytes + len) (s.lines + 1 + 1) ls in
    let t = step c g s a len f (right c g s a len (selected c s.matches answer) f (fate_case c (selected c s.matches answer) s.after_left)) in
    let later = ih (gone_next f c g next) (state_next f c s len) t.1 in
    let walked : walk c answers g (next ∷ rest) ≡ walk c answers (gone_next f c g next) rest =
    ap (λ (k : Going). walk c answers (go_through k c g next answer) rest) (a.going_is ∙ e)
    ∙ ap₂ (λ (m left : ℕ). walk c answers (gone_next (fate c (selected c m answer) left) c g next) rest) a.matches_is a.left_is
    in
    let stated : state c answers s (l ∷ ls) ≡ state c answers (state_next f c s len) ls =
    ap (λ (k : Going). state c answers (step_state k c s len answer) ls) e
    in
    let rowed : rows c answers s (l ∷ ls) ≡ rows_for f c s next ++ rows c answers (state_next f c s len) ls =
    ap (λ (k : Going). step_rows k c s len answer ++ rows c answers (step_state k c s len answer) ls) e
    in
    rw (walked, stated, rowed)
    (later.0 ∙ ap (λ xs. xs ++ rows c answers (state_next f c s len) ls) t.0 ∙ append_assoc g.rows (rows_for f c s next) _, later.1)

same : (c : Settings) (answers : ℕ → Bool) (ls : List (List ℕ)) (g : Gone) (s : State) → Agree c g s → Same c answers g s ls
unfolding walk placed rows state
same c answers [] g s a = (sym (append-nil g.rows), a)
same c answers (l ∷ ls) g s a = go s.going refl (same c answers ls)
  where
    go : (k : Going) → s.going ≡ k → ((g' : Gone) (s' : State) → Agree c g' s' → Same c answers g' s' ls) → Same c answers g s (l ∷ ls)
    go On e ih = same_on c answers g s l ls a e ih
    go LimitMet e ih = same_stopped c answers g s (l ∷ ls) a (λ h. let z : ◌≡◌ {A = ℕ} 0 1 = cc in omega arith)
    go NonmatchMet e ih = same_stopped c answers g s (l ∷ ls) a (λ h. let z : ◌≡◌ {A = ℕ} 0 1 = cc in omega arith)

same_begun : (c : Settings) (answers : ℕ → Bool) (ls : List (List ℕ)) → Same c answers (start c) (begun c) ls
same_begun c answers ls = same c answers ls (start c) (begun c) (agree_start c)

-- the lines after the last line with a row
since_is : (c : Settings) (g : Gone) (s : State) → Agree c g s → since_last g ≡ s.since
unfolding since_last
since_is c g s a =
    let n = length a.done in
    let b = n + length s.since + 1 in
    let size : length g.seen + 1 ≡ b = omega (arith, ap length a.seen_is, length-append a.done s.since) in
    let parts = numbered_append 1 a.done s.since (rw a.seen_is at a.numbers) in
    rw (
      a.last_is,
      size,
      a.seen_is,
      between_append n b a.done s.since,
      between_before n b 1 a.done parts.0 (omega arith),
      between_inside n b (1 + n) s.since parts.1 (omega arith) (omega arith),
    )

pub same_lines : SameLines
unfolding gone_lines kept_part trim start begun
same_lines c answers ls =
    let r = same_begun c answers ls in
    (r.0, r.1.going_is, ap (last_of (kept_lines c)) (since_is c (gone_lines c answers ls) (state c answers (begun c) ls) r.1))

pub same_rows : SameRows
unfolding rows_of gone
same_rows c input answers = (same_lines c answers (lines c.terminator (text c input))).0

pub same_end : SameEnd
unfolding end_of gone gone_lines begun start final_state
same_end c input answers =
    let a = (same_begun c answers (lines c.terminator (text c input))).1 in
    rw (a.bytes_is, a.lines_is, a.matches_is, a.going_is)

pub empty_text : EmptyText
unfolding rows_of end_of gone gone_lines start lines placed walk bytes_of
empty_text c input answers e =
    let run : List ℕ → Gone = λ bytes. walk c answers (start c) (placed 0 1 (lines c.terminator bytes)) in (
      ap (λ bytes. (run bytes).rows) e,
      ap (λ bytes. end_record c input (bytes_of (run bytes).seen) (length (run bytes).seen) (run bytes).matches (run bytes).going) e,
    )
