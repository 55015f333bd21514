-- Laws of the form in State.antt: the rows of a beginning of the lines are a beginning of the rows, and B + 1 kept lines are enough.
use Prim.Native.Nat.{ℕ, ◌+◌, ◌≤◌}
use mathlib.Core.Path.{◌≡◌, refl, sym, ◌∙◌, ap, ap₂}
use mathlib.Core.Bool.{Bool, true, false, cond, ◌&&◌, ◌||◌}
use mathlib.Core.List.{List, [], ◌∷◌, ◌++◌, map, append_assoc}
use native.Mathlib.Decide.{dec_le}
use native.Mathlib.Omega.{arith}
use lib.Dec.{ltb}
use lib.ListN.{length, length-append, length-map}
use borrow.Author.Tests.{ltb-false, lt-ltb, le-ltb}
use Rattle.definition.specs.declared.Kind.{Kind}
use Rattle.definition.specs.declared.Row.{Row}
use Rattle.definition.specs.declared.Fate.{Fate}
use Rattle.definition.specs.declared.Fate.TheVariants.{Match, After, Other, NoRow}
use Rattle.definition.specs.declared.Going.{Going}
use Rattle.definition.specs.declared.Going.TheVariants.{On, LimitMet, NonmatchMet}
use Rattle.definition.specs.declared.Settings.{Settings}
use Rattle.definition.specs.Bounds.{contextual}
use Rattle.definition.specs.Definition.{last_of, kept_lines}
use Rattle.definition.specs.Laws.{RowsBegin, KeptEnough, TrimRows, TrimState}
use Rattle.definition.specs.Rows.{Line, row, break}
use Rattle.definition.specs.State.{State, next_line, breaks, rows_for, state_next, fate_of, step_rows, step_state, state, rows, trim, kept_rows}
use Rattle.definition.proofs.Lists.{last_of_trim_append, length_last_of, last_of_last_of}

-- # A beginning of the lines

pub state_append : (c : Settings) (answers : ℕ → Bool) (s : State) (xs ys : List (List ℕ))
    → state c answers s (xs ++ ys) ≡ state c answers (state c answers s xs) ys
unfolding state
state_append c answers s [] ys = refl
state_append c answers s (x ∷ xs) ys = state_append c answers (step_state s.going c s (length x) (answers (s.lines + 1))) xs ys

pub rows_append : RowsBegin
unfolding rows state
rows_append c answers s [] ys = refl
rows_append c answers s (x ∷ xs) ys =
    let next = step_state s.going c s (length x) (answers (s.lines + 1)) in
    rw (rows_append c answers next xs ys) (sym (append_assoc (step_rows s.going c s (length x) (answers (s.lines + 1))) (rows c answers next xs) _))

-- # A stop

step_state_stopped : (k : Going) (c : Settings) (s : State) (len : ℕ) (answer : Bool) → (k ≡ On → ⊥) → step_state k c s len answer ≡ s
step_state_stopped On c s len answer h = absurd (h refl)
step_state_stopped LimitMet c s len answer h = refl
step_state_stopped NonmatchMet c s len answer h = refl

step_rows_stopped : (k : Going) (c : Settings) (s : State) (len : ℕ) (answer : Bool) → (k ≡ On → ⊥) → step_rows k c s len answer ≡ []
step_rows_stopped On c s len answer h = absurd (h refl)
step_rows_stopped LimitMet c s len answer h = refl
step_rows_stopped NonmatchMet c s len answer h = refl

pub state_stopped : (c : Settings) (answers : ℕ → Bool) (s : State) (ls : List (List ℕ)) → (s.going ≡ On → ⊥) → state c answers s ls ≡ s
unfolding state
state_stopped c answers s [] h = refl
state_stopped c answers s (l ∷ ls) h =
    ap (λ (x : State). state c answers x ls) (step_state_stopped s.going c s (length l) (answers (s.lines + 1)) h) ∙ state_stopped c answers s ls h

pub rows_stopped : (c : Settings) (answers : ℕ → Bool) (s : State) (ls : List (List ℕ)) → (s.going ≡ On → ⊥) → rows c answers s ls ≡ []
unfolding rows
rows_stopped c answers s [] h = refl
rows_stopped c answers s (l ∷ ls) h =
    ap₂ (λ (xs : List Row) (x : State). xs ++ rows c answers x ls)
    (step_rows_stopped s.going c s (length l) (answers (s.lines + 1)) h)
    (step_state_stopped s.going c s (length l) (answers (s.lines + 1)) h)
    ∙ rows_stopped c answers s ls h

-- # B + 1 kept lines are enough

pub before≤kept : (c : Settings) → c.before ≤ kept_lines c
unfolding kept_lines contextual
before≤kept c = go (ltb 0 c.before) refl
  where
    go : (b : Bool) → ltb 0 c.before ≡ b → c.before ≤ cond (ltb 0 c.before || ltb 0 c.after) (c.before + 1) 0
    go true e = rw e (omega arith)
    go false e = omega (arith, ltb-false 0 c.before e)

-- one line more than B tells whether there are more than B
more_kept : (n : ℕ) (xs : List Line) → ltb n (length (last_of (n + 1) xs)) ≡ ltb n (length xs)
more_kept n xs = elim (dec_le (n + 1) (length xs)) [
  | yes h ↦ lt-ltb n (length (last_of (n + 1) xs)) (omega (arith, length_last_of (n + 1) xs)) ∙ sym (lt-ltb n (length xs) (omega arith))
  | no h ↦ le-ltb n (length (last_of (n + 1) xs)) (omega (arith, length_last_of (n + 1) xs)) ∙ sym (le-ltb n (length xs) (omega arith))
]

trim_breaks : (c : Settings) (s : State) → breaks c (trim c s) ≡ breaks c s
unfolding breaks trim kept_lines
trim_breaks c s = go (contextual c) refl
  where
    go : (b : Bool) → contextual c ≡ b
        → cond (contextual c && s.given && ltb c.before (length (last_of (cond (contextual c) (c.before + 1) 0) s.since))) (break ∷ []) []
        ≡ cond (contextual c && s.given && ltb c.before (length s.since)) (break ∷ []) []
    go true e = rw (e, more_kept c.before s.since)
    go false e = rw e

trim_rows_for : (f : Fate) (c : Settings) (s : State) (len : ℕ) → rows_for f c (trim c s) (next_line (trim c s) len) ≡ rows_for f c s (next_line s len)
unfolding next_line trim
trim_rows_for Match c s len = rw (trim_breaks c s, last_of_last_of c.before (kept_lines c) s.since (before≤kept c))
trim_rows_for After c s len = refl
trim_rows_for Other c s len = refl
trim_rows_for NoRow c s len = refl

-- rows and state of one more line are those of the trimmed state
pub trim_step_rows : (g : Going) (c : Settings) (s : State) (len : ℕ) (answer : Bool) → step_rows g c (trim c s) len answer ≡ step_rows g c s len answer
unfolding fate_of trim
trim_step_rows On c s len answer = trim_rows_for (fate_of c s answer) c s len
trim_step_rows LimitMet c s len answer = refl
trim_step_rows NonmatchMet c s len answer = refl

trim_state_next : (f : Fate) (c : Settings) (s : State) (len : ℕ) → trim c (state_next f c (trim c s) len) ≡ trim c (state_next f c s len)
unfolding state_next trim next_line
trim_state_next Match c s len = refl
trim_state_next After c s len = refl
trim_state_next Other c s len = refl
trim_state_next NoRow c s len = rw (last_of_trim_append (kept_lines c) s.since (next_line s len ∷ []))

trim_trim : (c : Settings) (s : State) → trim c (trim c s) ≡ trim c s
unfolding trim
trim_trim c s = rw (last_of_last_of (kept_lines c) (kept_lines c) s.since (omega arith))

pub trim_step_state : (g : Going) (c : Settings) (s : State) (len : ℕ) (answer : Bool) → trim c (step_state g c (trim c s) len answer) ≡ trim c (step_state g c s len answer)
unfolding fate_of trim
trim_step_state On c s len answer = trim_state_next (fate_of c s answer) c s len
trim_step_state LimitMet c s len answer = trim_trim c s
trim_step_state NonmatchMet c s len answer = trim_trim c s

-- the same over all lines still to come
pub trim_state : TrimState
unfolding state trim
trim_state c answers s [] = trim_trim c s
trim_state c answers s (l ∷ ls) =
    let len = length l in
    let answer = answers (s.lines + 1) in
    sym (trim_state c answers (step_state s.going c (trim c s) len answer) ls)
    ∙ ap (λ (t : State). trim c (state c answers t ls)) (trim_step_state s.going c s len answer)
    ∙ trim_state c answers (step_state s.going c s len answer) ls

pub trim_rows : TrimRows
unfolding rows trim
trim_rows c answers s [] = refl
trim_rows c answers s (l ∷ ls) =
    let len = length l in
    let answer = answers (s.lines + 1) in
    ap₂ (λ (xs ys : List Row). xs ++ ys) (trim_step_rows s.going c s len answer)
    (sym (trim_rows c answers (step_state s.going c (trim c s) len answer) ls)
    ∙ ap (λ (t : State). rows c answers t ls) (trim_step_state s.going c s len answer)
    ∙ trim_rows c answers (step_state s.going c s len answer) ls)

pub kept_enough : KeptEnough
unfolding kept_rows rows
kept_enough c answers s [] = refl
kept_enough c answers s (l ∷ ls) =
    let len = length l in
    let answer = answers (s.lines + 1) in
    let kept = step_state s.going c (trim c s) len answer in
    ap₂ (λ (xs ys : List Row). xs ++ ys) (trim_step_rows s.going c s len answer)
    (kept_enough c answers kept ls
    ∙ sym (trim_rows c answers kept ls)
    ∙ ap (λ (t : State). rows c answers t ls) (trim_step_state s.going c s len answer)
    ∙ trim_rows c answers (step_state s.going c s len answer) ls)

-- # How many

-- a line brings at most B + 2 rows
breaks_most : (b : Bool) → length (cond b (break ∷ []) []) ≤ 1
breaks_most true = omega arith
breaks_most false = omega arith

rows_for_most : (f : Fate) (c : Settings) (s : State) (l : Line) → length (rows_for f c s l) ≤ c.before + 2
unfolding breaks
rows_for_most Match c s l =
    let befores = map (row Kind.Before) (last_of c.before s.since) in
    let all = contextual c && s.given && ltb c.before (length s.since) in
    omega (
      arith,
      breaks_most all,
      length-append (cond all (break ∷ []) []) (befores ++ (row Kind.Match l ∷ [])),
      length-append befores (row Kind.Match l ∷ []),
      length-map (last_of c.before s.since) (row Kind.Before),
      length_last_of c.before s.since,
    )
rows_for_most After c s l = omega arith
rows_for_most Other c s l = omega arith
rows_for_most NoRow c s l = omega arith

pub step_rows_most : (g : Going) (c : Settings) (s : State) (len : ℕ) (answer : Bool) → length (step_rows g c s len answer) ≤ c.before + 2
step_rows_most On c s len answer = rows_for_most (fate_of c s answer) c s (next_line s len)
step_rows_most LimitMet c s len answer = omega arith
step_rows_most NonmatchMet c s len answer = omega arith

-- the lines since the last row are among the lines gone through
since_next_lem : (f : Fate) (c : Settings) (s : State) (len : ℕ) → length s.since ≤ s.lines → length (state_next f c s len).since ≤ s.lines + 1
unfolding state_next
since_next_lem Match c s len h = omega arith
since_next_lem After c s len h = omega arith
since_next_lem Other c s len h = omega arith
since_next_lem NoRow c s len h = omega (arith, length-append s.since (next_line s len ∷ []))

since_step : (g : Going) (c : Settings) (s : State) (len : ℕ) (answer : Bool) → length s.since ≤ s.lines
    → length (step_state g c s len answer).since ≤ (step_state g c s len answer).lines
unfolding state_next
since_step On c s len answer h = since_next_lem (fate_of c s answer) c s len h
since_step LimitMet c s len answer h = h
since_step NonmatchMet c s len answer h = h

pub since_counted : (c : Settings) (answers : ℕ → Bool) (s : State) (ls : List (List ℕ)) → length s.since ≤ s.lines
    → length (state c answers s ls).since ≤ (state c answers s ls).lines
unfolding state
since_counted c answers s [] h = h
since_counted c answers s (l ∷ ls) h =
    since_counted c answers (step_state s.going c s (length l) (answers (s.lines + 1))) ls
    (since_step s.going c s (length l) (answers (s.lines + 1)) h)
