-- Laws of the definition's own words: which lines have a row, which lie between two rows, and where breaks come.
use Prim.Native.Nat.{ℕ, zero, suc, ◌+◌, ◌-◌, ◌≤◌, ◌<◌}
use mathlib.Core.Path.{◌≡◌, refl, sym, ◌∙◌, ap}
use mathlib.Core.Bool.{Bool, true, false, cond, ◌&&◌, ◌||◌, and-false, or-true, or_assoc}
use mathlib.Core.List.{List, [], ◌∷◌, ◌++◌, map, append_assoc, append-nil, cons≢nil}
use native.Mathlib.Decide.{dec_le}
use native.Mathlib.Omega.{arith}
use lib.Dec.{ltb, eqb}
use lib.ListN.{length, drop}
use borrow.Author.Tests.{lt-ltb, le-ltb, ne_eqb, eq-eqb}
use Rattle.definition.specs.declared.Kind.{Kind}
use Rattle.definition.specs.declared.Row.{Row}
use Rattle.definition.specs.declared.Settings.{Settings}
use Rattle.definition.specs.Bounds.{contextual}
use Rattle.definition.specs.Definition.{has_row, rowless, last_of, last_number, between, break_before, give}
use Rattle.definition.specs.Rows.{Line, row, break}
use Rattle.definition.proofs.Lists.{last_of_append, last_of_last_of}

-- # Numbers

-- lines numbered from n on
abbrev pub Numbered : ℕ → List Line → Type 0
Numbered n [] = Unit {0}
Numbered n (l ∷ ls) = (l.number ≡ n) × Numbered (n + 1) ls

pub numbered_append : (n : ℕ) (xs ys : List Line) → Numbered n (xs ++ ys) → Numbered n xs × Numbered (n + length xs) ys
numbered_append n [] ys h = (tt, rw (let e : n + 0 ≡ n = omega arith in e) h)
numbered_append n (x ∷ xs) ys h =
    let t = numbered_append (n + 1) xs ys h.1 in
    ((h.0, t.0), rw (let e : n + length (x ∷ xs) ≡ n + 1 + length xs = omega arith in e) t.1)

pub numbered_join : (n : ℕ) (xs ys : List Line) → Numbered n xs → Numbered (n + length xs) ys → Numbered n (xs ++ ys)
numbered_join n [] ys h k = rw (let e : n + 0 ≡ n = omega arith in e) at k
numbered_join n (x ∷ xs) ys h k =
    (h.0, numbered_join (n + 1) xs ys h.1 (rw (let e : n + length (x ∷ xs) ≡ n + 1 + length xs = omega arith in e) at k))

-- rows of lines numbered up to n; a break has number 0
abbrev pub AtMost : ℕ → List Row → Type 0
AtMost n [] = Unit {0}
AtMost n (r ∷ rows) = (r.number ≤ n) × AtMost n rows

pub at_most_join : (n : ℕ) (xs ys : List Row) → AtMost n xs → AtMost n ys → AtMost n (xs ++ ys)
at_most_join n [] ys h k = k
at_most_join n (x ∷ xs) ys h k = (h.0, at_most_join n xs ys h.1 k)

pub at_most_more : (m n : ℕ) (xs : List Row) → m ≤ n → AtMost m xs → AtMost n xs
at_most_more m n [] h k = tt
at_most_more m n (x ∷ xs) h k = (omega (arith, k.0), at_most_more m n xs h k.1)

pub at_most_rows : (k : Kind) (n m : ℕ) (ls : List Line) → Numbered m ls → m + length ls ≤ n + 1 → AtMost n (map (row k) ls)
at_most_rows k n m [] h b = tt
at_most_rows k n m (l ∷ ls) h b = (omega (arith, h.0), at_most_rows k n (m + 1) ls h.1 (omega arith))

pub last_number_append : (n : ℕ) (xs ys : List Row) → last_number n (xs ++ ys) ≡ last_number (last_number n xs) ys
unfolding last_number
last_number_append n [] ys = refl
last_number_append n (x ∷ xs) ys = last_number_append x.number xs ys

-- # Lines with a row

pub has_row_append : (xs ys : List Row) (l : Line) → has_row (xs ++ ys) l ≡ (has_row xs l || has_row ys l)
unfolding has_row
has_row_append [] ys l = refl
has_row_append (x ∷ xs) ys l = rw (has_row_append xs ys l) (sym (or_assoc (eqb x.number l.number) (has_row xs l) (has_row ys l)))

-- a line after all the lines with a row
pub no_row : (n : ℕ) (rows : List Row) (l : Line) → AtMost n rows → n < l.number → has_row rows l ≡ false
unfolding has_row
no_row n [] l h k = refl
no_row n (r ∷ rows) l h k = rw (ne_eqb r.number l.number (λ e. omega (arith, h.0)), no_row n rows l h.1 k)

-- the row of a line, whatever stands before it
pub own_row : (rows : List Row) (k : Kind) (l : Line) → has_row (rows ++ (row k l ∷ [])) l ≡ true
unfolding has_row
own_row rows k l = rw (has_row_append rows (row k l ∷ []) l, eq-eqb l.number l.number refl) (or-true (has_row rows l))

-- every line with a row keeps it
abbrev pub Keeps : List Row → List Row → Type 0
Keeps rows rows' = (l : Line) → has_row rows l ≡ true → has_row rows' l ≡ true

pub keeps_left : (xs ys : List Row) → Keeps xs (xs ++ ys)
keeps_left xs ys l e = rw (has_row_append xs ys l, e)

pub keeps_right : (xs ys : List Row) → Keeps ys (xs ++ ys)
keeps_right xs ys l e = rw (has_row_append xs ys l, e) (or-true (has_row xs l))

pub rowless_append : (rows : List Row) (xs ys : List Line) → rowless rows (xs ++ ys) ≡ rowless rows xs ++ rowless rows ys
unfolding rowless
rowless_append rows [] ys = refl
rowless_append rows (x ∷ xs) ys = go (has_row rows x) (rowless_append rows xs ys)
  where
    go : (b : Bool) → rowless rows (xs ++ ys) ≡ rowless rows xs ++ rowless rows ys
        → cond b (rowless rows (xs ++ ys)) (x ∷ rowless rows (xs ++ ys)) ≡ cond b (rowless rows xs) (x ∷ rowless rows xs) ++ rowless rows ys
    go true e = e
    go false e = rw e

-- none of the lines after those with a row has one
pub rowless_later : (n m : ℕ) (rows : List Row) (ls : List Line) → AtMost n rows → Numbered m ls → n < m → rowless rows ls ≡ ls
unfolding rowless
rowless_later n m rows [] h k b = refl
rowless_later n m rows (l ∷ ls) h k b =
    rw (no_row n rows l h (omega (arith, k.0)), rowless_later n (m + 1) rows ls h k.1 (omega arith))

-- the same of lines that all have one: with more rows, and for a part of the lines
abbrev pub Covered : List Row → List Line → Type 0
Covered rows ls = rowless rows ls ≡ []

pub covered_head : (rows : List Row) (l : Line) (ls : List Line) → Covered rows (l ∷ ls) → has_row rows l ≡ true
unfolding rowless
covered_head rows l ls = go (has_row rows l)
  where
    go : (b : Bool) → cond b (rowless rows ls) (l ∷ rowless rows ls) ≡ [] → b ≡ true
    go true e = refl
    go false e = absurd (cons≢nil e)

pub covered_cons : (rows : List Row) (l : Line) (ls : List Line) → has_row rows l ≡ true → Covered rows ls → Covered rows (l ∷ ls)
unfolding rowless
covered_cons rows l ls e k = rw e k

pub covered_tail : (rows : List Row) (l : Line) (ls : List Line) → Covered rows (l ∷ ls) → Covered rows ls
unfolding rowless
covered_tail rows l ls k = rw (covered_head rows l ls k) at k

pub covered_more : (rows rows' : List Row) (ls : List Line) → Keeps rows rows' → Covered rows ls → Covered rows' ls
unfolding rowless
covered_more rows rows' [] h k = refl
covered_more rows rows' (l ∷ ls) h k =
    covered_cons rows' l ls (h l (covered_head rows l ls k)) (covered_more rows rows' ls h (covered_tail rows l ls k))

pub covered_drop : (n : ℕ) (rows : List Row) (ls : List Line) → Covered rows ls → Covered rows (drop n ls)
unfolding rowless
covered_drop zero rows ls k = k
covered_drop (suc n) rows [] k = refl
covered_drop (suc n) rows (l ∷ ls) k = covered_drop n rows ls (covered_tail rows l ls k)

-- lines are covered once those of them that had no row get one
pub covered_given : (k : Kind) (rows rows' : List Row) (ls : List Line) → Keeps rows rows' → Keeps (map (row k) (rowless rows ls)) rows' → Covered rows' ls
unfolding rowless has_row
covered_given k rows rows' [] h g = refl
covered_given k rows rows' (l ∷ ls) h g = go (has_row rows l) refl g (covered_given k rows rows' ls h)
  where
    go : (b : Bool) → has_row rows l ≡ b → Keeps (map (row k) (cond b (rowless rows ls) (l ∷ rowless rows ls))) rows'
        → (Keeps (map (row k) (rowless rows ls)) rows' → Covered rows' ls) → Covered rows' (l ∷ ls)
    go true e g ih = covered_cons rows' l ls (h l e) (ih g)
    go false e g ih =
        covered_cons rows' l ls (g l (rw (eq-eqb l.number l.number refl)))
        (ih (λ x t. g x (rw t (or-true (eqb l.number x.number)))))

-- one line more, with its row
pub covered_snoc : (n : ℕ) (rows : List Row) (ls : List Line) (l : Line) → Covered rows (last_of n ls) → has_row rows l ≡ true → Covered rows (last_of n (ls ++ (l ∷ [])))
unfolding rowless last_of
covered_snoc n rows ls l k e =
    let own : Covered rows (last_of n (l ∷ [])) = covered_drop (1 - n) rows (l ∷ []) (covered_cons rows l [] e refl) in
    let old : Covered rows (last_of (n - 1) ls) =
    rw (last_of_last_of (n - 1) n ls (omega arith)) at (covered_drop (length (last_of n ls) - (n - 1)) rows (last_of n ls) k)
    in
    rw (last_of_append n ls (l ∷ []), rowless_append rows (last_of (n - 1) ls) (last_of n (l ∷ [])), old, own)

-- # Lines between two rows

pub between_append : (a b : ℕ) (xs ys : List Line) → between a b (xs ++ ys) ≡ between a b xs ++ between a b ys
unfolding between
between_append a b [] ys = refl
between_append a b (x ∷ xs) ys = go (ltb a x.number && ltb x.number b) (between_append a b xs ys)
  where
    go : (t : Bool) → between a b (xs ++ ys) ≡ between a b xs ++ between a b ys
        → cond t (x ∷ between a b (xs ++ ys)) (between a b (xs ++ ys)) ≡ cond t (x ∷ between a b xs) (between a b xs) ++ between a b ys
    go true e = rw e
    go false e = e

pub between_before : (a b m : ℕ) (ls : List Line) → Numbered m ls → m + length ls ≤ a + 1 → between a b ls ≡ []
unfolding between
between_before a b m [] h k = refl
between_before a b m (l ∷ ls) h k =
    rw (le-ltb a l.number (omega (arith, h.0)), between_before a b (m + 1) ls h.1 (omega arith))

pub between_behind : (a b m : ℕ) (ls : List Line) → Numbered m ls → b ≤ m → between a b ls ≡ []
unfolding between
between_behind a b m [] h k = refl
between_behind a b m (l ∷ ls) h k =
    rw (le-ltb l.number b (omega (arith, h.0)), and-false (ltb a l.number), between_behind a b (m + 1) ls h.1 (omega arith))

pub between_inside : (a b m : ℕ) (ls : List Line) → Numbered m ls → a < m → m + length ls ≤ b → between a b ls ≡ ls
unfolding between
between_inside a b m [] h k j = refl
between_inside a b m (l ∷ ls) h k j =
    rw (lt-ltb a l.number (omega (arith, h.0)), lt-ltb l.number b (omega (arith, h.0)), between_inside a b (m + 1) ls h.1 (omega arith) (omega arith))

-- nothing lies between a line and the next
pub between_next : (n : ℕ) (ls : List Line) → between n (n + 1) ls ≡ []
unfolding between
between_next n [] = refl
between_next n (l ∷ ls) = elim (dec_le l.number n) [
  | yes h ↦ rw (le-ltb n l.number h) (between_next n ls)
  | no h ↦ rw (le-ltb l.number (n + 1) (omega arith), and-false (ltb n l.number)) (between_next n ls)
]

-- # Breaks

-- rows of lines that follow one another
abbrev pub Follow : ℕ → List Row → Type 0
Follow n [] = Unit {0}
Follow n (r ∷ rows) = (r.number ≡ n) × Follow (n + 1) rows

pub follow_rows : (k : Kind) (n : ℕ) (ls : List Line) (r : Row) → Numbered n ls → r.number ≡ n + length ls → Follow n (map (row k) ls ++ (r ∷ []))
follow_rows k n [] r h e = (omega arith, tt)
follow_rows k n (l ∷ ls) r h e = (h.0, follow_rows k (n + 1) ls r h.1 (omega arith))

-- no break comes before a row of the line after the last one with a row
no_break : (c : Settings) (seen : List Line) (rows : List Row) (r : Row) → r.number ≡ last_number 0 rows + 1 → break_before c seen rows r ≡ false
unfolding break_before rowless
no_break c seen rows r e = rw (e, between_next (last_number 0 rows) seen) (and-false (contextual c && ltb 0 (length rows)))

pub give_next : (c : Settings) (seen : List Line) (rows more : List Row) → Follow (last_number 0 rows + 1) more → give c seen rows more ≡ rows ++ more
unfolding give last_number
give_next c seen rows [] h = sym (append-nil rows)
give_next c seen rows (r ∷ more) h =
    let last : last_number 0 (rows ++ (r ∷ [])) ≡ last_number 0 rows + 1 = last_number_append 0 rows (r ∷ []) ∙ h.0 in
    rw (no_break c seen rows r h.0) (give_next c seen (rows ++ (r ∷ [])) more (rw last h.1) ∙ append_assoc rows (r ∷ []) more)

-- otherwise one comes, where context is asked for, some row was given, and lines without a row lie between
abbrev pub gap : Settings → List Row → List Line → List Row
gap c rows skipped = cond (contextual c && ltb 0 (length rows) && ltb 0 (length skipped)) (break ∷ []) []

give_first : (c : Settings) (seen : List Line) (rows : List Row) (skipped : List Line) (r : Row) (more : List Row)
    → Follow (r.number + 1) more → rowless rows (between (last_number 0 rows) r.number seen) ≡ skipped
    → give c seen rows (r ∷ more) ≡ rows ++ (gap c rows skipped ++ (r ∷ more))
unfolding give break_before last_number
give_first c seen rows skipped r more h e =
    let first = gap c rows skipped in
    let last : last_number 0 (rows ++ (first ++ (r ∷ []))) ≡ r.number =
    last_number_append 0 rows (first ++ (r ∷ [])) ∙ last_number_append (last_number 0 rows) first (r ∷ [])
    in
    rw e
    (give_next c seen (rows ++ (first ++ (r ∷ []))) more (rw last h)
    ∙ append_assoc rows (first ++ (r ∷ [])) more
    ∙ ap (λ xs. rows ++ xs) (append_assoc first (r ∷ []) more))

pub give_gap : (c : Settings) (seen : List Line) (rows : List Row) (n : ℕ) (skipped : List Line) (more : List Row) (r : Row)
    → Follow n (more ++ (r ∷ [])) → rowless rows (between (last_number 0 rows) n seen) ≡ skipped
    → give c seen rows (more ++ (r ∷ [])) ≡ rows ++ (gap c rows skipped ++ (more ++ (r ∷ [])))
give_gap c seen rows n skipped [] r h e = give_first c seen rows skipped r [] tt (rw h.0 e)
give_gap c seen rows n skipped (m ∷ more) r h e = give_first c seen rows skipped m (more ++ (r ∷ [])) (rw h.0 h.1) (rw h.0 e)
