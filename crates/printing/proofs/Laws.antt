-- Laws of printed text: how long it gets, and text behind text.
use Prim.Native.Nat.{◌/◌, ℕ, suc, zero, ◌+◌, ◌*◌, ◌≤◌, ◌<◌}
use mathlib.Core.Path.{◌≡◌, refl, sym, ◌∙◌, ap}
use mathlib.Core.List.{List, [], ◌∷◌, ◌++◌, append_assoc, append-nil, flatten, map}
use native.Mathlib.Omega.{arith}
use lib.Seq.{get_or-drop, take_all}
use Rattle.std.specs.Simd.{first_chunks}
use lib.ListN.{length, get_or, drop, take, length-append}
use Rattle.std.proofs.lemmas.List.{map-append, take_more}
use Rattle.definition.proofs.Lists.{flatten_append}
use Rattle.definition.specs.declared.Row.{Row}
use Rattle.definition.specs.Rows.{flat, row_size}
use Rattle.output.specs.Output.{Collected, Told, decimal}
use Rattle.output.proofs.Laws.{told_more, tells_none}
use Rattle.printing.specs.Texts.{four_text, newline, numbers_text, refused_text, row_most, row_text, rows_text, space}

-- # Text behind text

-- the same text, read otherwise
pub told_same : {o r : Collected} {xs ys : List ℕ} → xs ≡ ys → Told o xs r → Told o ys r
told_same {o} {r} e t = rw e at t

-- # Four numbers on a line

pub four_parts : (a b c d : ℕ)
    → (((decimal a ++ (space ∷ decimal b)) ++ (space ∷ decimal c)) ++ (space ∷ decimal d)) ++ (newline ∷ []) ≡ four_text a b c d
unfolding four_text
four_parts a b c d = simp append_assoc

pub refused_parts : (k : ℕ) → ((114 ∷ 101 ∷ 102 ∷ 117 ∷ 115 ∷ 101 ∷ 100 ∷ 32 ∷ []) ++ decimal k) ++ (newline ∷ []) ≡ refused_text k
unfolding refused_text
refused_parts k = simp append_assoc

-- # Rows

-- the row at a place of a table, printed
abbrev pub row_at : List ℕ → ℕ → List ℕ
row_at table at = four_text (get_or table at 0) (get_or table (at + 3) 0) (get_or table (at + 1) 0) (get_or table (at + 2) 0)

row_at_drop : (table : List ℕ) (at : ℕ) → row_at (drop row_size table) at ≡ row_at table (row_size + at)
row_at_drop table at =
    let one : row_size + (at + 1) ≡ row_size + at + 1 = omega arith in
    let two : row_size + (at + 2) ≡ row_size + at + 2 = omega arith in
    let three : row_size + (at + 3) ≡ row_size + at + 3 = omega arith in
    simp (get_or-drop row_size table, one, two, three)

-- the numbers that a table begins with are its first row's
first_row : (table : List ℕ) → numbers_text (take row_size table) ≡ row_at table 0
first_row [] = refl
first_row (a ∷ []) = refl
first_row (a ∷ (b ∷ [])) = refl
first_row (a ∷ (b ∷ (c ∷ []))) = refl
first_row (a ∷ (b ∷ (c ∷ (d ∷ rest)))) = refl

-- one row more
pub rows_next : (i : ℕ) (table : List ℕ) → rows_text (suc i) table ≡ rows_text i table ++ row_at table (row_size * i)
unfolding rows_text flatten
rows_next zero table = append-nil (numbers_text (take row_size table)) ∙ first_row table
rows_next (suc i) table =
    let rest = drop row_size table in
    let next : row_size + row_size * i ≡ row_size * suc i = omega arith in
    let more : rows_text (suc i) rest ≡ rows_text i rest ++ row_at table (row_size * suc i) = rows_next i rest ∙ ap (λ text. rows_text i rest ++ text) (row_at_drop table (row_size * i) ∙ ap (λ n. row_at table n) next) in
    let front = numbers_text (take row_size table) in
    ap (λ text. front ++ text) more ∙ sym (append_assoc front (rows_text i rest) (row_at table (row_size * suc i)))

-- the text of a table that holds rows is theirs
pub rows_of : (rs : List Row) (table : List ℕ) → rows_text (length rs) (flatten (map flat rs) ++ table) ≡ flatten (map row_text rs)
unfolding rows_text flatten
rows_of [] table = refl
rows_of (r ∷ rs) table = ap (λ text. row_text r ++ text) (rows_of rs table)

-- the first chunks of a list's chunks
first_of : (n k m : ℕ) (xs : List ℕ) → k ≤ m → take k (first_chunks n m xs) ≡ first_chunks n k xs
first_of n zero m xs h = refl
first_of n (suc k) zero xs h = absurd (omega arith)
first_of n (suc k) (suc m) xs h = ap (λ rest. take n xs ∷ rest) (first_of n k m (drop n xs) (omega arith))

-- so many of a table's rows are its first
pub rows_front : (count i : ℕ) (table : List ℕ) (rows : List (List ℕ)) → rows ≡ first_chunks row_size (length table / row_size) table
    → count ≤ length table / row_size → length (take count rows) ≤ i → flatten (map numbers_text (take i (take count rows))) ≡ rows_text count table
unfolding rows_text
rows_front count i table rows e h done =
    ap (λ rs. flatten (map numbers_text rs)) (take_all i (take count rows) done ∙ rw e (first_of row_size count (length table / row_size) table h))

-- rows are printed
pub record RowsTold (o : Collected) (rows : List (List ℕ)) (r : Collected) : Type 0 where
  pub told : Told o (flatten (map numbers_text rows)) r
  pub most : r.pending.length ≤ o.pending.length + row_most * length rows

pub told_none : (o : Collected) → RowsTold o [] o
unfolding flatten
told_none o = record { told = (refl, tells_none o.pending o.room); most = omega arith }

-- one row more
pub told_next : {o q r : Collected} (rows : List (List ℕ)) (i : ℕ) → i < length rows → RowsTold o (take i rows) q
    → Told q (numbers_text (get_or rows i [])) r → r.pending.length ≤ q.pending.length + row_most → RowsTold o (take (i + 1) rows) r
unfolding flatten
told_next rows i h f t most =
    let before = take i rows in
    let here = get_or rows i [] ∷ [] in
    let next : take (i + 1) rows ≡ take i rows ++ (get_or rows i [] ∷ []) = take_more rows i [] h in
    let text : flatten (map numbers_text (take i rows)) ++ numbers_text (get_or rows i []) ≡ flatten (map numbers_text (take (i + 1) rows)) =
    sym (ap (λ rs. flatten (map numbers_text rs)) next ∙ ap flatten (map-append numbers_text before here) ∙ flatten_append (map numbers_text before) (map numbers_text here) ∙ ap (λ t. flatten (map numbers_text before) ++ t) (append-nil (numbers_text (get_or rows i [])))) in
    record {
      told = told_same text (told_more f.told t);
      most = omega (arith, f.most, ap length next, length-append (take i rows) (get_or rows i [] ∷ []));
    }
