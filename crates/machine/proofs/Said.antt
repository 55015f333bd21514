-- What is said of one line more.
use Rattle.std.proofs.Common.{◌≡◌, ℕ, ◌+◌, ◌<◌, Bool, true, List, [], ◌∷◌, ◌++◌, map, length, take, drop, sym, refl, ap, ◌∙◌, ap₂, append_assoc, append-nil}
use mathlib.Core.List.{flatten}
use lib.Seq.{take-append-add}
use Rattle.definition.specs.declared.Row.{Row}
use Rattle.definition.specs.declared.Settings.{Settings}
use Rattle.definition.specs.State.{State, begun, rows, state, step_rows, step_state}
use Rattle.definition.specs.Text.{first_place, handed, lines, text}
use Rattle.session.specs.declared.Session.{Session}
use Rattle.session.specs.Calls.{answer_rows, shown_line}
use Rattle.session.specs.Held.{line_length, unanswered, waits}
use Rattle.promises.specs.Promises.{answers_of}
use Rattle.promises.proofs.Carry.{waiting_now}
use Rattle.promises.proofs.Giving.{line, lines_now, rows_step}
use Rattle.promises.proofs.Invariant.{Inv}
use Rattle.promises.proofs.Promises.{shown_handed}
use Rattle.machine.specs.Program.{Program}
use Rattle.machine.specs.Promises.{Whole, said, said_from}
use Rattle.machine.proofs.Counted.{gone_is, upto}

pub said_append : (p : Program) (c : Settings) (answers : ℕ → Bool) (s : State) (xs ys : List (List ℕ))
    → said_from p c answers s (xs ++ ys) ≡ said_from p c answers s xs ++ said_from p c answers (state c answers s xs) ys
unfolding said_from state
said_append p c answers s [] ys = refl
said_append p c answers s (l ∷ xs) ys =
    let a = answers (s.lines + 1) in
    let next = step_state s.going c s (length l) a in
    let text = p.says (handed c.terminator l) (step_rows s.going c s (length l) a) in
    ap (λ x. text ++ x) (said_append p c answers next xs ys)
    ∙ sym (append_assoc text (said_from p c answers next xs) (said_from p c answers (state c answers next xs) ys))

pub whole_snoc : (t : ℕ) (xs : List (List ℕ)) (l : List ℕ) → Whole t xs → first_place t l < length l → Whole t (xs ++ (l ∷ []))
whole_snoc t [] l h k = (k, tt)
whole_snoc t (x ∷ xs) l h k = (h.0, whole_snoc t xs l h.1 k)

-- where rows are printed one by one, what is said is the rows, printed
pub said_rows : (p : Program) (printRow : Row → List ℕ) → ((line : List ℕ) (rs : List Row) → p.says line rs ≡ flatten (map printRow rs))
    → (c : Settings) (answers : ℕ → Bool) (s : State) (ls : List (List ℕ))
    → said_from p c answers s ls ≡ flatten (map printRow (rows c answers s ls))
unfolding said_from rows flatten
said_rows p printRow h c answers s [] = refl
said_rows p printRow h c answers s (l ∷ ls) =
    let a = answers (s.lines + 1) in
    let rs = step_rows s.going c s (length l) a in
    let next = step_state s.going c s (length l) a in
    ap₂ (λ (x y : List ℕ). x ++ y) (h (handed c.terminator l) rs) (said_rows p printRow h c answers next ls)
    ∙ sym (printed_append printRow rs (rows c answers next ls))
  where
    printed_append : (f : Row → List ℕ) (xs ys : List Row) → flatten (map f (xs ++ ys)) ≡ flatten (map f xs) ++ flatten (map f ys)
    printed_append f [] ys = refl
    printed_append f (x ∷ xs) ys =
        ap (λ z. f x ++ z) (printed_append f xs ys) ∙ sym (append_assoc (f x) (flatten (map f xs)) (flatten (map f ys)))

module _ (p : Program) (input : List ℕ) (s : Session) (w rest : List ℕ) (count : ℕ) (given : List (List ℕ))
    (i : Inv input (answers_of p.matcher s.walk.settings input) s w rest count given) (v : waits s w ≡ true) where
  -- one line more is gone through
  pub upto_next : upto s.walk.settings input (count + 1) ≡ upto s.walk.settings input count ++ (line s w ∷ [])
  upto_next =
      let c = s.walk.settings in
      let answers = answers_of p.matcher c input in
      let later = lines c.terminator (drop (line_length s w) (unanswered s w) ++ text c rest) in
      ap (take (count + 1)) (i.lines_are ∙ ap (λ x. i.gone ++ x) (lines_now input answers s w rest count given i v))
      ∙ ap (λ k. take (k + 1) (i.gone ++ (line s w ∷ later))) i.count_is
      ∙ take-append-add i.gone (line s w ∷ later) 1
      ∙ ap (λ g. g ++ (line s w ∷ [])) (sym (gone_is input answers s w rest count given i))

  pub said_next : said p s.walk.settings input (upto s.walk.settings input (count + 1))
      ≡ said p s.walk.settings input (upto s.walk.settings input count)
      ++ p.says (shown_line s w) (answer_rows s w (answers_of p.matcher s.walk.settings input (count + 1)))
  unfolding said said_from
  said_next =
      let c = s.walk.settings in
      let answers = answers_of p.matcher c input in
      let b = state c answers (begun c) i.gone in
      let gone = gone_is input answers s w rest count given i in
      let e = waiting_now input answers s w rest count given i v in
      ap (said_from p c answers (begun c)) (upto_next ∙ ap (λ g. g ++ (line s w ∷ [])) gone)
      ∙ said_append p c answers (begun c) i.gone (line s w ∷ [])
      ∙ ap₂ (λ (x y : List ℕ). x ++ y) (ap (said_from p c answers (begun c)) (sym gone))
      (append-nil _
      ∙ ap₂ (λ (l : List ℕ) (rs : List Row). p.says l rs) (sym (shown_handed s w e)) (rows_step input answers s w rest count given i v))
