-- The promises of specs/Promises.antt.
use Rattle.std.proofs.Common.{◌≡◌, ℕ, ◌+◌, ◌*◌, ◌≤◌, Bool, true, false, ◌⊎◌, List, [], ◌∷◌, ◌++◌, map, length, sym, refl, ap, ◌∙◌, subst, inl, inr, ⊎_elim, append-nil, arith, length-append}
use mathlib.Core.List.{flatten}
use Rattle.definition.specs.declared.Going.{Going}
use Rattle.definition.specs.declared.Going.TheVariants.{On, LimitMet, NonmatchMet}
use Rattle.definition.specs.declared.Settings.{Settings}
use Rattle.definition.specs.Definition.{cause_number, cause_of, end_of, end_record, gone, gone_lines, quit_met, rows_of}
use Rattle.definition.specs.State.{State, begun, rows, state}
use Rattle.definition.specs.Text.{lines, text}
use Rattle.definition.proofs.Kept.{rows_append, rows_stopped, state_append, state_stopped}
use Rattle.definition.proofs.Lists.{flatten_append}
use Rattle.definition.proofs.Same.{same_lines, same_rows}
use Rattle.definition.proofs.Terminator.{lines_whole}
use Rattle.session.specs.declared.Input.TheVariants.{Ended}
use Rattle.session.specs.declared.Session.{Session}
use Rattle.session.specs.Calls.{fresh, opened}
use Rattle.promises.specs.Promises.{answers_of}
use Rattle.promises.specs.Run.{Run, at_start, here}
use Rattle.promises.proofs.Carry.{weight}
use Rattle.promises.proofs.History.{inv_run, run_settings}
use Rattle.session.proofs.Keeps.{served_fresh}
use Rattle.machine.specs.Machine.{run}
use Rattle.machine.specs.Program.{Program, begins, driver, turns}
use Rattle.machine.specs.Promises.{CauseTold, Cut, Ended as EndedText, Gone, OneText, Printed, Prints, Rows, bytes_of as readBytes, cut_off, ending_of, finished, no_room, said, said_from, too_large}
use Rattle.machine.proofs.Closings.{Now}
use Rattle.machine.proofs.Said.{said_rows}
use Rattle.machine.proofs.Settles.{settle}
use Rattle.machine.proofs.Unique.{one}

-- # The start

module _ (p : Program) (c : Settings) (w input : List ℕ) (served : (opened c (length w)).refusal ≡ 0) where
  abbrev s : Session
  s = (opened c (length w)).session

  start_run : Run c input (answers_of p.matcher c input) (at_start c w input)
  start_run = record { window = w; served = served; steps = here }

  fresh_is : s ≡ fresh c (length w)
  fresh_is = served_fresh c (length w) served

  not_ended : s.places.input ≡ Ended → ⊥
  not_ended e = let z : ◌≡◌ {A = ℕ} 0 1 = cc (ap (λ (x : Session). x.places.input) fresh_is) in omega (arith, z)

  start_weight : weight s input ≤ 2 * length input + 1
  unfolding weight
  start_weight = subst (λ x. weight x input ≤ 2 * length input + 1) (sym fresh_is) (omega arith)

  start_now : (how : _) → Now p c input how s w input 0 []
  start_now how =
      record {
        same = run_settings c input (answers_of p.matcher c input) (at_start c w input) start_run;
        inv = inv_run c input (answers_of p.matcher c input) (at_start c w input) start_run;
        told = λ e. absurd (not_ended e);
        lines_whole = λ _. tt;
      }

pub printed : Printed
unfolding said said_from
printed p c w front reads n served l =
    let input = front ++ readBytes reads in
    let s = (opened c (length w)).session in
    let window : s.places.window ≡ length w = ap (λ (x : Session). x.places.window) (fresh_is p c w input served) in
    subst (λ x. Prints p c x input (ending_of reads) (run (driver p) n (turns p (begins c w front)) reads)) window
    (settle p c input (ending_of reads) n s w front (readBytes reads) 0 [] reads (start_now p c w input served (ending_of reads)) (λ _. (refl, refl))
    (omega (arith, l, start_weight p c w input served)))

pub one_text : OneText
one_text = one

pub cut : Cut
cut p c w v front start reads others n m served size bytes ending k l =
    let left = printed p c w front reads n served k in
    let right = printed p c v start others m (subst (λ x. (opened c x).refusal ≡ 0) (sym size) served) l in
    let same =
    subst (λ x. Prints p c (length w) x (ending_of reads) (run (driver p) m (turns p (begins c v start)) others)) (sym bytes)
    (subst (λ x. Prints p c (length w) (start ++ readBytes others) x (run (driver p) m (turns p (begins c v start)) others)) (sym ending)
    (subst (λ x. Prints p c x (start ++ readBytes others) (ending_of others) (run (driver p) m (turns p (begins c v start)) others)) size right))
    in
    one_text p c (length w) (front ++ readBytes reads) (ending_of reads) _ _ left same

-- # Rows

rows_whole : (c : Settings) (input : List ℕ) (answers : ℕ → Bool) (window : ℕ) (before later : List (List ℕ)) → Gone c input answers window before later
    → ((gone_lines c answers before).going ≡ On → ⊥) ⊎ (later ≡ []) → (gone_lines c answers before).rows ≡ rows_of c input answers
unfolding rows
rows_whole c input answers window before later g h =
    let b = state c answers (begun c) before in
    let none : rows c answers b later ≡ [] =
    ⊎_elim (λ k. rows_stopped c answers b later (λ e. k ((same_lines c answers before).1 ∙ e))) (λ k. ap (rows c answers b) k) h
    in
    (same_lines c answers before).0
    ∙ sym (append-nil (rows c answers (begun c) before))
    ∙ ap (λ x. rows c answers (begun c) before ++ x) (sym none)
    ∙ sym (rows_append c answers (begun c) before later)
    ∙ ap (rows c answers (begun c)) (sym g.lines_are)
    ∙ sym (same_rows c input answers)

pub rows_printed : Rows
unfolding said
rows_printed p printRow h = (
  λ c input before.
      said_rows p printRow h c (answers_of p.matcher c input) (begun c) before
      ∙ ap (λ x. flatten (map printRow x)) (sym (same_lines c (answers_of p.matcher c input) before).0),
  rows_whole,
)

-- # The cause

cause_some : (g : Going) (quit : Bool) → (quit ≡ true) ⊎ (g ≡ On → ⊥) → cause_number (cause_of g quit) ≡ 0 → ⊥
cause_some On true h e = omega (arith, e)
cause_some On false (inl h) e = let z : ◌≡◌ {A = ℕ} 0 1 = cc in omega (arith, z)
cause_some On false (inr h) e = h refl
cause_some LimitMet quit h e = omega (arith, e)
cause_some NonmatchMet quit h e = omega (arith, e)

pub cause_told : CauseTold
unfolding end_of end_record gone
cause_told c input answers window how before later g h unended e =
    let b = state c answers (begun c) before in
    let end = gone_lines c answers (lines c.terminator (text c input)) in
    let quit = quit_met c.binary input in
    let ended : (quit ≡ true) ⊎ (end.going ≡ On → ⊥) =
    ⊎_elim (λ k. ⊎_elim (λ z. absurd (unended z)) (λ z. inl z) k)
    (λ k.
    let off : b.going ≡ On → ⊥ = λ z. k ((same_lines c answers before).1 ∙ z) in
    let stays : state c answers (begun c) (lines c.terminator (text c input)) ≡ b =
    ap (state c answers (begun c)) g.lines_are ∙ state_append c answers (begun c) before later ∙ state_stopped c answers b later off
    in
    inr (λ z. off (ap (λ (s : State). s.going) (sym stays) ∙ sym (same_lines c answers (lines c.terminator (text c input))).1 ∙ z)))
    h
    in
    cause_some end.going quit ended e

-- # Read to its end

-- the lines up to a place lie in the text
text_holds : (c : Settings) (input : List ℕ) (before : List (List ℕ)) (line : List ℕ) (later : List (List ℕ))
    → lines c.terminator (text c input) ≡ before ++ (line ∷ later) → length (flatten before) + length line ≤ length (text c input)
unfolding flatten
text_holds c input before line later e =
    let whole-text = sym (lines_whole c.terminator (text c input)) ∙ ap flatten e ∙ flatten_append before (line ∷ later) in
    omega (arith, ap length whole-text, length-append (flatten before) (line ++ flatten later), length-append line (flatten later))

pub ended_prints : EndedText
ended_prints p printRow h c window input _ (finished before later g k e) w =
    let answers = answers_of p.matcher c input in
    let all = (rows_printed p printRow h).1 c input answers window before later g k in
    inl (ap (λ x. x ++ p.closes (end_of c input answers)) ((rows_printed p printRow h).0 c input before ∙ ap (λ x. flatten (map printRow x)) all))
ended_prints p printRow h c window input _ (no_room before line later g on k l) w =
    inr (
      length before,
      record {
        before = before;
        line = line;
        later = later;
        lines_are = g.lines_are;
        count_is = refl;
        reached = on;
        fitted = g.fitted;
        exceeds = k;
      },
      ap (λ x. x ++ p.refuses 3) ((rows_printed p printRow h).0 c input before),
    )
ended_prints p printRow h c window input _ (too_large before line later g on k l) w =
    absurd (omega (arith, k, w, text_holds c input before line later g.lines_are))
ended_prints p printRow h c window input _ (cut_off before rest g n on v k l m) w = absurd (n (inl refl))
