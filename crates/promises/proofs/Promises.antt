-- The promises of specs/Promises.antt, from the invariant.
use Rattle.std.specs.Prelude.{Ok}
use Rattle.std.proofs.Common.{◌≡◌, ℕ, ◌+◌, ◌-◌, ◌≤◌, Bool, true, ◌⊎◌, List, ◌∷◌, ◌++◌, length, take, drop, sym, ap, ◌∙◌, subst, inl, inr, ⊎_elim, append-nil, arith, drop_at}
use Rattle.std.proofs.lemmas.List.{map-append}
use mathlib.Core.List.{flatten, map}
use native.Mathlib.Decide.{dec_le}
use Rattle.definition.specs.declared.Settings.{Settings}
use Rattle.definition.specs.Definition.{end_of, end_record, gone_lines, rows_of}
use Rattle.definition.specs.Laws.{final_state}
use Rattle.definition.specs.Rows.{flat}
use Rattle.definition.specs.State.{State, begun, rows, state, trim}
use Rattle.definition.specs.Text.{handed, lines, text}
use Rattle.definition.proofs.Kept.{rows_append}
use Rattle.definition.proofs.Same.{same_end, same_lines, same_rows}
use Rattle.driver_core.specs.Answer.{state_since}
use Rattle.driver_core.specs.Walk.{shown_ahead}
use Rattle.session.specs.declared.Session.{Session}
use Rattle.session.specs.Calls.{answered, answer_result, offered, offer_result, recorded, shown_line, waiting, waiting_refusal}
use Rattle.session.specs.Held.{line_length, shown, since_lines, unanswered, waits}
use Rattle.promises.specs.Promises.{Account, Asked, Begins, Beginning, Prompt, Cut, Ends, Finished, Handed, Memory, NoRoom, Room, Served, TooLong, Within, answers_of}
use Rattle.promises.specs.Run.{At, Run, Steps}
use Rattle.session.specs.Sound.{sound}
use Rattle.promises.proofs.Carry.{offer_served, record_served, told_served}
use Rattle.session.proofs.Cases.{offer_case}
use Rattle.promises.proofs.Finish.{record_same, rows_done, served_done, state_done}
use Rattle.session.proofs.Refusals as Refusals
use Rattle.promises.proofs.Giving.{line, lines_now}
use Rattle.promises.proofs.History.{answer_gives, inv_run, run_on, run_settings, steps_stay, waiting_line}
use Rattle.promises.proofs.Invariant.{Inv, sound_now, taken_is}
use Rattle.promises.proofs.Room.{cut_shorter, not_ended, not_past, same_count, too_long}
use Rattle.promises.proofs.Soon.{carried}

-- the part shown is the waiting line without its terminator
pub shown_handed : (s : Session) (w : List ℕ) → waiting s w ≡ Ok true → shown_line s w ≡ handed s.walk.settings.terminator (line s w)
unfolding shown_line shown_ahead waits line line_length
shown_handed s w e = rw ((waiting_line s w e).0, (waiting_line s w e).1)

module _ (input : List ℕ) (answers : ℕ → Bool) (s : Session) (w rest : List ℕ) (count : ℕ) (given : List (List ℕ))
    (i : Inv input answers s w rest count given) where
  -- the definition's rows are those given and those of the lines still to come
  rows_all : map flat (rows_of s.walk.settings input answers)
      ≡ given
      ++ map flat (rows s.walk.settings answers (state s.walk.settings answers (begun s.walk.settings) i.gone) (lines s.walk.settings.terminator (unanswered s w ++ text s.walk.settings rest)))
  rows_all =
      let c = s.walk.settings in
      let later = lines c.terminator (unanswered s w ++ text c rest) in
      let after = rows c answers (state c answers (begun c) i.gone) later in
      ap (map flat) (same_rows c input answers ∙ ap (rows c answers (begun c)) i.lines_are ∙ rows_append c answers (begun c) i.gone later)
      ∙ map-append flat (rows c answers (begun c) i.gone) after
      ∙ ap (λ (xs : List (List ℕ)). xs ++ map flat after) (sym i.rows_are)

  pub finished_inv : (recorded s).refusal ≡ 0 → (given ≡ map flat (rows_of s.walk.settings input answers)) × ((recorded s).end ≡ end_of s.walk.settings input answers)
  unfolding final_state trim shown state_since since_lines
  finished_inv e =
      let c = s.walk.settings in
      let d = served_done s e in
      let record-at : State → _ = λ t. end_record c input t.bytes t.lines t.matches t.going in (
        sym (rows_all ∙ ap (λ xs. given ++ map flat xs) (rows_done input answers s w rest count given i d) ∙ append-nil given),
        Refusals.record_served s e
            ∙ record_same input answers s w rest count given i d
            ∙ ap (λ (t : State). end_record c input t.bytes t.lines t.matches t.going) i.state_is
            ∙ ap (λ (t : State). end_record c input t.bytes t.lines t.matches t.going) (sym (state_done input answers s w rest count given i d))
            ∙ sym (same_end c input answers),
      )

  pub handed_inv : waiting s w ≡ Ok true → (before : List (List ℕ)) × (l : List ℕ) × (later : List (List ℕ))
      × (lines s.walk.settings.terminator (text s.walk.settings input) ≡ before ++ (l ∷ later))
      × (length before ≡ count)
      × (shown_line s w ≡ handed s.walk.settings.terminator l)
  handed_inv e =
      let v = (waiting_line s w e).1 in (
        i.gone,
        line s w,
        lines s.walk.settings.terminator (drop (line_length s w) (unanswered s w) ++ text s.walk.settings rest),
        i.lines_are ∙ ap (λ xs. i.gone ++ xs) (lines_now input answers s w rest count given i v),
        sym i.count_is,
        shown_handed s w e,
      )

pub finished : Finished
finished c input answers a r e =
    let i = inv_run c input answers a r in
    subst (λ x. (a.rows ≡ map flat (rows_of x input answers)) × ((recorded a.session).end ≡ end_of x input answers)) (run_settings c input answers a r)
    (finished_inv input answers a.session a.window a.rest a.count a.rows i e)

pub beginning : Beginning
beginning c input answers a r =
    let i = inv_run c input answers a r in
    subst (λ x. Begins a.rows (map flat (rows_of x input answers))) (run_settings c input answers a r)
    (_, sym (rows_all input answers a.session a.window a.rest a.count a.rows i))

pub prompt : Prompt
prompt c input answers a r =
    let i = inv_run c input answers a r in
    subst
    (λ x. (before later : List (List ℕ))
    × (lines x.terminator (text x input) ≡ before ++ later)
    × (length before ≡ a.count)
    × (a.rows ≡ map flat (gone_lines x answers before).rows))
    (run_settings c input answers a r)
    (i.gone, _, i.lines_are, sym i.count_is, i.rows_are ∙ ap (map flat) (sym (same_lines a.session.walk.settings answers i.gone).0))

pub cut : Cut
cut c input answers a b r q e f =
    let x = finished c input answers a r e in
    let y = finished c input answers b q f in
    (x.0 ∙ sym y.0, x.1 ∙ sym y.1)

pub handed_line : Handed
handed_line c input answers a r e =
    let i = inv_run c input answers a r in
    subst (λ x. (before : List (List ℕ)) × (l : List ℕ) × (later : List (List ℕ))
    × (lines x.terminator (text x input) ≡ before ++ (l ∷ later))
    × (length before ≡ a.count)
    × (shown_line a.session a.window ≡ handed x.terminator l)) (run_settings c input answers a r)
    (handed_inv input answers a.session a.window a.rest a.count a.rows i e)

-- the line after some others
line_after : (before : List (List ℕ)) (l : List ℕ) (later : List (List ℕ)) (n : ℕ) → length before ≡ n
    → flatten (take 1 (drop (n + 1 - 1) (before ++ (l ∷ later)))) ≡ l
unfolding flatten
line_after before l later n e =
    let m : n + 1 - 1 ≡ n = omega arith in
    rw (m, drop_at before (l ∷ later) n e) (append-nil l)

module _ (matcher : List ℕ → Bool) (input : List ℕ) (s : Session) (w rest : List ℕ) (count : ℕ) (given : List (List ℕ))
    (i : Inv input (answers_of matcher s.walk.settings input) s w rest count given) where
  pub asked_inv : waiting s w ≡ Ok true → answers_of matcher s.walk.settings input (count + 1) ≡ matcher (shown_line s w)
  unfolding answers_of
  asked_inv e =
      let h = handed_inv input (answers_of matcher s.walk.settings input) s w rest count given i e in
      let t = s.walk.settings.terminator in
      ap (λ (x : List (List ℕ)). matcher (handed t (flatten (take 1 (drop (count + 1 - 1) x))))) h.3
      ∙ ap (λ (l : List ℕ). matcher (handed t l)) (line_after h.0 h.1 h.2 count h.4)
      ∙ ap matcher (sym h.5)

pub asked : Asked
asked matcher c input a r e =
    let same = run_settings c input (answers_of matcher c input) a r in
    let i = inv_run c input (answers_of matcher c input) a r in
    let j = subst (λ x. Inv input (answers_of matcher x input) a.session a.window a.rest a.count a.rows) (sym same) i in
    ap (λ x. answers_of matcher x input (a.count + 1)) (sym same)
    ∙ asked_inv matcher input a.session a.window a.rest a.count a.rows j e

pub account : Account
account c input answers a r =
    let i = inv_run c input answers a r in
    let same = run_settings c input answers a r in
    let s = a.session in
    record {
      settings_stay = same;
      past = i.past;
      input_is = i.input_is;
      taken_is = taken_is input answers s a.window a.rest a.count a.rows i;
      gone = i.gone;
      later = _;
      lines_are = subst (λ (x : Settings). lines x.terminator (text x input) ≡ i.gone ++ lines x.terminator (unanswered s a.window ++ text x a.rest)) same i.lines_are;
      count_is = sym i.count_is;
      bytes_are = i.bytes_is;
      text_is = subst (λ (x : Settings). text x i.past ≡ flatten i.gone ++ unanswered s a.window) same i.text_is;
    }

-- # Carried on

module _ (c : Settings) (input : List ℕ) (answers : ℕ → Bool) (a : At) (r : Run c input answers a) (h : Within c input) where
  carried_run : (b : At) × Run c input answers b × Steps answers a b × (length b.window ≡ length a.window) × (Ends b ⊎ NoRoom b)
  carried_run =
      let i = inv_run c input answers a r in
      let t = carried input answers a i (subst (λ x. Within x input) (sym (run_settings c input answers a r)) h) in
      let q = run_on c input answers a t.0 r t.1 in
      let j = inv_run c input answers t.0 q in
      (t.0, q, t.1, j.window_is ∙ (steps_stay answers a t.0 t.1).1 ∙ sym i.window_is, t.2)

-- the facts of the room rule, for the settings that a run was opened with
module _ (c : Settings) (input : List ℕ) (answers : ℕ → Bool) (a : At) (r : Run c input answers a) where
  run_too_long : NoRoom a → (t : TooLong c input answers (length a.window) a.count) × (a.rows ≡ map flat (gone_lines c answers t.before).rows)
  run_too_long n =
      let i = inv_run c input answers a r in
      subst (λ x. (t : TooLong x input answers (length a.window) a.count) × (a.rows ≡ map flat (gone_lines x answers t.before).rows))
      (run_settings c input answers a r)
      (too_long input answers a.session a.window a.rest a.count a.rows i n.0 n.1)

  run_not_past : (n count : ℕ) → length a.window ≤ n → TooLong c input answers n count → a.count ≤ count
  run_not_past n count h t =
      let i = inv_run c input answers a r in
      not_past input answers a.session a.window a.rest a.count a.rows i n count (omega (arith, h, i.window_is))
      (subst (λ x. TooLong x input answers n count) (sym (run_settings c input answers a r)) t)

  run_not_ended : (n count : ℕ) → length a.window ≤ n → TooLong c input answers n count → Ends a → ⊥
  run_not_ended n count h t e =
      let i = inv_run c input answers a r in
      not_ended input answers a.session a.window a.rest a.count a.rows i n count (omega (arith, h, i.window_is))
      (subst (λ x. TooLong x input answers n count) (sym (run_settings c input answers a r)) t) (served_done a.session e)

pub room : Room
room c input answers a r =
    record {
      only = run_too_long c input answers a r;
      never_past = λ count t. run_not_past c input answers a r (length a.window) count (omega arith) t;
      never_ends = λ count t. run_not_ended c input answers a r (length a.window) count (omega arith) t;
      refused = refused;
    }
  where
    refused : Within c input → (count : ℕ) → TooLong c input answers (length a.window) count → (b : At) × Steps answers a b × NoRoom b × (b.count ≡ count)
    refused h count t =
        let x = carried_run c input answers a r h in
        let b = x.0 in
        let q = x.1 in
        let size = x.3 in
        ⊎_elim (λ e. absurd (run_not_ended c input answers b q (length a.window) count (omega (arith, size)) t e))
        (λ n.
        let u = subst (λ m. TooLong c input answers m b.count) size (run_too_long c input answers b q n).0 in (
          b,
          x.2,
          n,
          omega (
            arith,
            same_count c input answers (length a.window) b.count count u t,
            same_count c input answers (length a.window) count b.count t u,
          ),
        ))
        x.4

not_refused : (s : Session) (w : List ℕ) → sound s (length w) ≡ true → waiting_refusal (waiting s w) ≡ 0
unfolding waiting
not_refused s w e = rw e

pub served : Served
unfolding offer_result offered answer_result answered
served c input answers a r h =
    let s = a.session in
    let w = a.window in
    let i = inv_run c input answers a r in
    let within = subst (λ x. Within x input) (sym (run_settings c input answers a r)) h in
    record {
      offers = λ k. offer_served input answers s w a.rest a.count a.rows i within k _ (offer_case s w (take k a.rest));
      asks = not_refused s w (sound_now input answers s w a.rest a.count a.rows i);
      answering = λ table hit e room.
          rw (answer_gives input answers s w a.rest a.count a.rows i (length table) hit (waiting_line s w e).1 room);
      tells = told_served input answers s w a.rest a.count a.rows i;
      records = record_served input answers s w a.rest a.count a.rows i;
      carries = carried input answers a i within;
    }

-- of two beginnings of one list one is a beginning of the other
begins_both : (xs ys zs : List (List ℕ)) → Begins xs zs → Begins ys zs → Begins xs ys ⊎ Begins ys xs
begins_both xs ys zs p q = elim (dec_le (length xs) (length ys)) [
  | yes k ↦
      let m = cut_shorter xs p.0 ys q.0 (p.1 ∙ sym q.1) k in
      inl (m.0, sym m.1)
  | no k ↦
      let m = cut_shorter ys q.0 xs p.0 (q.1 ∙ sym p.1) (omega arith) in
      inr (m.0, sym m.1)
]

pub memory : Memory
memory c input answers a b r q =
    (begins_both a.rows b.rows (map flat (rows_of c input answers)) (beginning c input answers a r) (beginning c input answers b q), longer)
  where
    longer : Within c input → Ends a → length a.window ≤ length b.window
        → (x : At) × Steps answers b x × Ends x × (x.rows ≡ a.rows) × ((recorded x.session).end ≡ (recorded a.session).end)
    longer h e l =
        let t = carried_run c input answers b q h in
        let x = t.0 in
        ⊎_elim (λ f. let same = cut c input answers x a t.1 r f e in (x, t.2, f, same.0, same.1))
        (λ n. absurd (run_not_ended c input answers a r (length x.window) x.count (omega (arith, l, t.3)) (run_too_long c input answers x t.1 n).0 e))
        t.4
