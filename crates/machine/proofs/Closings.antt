-- Where a run is over or no more is read, what it has printed is what must be printed.
use Rattle.std.proofs.Common.{◌≡◌, ℕ, ◌-◌, ◌<◌, ◌≤◌, Bool, true, false, ◌⊎◌, List, [], ◌∷◌, ◌++◌, length, take, drop, sym, refl, ap, ◌∙◌, subst, inl, inr, ⊎_elim, true≢false, append-nil, arith, length-append}
use Rattle.definition.specs.declared.Going.TheVariants.{On}
use Rattle.definition.specs.declared.Settings.{Settings}
use Rattle.definition.specs.Bounds.{max_input}
use Rattle.definition.specs.Definition.{gone_lines, quit_met}
use Rattle.definition.specs.Text.{first_length, lines, text}
use Rattle.definition.proofs.Terminator.{lines_head}
use Rattle.session.specs.declared.Input.{Input}
use Rattle.session.specs.declared.Input.TheVariants.{Open, Ended, QuitFound}
use Rattle.session.specs.declared.Session.{Session}
use Rattle.session.specs.Calls.{offered, offer_result, recorded}
use Rattle.session.specs.Held.{held_bytes, is_open, unanswered, waits}
use Rattle.promises.specs.Promises.{answers_of}
use Rattle.session.specs.Sound.{taken_bytes}
use Rattle.promises.proofs.Carry.{more_text, not_idle}
use Rattle.session.proofs.Cases.{offer_case}
use Rattle.promises.proofs.Only.{offer_only}
use Rattle.promises.proofs.Finish.{Done, ended, nothing_left, quit_later, quit_none, served_done, stopped}
use Rattle.promises.proofs.Giving.{text_none}
use Rattle.promises.proofs.Invariant.{InputNow, Inv, unanswered_length}
use Rattle.session.proofs.Parts.{kept_le}
use Rattle.promises.proofs.Promises.{finished_inv}
use Rattle.promises.proofs.Room.{longer_line, no_terminator}
use Rattle.machine.specs.Program.{Program}
use Rattle.machine.specs.Promises.{Ending, Gone, HasEnded, Prints, Whole, breaks_off, cut_off, finished, no_room, said, too_large, whole}
use Rattle.machine.proofs.Counted.{Facts, facts, past, upto}

-- one moment of a run of a program: what is still to come of the input is `rest`
pub record Now (p : Program) (c : Settings) (input : List ℕ) (how : Ending) (s : Session) (w rest : List ℕ) (count : ℕ) (given : List (List ℕ)) : Type 0 where
  pub same : s.walk.settings ≡ c
  pub inv : Inv input (answers_of p.matcher c input) s w rest count given
  pub told : s.places.input ≡ Ended → how ≡ whole
  pub lines_whole : s.places.input ≡ Open → Whole c.terminator (upto c input count)

module _ (p : Program) (input : List ℕ) (how : Ending) (s : Session) (w rest : List ℕ) (count : ℕ) (given : List (List ℕ))
    (n : Now p s.walk.settings input how s w rest count given) where
  abbrev c : Settings
  c = s.walk.settings

  abbrev answers : ℕ → Bool
  answers = answers_of p.matcher c input

  abbrev i : Inv input answers s w rest count given
  i = n.inv

  abbrev f : Facts c input answers s w rest count
  f = facts input answers s w rest count given i

  abbrev before : List (List ℕ)
  before = upto c input count

  -- # Finished

  off : (s.walk.going ≡ On → ⊥) → (gone_lines c answers before).going ≡ On → ⊥
  off h e = h (sym f.going_now ∙ e)

  done_how : Done s → ((gone_lines c answers before).going ≡ On → ⊥) ⊎ (past c input count ≡ [])
  done_how (stopped h) = inl (off h)
  done_how (ended g o l) = inr (f.later_is ∙ nothing_left input answers s w rest count given i o l)

  quit_met_lem : InputNow c QuitFound rest → quit_met c.binary input ≡ true
  unfolding text
  quit_met_lem h = ap (quit_met c.binary) f.input_is ∙ quit_later c.binary c.terminator f.taken rest f.uncut h.0

  ended_how : (k : Input) → s.places.input ≡ k → Done s
      → (HasEnded c input how) ⊎ (((gone_lines c answers before).going ≡ On → ⊥) × Whole c.terminator before)
  ended_how Open e (stopped h) = inr (off h, n.lines_whole e)
  ended_how Open e (ended g o l) = absurd (true≢false (sym (ap is_open e) ∙ o))
  ended_how Ended e d = inl (inl (n.told e))
  ended_how QuitFound e d = inl (inr (quit_met_lem (subst (λ x. InputNow c x rest) e i.input_now)))

  pub prints_finished : (recorded s).refusal ≡ 0 → Prints p c s.places.window input how (said p c input before ++ p.closes (recorded s).end)
  prints_finished e =
      let d = served_done s e in
      subst (λ r. Prints p c s.places.window input how (said p c input before ++ p.closes r))
      (sym (finished_inv input answers s w rest count given i e).1)
      (finished before (past c input count) f.gone (done_how d) (ended_how s.places.input refl d))

  -- # Refused

  module _ (k : ℕ) (idle : (0 < length (take k rest)) × (s.walk.going ≡ On)) (more : 0 < length (text c rest)) (none : waits s w ≡ false) where
    abbrev line : List ℕ
    line = take (first_length c.terminator (unanswered s w ++ text c rest)) (unanswered s w ++ text c rest)

    abbrev later : List (List ℕ)
    later = lines c.terminator (drop (first_length c.terminator (unanswered s w ++ text c rest)) (unanswered s w ++ text c rest))

    gone_next_lem : Gone c input answers s.places.window before (line ∷ later)
    gone_next_lem =
        let some : 0 < length (unanswered s w ++ text c rest) = omega (arith, length-append (unanswered s w) (text c rest), more) in
        subst (λ x. Gone c input answers s.places.window before x) (f.later_is ∙ lines_head c.terminator (unanswered s w ++ text c rest) some) f.gone

    going_on : (gone_lines c answers before).going ≡ On
    going_on = f.going_now ∙ idle.1

    -- it reaches beyond what is held
    beyond : s.places.end - s.places.next < length line
    beyond =
        omega (
          arith,
          longer_line c.terminator (unanswered s w) (text c rest) (no_terminator input answers s w rest count given i none idle.1) more,
          unanswered_length s w i.agree i.window_is,
        )

    room_prints : taken_bytes s < max_input → s.places.window ≤ held_bytes s w → Prints p c s.places.window input how (said p c input before ++ p.refuses 3)
    unfolding taken_bytes held_bytes
    room_prints size full =
        no_room before line later gone_next_lem going_on (omega (arith, full, f.kept_is, beyond)) (omega (arith, size, full, f.kept_is, f.bytes_are))

    size_prints : max_input ≤ taken_bytes s → Prints p c s.places.window input how (said p c input before ++ p.refuses 5)
    unfolding taken_bytes
    size_prints size =
        too_large before line later gone_next_lem going_on (omega (arith, size, f.bytes_are, beyond))
        (omega (arith, size, f.kept_is, f.bytes_are, kept_le s w, i.agree))

  pub prints_no_room : (k : ℕ) → (offered s w (take k rest)).refusal ≡ 3
      → Prints p c s.places.window input how (said p c input before ++ p.refuses 3)
  unfolding offer_result offered
  prints_no_room k e =
      let o = (offer_only s w (take k rest) _ (offer_case s w (take k rest))).2 e in
      let idle = not_idle s (take k rest) o.0.1 in
      let more = (more_text input answers s w rest count given i k idle.0 o.0.2).1 in
      room_prints k (idle.0, idle.2) more o.2 o.1 o.3

  pub prints_too_large : (k : ℕ) → waits s w ≡ false → (offered s w (take k rest)).refusal ≡ 5
      → Prints p c s.places.window input how (said p c input before ++ p.refuses 5)
  unfolding offer_result offered
  prints_too_large k none e =
      let o = (offer_only s w (take k rest) _ (offer_case s w (take k rest))).1 e in
      let idle = not_idle s (take k rest) o.0.1 in
      let more = (more_text input answers s w rest count given i k idle.0 o.0.2).1 in
      size_prints k (idle.0, idle.2) more none o.1

  -- # Not read to its end

  pub prints_cut_off : waits s w ≡ false → s.places.input ≡ Open → s.walk.going ≡ On → rest ≡ [] → (how ≡ whole → ⊥)
      → Prints p c s.places.window input how (said p c input before ++ breaks_off how p)
  unfolding text
  prints_cut_off none e g r unended-yet =
      let u = unanswered s w in
      let size = unanswered_length s w i.agree i.window_is in
      let later : past c input count ≡ lines c.terminator u =
      f.later_is ∙ ap (λ x. lines c.terminator (u ++ text c x)) r ∙ ap (λ x. lines c.terminator (u ++ x)) (text_none c) ∙ ap (lines c.terminator) (append-nil u)
      in
      let unquit : quit_met c.binary input ≡ false =
      ap (quit_met c.binary) (f.input_is ∙ ap (λ x. f.taken ++ x) r ∙ append-nil f.taken) ∙ quit_none c.binary c.terminator f.taken f.uncut
      in
      cut_off before u (subst (λ x. Gone c input answers s.places.window before x) later f.gone)
      (λ h. ⊎_elim unended-yet (λ q. true≢false (sym q ∙ unquit)) h)
      (f.going_now ∙ g)
      (n.lines_whole e)
      (no_terminator input answers s w rest count given i none g)
      (omega (arith, f.kept_is, kept_le s w, size, i.agree))
      (omega (arith, f.bytes_are, size, i.agree))
