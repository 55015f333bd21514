-- The end record that a finished session hands out is the definition's.
use Rattle.std.specs.Prelude.{Option, Some, None}
use Rattle.std.proofs.Common.{◌≡◌, ℕ, ◌+◌, ◌≤◌, Bool, true, false, cond, not, ◌&&◌, ◌||◌, eqb, ltb, List, [], ◌∷◌, ◌++◌, length, sym, refl, ap, ◌∙◌, subst, true≢false, append-nil, arith, length-append, ltb-false, ltb-true, le-ltb, lt-ltb}
use mathlib.Core.Bool.{false≢true}
use mathlib.Core.List.{flatten}
use native.Mathlib.Decide.{dec_lt}
use Rattle.definition.specs.declared.Binary.{Binary}
use Rattle.definition.specs.declared.Binary.TheVariants.{Ignore, Quit, Convert}
use Rattle.definition.specs.declared.Cause.{Cause}
use Rattle.definition.specs.declared.Cause.TheVariants.{InputEnd, QuitByte, Limit, Nonmatch}
use Rattle.definition.specs.declared.Going.{Going}
use Rattle.definition.specs.declared.Going.TheVariants.{On, LimitMet, NonmatchMet}
use Rattle.definition.specs.Definition.{binary_place, cause_number, cause_of, end_record, end_with, quit_met}
use Rattle.definition.specs.State.{State, begun, rows, state}
use Rattle.definition.specs.Text.{first_place, lines, text, text_under, up_to}
use Rattle.definition.proofs.Kept.{rows_stopped, state_append, state_stopped}
use Rattle.definition.proofs.Terminator.{first_append, first_append_none}
use Rattle.driver_core.specs.Walk.{is_on, remains_ahead, walk_end}
use Rattle.driver_core.proofs.Keeps.{is_on_lem}
use Rattle.session.specs.declared.Input.{Input}
use Rattle.session.specs.declared.Input.TheVariants.{Open, Ended, QuitFound}
use Rattle.session.specs.declared.Session.{Session}
use Rattle.session.specs.Calls.{gone_through, is_quit, recorded, recorded_place, record_of, remains, replaced_in, under_convert}
use Rattle.session.specs.Held.{is_open, unanswered}
use Rattle.session.specs.Sound.{agrees, ahead_bytes, taken_bytes}
use Rattle.session.proofs.Refusals.{recorded_number}
use Rattle.promises.proofs.Giving.{ended_text, going_is}
use Rattle.promises.proofs.Invariant.{Inv, InputNow, taken_is, unanswered_length}

-- # Whether a Quit byte was met

-- bytes that are not cut hold none
pub quit_none : (k : Binary) (t : ℕ) (past : List ℕ) → length (text_under k t past) ≡ length past → quit_met k past ≡ false
unfolding first_place
quit_none Ignore t past u = refl
quit_none (Quit b) t past u = le-ltb (length (up_to b past)) (length past) (omega (arith, u))
quit_none (Convert b) t past u = refl

pub quit_later : (k : Binary) (t : ℕ) (past rest : List ℕ) → length (text_under k t past) ≡ length past → quit_met k rest ≡ true → quit_met k (past ++ rest) ≡ true
unfolding first_place
quit_later Ignore t past rest u q = q
quit_later (Quit b) t past rest u q =
    lt-ltb (first_place b (past ++ rest)) (length (past ++ rest))
    (omega (arith, first_append_none b past rest (omega (arith, u)), length-append past rest, ltb-true (first_place b rest) (length rest) q))
quit_later (Convert b) t past rest u q = q

-- # The binary offset

-- under cause 1 the Quit byte's: it comes next after the bytes taken
place_quit : (k : Binary) (t bytes : ℕ) (past rest : List ℕ) → length (text_under k t past) ≡ length past → quit_met k rest ≡ true → text_under k t rest ≡ []
    → Some (length past) ≡ binary_place k t QuitByte bytes (past ++ rest)
unfolding first_place
place_quit Ignore t bytes past rest u q e = absurd (false≢true q)
place_quit (Quit b) t bytes past rest u q e =
    ap Some (sym (first_append_none b past rest (omega (arith, u)) ∙ omega (arith, ap length e)))
place_quit (Convert b) t bytes past rest u q e = absurd (false≢true q)

-- otherwise that of the first replaced byte, once it is gone through
place_other : (k : Binary) (t bytes : ℕ) (cause : Cause) (past rest : List ℕ) → bytes ≤ length past → eqb (cause_number cause) 1 ≡ false
    → under_convert k (gone_through (replaced_in k t 0 past) bytes) ≡ binary_place k t cause bytes (past ++ rest)
place_other Ignore t bytes cause past rest h e = refl
place_other (Quit b) t bytes cause past rest h e = rw e
place_other (Convert b) t bytes cause past rest h e = go (eqb b t)
  where
    go : (same : Bool)
        → gone_through (cond (not same && ltb (first_place b past) (length past)) (Some (0 + first_place b past)) None) bytes
        ≡ cond (not same && ltb (first_place b (past ++ rest)) bytes) (Some (first_place b (past ++ rest))) None
    go true = refl
    go false = elim (dec_lt (first_place b past) (length past)) [
      | yes k ↦
          let z : 0 + first_place b past ≡ first_place b past = omega arith in
          rw (first_append b past rest k, lt-ltb (first_place b past) (length past) k, z)
      | no k ↦
          rw (
            le-ltb (first_place b past) (length past) (omega arith),
            le-ltb (first_place b (past ++ rest)) bytes (omega (arith, first_append_none b past rest (omega arith))),
          )
    ]

-- # The record

-- the same number of bytes, lines and matches, the same cause and the same place
module _ (k : Binary) (t bytes count matches taken : ℕ) (past rest : List ℕ) (place : Option ℕ) where
  abbrev Same : Going → Bool → Type 0
  Same g quit =
      end_with bytes count matches (cause_number (cause_of g quit)) (cond (eqb (cause_number (cause_of g quit)) 1) (Some taken) (under_convert k (gone_through place bytes)))
      ≡ end_with bytes count matches (cause_number (cause_of g (quit_met k (past ++ rest))))
      (binary_place k t (cause_of g (quit_met k (past ++ rest))) bytes (past ++ rest))

  module _ (place_is : place ≡ replaced_in k t 0 past) (gone : bytes ≤ length past) where
    same_other : (cause : Cause) → eqb (cause_number cause) 1 ≡ false
        → end_with bytes count matches (cause_number cause) (under_convert k (gone_through place bytes)) ≡ end_with bytes count matches (cause_number cause) (binary_place k t cause bytes (past ++ rest))
    same_other cause e =
        ap (end_with bytes count matches (cause_number cause)) (ap (λ p. under_convert k (gone_through p bytes)) place_is ∙ place_other k t bytes cause past rest gone e)

    same_stopped : (g : Going) (quit : Bool) → (g ≡ On → ⊥) → Same g quit
    same_stopped On quit h = absurd (h refl)
    same_stopped LimitMet quit h = same_other Limit refl
    same_stopped NonmatchMet quit h = same_other Nonmatch refl

    same_ended : length (text_under k t past) ≡ length past → rest ≡ [] → Same On false
    same_ended uncut e =
        let none : quit_met k (past ++ rest) ≡ false = ap (λ xs. quit_met k (past ++ xs)) e ∙ ap (quit_met k) (append-nil past) ∙ quit_none k t past uncut in
        rw none (same_other InputEnd refl)

  same_quit : taken ≡ length past → length (text_under k t past) ≡ length past → quit_met k rest ≡ true → text_under k t rest ≡ [] → Same On true
  same_quit taken_is uncut q e =
      let met : quit_met k (past ++ rest) ≡ true = quit_later k t past rest uncut q in
      rw met (ap (end_with bytes count matches (cause_number QuitByte)) (ap Some taken_is ∙ place_quit k t bytes past rest uncut q e))

-- # When the record is served

pub data Done (s : Session) : Type 0 where
  stopped : (s.walk.going ≡ On → ⊥) → Done s
  ended : s.walk.going ≡ On → is_open s.places.input ≡ false → s.places.end ≤ s.places.next → Done s

is_off : (g : Going) → is_on g ≡ false → g ≡ On → ⊥
is_off g e k = true≢false (sym (ap is_on k) ∙ e)

done_of : (s : Session) → remains s ≡ false → Done s
unfolding remains remains_ahead
done_of s = go (is_on s.walk.going) (is_open s.places.input) (ltb 0 (ahead_bytes s)) refl refl refl
  where
    go : (b v l : Bool) → is_on s.walk.going ≡ b → is_open s.places.input ≡ v → ltb 0 (ahead_bytes s) ≡ l → (b && (v || l)) ≡ false → Done s
    go true true l e i h k = absurd (true≢false k)
    go true false true e i h k = absurd (true≢false k)
    go true false false e i h k = ended (is_on_lem s.walk.going e) i (omega (arith, ltb-false 0 (ahead_bytes s) h))
    go false v l e i h k = stopped (is_off s.walk.going e)

pub served_done : (s : Session) → (recorded s).refusal ≡ 0 → Done s
served_done s e = go (agrees s) (remains s) refl (sym (recorded_number s) ∙ e)
  where
    go : (b v : Bool) → remains s ≡ v → ◌≡◌ {A = ℕ} (cond b (cond v 7 0) 6) 0 → Done s
    go true true e k = absurd (omega (arith, k))
    go true false e k = done_of s e
    go false v e k = absurd (omega (arith, k))

pub none_of_length : (xs : List ℕ) → length xs ≤ 0 → xs ≡ []
none_of_length [] h = refl
none_of_length (x ∷ xs) h = absurd (omega arith)

module _ (input : List ℕ) (answers : ℕ → Bool) (s : Session) (w rest : List ℕ) (count : ℕ) (given : List (List ℕ))
    (i : Inv input answers s w rest count given) where
  gone_le : s.walk.bytes ≤ length i.past
  gone_le = omega (arith, i.uncut, ap length i.text_is, length-append (flatten i.gone) (unanswered s w), i.bytes_is)

  abbrev SameAs : Going → Bool → Type 0
  SameAs =
      Same s.walk.settings.binary s.walk.settings.terminator s.walk.bytes s.walk.lines s.walk.matches (taken_bytes s) i.past rest s.places.replaced

  same_now : (n : Input) → is_open n ≡ false → InputNow s.walk.settings n rest → SameAs On (is_quit n)
  unfolding text
  same_now Open o h = absurd (true≢false o)
  same_now Ended o h =
      same_ended s.walk.settings.binary s.walk.settings.terminator s.walk.bytes s.walk.lines s.walk.matches (taken_bytes s) i.past rest s.places.replaced
      i.replaced_is gone_le i.uncut h
  same_now QuitFound o h =
      same_quit s.walk.settings.binary s.walk.settings.terminator s.walk.bytes s.walk.lines s.walk.matches (taken_bytes s) i.past rest s.places.replaced
      (taken_is input answers s w rest count given i) i.uncut h.0 h.1

  same_done : Done s → SameAs s.walk.going (is_quit s.places.input)
  same_done (stopped h) =
      same_stopped s.walk.settings.binary s.walk.settings.terminator s.walk.bytes s.walk.lines s.walk.matches (taken_bytes s) i.past rest s.places.replaced
      i.replaced_is gone_le s.walk.going (is_quit s.places.input) h
  same_done (ended g o l) = subst (λ k. SameAs k (is_quit s.places.input)) (sym g) (same_now s.places.input o i.input_now)

  pub record_same : Done s → record_of s ≡ end_record s.walk.settings input s.walk.bytes s.walk.lines s.walk.matches s.walk.going
  unfolding record_of recorded_place walk_end end_record
  record_same d =
      subst (λ (x : List ℕ). record_of s ≡ end_record s.walk.settings x s.walk.bytes s.walk.lines s.walk.matches s.walk.going) (sym i.input_is) (same_done d)

  -- the lines still to come
  abbrev pub later : List (List ℕ)
  later = lines s.walk.settings.terminator (unanswered s w ++ text s.walk.settings rest)

  abbrev before : State
  before = state s.walk.settings answers (begun s.walk.settings) i.gone

  -- at the end no line is left, or the walk has stopped
  pub nothing_left : is_open s.places.input ≡ false → s.places.end ≤ s.places.next → later ≡ []
  unfolding lines
  nothing_left o l =
      rw (
        none_of_length (unanswered s w) (omega (arith, unanswered_length s w i.agree i.window_is)),
        ended_text s.walk.settings s.places.input rest o i.input_now,
      )

  pub rows_done : Done s → rows s.walk.settings answers before later ≡ []
  unfolding rows
  rows_done (stopped h) = rows_stopped s.walk.settings answers before later (λ k. h (going_is input answers s w rest count given i ∙ k))
  rows_done (ended g o l) = ap (rows s.walk.settings answers before) (nothing_left o l)

  stays_done : Done s → state s.walk.settings answers before later ≡ before
  unfolding state
  stays_done (stopped h) = state_stopped s.walk.settings answers before later (λ k. h (going_is input answers s w rest count given i ∙ k))
  stays_done (ended g o l) = ap (state s.walk.settings answers before) (nothing_left o l)

  pub state_done : Done s → state s.walk.settings answers (begun s.walk.settings) (lines s.walk.settings.terminator (text s.walk.settings input)) ≡ before
  state_done d =
      ap (state s.walk.settings answers (begun s.walk.settings)) i.lines_are
      ∙ state_append s.walk.settings answers (begun s.walk.settings) i.gone later
      ∙ stays_done d
