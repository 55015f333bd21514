-- The invariant across an answer.
use Rattle.std.proofs.Common.{◌≡◌, ℕ, ◌+◌, ◌-◌, ◌<◌, ◌≤◌, Bool, true, false, cond, ◌⊎◌, List, [], ◌∷◌, ◌++◌, length, take, drop, sym, refl, ap, ◌∙◌, subst, ap₂, inl, inr, ⊎_elim, append_assoc, append-nil, arith, length-append, length-drop, take-append-drop, length-take, take-take}
use mathlib.Core.Bool.{false≢true}
use Rattle.std.proofs.lemmas.List.{map-append}
use mathlib.Core.List.{cons≢nil, flatten, head-eq_of_cons-eq, map, tail-eq_of_cons-eq}
use Rattle.definition.specs.declared.Fate.{Fate}
use Rattle.definition.specs.declared.Fate.TheVariants.{Match, After, Other, NoRow}
use Rattle.definition.specs.declared.Binary.{Binary}
use Rattle.definition.specs.declared.Binary.TheVariants.{Ignore, Quit, Convert}
use Rattle.definition.specs.declared.Going.TheVariants.{On}
use Rattle.definition.specs.declared.Settings.{Settings}
use Rattle.definition.specs.Definition.{bytes_of, last_of, kept_lines}
use Rattle.definition.specs.Rows.{flat}
use Rattle.definition.specs.State.{State, fate_of, next_line, begun, rows, state, state_next, step_rows, step_state, trim}
use Rattle.definition.specs.Text.{first_place, lines, part, replaced, text, text_under, up_to}
use Rattle.definition.proofs.Lists.{flatten_append}
use Rattle.definition.proofs.Kept.{rows_append, state_append, trim_step_rows, trim_step_state}
use Rattle.definition.proofs.Same.{same_lines}
use Rattle.definition.proofs.Terminator.{lines_next, lines_one, Whole, whole_append, whole_line, whole_none}
use Rattle.driver_core.specs.Answer.{back_from, gets_row, rows_since, state_since, walk_next, walk_of}
use Rattle.driver_core.proofs.Back.{back_from_bytes, back_from_last, back_from_snoc}
use Rattle.session.specs.declared.Input.{Input}
use Rattle.session.specs.declared.Input.TheVariants.{Open, Ended, QuitFound}
use Rattle.session.specs.declared.Session.{Session}
use Rattle.session.specs.Calls.{answer_rows, answer_session, places_next}
use Rattle.session.specs.Held.{is_open, kept_bytes, line_length, shown, since_lines, unanswered, waits}
use Rattle.promises.specs.Promises.{Fitted, kept_before}
use Rattle.session.specs.Sound.{Agree}
use Rattle.promises.proofs.Invariant.{Inv, InputNow, unanswered_length}
use Rattle.session.proofs.Keeps.{agree_given, line_le, waiting_length, why_waits}
use Rattle.session.proofs.Parts.{kept_le, part_drop, part_none, part_split}

-- # One line more fitted

module _ {A : Type 0} where
  snoc_cases : (P : List A → A → Type 0) (xs : List A) (z : A)
      → ((before : List A) (x : A) (later : List A) → xs ≡ before ++ (x ∷ later) → P before x) → P xs z
      → (before : List A) (x : A) (later : List A) → xs ++ (z ∷ []) ≡ before ++ (x ∷ later) → P before x
  snoc_cases P [] z h p [] x later e = subst (λ y. P [] y) (head-eq_of_cons-eq e) p
  snoc_cases P [] z h p (y ∷ []) x later e = absurd (cons≢nil (sym (tail-eq_of_cons-eq e)))
  snoc_cases P [] z h p (y ∷ (y' ∷ before)) x later e = absurd (cons≢nil (sym (tail-eq_of_cons-eq e)))
  snoc_cases P (w ∷ xs) z h p [] x later e = subst (λ y. P [] y) (head-eq_of_cons-eq e) (h [] w xs refl)
  snoc_cases P (w ∷ xs) z h p (y ∷ before) x later e =
      subst (λ v. P (v ∷ before) x) (head-eq_of_cons-eq e)
      (snoc_cases (λ b v. P (w ∷ b) v) xs z (λ b v l k. h (w ∷ b) v l (ap (λ ys. w ∷ ys) k)) p before x later (tail-eq_of_cons-eq e))

-- # The session after a step shows the state after the step

pub text_none : (c : Settings) → text c [] ≡ []
unfolding text up_to replaced
text_none c = go c.binary
  where
    go : (k : Binary) → text_under k c.terminator [] ≡ []
    go Ignore = refl
    go (Quit b) = refl
    go (Convert b) = refl

-- once the input is no longer open nothing of the text is left
pub ended_text : (c : Settings) (input : Input) (rest : List ℕ) → is_open input ≡ false → InputNow c input rest → text c rest ≡ []
ended_text c Open rest e h = absurd (false≢true (sym e))
ended_text c Ended rest e h = ap (text c) h ∙ text_none c
ended_text c QuitFound rest e h = h.1

-- the waiting line
unfoldable pub line : Session → List ℕ → List ℕ
line s w = take (line_length s w) (unanswered s w)

module _ (s : Session) (w : List ℕ) (a : Agree s) (size : length w ≡ s.places.window) (v : waits s w ≡ true) where
  pub line_length_lem : length (line s w) ≡ line_length s w
  unfolding line
  line_length_lem = omega (arith, length-take (line_length s w) (unanswered s w), line_le s w, unanswered_length s w a size)

  some_unanswered : 0 < length (unanswered s w)
  some_unanswered = omega (arith, waiting_length s w v, line_le s w, unanswered_length s w a size)

  line_part : part s.places.next (s.places.next + line_length s w) w ≡ line s w
  unfolding line unanswered
  line_part =
      let n : s.places.next + line_length s w - s.places.next ≡ line_length s w = omega arith in
      rw n (sym (take-take (line_length s w) (s.places.end - s.places.next) (drop s.places.next w) (line_le s w)))

  one_line : lines s.walk.settings.terminator (line s w) ≡ line s w ∷ []
  unfolding line line_length
  one_line = lines_one s.walk.settings.terminator (unanswered s w) some_unanswered

  -- the lines since, with this one
  since_line : Whole s.walk.settings.terminator (part s.places.floor s.places.next w)
      → lines s.walk.settings.terminator (part s.places.floor (s.places.next + line_length s w) w) ≡ since_lines s w ++ (line s w ∷ [])
  unfolding since_lines
  since_line h =
      rw (part_split s.places.floor s.places.next (s.places.next + line_length s w) w a.places.floor_next (omega arith), line_part)
      (h (line s w) ∙ ap (λ xs. lines s.walk.settings.terminator (part s.places.floor s.places.next w) ++ xs) one_line)

  since_none : back_from (s.walk.bytes + line_length s w) (s.walk.lines + 1 + 1)
      (lines s.walk.settings.terminator (part (s.places.next + line_length s w) (s.places.next + line_length s w) w)) ≡ []
  unfolding back_from lines
  since_none = rw (part_none (s.places.next + line_length s w) w)

  since_next_lem : Whole s.walk.settings.terminator (part s.places.floor s.places.next w)
      → back_from (s.walk.bytes + line_length s w) (s.walk.lines + 1 + 1) (lines s.walk.settings.terminator (part s.places.floor (s.places.next + line_length s w) w))
      ≡ back_from s.walk.bytes (s.walk.lines + 1) (since_lines s w) ++ (next_line (shown s w) (line_length s w) ∷ [])
  unfolding next_line shown state_since since_lines
  since_next_lem h =
      rw (since_line h)
      (rw line_length_lem at (back_from_snoc s.walk.bytes (s.walk.lines + 1) (since_lines s w) (line s w)))

  shown_step : (f : Fate) → Whole s.walk.settings.terminator (part s.places.floor s.places.next w)
      → shown
      (record {
        walk = walk_of s.walk.settings (state_next f s.walk.settings (shown s w) (line_length s w));
        places = places_next s.places (line_length s w) (gets_row f);
      })
      w
      ≡ state_next f s.walk.settings (shown s w) (line_length s w)
  unfolding shown state_since since_lines places_next walk_next state_next
  shown_step Match h = rw since_none
  shown_step After h = rw since_none
  shown_step Other h = rw since_none
  shown_step NoRow h = rw (since_next_lem h)

-- # The invariant

module _ (input : List ℕ) (answers : ℕ → Bool) (s : Session) (w rest : List ℕ) (count : ℕ) (given : List (List ℕ))
    (i : Inv input answers s w rest count given) where
  pub going_is : s.walk.going ≡ (state s.walk.settings answers (begun s.walk.settings) i.gone).going
  unfolding trim shown state_since since_lines
  going_is = ap (λ (t : State). t.going) i.state_is

  pub lines_is : s.walk.lines ≡ (state s.walk.settings answers (begun s.walk.settings) i.gone).lines
  unfolding trim shown state_since since_lines
  lines_is = ap (λ (t : State). t.lines) i.state_is

  -- the kept bytes are those of the definition's state
  pub kept_before_lem : kept_before s.walk.settings answers i.gone ≡ kept_bytes s w
  unfolding kept_before kept_bytes trim shown state_since since_lines
  kept_before_lem =
      ap bytes_of (same_lines s.walk.settings answers i.gone).2
      ∙ ap (λ (t : State). bytes_of t.since) (sym i.state_is)
      ∙ ap bytes_of (back_from_last (kept_lines s.walk.settings) s.walk.bytes (s.walk.lines + 1) (since_lines s w))
      ∙ back_from_bytes s.walk.bytes (s.walk.lines + 1) (last_of (kept_lines s.walk.settings) (since_lines s w))

  module _ (v : waits s w ≡ true) where
    waits_for : (first_place s.walk.settings.terminator (unanswered s w) < length (unanswered s w))
        ⊎ ((0 < length (unanswered s w)) × (text s.walk.settings rest ≡ []))
    waits_for = ⊎_elim (λ h. inl h) (λ h. inr (h.1, ended_text s.walk.settings s.places.input rest h.0 i.input_now)) (why_waits s w v).1

    -- the waiting line is the definition's next line
    pub lines_now : lines s.walk.settings.terminator (unanswered s w ++ text s.walk.settings rest)
        ≡ line s w
        ∷ lines s.walk.settings.terminator (drop (line_length s w) (unanswered s w) ++ text s.walk.settings rest)
    unfolding line line_length
    lines_now = lines_next s.walk.settings.terminator (unanswered s w) (text s.walk.settings rest) waits_for

    on_now : (state s.walk.settings answers (begun s.walk.settings) i.gone).going ≡ On
    on_now = sym going_is ∙ (why_waits s w v).0

    number_now : (state s.walk.settings answers (begun s.walk.settings) i.gone).lines ≡ count
    number_now = omega (arith, lines_is, i.lines_is, i.count_is)

    state_now : state s.walk.settings answers (begun s.walk.settings) (i.gone ++ (line s w ∷ []))
        ≡ step_state On s.walk.settings (state s.walk.settings answers (begun s.walk.settings) i.gone) (line_length s w) (answers (count + 1))
    unfolding state
    state_now =
        let c = s.walk.settings in
        let b = state c answers (begun c) i.gone in
        state_append c answers (begun c) i.gone (line s w ∷ [])
        ∙ ap (λ k. step_state k c b (length (line s w)) (answers (b.lines + 1))) on_now
        ∙ ap₂ (λ n m. step_state On c b n (answers (m + 1))) (line_length_lem s w i.agree i.window_is v) number_now

    -- the rows that the definition's next step gives are those of the answer
    pub rows_step :
        let c = s.walk.settings in
        let b = state c answers (begun c) i.gone in
        step_rows b.going c b (length (line s w)) (answers (b.lines + 1)) ≡ answer_rows s w (answers (count + 1))
    unfolding answer_rows rows_since shown
    rows_step =
        let c = s.walk.settings in
        let b = state c answers (begun c) i.gone in
        let hit = answers (count + 1) in
        let len = line_length s w in
        ap (λ k. step_rows k c b (length (line s w)) (answers (b.lines + 1))) on_now
        ∙ ap₂ (λ n m. step_rows On c b n (answers (m + 1))) (line_length_lem s w i.agree i.window_is v) number_now
        ∙ sym (trim_step_rows On c b len hit)
        ∙ ap (λ (t : State). step_rows On c t len hit) (sym i.state_is)
        ∙ trim_step_rows On c (shown s w) len hit

    rows_now : map flat (rows s.walk.settings answers (begun s.walk.settings) (i.gone ++ (line s w ∷ [])))
        ≡ given ++ map flat (answer_rows s w (answers (count + 1)))
    unfolding rows
    rows_now =
        let c = s.walk.settings in
        let b = state c answers (begun c) i.gone in
        ap (map flat) (rows_append c answers (begun c) i.gone (line s w ∷ []))
        ∙ map-append flat (rows c answers (begun c) i.gone) _
        ∙ ap₂ (λ (xs ys : List (List ℕ)). xs ++ ys) (sym i.rows_are)
        (ap (map flat) (append-nil (step_rows b.going c b (length (line s w)) (answers (b.lines + 1))) ∙ rows_step))

    shown_now : trim s.walk.settings (shown (answer_session s w (answers (count + 1))) w)
        ≡ trim s.walk.settings (state s.walk.settings answers (begun s.walk.settings) (i.gone ++ (line s w ∷ [])))
    unfolding answer_session walk_next shown
    shown_now =
        let c = s.walk.settings in
        let b = state c answers (begun c) i.gone in
        let hit = answers (count + 1) in
        let len = line_length s w in
        let whole = i.whole (omega (arith, length-append (unanswered s w) (text c rest), some_unanswered s w i.agree i.window_is v)) in
        ap (trim c) (shown_step s w i.agree i.window_is v (fate_of c (shown s w) hit) whole)
        ∙ sym (trim_step_state On c (shown s w) len hit)
        ∙ ap (λ (t : State). trim c (step_state On c t len hit)) i.state_is
        ∙ trim_step_state On c b len hit
        ∙ ap (trim c) (sym state_now)

    unanswered_now : unanswered (answer_session s w (answers (count + 1))) w ≡ drop (line_length s w) (unanswered s w)
    unfolding unanswered answer_session places_next walk_next
    unanswered_now = sym (part_drop s.places.next s.places.end (line_length s w) w)

    -- what lies before the next line falls into whole lines, if there is a next line
    whole_now : (row : Bool) → 0 < length (drop (line_length s w) (unanswered s w) ++ text s.walk.settings rest)
        → Whole s.walk.settings.terminator (part (cond row (s.places.next + line_length s w) s.places.floor) (s.places.next + line_length s w) w)
    unfolding line line_length
    whole_now true h = rw (part_none (s.places.next + line_length s w) w) (whole_none s.walk.settings.terminator)
    whole_now false h =
        let t = s.walk.settings.terminator in
        let u = unanswered s w in
        let size = length-append (drop (line_length s w) u) (text s.walk.settings rest) in
        let ends : first_place t u < length u =
        ⊎_elim (λ k. k)
        (λ k. omega (arith, h, size, ap length k.1, length-drop (line_length s w) u))
        waits_for
        in
        let old = i.whole (omega (arith, length-append u (text s.walk.settings rest))) in
        rw (
          part_split s.places.floor s.places.next (s.places.next + line_length s w) w i.agree.places.floor_next (omega arith),
          line_part s w i.agree i.window_is v,
        )
        (whole_append t (part s.places.floor s.places.next w) (line s w) old (whole_line t u ends))

    fitted_now : Fitted s.walk.settings answers s.places.window (i.gone ++ (line s w ∷ []))
    fitted_now =
        snoc_cases (λ b x. kept_before s.walk.settings answers b + length x ≤ s.places.window) i.gone (line s w) i.fitted
        (omega (arith, kept_before_lem, line_length_lem s w i.agree i.window_is v, kept_le s w, line_le s w, i.agree))

    text_now : text s.walk.settings i.past
        ≡ flatten (i.gone ++ (line s w ∷ [])) ++ unanswered (answer_session s w (answers (count + 1))) w
    unfolding line flatten
    text_now =
        let u = unanswered s w in
        let len = line_length s w in
        let l = line s w in
        i.text_is
        ∙ ap (λ xs. flatten i.gone ++ xs) (sym (take-append-drop len u))
        ∙ sym (append_assoc (flatten i.gone) l (drop len u))
        ∙ ap₂ (λ (xs ys : List ℕ). (flatten i.gone ++ xs) ++ ys) (sym (append-nil l)) (sym unanswered_now)
        ∙ ap (λ xs. xs ++ unanswered (answer_session s w (answers (count + 1))) w) (sym (flatten_append i.gone (l ∷ [])))

    bytes_now : s.walk.bytes + line_length s w ≡ length (flatten (i.gone ++ (line s w ∷ [])))
    unfolding flatten
    bytes_now =
        omega (
          arith,
          i.bytes_is,
          ap length (flatten_append i.gone (line s w ∷ [])),
          length-append (flatten i.gone) (line s w ++ []),
          length-append (line s w) [],
          line_length_lem s w i.agree i.window_is v,
        )

    lines_are_now : lines s.walk.settings.terminator (text s.walk.settings input)
        ≡ (i.gone ++ (line s w ∷ []))
        ++ lines s.walk.settings.terminator (unanswered (answer_session s w (answers (count + 1))) w ++ text s.walk.settings rest)
    lines_are_now =
        rw unanswered_now
        (i.lines_are
        ∙ ap (λ xs. i.gone ++ xs) lines_now
        ∙ sym (append_assoc i.gone (line s w ∷ []) (lines s.walk.settings.terminator (drop (line_length s w) (unanswered s w) ++ text s.walk.settings rest))))

    pub inv_given : Inv input answers (answer_session s w (answers (count + 1))) w rest (count + 1) (given ++ map flat (answer_rows s w (answers (count + 1))))
    unfolding answer_session places_next walk_next state_next shown state_since since_lines
    inv_given =
        record {
          past = i.past;
          gone = i.gone ++ (line s w ∷ []);
          agree = agree_given s w (answers (count + 1)) i.agree v;
          window_is = i.window_is;
          input_is = i.input_is;
          uncut = i.uncut;
          text_is = text_now;
          bytes_is = bytes_now;
          lines_is = omega (arith, i.lines_is, length-append i.gone (line s w ∷ []));
          count_is = omega (arith, i.count_is, length-append i.gone (line s w ∷ []));
          state_is = shown_now;
          rows_are = sym rows_now;
          lines_are = lines_are_now;
          whole = λ h. whole_now (gets_row (fate_of s.walk.settings (shown s w) (answers (count + 1)))) (rw unanswered_now at h);
          fitted = fitted_now;
          replaced_is = i.replaced_is;
          input_now = i.input_now;
        }
