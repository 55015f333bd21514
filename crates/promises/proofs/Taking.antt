-- The invariant across an offer that takes bytes.
use Rattle.std.specs.Prelude.{Some, None}
use Rattle.std.proofs.Common.{◌≡◌, ℕ, ◌+◌, ◌-◌, ◌<◌, ◌≤◌, Bool, true, false, cond, not, ◌&&◌, eqb, ltb, List, [], ◌++◌, length, take, drop, sym, refl, ap, ◌∙◌, ap₂, append_assoc, arith, length-append, length-drop, take-append-drop, length-take, take-take, take_at, drop_at, ltb-true, le-ltb, lt-ltb, eqb-true}
use mathlib.Core.Bool.{and-eq-true_iff}
use mathlib.Core.List.{flatten}
use native.Mathlib.Decide.{dec_lt}
use Rattle.definition.specs.declared.Binary.{Binary}
use Rattle.definition.specs.declared.Binary.TheVariants.{Ignore, Quit, Convert}
use Rattle.definition.specs.Definition.{last_of, quit_met, kept_lines}
use Rattle.definition.specs.State.{trim}
use Rattle.definition.specs.Text.{first_place, lines, part, text, text_under, up_to}
use Rattle.definition.proofs.Lists.{last_of_last_of}
use Rattle.definition.proofs.Terminator.{first_append, first_append_none, lines_drop, Whole, whole_drop}
use Rattle.definition.proofs.Uncut.{Uncut, length_replaced, text_append, uncut_append, up_to_drop, up_to_take}
use Rattle.driver_core.specs.Answer.{back_from, state_since}
use Rattle.driver_core.proofs.Back.{back_from_last}
use Rattle.session.specs.declared.Input.TheVariants.{Open, QuitFound}
use Rattle.session.specs.declared.Session.{Session}
use Rattle.session.specs.Calls.{before_quit, first_of, offered, offering, offer_answer, offer_result, quit_place, replaced_in, stored, stored_window, Idle, OfferDecision, OfferRefused, Take}
use Rattle.session.specs.Held.{kept_from, shown, since_lines, unanswered}
use Rattle.session.specs.Sound.{Agree}
use Rattle.promises.proofs.Invariant.{Inv, InputNow, taken_is, unanswered_length}
use Rattle.session.proofs.Keeps.{Room, TakenIf, agree_stored, offer_taken}
use Rattle.session.proofs.Parts.{kept_part_lem, part_length, part_split, quit_le}

-- # Bytes before a Quit byte

-- no more is taken than was offered
pub taken_le : (s : Session) (w piece : List ℕ) → (offered s w piece).taken ≤ length piece
unfolding offer_result offered before_quit
taken_le s w piece = go (offering s w piece) (offer_taken s w piece)
  where
    go : (o : OfferDecision) → TakenIf s w piece o → (offer_answer o s w piece).taken ≤ length piece
    go (OfferRefused k) t = omega arith
    go Idle t = omega arith
    go (Take n quit) t = omega (arith, quit_le s.walk.settings.binary piece, t.room.quit)

under_uncut : (k : Binary) (t n : ℕ) (piece : List ℕ) → n ≤ quit_place k piece → length (text_under k t (take n piece)) ≡ length (take n piece)
under_uncut Ignore t n piece h = refl
under_uncut (Quit b) t n piece h = ap length (up_to_take b n piece h)
under_uncut (Convert b) t n piece h = length_replaced b t (take n piece)

pub take_uncut : (s : Session) (n : ℕ) (piece : List ℕ) → n ≤ before_quit s piece → Uncut s.walk.settings (take n piece)
unfolding text before_quit
take_uncut s n piece h = under_uncut s.walk.settings.binary s.walk.settings.terminator n piece h

-- a Quit byte next after the bytes taken of a beginning of the rest
quit_next : (k : Binary) (t n m : ℕ) (rest : List ℕ) → n ≡ quit_place k (take m rest) → n < length (take m rest)
    → (quit_met k (drop n rest) ≡ true) × (text_under k t (drop n rest) ≡ [])
unfolding first_place
quit_next Ignore t n m rest e h = absurd (omega arith)
quit_next (Quit b) t n m rest e h =
    let piece = take m rest in
    let first : first_place b rest ≡ n =
    ap (first_place b) (sym (take-append-drop m rest)) ∙ first_append b piece (drop m rest) (omega arith) ∙ sym e
    in
    let cut : up_to b (drop n rest) ≡ [] = rw first at (up_to_drop b rest) in
    (lt-ltb (length (up_to b (drop n rest))) (length (drop n rest)) (omega (arith, ap length cut, length-drop n rest, length-take m rest)), cut)
quit_next (Convert b) t n m rest e h = absurd (omega arith)

-- # The first replaced byte

shift : (a p n : ℕ) → ltb p n ≡ ltb (a + p) (a + n)
shift a p n = elim (dec_lt p n) [
  | yes h ↦ lt-ltb p n h ∙ sym (lt-ltb (a + p) (a + n) (omega arith))
  | no h ↦ le-ltb p n (omega arith) ∙ sym (le-ltb (a + p) (a + n) (omega arith))
]

replaced_append : (k : Binary) (t : ℕ) (xs ys : List ℕ)
    → first_of (replaced_in k t 0 xs) (replaced_in k t (length xs) ys) ≡ replaced_in k t 0 (xs ++ ys)
replaced_append Ignore t xs ys = refl
replaced_append (Quit b) t xs ys = refl
replaced_append (Convert b) t xs ys = go (eqb b t)
  where
    go : (same : Bool)
        → first_of (cond (not same && ltb (first_place b xs) (length xs)) (Some (0 + first_place b xs)) None)
        (cond (not same && ltb (first_place b ys) (length ys)) (Some (length xs + first_place b ys)) None)
        ≡ cond (not same && ltb (first_place b (xs ++ ys)) (length (xs ++ ys))) (Some (0 + first_place b (xs ++ ys))) None
    go true = refl
    go false = elim (dec_lt (first_place b xs) (length xs)) [
      | yes h ↦
          rw (
            first_append b xs ys h,
            lt-ltb (first_place b xs) (length xs) h,
            lt-ltb (first_place b xs) (length (xs ++ ys)) (omega (arith, length-append xs ys)),
          )
      | no h ↦
          let z : 0 + (length xs + first_place b ys) ≡ length xs + first_place b ys = omega arith in
          rw (first_append_none b xs ys (omega arith), le-ltb (first_place b xs) (length xs) (omega arith), z, length-append xs ys)
          (ap (λ v. cond v (Some (length xs + first_place b ys)) None) (shift (length xs) (first_place b ys) (length ys)))
    ]

-- # The window after taking

module _ (s : Session) (w piece : List ℕ) (n : ℕ) (a : Agree s) (r : Room s w piece n) (size : length w ≡ s.places.window) where
  new_length : length (text s.walk.settings (take n piece)) ≡ n
  unfolding before_quit
  new_length = take_uncut s n piece r.quit ∙ omega (arith, length-take n piece, quit_le s.walk.settings.binary piece, r.quit)

  from_le : kept_from s w ≤ s.places.next
  unfolding kept_from
  from_le = omega arith

  window_parts : stored_window s w piece n
      ≡ part (kept_from s w) s.places.next w ++ (unanswered s w ++ (text s.walk.settings (take n piece) ++ drop (s.places.end - kept_from s w + n) w))
  unfolding stored_window unanswered
  window_parts =
      rw (part_split (kept_from s w) s.places.next s.places.end w from_le a.places.next_end)
      (append_assoc (part (kept_from s w) s.places.next w) (part s.places.next s.places.end w) _)

  kept_length : length (part (kept_from s w) s.places.next w) ≡ s.places.next - kept_from s w
  kept_length = part_length (kept_from s w) s.places.next w from_le (omega (arith, a, size))

  stored_kept : part 0 (s.places.next - kept_from s w) (stored_window s w piece n) ≡ part (kept_from s w) s.places.next w
  stored_kept =
      let z : s.places.next - kept_from s w - 0 ≡ s.places.next - kept_from s w = omega arith in
      rw (z, window_parts) (take_at (part (kept_from s w) s.places.next w) _ (s.places.next - kept_from s w) kept_length)

  stored_part : part (s.places.next - kept_from s w) (s.places.end - kept_from s w + n) (stored_window s w piece n)
      ≡ unanswered s w ++ text s.walk.settings (take n piece)
  stored_part =
      let kept = part (kept_from s w) s.places.next w in
      let old = unanswered s w in
      let new = text s.walk.settings (take n piece) in
      let tail = drop (s.places.end - kept_from s w + n) w in
      let m : s.places.end - kept_from s w + n - (s.places.next - kept_from s w) ≡ length (old ++ new) =
      omega (arith, from_le, a.places.next_end, length-append old new, unanswered_length s w a size, new_length)
      in
      rw (window_parts, drop_at kept (old ++ (new ++ tail)) (s.places.next - kept_from s w) kept_length, m)
      (ap (λ xs. take (length (old ++ new)) xs) (sym (append_assoc old new tail)) ∙ take_at (old ++ new) tail (length (old ++ new)) refl)

  pub stored_unanswered : (quit : Bool) → unanswered (stored s w piece n quit) (stored_window s w piece n) ≡ unanswered s w ++ text s.walk.settings (take n piece)
  unfolding stored unanswered
  stored_unanswered quit = stored_part

  pub stored_length : length (stored_window s w piece n) ≡ length w
  unfolding kept_from
  stored_length =
      let kept = part (kept_from s w) s.places.next w in
      let old = unanswered s w in
      let new = text s.walk.settings (take n piece) in
      let tail = drop (s.places.end - kept_from s w + n) w in
      ap length window_parts
      ∙ omega (
        arith,
        length-append kept (old ++ (new ++ tail)),
        length-append old (new ++ tail),
        length-append new tail,
        kept_length,
        unanswered_length s w a size,
        new_length,
        length-drop (s.places.end - kept_from s w + n) w,
        r,
        a,
        size,
      )

  -- what lies beyond the new held end stays
  pub stored_beyond : drop (s.places.end - kept_from s w + n) (stored_window s w piece n) ≡ drop (s.places.end - kept_from s w + n) w
  unfolding stored_window
  stored_beyond =
      let held = part (kept_from s w) s.places.end w in
      let new = text s.walk.settings (take n piece) in
      let tail = drop (s.places.end - kept_from s w + n) w in
      let long : length (held ++ new) ≡ s.places.end - kept_from s w + n =
      omega (arith, length-append held new, new_length, part_length (kept_from s w) s.places.end w (omega (arith, from_le, a)) (omega (arith, a, size)))
      in
      ap (drop (s.places.end - kept_from s w + n)) (sym (append_assoc held new tail)) ∙ drop_at (held ++ new) tail (s.places.end - kept_from s w + n) long

  -- the lines since the last row are the kept ones
  stored_since : (quit : Bool) → since_lines (stored s w piece n quit) (stored_window s w piece n) ≡ last_of (kept_lines s.walk.settings) (since_lines s w)
  unfolding since_lines stored last_of
  stored_since quit =
      rw (stored_kept, kept_part_lem s w a.places.floor_next (omega (arith, a, size)))
      (lines_drop (length (since_lines s w) - kept_lines s.walk.settings) s.walk.settings.terminator (part s.places.floor s.places.next w))

  pub stored_shown : (quit : Bool) → trim s.walk.settings (shown (stored s w piece n quit) (stored_window s w piece n)) ≡ trim s.walk.settings (shown s w)
  unfolding shown state_since since_lines trim stored
  stored_shown quit =
      let k = kept_lines s.walk.settings in
      let ls = since_lines s w in
      let since : last_of k (back_from s.walk.bytes (s.walk.lines + 1) (last_of k ls)) ≡ last_of k (back_from s.walk.bytes (s.walk.lines + 1) ls) =
      back_from_last k s.walk.bytes (s.walk.lines + 1) (last_of k ls)
      ∙ ap (λ xs. back_from s.walk.bytes (s.walk.lines + 1) xs) (last_of_last_of k k ls (omega arith))
      ∙ sym (back_from_last k s.walk.bytes (s.walk.lines + 1) ls)
      in
      rw (stored_since quit, since)

  pub stored_whole : Whole s.walk.settings.terminator (part s.places.floor s.places.next w)
      → Whole s.walk.settings.terminator (part 0 (s.places.next - kept_from s w) (stored_window s w piece n))
  unfolding last_of since_lines
  stored_whole h =
      rw (stored_kept, kept_part_lem s w a.places.floor_next (omega (arith, a, size)))
      (whole_drop (length (since_lines s w) - kept_lines s.walk.settings) s.walk.settings.terminator (part s.places.floor s.places.next w) h)

-- # The invariant

-- the rest of the input, cut after the bytes taken
pub rest_text : (s : Session) (n k : ℕ) (rest : List ℕ) → n ≤ before_quit s (take k rest)
    → (take n (take k rest) ++ drop n rest ≡ rest) × (text s.walk.settings (take n (take k rest)) ++ text s.walk.settings (drop n rest) ≡ text s.walk.settings rest)
unfolding before_quit
rest_text s n k rest h =
    let le : n ≤ k = omega (arith, h, quit_le s.walk.settings.binary (take k rest), length-take k rest) in
    let whole : take n (take k rest) ++ drop n rest ≡ rest = rw (take-take n k rest le) (take-append-drop n rest) in
    (whole, sym (text_append s.walk.settings (take n (take k rest)) (drop n rest) (take_uncut s n (take k rest) h)) ∙ ap (text s.walk.settings) whole)

-- how the input stands afterwards
input_after : (s : Session) (n k : ℕ) (rest : List ℕ) (quit : Bool)
    → (eqb n (before_quit s (take k rest)) && ltb n (length (take k rest))) ≡ quit → InputNow s.walk.settings (cond quit QuitFound Open) (drop n rest)
unfolding before_quit text
input_after s n k rest true e =
    let piece = take k rest in
    let both = (and-eq-true_iff (eqb n (quit_place s.walk.settings.binary piece)) (ltb n (length piece))).0 e in
    quit_next s.walk.settings.binary s.walk.settings.terminator n k rest (eqb-true n (quit_place s.walk.settings.binary piece) both.0) (ltb-true n (length piece) both.1)
input_after s n k rest false e = tt

pub inv_taken : (input : List ℕ) (answers : ℕ → Bool) (s : Session) (w rest : List ℕ) (count : ℕ) (given : List (List ℕ)) (k n : ℕ) (quit : Bool)
    → Inv input answers s w rest count given → Room s w (take k rest) n
    → (eqb n (before_quit s (take k rest)) && ltb n (length (take k rest))) ≡ quit
    → Inv input answers (stored s w (take k rest) n quit) (stored_window s w (take k rest) n) (drop n rest) count given
unfolding stored
inv_taken input answers s w rest count given k n quit i r e =
    let c = s.walk.settings in
    let piece = take k rest in
    let new = text c (take n piece) in
    let old = unanswered s w in
    let cut = rest_text s n k rest r.quit in
    let now = stored_unanswered s w piece n i.agree r i.window_is quit in
    let joined : unanswered (stored s w piece n quit) (stored_window s w piece n) ++ text c (drop n rest) ≡ old ++ text c rest =
    ap (λ xs. xs ++ text c (drop n rest)) now ∙ append_assoc old new (text c (drop n rest)) ∙ ap (λ xs. old ++ xs) cut.1
    in
    let taken = taken_is input answers s w rest count given i in
    record {
      past = i.past ++ take n piece;
      gone = i.gone;
      agree = agree_stored s w piece n quit i.agree r;
      window_is = stored_length s w piece n i.agree r i.window_is ∙ i.window_is;
      input_is = i.input_is ∙ ap (λ xs. i.past ++ xs) (sym cut.0) ∙ sym (append_assoc i.past (take n piece) (drop n rest));
      uncut = uncut_append c i.past (take n piece) i.uncut (take_uncut s n piece r.quit);
      text_is = text_append c i.past (take n piece) i.uncut ∙ ap (λ xs. xs ++ new) i.text_is ∙ append_assoc (flatten i.gone) old new ∙ ap (λ xs. flatten i.gone ++ xs) (sym now);
      bytes_is = i.bytes_is;
      lines_is = i.lines_is;
      count_is = i.count_is;
      state_is = stored_shown s w piece n i.agree r i.window_is quit ∙ i.state_is;
      rows_are = i.rows_are;
      lines_are = i.lines_are ∙ ap (λ xs. i.gone ++ lines c.terminator xs) (sym joined);
      whole = λ h. stored_whole s w piece n i.agree r i.window_is (i.whole (rw joined at h));
      fitted = i.fitted;
      replaced_is =
          ap₂ (λ p m. first_of p (replaced_in c.binary c.terminator m (take n piece))) i.replaced_is taken
          ∙ replaced_append c.binary c.terminator i.past (take n piece);
      input_now = input_after s n k rest quit e;
    }
