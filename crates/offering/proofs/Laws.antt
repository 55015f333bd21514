-- Laws of offering: the decision of each path, and what is stored.
use Rattle.driver_core.specs.Walk.{line_ahead, waits_ahead}
use Rattle.driver_core.specs.declared.Walk.{Walk}
use Rattle.definition.specs.declared.Refusal.{Refusal}
use Rattle.std.specs.Prelude.{Result, Option, Some, None, Ok, Err, is_some}
use Rattle.std.proofs.Common.{◌≡◌, ℕ, ◌-◌, ◌<◌, ◌≤◌, min, Bool, true, false, not, ◌&&◌, eqb, ltb, ◌≢◌, ◌⊎◌, List, length, take, sym, refl, ap, ◌∙◌, subst, inl, inr, arith, length-take-le, ne_eqb, eqb-true, cond, true≢false}
use mathlib.Core.Bool.{and-eq-true_iff, false≢true}
use native.Mathlib.Decide.{dec_le, dec_lt}
use borrow.Author.Tests.{eqb-false, not-true}
use Rattle.definition.specs.declared.Refusal.TheVariants.{SizeTaken, WindowFull}
use Rattle.definition.specs.declared.Binary.{Binary}
use Rattle.definition.specs.declared.Binary.TheVariants.{Ignore, Quit, Convert}
use Rattle.definition.specs.Bounds.{max_input}
use Rattle.definition.specs.Text.{put_at, text, text_under, first_length}
use Rattle.definition.proofs.Uncut.{length_replaced, up_to_take}
use Rattle.line_buffer.specs.Buffer.{converted, rolled}
use Rattle.line_buffer.proofs.Laws.{roll_take_in}
use Rattle.session.specs.declared.Session.{Session}
use Rattle.session.specs.Calls.{Idle, OfferDecision, OfferRefused, Take, before_quit, fitting, idle, offering, quit_front, quit_place, stored_window, taking}
use Rattle.session.specs.Held.{held_bytes, kept_from, waits}
use Rattle.session.specs.Sound.{sound, taken_bytes}
use Rattle.session.proofs.Cases.{OfferCase, full, offer_is, quits, sized, takes}
use Rattle.session.proofs.Keeps.{Taken, TakenIf, offer_taken}
use Rattle.session.proofs.Parts.{quit_le}
use Rattle.held.proofs.Laws.{held_from, sound_of}
use Rattle.reaching.specs.declared.Reach.{Reach}
use Rattle.reaching.specs.Reached.{reached}
use Rattle.offering.specs.declared.Plan.{Plan}
use Rattle.offering.specs.Plan.{Storing, Sounded, plan_of, planned}

-- # The decision of each path

pub planned_is : (s : Session) (w piece : List ℕ) (o : OfferDecision) → OfferCase s w piece o → plan_of o (kept_from s w) ≡ planned s w piece
unfolding planned
planned_is s w piece o h = ap (λ p. plan_of p (kept_from s w)) (sym (offer_is s w piece o h))

pub and-false : (b : Bool) → (b && false) ≡ false
and-false true = refl
and-false false = refl

and_true : (b : Bool) → (b && true) ≡ b
and_true true = refl
and_true false = refl

-- nothing can be taken, and a Quit byte comes next: it stands at the front
front : (q room len : ℕ) → (eqb (min q room) q && ltb (min q room) len && eqb (min q room) 0) ≡ (eqb q 0 && ltb 0 len)
front q room len = elim (dec_le q 0) [
  | yes k ↦
      let none : q ≡ 0 = omega arith in
      let least : min q room ≡ 0 = omega arith in
      rw (least, none) (and_true (ltb 0 len))
  | no k ↦ some (omega arith)
]
  where
    some : 0 < q → (eqb (min q room) q && ltb (min q room) len && eqb (min q room) 0) ≡ (eqb q 0 && ltb 0 len)
    some k = elim (dec_le room 0) [
      | yes j ↦
          let least : min q room ≡ 0 = omega arith in
          rw (least, ne_eqb 0 q (λ z. omega arith), ne_eqb q 0 (λ z. omega arith))
      | no j ↦
          rw (ne_eqb (min q room) 0 (λ z. omega arith), ne_eqb q 0 (λ z. omega arith))
          (and-false (eqb (min q room) q && ltb (min q room) len))
    ]

some : {n : ℕ} → n ≢ 0 → 0 < n
some {n} h = elim (dec_lt 0 n) [ yes k ↦ k | no k ↦ absurd (h (omega arith)) ]

-- where no line is ahead none waits
pub none_ahead : (k : Walk) (more : Bool) (ahead : List ℕ) (none : Bool) → is_some (line_ahead k more ahead) ≡ not none
    → none ≡ (not (waits_ahead k more ahead) && true)
unfolding line_ahead
none_ahead k more ahead none = go (waits_ahead k more ahead) none
  where
    go : (b n : Bool) → is_some (cond b (Some (first_length k.settings.terminator ahead)) None) ≡ not n → n ≡ (not b && true)
    go true true e = absurd (true≢false e)
    go true false e = refl
    go false true e = refl
    go false false e = absurd (true≢false (sym e))

abbrev pub refuses : Refusal → Result (Option Plan) Refusal
refuses k = Err k

abbrev pub nothing : Result (Option Plan) Refusal
nothing = Ok None

abbrev pub stores : ℕ → ℕ → Bool → Result (Option Plan) Refusal
stores from n quit = Ok (Some (record { from = from; taken = n; quit = quit }))

module _ (s : Session) (w piece : List ℕ) (from : ℕ) (so : Sounded s w from) (i : idle s piece ≡ false) where
  -- room in the window behind the held part, and in the size
  abbrev free : ℕ
  free = s.places.window - (s.places.end - from)

  abbrev left : ℕ
  left = max_input - taken_bytes s

  abbrev reach : Reach
  reach = reached s.walk.settings.binary piece (min free left)

  sounds : sound s (length w) ≡ true
  sounds = sound_of s (length w) so.agree so.same

  free_is : free ≡ s.places.window - held_bytes s w
  free_is = ap (λ k. s.places.window - (s.places.end - k)) so.from_is ∙ ap (λ k. s.places.window - k) (held_from s w so.agree.places.next_end)

  front_is : (reach.quit && eqb reach.taken 0) ≡ quit_front s piece
  unfolding reached quit_front before_quit
  front_is = front (quit_place s.walk.settings.binary piece) (min free left) (length piece)

  taking_is : taking s w piece ≡ Take reach.taken reach.quit
  unfolding taking fitting before_quit reached
  taking_is = rw free_is

  planned_from : (o : OfferDecision) → OfferCase s w piece o → plan_of o from ≡ planned s w piece
  planned_from o h = ap (plan_of o) so.from_is ∙ planned_is s w piece o h

  pub path_front : (reach.quit && eqb reach.taken 0) ≡ true → stores from 0 true ≡ planned s w piece
  path_front h =
      let both = (and-eq-true_iff reach.quit (eqb reach.taken 0)).0 h in
      let none : reach.taken ≡ 0 = eqb-true reach.taken 0 both.1 in
      rw (taking_is, none, both.0) at (planned_from (taking s w piece) (quits sounds i (sym front_is ∙ h)))

  pub path_size : (reach.quit && eqb reach.taken 0) ≡ false → left ≡ 0 → refuses SizeTaken ≡ planned s w piece
  path_size h k = planned_from (OfferRefused SizeTaken) (sized (sounds, i, sym front_is ∙ h) (omega arith))

  pub path_stuck : (reach.quit && eqb reach.taken 0) ≡ false → left ≢ 0 → (not (waits s w) && eqb free 0) ≡ true → refuses WindowFull ≡ planned s w piece
  path_stuck h k j =
      let both = (and-eq-true_iff (not (waits s w)) (eqb free 0)).0 j in
      planned_from (OfferRefused WindowFull)
      (full (sounds, i, sym front_is ∙ h) (omega (arith, some k)) (not-true (waits s w) both.0) (omega (arith, free_is, eqb-true free 0 both.1)))

  pub path_take : (reach.quit && eqb reach.taken 0) ≡ false → left ≢ 0 → (not (waits s w) && eqb free 0) ≡ false
      → stores from reach.taken reach.quit ≡ planned s w piece
  path_take h k j =
      rw taking_is at (planned_from (taking s w piece) (takes (sounds, i, sym front_is ∙ h) (omega (arith, some k)) (room (waits s w) (eqb free 0) refl refl j)))
    where
      room : (b f : Bool) → waits s w ≡ b → eqb free 0 ≡ f → (not b && f) ≡ false → (waits s w ≡ true) ⊎ (held_bytes s w < s.places.window)
      room true f v z j = inl v
      room false true v z j = absurd (false≢true (sym j))
      room false false v z j = inr (omega (arith, free_is, some (eqb-false free 0 z)))

-- # What is stored

plan_store : (o : OfferDecision) (from : ℕ) (p : Plan) → Ok (Some p) ≡ plan_of o from → (o ≡ Take p.taken p.quit) × (p.from ≡ from)
plan_store (OfferRefused k) from p h = absurd cc
plan_store Idle from p h = absurd cc
plan_store (Take m q) from p h = (cc, cc)

plan_refuse : (o : OfferDecision) (from : ℕ) (k : Refusal) → refuses k ≡ plan_of o from → o ≡ OfferRefused k
plan_refuse (OfferRefused m) from k h = cc
plan_refuse Idle from k h = absurd cc
plan_refuse (Take m q) from k h = absurd cc

plan_nothing : (o : OfferDecision) (from : ℕ) → nothing ≡ plan_of o from → o ≡ Idle
plan_nothing (OfferRefused m) from h = absurd cc
plan_nothing Idle from h = refl
plan_nothing (Take m q) from h = absurd cc

module _ (s : Session) (w piece : List ℕ) where
  pub refused_is : (k : Refusal) → refuses k ≡ planned s w piece → offering s w piece ≡ OfferRefused k
  unfolding planned
  refused_is k h = plan_refuse (offering s w piece) (kept_from s w) k h

  pub nothing_is : nothing ≡ planned s w piece → offering s w piece ≡ Idle
  unfolding planned
  nothing_is h = plan_nothing (offering s w piece) (kept_from s w) h

  pub store_is : (p : Plan) → Ok (Some p) ≡ planned s w piece → (offering s w piece ≡ Take p.taken p.quit) × (p.from ≡ kept_from s w)
  unfolding planned
  store_is p h = plan_store (offering s w piece) (kept_from s w) p h

  -- what the decision to take says of the places
  pub storing_of : (p : Plan) → Ok (Some p) ≡ planned s w piece → Storing s w piece p.from p.taken
  unfolding before_quit held_bytes
  storing_of p h =
      let is = store_is p h in
      let taken : Taken s w piece p.taken p.quit = subst (λ o. TakenIf s w piece o) is.0 (offer_taken s w piece) in
      let room = taken.room in
      let held = held_from s w taken.agree.places.next_end in
      record {
        sounded = record { agree = taken.agree; same = taken.size; from_is = is.1 };
        fits = rw (is.1, held) room.window;
        some = omega (arith, room.quit, quit_le s.walk.settings.binary piece);
        uncut = room.quit;
      }

converted_text : (k : Binary) (t n : ℕ) (piece : List ℕ) → n ≤ quit_place k piece → converted k t (take n piece) ≡ text_under k t (take n piece)
converted_text Ignore t n piece h = refl
converted_text (Quit b) t n piece h = sym (up_to_take b n piece h)
converted_text (Convert b) t n piece h = refl

length_converted : (k : Binary) (t : ℕ) (bytes : List ℕ) → length (converted k t bytes) ≡ length bytes
length_converted Ignore t bytes = refl
length_converted (Quit b) t bytes = refl
length_converted (Convert b) t bytes = length_replaced b t bytes

pub stored_bytes : (s : Session) (w piece : List ℕ) (from n : ℕ) → Storing s w piece from n
    → put_at (s.places.end - from) (converted s.walk.settings.binary s.walk.settings.terminator (take n piece)) (rolled from s.places.end w) ≡ stored_window s w piece n
unfolding stored_window text kept_from
stored_bytes s w piece from n r =
    let bytes = converted s.walk.settings.binary s.walk.settings.terminator (take n piece) in
    let a = r.sounded.agree in
    let count : length bytes ≡ n = length_converted s.walk.settings.binary s.walk.settings.terminator (take n piece) ∙ length-take-le n piece r.some in
    let from_le : from ≤ s.places.end = omega (arith, r.sounded.from_is) in
    let end-le : s.places.end ≤ length w = omega (arith, r.sounded.same) in
    rw (sym r.sounded.from_is, sym (converted_text s.walk.settings.binary s.walk.settings.terminator n piece r.uncut))
    (rw count at (roll_take_in from s.places.end bytes w from_le end-le))
