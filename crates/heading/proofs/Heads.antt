-- Laws of the two lines before the text: the one turn that is made of how a line stands.
use Rattle.std.specs.Prelude.{Option, Some, None, Result, Ok, Err}
use Prim.Native.Nat.{ℕ, ◌+◌, ◌-◌, ◌≤◌, ◌<◌}
use mathlib.Core.Path.{◌≡◌, refl, sym, ◌∙◌, ap, subst}
use mathlib.Core.Bool.{Bool, true, false, cond}
use mathlib.Core.Logic.{◌⊎◌, inl, inr}
use mathlib.Core.List.{List, [], ◌++◌}
use native.Mathlib.Omega.{arith}
use lib.Dec.{leb, ltb}
use lib.ListN.{length, take, drop}
use lib.Seq.{take_at}
use borrow.Author.Tests.{leb-true, ltb-false, ltb-true, ne_eqb}
use Rattle.definition.specs.Numbers.{refusal_number}
use Rattle.definition.specs.Text.{first_place, part}
use Rattle.forms.specs.First.{asked_of}
use Rattle.definition.specs.declared.Settings.{Settings}
use Rattle.line_buffer.specs.Buffer.{rolled}
use Rattle.rare_bytes.specs.declared.Pair.{Pair}
use Rattle.machine.specs.Machine.{ends, goes, wants}
use Rattle.session.specs.declared.Refused.{Refused}
use Rattle.session.specs.declared.Session.{Session}
use Rattle.session.specs.Calls.{open_result, opened}
use Rattle.session.proofs.Parts.{part_drop, part_length}
use Rattle.session.proofs.Refusals.{refusal_some}
use Rattle.search_machine.specs.declared.Seen.{Seen}
use Rattle.search_machine.specs.declared.Seen.TheVariants.{Whole, Unfinished, TooLong}
use Rattle.search_machine.specs.declared.Search.{Search}
use Rattle.search_machine.specs.declared.Stage.TheVariants.{First, Second, Text}
use Rattle.search_machine.specs.Head.{Stands, longest, looked_at}
use Rattle.search_machine.specs.Search.{State, asks, search, state_at, turn_of}
use Rattle.search_machine.specs.Standing.{HeadReady, OpenedTo, OverWith, Ready, Turned, begun_with, opened_with, seen, wanting_with}
use Rattle.printing.specs.Texts.{newline, refused_text}
use Rattle.search_machine.proofs.Places.{same_state, tells_within, part_rolled, part_take}
use Rattle.machine.proofs.Leads.{closes_ends, leads_goes, leads_none}

pub looked : (xs : List ℕ) → Stands (looked_at xs) xs
unfolding looked_at
looked xs = go (leb (first_place newline xs) longest) refl (ltb (first_place newline xs) (length xs)) refl
  where
    go : (a : Bool) → leb (first_place newline xs) longest ≡ a → (b : Bool) → ltb (first_place newline xs) (length xs) ≡ b
        → Stands (cond a (cond b (Whole (first_place newline xs)) Unfinished) TooLong) xs
    go true p true q = (leb-true (first_place newline xs) longest p, ltb-true (first_place newline xs) (length xs) q)
    go true p false q = omega (arith, leb-true (first_place newline xs) longest p, ltb-false (first_place newline xs) (length xs) q)
    go false p b q = tt

pub head_ready : {s : Search} {window table literal input out : List ℕ} → Ready s window table literal input out → HeadReady s literal input out
head_ready r = record { placed = r.placed; nothing = r.nothing; literal_room = r.lent.literal_room; input_room = r.lent.input_room; out_room = omega (arith, r.lent.out_room) }

-- # What one turn leaves

module _ {s : Search} {literal input out : List ℕ} (w : List ℕ) (ready : HeadReady s literal input out) where
  abbrev st : State
  st = seen s w literal input

  abbrev rest : List ℕ
  rest = part s.from s.to input

  nothing_yet : take s.pending.length out ≡ []
  nothing_yet = ap (λ n. take n out) ready.nothing.none

  -- over, with a text printed
  pub once_over : (text : List ℕ) → turn_of st ≡ ends text → {r : Search} {after : List ℕ} → OverWith s text out r after
      → Turned st r w literal input after
  once_over text e (is, t) =
      rw is (record {
        count = 0 + 1;
        does = rw (t.text_is, nothing_yet) (closes_ends search 0 st [] st text (leads_none search st) e);
        room = tt;
        placed = record { literal_in = ready.placed.literal_in; from_to = ready.placed.from_to; to_in = ready.placed.to_in };
        collects = record { within = tells_within (omega (arith, ready.nothing)) t; kept = t.lost_is ∙ ready.nothing.kept };
      })

  -- # A line that is not whole, in either stage

  abbrev In_head : Type 0
  In_head = (s.stage ≡ First) ⊎ (s.stage ≡ Second)

  turn_unfinished : In_head → Unfinished ≡ looked_at rest → turn_of st ≡ wants st
  unfolding turn_of
  turn_unfinished (inl e) h = rw (e, sym h)
  turn_unfinished (inr e) h = rw (e, sym h)

  turn_long : In_head → TooLong ≡ looked_at rest → turn_of st ≡ ends (refused_text 1)
  unfolding turn_of
  turn_long (inl e) h = rw (e, sym h)
  turn_long (inr e) h = rw (e, sym h)

  -- it is too long
  pub once_long : In_head → TooLong ≡ looked_at rest → {r : Search} {after : List ℕ} → OverWith s (refused_text 1) out r after
      → Turned st r w literal input after
  once_long e h t = once_over (refused_text 1) (turn_long e h) t

  -- a read is wanted, and what is left moves to the front
  pub once_wants : In_head → Unfinished ≡ looked_at rest → length rest ≤ longest → {after : List ℕ} → after ≡ rolled s.from s.to input
      → length after ≡ length input
      → Turned st (wanting_with s) w literal after out
  once_wants e h few {after} d size =
      let placed = ready.placed in
      let rest-is : part 0 (s.to - s.from) after ≡ rest = ap (λ xs. part 0 (s.to - s.from) xs) d ∙ part_rolled s.from s.to input placed.from_to placed.to_in in
      let same = same_state s.stage (take s.size literal) {s = s.searcher.session} {w = w} refl refl rest-is in
      record {
        count = 0;
        does = rw (nothing_yet, same) (leads_none search st, turn_unfinished e h);
        room = omega (arith, ready.input_room, part_length s.from s.to input placed.from_to placed.to_in);
        placed = record { literal_in = placed.literal_in; from_to = omega arith; to_in = omega arith };
        collects = record { within = omega (arith, ready.nothing); kept = ready.nothing.kept };
      }

  -- # A whole line

  module _ {n : ℕ} (h : Whole n ≡ looked_at rest) where
    -- where it lies
    pub inside : (n ≤ longest) × (s.from + n < s.to) × (s.to ≤ length input)
    inside =
        let at : Stands (Whole n) rest = subst (λ k. Stands k rest) (sym h) (looked rest) in
        let size = part_length s.from s.to input ready.placed.from_to ready.placed.to_in in
        (at.0, omega (arith, at.1, size), ready.placed.to_in)

    line_length : length (part s.from (s.from + n) input) ≡ n
    line_length = omega (arith, part_length s.from (s.from + n) input (omega arith) (omega (arith, inside)))

    line_is : part s.from (s.from + n) input ≡ take n rest
    line_is = part_take s.from s.to n input (omega (arith, inside))

    -- what is left behind it
    behind : drop (n + 1) rest ≡ part (s.from + n + 1) s.to input
    behind =
        let e : s.from + (n + 1) ≡ s.from + n + 1 = omega arith in
        part_drop s.from s.to (n + 1) input ∙ ap (λ from. part from s.to input) e

    -- the first line is asked
    turn_asks : s.stage ≡ First → (asked : Option Settings) → asked ≡ asked_of (part s.from (s.from + n) input)
        → turn_of st ≡ asks asked (take s.size literal) w (drop (n + 1) rest)
    unfolding turn_of
    turn_asks e asked k = rw (e, sym h, k, line_is)

    pub once_unasked : s.stage ≡ First → None ≡ asked_of (part s.from (s.from + n) input) → {r : Search} {after : List ℕ}
        → OverWith s (refused_text 1) out r after
        → Turned st r w literal input after
    once_unasked e k t = once_over (refused_text 1) (turn_asks e None k) t

    turn_opens : s.stage ≡ First → (c : Settings) → Some c ≡ asked_of (part s.from (s.from + n) input)
        → (o : Session) → open_result c (length w) ≡ Ok o
        → turn_of st ≡ goes [] (state_at Second (take s.size literal) o w (drop (n + 1) rest))
    unfolding opened
    turn_opens e c k o served = turn_asks e (Some c) k ∙ rw served

    turn_refuses : s.stage ≡ First → (c : Settings) → Some c ≡ asked_of (part s.from (s.from + n) input)
        → (r : Refused Session) → open_result c (length w) ≡ Err r → turn_of st ≡ ends (refused_text (refusal_number r.refusal))
    unfolding opened
    turn_refuses e c k r refused =
        turn_asks e (Some c) k ∙ rw (refused, ne_eqb (refusal_number r.refusal) 0 (λ z. omega (arith, z, refusal_some r.refusal)))

    pub once_opened : s.stage ≡ First → {c : Settings} → Some c ≡ asked_of (part s.from (s.from + n) input) → {r : Search} {after : List ℕ}
        → OpenedTo s (open_result c (length w)) (s.from + n + 1) out r after
        → Turned st r w literal input after
    once_opened e {c} k {r} {after} d = go (open_result c (length w)) refl d
      where
        go : (o : Result Session (Refused Session)) → open_result c (length w) ≡ o → OpenedTo s o (s.from + n + 1) out r after
            → Turned st r w literal input after
        go (Ok o) served d =
            rw (d.0, d.1) (record {
              count = 0 + 1;
              does = (omega arith, rw (nothing_yet, sym behind) (leads_goes search 0 st [] st [] _ (leads_none search st) (turn_opens e c k o served)));
              room = tt;
              placed = record { literal_in = ready.placed.literal_in; from_to = omega (arith, inside); to_in = ready.placed.to_in };
              collects = record { within = omega (arith, ready.nothing); kept = ready.nothing.kept };
            })
        go (Err q) refused d = once_over (refused_text (refusal_number q.refusal)) (turn_refuses e c k q refused) d

    -- the second line is the literal
    turn_begins : s.stage ≡ Second → turn_of st ≡ goes [] (state_at Text (take n rest) s.searcher.session w (drop (n + 1) rest))
    unfolding turn_of
    turn_begins e = rw (e, sym h)

    pub once_begun : s.stage ≡ Second → (pair : Pair) → {after : List ℕ} → after ≡ part s.from (s.from + n) input ++ drop n literal
        → Turned st (begun_with s n pair (s.from + n + 1)) w after input out
    once_begun e pair {after} d =
        let literal-is : take n after ≡ take n rest = ap (λ xs. take n xs) d ∙ take_at (part s.from (s.from + n) input) (drop n literal) n line_length ∙ line_is in
        record {
          count = 0 + 1;
          does = (omega arith, rw (nothing_yet, literal-is, sym behind) (leads_goes search 0 st [] st [] _ (leads_none search st) (turn_begins e)));
          room = tt;
          placed = record { literal_in = inside.0; from_to = omega (arith, inside); to_in = ready.placed.to_in };
          collects = record { within = omega (arith, ready.nothing); kept = ready.nothing.kept };
        }
