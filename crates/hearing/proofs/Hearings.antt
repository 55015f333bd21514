-- Laws of what a read gave: what the code then does is what the machine does.
use Rattle.std.specs.Prelude.{Result, Ok, Err}
use Prim.Native.Nat.{ℕ, suc, zero, ◌+◌, ◌<◌, ◌≤◌}
use mathlib.Core.Path.{◌≡◌, refl, sym, ◌∙◌, ap, subst}
use mathlib.Core.Logic.{◌⊎◌, inl, inr}
use mathlib.Core.List.{List, [], ◌++◌}
use native.Mathlib.Omega.{arith}
use lib.IntN.{ℤ}
use lib.ListN.{length, take}
use Rattle.definition.specs.declared.End.{End}
use Rattle.definition.specs.Text.{part}
use Rattle.driving.specs.Door.{door_fed}
use Rattle.machine.specs.declared.Fed.{Fed}
use Rattle.machine.specs.declared.Next.TheVariants.{Goes, Wants, Refuses, Ends}
use Rattle.machine.specs.Machine.{ended, ends, failed, goes, some, wants}
use Rattle.machine.specs.Program.{fed_end, fed_told}
use Rattle.searcher.specs.declared.Searcher.{Searcher}
use Rattle.session.specs.declared.Refused.{Refused}
use Rattle.session.specs.declared.Session.{Session}
use Rattle.session.specs.Calls.{tell_result}
use Rattle.session.proofs.Parts.{part_split}
use Rattle.streams.specs.declared.Failure.{Failure}
use Rattle.streams.specs.declared.Failure.TheVariants.{Interrupted, Errno}
use Rattle.streams.specs.Moves.{failed_read}
use Rattle.search_machine.specs.declared.Search.{Search}
use Rattle.search_machine.specs.declared.Stage.{Stage}
use Rattle.search_machine.specs.declared.Stage.TheVariants.{First, Second, Text}
use Rattle.search_machine.specs.Search.{State, hears_of, state_at}
use Rattle.search_machine.specs.Standing.{Gives, HasRoom, Heard, Hearing, OverWith, going_with, heard_as, printed, seen, with_more}
use Rattle.printing.specs.Texts.{end_text, refused_text}
use Rattle.search_machine.proofs.Places.{tells_within}

-- # What the machine does

pub hears_some : (stage : Stage) (l : List ℕ) (s : Session) (w rest bytes : List ℕ)
    → hears_of (some bytes) (state_at stage l s w rest) ≡ goes [] (state_at stage l s w (rest ++ bytes))
unfolding hears_of
hears_some First l s w rest bytes = refl
hears_some Second l s w rest bytes = refl
hears_some Text l s w rest bytes = refl

pub hears_failed : (stage : Stage) (l : List ℕ) (s : Session) (w rest : List ℕ) → hears_of failed (state_at stage l s w rest) ≡ ends failed_read
unfolding hears_of
hears_failed First l s w rest = refl
hears_failed Second l s w rest = refl
hears_failed Text l s w rest = refl

-- once the end is told, no more is wanted
pub told_wants : (s : Session) {f : Fed Searcher} → f ≡ door_fed (fed_end s) → f.next ≡ Wants → ⊥
unfolding fed_end
told_wants s {f} e n = go (tell_result s) (sym (ap (λ x. x.next) e) ∙ n)
  where
    go : (r : Result Session (Refused Session)) → (fed_told s r).next ≡ Wants → ⊥
    go (Ok t) h = cc
    go (Err k) h = cc

-- # What the code leaves

module _ {s : Search} {got : Result ℕ Failure} {input out : List ℕ} (w literal : List ℕ) (hearing : Hearing s got input out) where
  nothing_yet : take s.pending.length out ≡ []
  nothing_yet = ap (λ n. take n out) hearing.nothing.none

  -- all is told
  pub heard_over : (text : List ℕ) → heard_as got s.to input (seen s w literal input) ≡ ends text → {r : Search} {after : List ℕ}
      → OverWith s text out r after
      → Heard s got w literal input r after
  heard_over text e (is, t) =
      rw is (record {
        hears = rw (t.text_is, nothing_yet) e;
        room = tt;
        placed = record { literal_in = hearing.placed.literal_in; from_to = hearing.placed.from_to; to_in = hearing.placed.to_in };
        collects = record { within = tells_within (omega (arith, hearing.nothing)) t; kept = t.lost_is ∙ hearing.nothing.kept };
      })

module _ {s : Search} {input out : List ℕ} (w literal : List ℕ) where
  -- more bytes
  pub heard_more : (n : ℕ) → (n ≡ 0 → ⊥) → Hearing s (Ok n) input out → Heard s (Ok n) w literal input (with_more s n) out
  heard_more zero h hearing = absurd (h refl)
  heard_more (suc n) h hearing =
      let placed = hearing.placed in
      let rest = part s.from s.to input in
      let more = part_split s.from s.to (s.to + suc n) input placed.from_to (omega arith) in
      record {
        hears = rw (nothing_yet w literal hearing, more) (hears_some s.stage (take s.size literal) s.searcher.session w rest (part s.to (s.to + suc n) input));
        room = tt;
        placed = record { literal_in = placed.literal_in; from_to = omega arith; to_in = hearing.fits };
        collects = record { within = omega (arith, hearing.nothing); kept = hearing.nothing.kept };
      }

  -- a failure
  pub heard_failed : {reason : ℤ} → Hearing s (Err (Errno reason)) input out → {r : Search} {after : List ℕ} → OverWith s failed_read out r after
      → Heard s (Err (Errno reason)) w literal input r after
  heard_failed hearing t = heard_over w literal hearing failed_read (hears_failed s.stage (take s.size literal) s.searcher.session w (part s.from s.to input)) t

  -- the end
  module _ (hearing : Hearing s (Ok 0) input out) where
    abbrev st : State
    st = seen s w literal input

    head_ends : (s.stage ≡ First) ⊎ (s.stage ≡ Second) → hears_of ended st ≡ ends (refused_text 1)
    unfolding hears_of
    head_ends (inl e) = rw e
    head_ends (inr e) = rw e

    pub heard_short : (s.stage ≡ First) ⊎ (s.stage ≡ Second) → {r : Search} {after : List ℕ} → OverWith s (refused_text 1) out r after
        → Heard s (Ok 0) w literal input r after
    heard_short e t = heard_over w literal hearing (refused_text 1) (head_ends e) t

    module _ (in_text : s.stage ≡ Text) {f : Fed Searcher} (e : f ≡ door_fed (fed_end s.searcher.session)) where
      pub text_goes : f.next ≡ Goes → hears_of ended st ≡ goes [] (state_at s.stage (take s.size literal) f.session.session w (part s.from s.to input))
      unfolding hears_of
      text_goes n = rw (in_text, e, sym (ap (λ x. x.next) e) ∙ n)

      pub text_refuses : {k : ℕ} → f.next ≡ Refuses k → hears_of ended st ≡ ends (refused_text k)
      unfolding hears_of
      text_refuses n = rw (in_text, sym (ap (λ x. x.next) e) ∙ n)

      pub text_ends : {end : End} → f.next ≡ Ends end → hears_of ended st ≡ ends (end_text end)
      unfolding hears_of
      text_ends n = rw (in_text, sym (ap (λ x. x.next) e) ∙ n)

      pub heard_told : f.next ≡ Goes → Heard s (Ok 0) w literal input (going_with s f.session s.from s.pending) out
      heard_told n =
          record {
            hears = rw (nothing_yet w literal hearing) (text_goes n);
            room = tt;
            placed = record { literal_in = hearing.placed.literal_in; from_to = hearing.placed.from_to; to_in = hearing.placed.to_in };
            collects = record { within = omega (arith, hearing.nothing); kept = hearing.nothing.kept };
          }

      pub heard_refused : {k : ℕ} → f.next ≡ Refuses k → {r : Search} {after : List ℕ} → OverWith s (refused_text k) out r after
          → Heard s (Ok 0) w literal input r after
      heard_refused {k} n t = heard_over w literal hearing (refused_text k) (text_refuses n) t

      pub heard_end : {end : End} → f.next ≡ Ends end → {r : Search} {after : List ℕ} → OverWith s (end_text end) out r after
          → Heard s (Ok 0) w literal input r after
      heard_end {end} n t = heard_over w literal hearing (end_text end) (text_ends n) t
