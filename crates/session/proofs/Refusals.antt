-- Of the numbers of refusals: none is 0; and what the numbers of a call say of its decision.
use Rattle.std.specs.Prelude.{◌≡◌, ◌<◌, Bool, true, false, ◌&&◌, cond, ℕ, nat_lt, nat_le, List, length, Option, Some, None, Result, Ok, Err}
use mathlib.Core.Path.{refl}
use native.Mathlib.Omega.{arith}
use Rattle.definition.specs.declared.End.{End}
use Rattle.definition.specs.declared.Refusal.{Refusal}
use Rattle.definition.specs.declared.Refusal.TheVariants.{BadSettings, BadWindow, WindowFull, TableShort, SizeTaken, Unsound, Unfinished}
use Rattle.definition.specs.declared.Settings.{Settings}
use Rattle.definition.specs.Bounds.{allowed, max_window}
use Rattle.definition.specs.Numbers.{refusal_number}
use Rattle.session.specs.declared.Offered.{Offered}
use Rattle.session.specs.declared.Refused.{Refused}
use Rattle.session.specs.declared.Session.{Session}
use Rattle.session.specs.Calls.{no_record, offer_told, open_given, open_result, open_told, opened, opening, record_given, record_of, record_result, record_told, recorded, recording, remains, tell_given, tell_result, tell_told, telling, told, waiting}
use Rattle.session.specs.Held.{waits}
use Rattle.session.specs.Sound.{agrees, closed, sound}

pub refusal_some : (k : Refusal) → 0 < refusal_number k
refusal_some BadSettings = omega arith
refusal_some BadWindow = omega arith
refusal_some WindowFull = omega arith
refusal_some TableShort = omega arith
refusal_some SizeTaken = omega arith
refusal_some Unsound = omega arith
refusal_some Unfinished = omega arith

-- # Opening

pub opening_served : (c : Settings) (n : ℕ) → (opened c n).refusal ≡ 0 → opening c n ≡ None
unfolding opened open_result
opening_served c n = go (opening c n)
  where
    go : (o : Option Refusal) → (open_told (open_given o c n)).refusal ≡ 0 → o ≡ None
    go None e = refl
    go (Some k) e = absurd (omega (arith, e, refusal_some k))

pub opened_number : (c : Settings) (n : ℕ) → (opened c n).refusal ≡ cond (allowed c) (cond (nat_lt 0 n && nat_le n max_window) 0 2) 1
unfolding opened open_result opening
opened_number c n = go (allowed c) (nat_lt 0 n && nat_le n max_window)
  where
    go : (a b : Bool)
        → (open_told (open_given (cond a (cond b None (Some BadWindow)) (Some BadSettings)) c n)).refusal ≡ cond a (cond b 0 2) 1
    go true true = refl
    go true false = refl
    go false b = refl

pub opening_refused : (c : Settings) (n : ℕ) → ((opened c n).refusal ≡ 0 → ⊥) → (opened c n).session ≡ closed
unfolding opened open_result
opening_refused c n = go (opening c n)
  where
    go : (o : Option Refusal) → ((open_told (open_given o c n)).refusal ≡ 0 → ⊥) → (open_told (open_given o c n)).session ≡ closed
    go None h = absurd (h refl)
    go (Some k) h = refl

-- # Asking

pub waiting_cases : (s : Session) (w : List ℕ) → waiting s w ≡ cond (sound s (length w)) (cond (waits s w) (Ok true) (Ok false)) (Err Unsound)
unfolding waiting
waiting_cases s w = go (sound s (length w)) (waits s w)
  where
    go : (a b : Bool) → ◌≡◌ {A = Result Bool Refusal} (cond a (Ok b) (Err Unsound)) (cond a (cond b (Ok true) (Ok false)) (Err Unsound))
    go true true = refl
    go true false = refl
    go false b = refl

-- # Telling the end

pub told_number : (s : Session) → (told s).refusal ≡ cond (agrees s) 0 6
unfolding told tell_result telling
told_number s = go (agrees s)
  where
    go : (b : Bool) → (tell_told (tell_given (cond b None (Some Unsound)) s)).refusal ≡ cond b 0 6
    go true = refl
    go false = refl

pub telling_refused : (s : Session) → ((told s).refusal ≡ 0 → ⊥) → (told s).session ≡ s
unfolding told tell_result
telling_refused s = go (telling s)
  where
    go : (o : Option Refusal) → ((tell_told (tell_given o s)).refusal ≡ 0 → ⊥) → (tell_told (tell_given o s)).session ≡ s
    go None h = absurd (h refl)
    go (Some k) h = refl

-- # The end record

pub recording_served : (s : Session) → (recorded s).refusal ≡ 0 → recording s ≡ None
unfolding recorded record_result
recording_served s = go (recording s)
  where
    go : (o : Option Refusal) → (record_told (record_given o s)).refusal ≡ 0 → o ≡ None
    go None e = refl
    go (Some k) e = absurd (omega (arith, e, refusal_some k))

pub recorded_number : (s : Session) → (recorded s).refusal ≡ cond (agrees s) (cond (remains s) 7 0) 6
unfolding recorded record_result recording
recorded_number s = go (agrees s) (remains s)
  where
    go : (a b : Bool) → (record_told (record_given (cond a (cond b (Some Unfinished) None) (Some Unsound)) s)).refusal ≡ cond a (cond b 7 0) 6
    go true true = refl
    go true false = refl
    go false b = refl

pub recording_refused : (s : Session) → ((recorded s).refusal ≡ 0 → ⊥) → (recorded s).end ≡ no_record
unfolding recorded record_result
recording_refused s = go (recording s)
  where
    go : (o : Option Refusal) → ((record_told (record_given o s)).refusal ≡ 0 → ⊥) → (record_told (record_given o s)).end ≡ no_record
    go None h = absurd (h refl)
    go (Some k) h = refl

pub record_served : (s : Session) → (recorded s).refusal ≡ 0 → (recorded s).end ≡ record_of s
unfolding recorded record_result
record_served s e = rw (recording_served s e)

-- # Results by their numbers

pub record_ok : (r : Result End Refusal) → (record_told r).refusal ≡ 0 → r ≡ Ok (record_told r).end
record_ok (Ok end) e = refl
record_ok (Err k) e = absurd (omega (arith, e, refusal_some k))

pub record_err : (r : Result End Refusal) → ((record_told r).refusal ≡ 0 → ⊥) → (k : Refusal) × (r ≡ Err k)
record_err (Ok end) h = absurd (h refl)
record_err (Err k) h = (k, refl)

pub offer_ok : (r : Result (Offered Session) (Refused Session)) → (offer_told r).refusal ≡ 0
    → r ≡ Ok (record { taken = (offer_told r).taken; next = (offer_told r).session })
offer_ok (Ok o) e = refl
offer_ok (Err k) e = absurd (omega (arith, e, refusal_some k.refusal))

pub offer_err : (r : Result (Offered Session) (Refused Session)) → ((offer_told r).refusal ≡ 0 → ⊥)
    → (k : Refused Session) × (r ≡ Err k) × ((offer_told r).refusal ≡ refusal_number k.refusal)
offer_err (Ok o) h = absurd (h refl)
offer_err (Err k) h = (k, refl, refl)

pub tell_ok : (r : Result Session (Refused Session)) → (tell_told r).refusal ≡ 0 → r ≡ Ok (tell_told r).session
tell_ok (Ok s) e = refl
tell_ok (Err k) e = absurd (omega (arith, e, refusal_some k.refusal))
