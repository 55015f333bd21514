-- Call after call, what is left gets lighter or the run is over: the promise of specs/Soon.antt, and that any run can be carried on.
use Rattle.std.proofs.Common.{◌≡◌, ℕ, zero, suc, ◌+◌, ◌*◌, ◌<◌, ◌≤◌, Bool, true, false, cond, ◌&&◌, eqb, ◌⊎◌, List, [], ◌∷◌, length, take, replicate, sym, refl, ap, ◌∙◌, subst, inl, inr, ⊎_elim, arith, length-take, eqb-true}
use lib.ListN.{length-replicate}
use borrow.Author.Tests.{eqb-false}
use Rattle.definition.specs.declared.Going.TheVariants.{On}
use Rattle.definition.specs.Rows.{row_size}
use Rattle.driver_core.specs.Walk.{is_on}
use Rattle.driver_core.proofs.Keeps.{is_on_lem}
use Rattle.session.specs.declared.Input.TheVariants.{Open}
use Rattle.session.specs.declared.Session.{Session}
use Rattle.session.specs.Calls.{answered, answer_result, offered, offered_window, offering, offer_result, remains}
use Rattle.session.specs.Held.{is_open, waits}
use Rattle.promises.specs.Promises.{Ends, NoRoom, Within}
use Rattle.promises.specs.Run.{At, Steps, here, offer, answer, tell, at_answer, at_end, at_offer}
use Rattle.promises.specs.Soon.{NoSize, Soon, calls_from, next_call}
use Rattle.session.specs.Sound.{ahead_bytes}
use Rattle.promises.proofs.Caller.{offer_unchanged}
use Rattle.promises.proofs.Carry.{answer_falls, ends_now, held_ends, is_open_lem, nothing_held, offer_falls, offer_served, open_most, stopped_ends, told_falls, waiting_now, weight}
use Rattle.session.proofs.Cases.{offer_case}
use Rattle.promises.proofs.History.{InvAt, answer_gives, inv_run, inv_steps, join, run_settings, steps_stay}

-- # One call

abbrev Over : At → Type 0
Over a = Ends a ⊎ (NoRoom a ⊎ NoSize a)

abbrev Roomy : List ℕ → At → Type 0
Roomy table a = row_size * (a.session.walk.settings.before + 2) ≤ length table

-- an offer that is refused changes nothing
offer_same : (k : ℕ) (a : At) → ((offered a.session a.window (take k a.rest)).refusal ≡ 0 → ⊥) → at_offer k a ≡ a
unfolding offer_result offered offered_window
offer_same k a h =
    let s = a.session in
    let piece = take k a.rest in
    let u = offer_unchanged (offering s a.window piece) s a.window piece h in
    rw (u.0, u.1, u.2)

none : (xs : List ℕ) → length xs ≡ 0 → xs ≡ []
none [] e = refl
none (x ∷ xs) e = absurd (omega arith)

module _ (input : List ℕ) (answers : ℕ → Bool) (table : List ℕ) (a : At) (i : InvAt input answers a) (room : Roomy table a) where
  -- a step of the run, after which the run is over and stays so, or less is left
  abbrev Turned : At → Type 0
  Turned b = Steps answers a b × ((Over a × (b ≡ a)) ⊎ (weight b.session b.rest < weight a.session a.rest))

  answer_turn : waits a.session a.window ≡ true → Turned (at_answer answers table a)
  unfolding answer_result answered
  answer_turn v =
      let s = a.session in
      let w = a.window in
      let hit = answers (a.count + 1) in
      let gives = answer_gives input answers s w a.rest a.count a.rows i (length table) hit v room in (
        answer table (waiting_now input answers s w a.rest a.count a.rows i v) room here,
        inr (rw gives (answer_falls input answers s w a.rest a.count a.rows i hit v)),
      )

  offer_turn : waits a.session a.window ≡ false → a.session.places.input ≡ Open → a.session.walk.going ≡ On → 0 < length a.rest
      → Turned (at_offer (length a.rest) a)
  unfolding offer_result offered
  offer_turn v n g l =
      let s = a.session in
      let w = a.window in
      let k = length a.rest in
      let case = offer_case s w (take k a.rest) in (
        offer k here,
        ⊎_elim (λ e. inl (inr (inl (k, e)), offer_same k a (λ z. omega (arith, e, z))))
            (⊎_elim (λ e. inl (inr (inr (k, e)), offer_same k a (λ z. omega (arith, e, z)))) (λ e. inr e.1))
            (offer_falls input answers s w a.rest a.count a.rows i v n g k (omega (arith, l, length-take k a.rest)) _ case),
      )

  tell_turn : a.session.places.input ≡ Open → a.session.walk.going ≡ On → a.rest ≡ [] → Turned (at_end a)
  tell_turn n g e =
      (tell (λ _ _. e) here, inr (told_falls input answers a.session a.window a.rest a.count a.rows i n g))

  nothing_turn : remains a.session ≡ false → Turned a
  nothing_turn e = (here, inl (inl (ends_now input answers a.session a.window a.rest a.count a.rows i e), refl))

  turn : Turned (next_call answers table a)
  unfolding next_call
  turn =
      go (waits a.session a.window) refl (is_on a.session.walk.going) refl (is_open a.session.places.input) refl
      (eqb (length a.rest) 0) refl
    where
      go : (v : Bool) → waits a.session a.window ≡ v → (g : Bool) → is_on a.session.walk.going ≡ g → (o : Bool) → is_open a.session.places.input ≡ o
          → (z : Bool) → eqb (length a.rest) 0 ≡ z
          → Turned (cond v (at_answer answers table a) (cond (g && o) (cond z (at_end a) (at_offer (length a.rest) a)) a))
      go true v g e o k z r = answer_turn v
      go false v false e o k z r = nothing_turn (stopped_ends a.session e)
      go false v true e false k z r =
          nothing_turn (held_ends a.session k (nothing_held input answers a.session a.window a.rest a.count a.rows i v e k))
      go false v true e true k true r =
          tell_turn (is_open_lem a.session.places.input k) (is_on_lem a.session.walk.going e) (none a.rest (eqb-true (length a.rest) 0 r))
      go false v true e true k false r =
          offer_turn v (is_open_lem a.session.places.input k) (is_on_lem a.session.walk.going e) (omega (arith, eqb-false (length a.rest) 0 r))

-- # Call after call

module _ (input : List ℕ) (answers : ℕ → Bool) (table : List ℕ) where
  -- where nothing changes nothing ever does
  stays : (n : ℕ) (a : At) → next_call answers table a ≡ a → calls_from n answers table a ≡ a
  unfolding calls_from
  stays zero a e = refl
  stays (suc n) a e = ap (calls_from n answers table) e ∙ stays n a e

  roomy_on : (a b : At) → Steps answers a b → Roomy table a → Roomy table b
  roomy_on a b t = subst (λ c. row_size * (c.before + 2) ≤ length table) (sym (steps_stay answers a b t).0)

  steps_on : (n : ℕ) (a : At) → InvAt input answers a → Roomy table a → Steps answers a (calls_from n answers table a)
  unfolding calls_from
  steps_on zero a i r = here
  steps_on (suc n) a i r =
      let b = next_call answers table a in
      let t = (turn input answers table a i r).0 in
      join answers a b (calls_from n answers table b) t (steps_on n b (inv_steps input answers a b i t) (roomy_on a b t r))

  over_by : (n : ℕ) (a : At) → InvAt input answers a → Roomy table a → weight a.session a.rest ≤ n → Over (calls_from n answers table a)
  unfolding calls_from
  over_by zero a i r l = ⊎_elim (λ o. o.0) (λ t. absurd (omega arith)) (turn input answers table a i r).1
  over_by (suc n) a i r l =
      let b = next_call answers table a in
      let t = turn input answers table a i r in
      ⊎_elim (λ o. subst Over (sym (stays (suc n) a o.1)) o.0)
      (λ f. over_by n b (inv_steps input answers a b i t.0) (roomy_on a b t.0 r) (omega (arith, l, f)))
      t.1

-- within the size no offer is refused by 5
within_room : (input : List ℕ) (answers : ℕ → Bool) (a : At) → InvAt input answers a → Within a.session.walk.settings input → Over a → Ends a ⊎ NoRoom a
unfolding offer_result offered
within_room input answers a i h (inl e) = inl e
within_room input answers a i h (inr (inl n)) = inr n
within_room input answers a i h (inr (inr (k, e))) =
    let piece = take k a.rest in
    absurd (⊎_elim (λ z. omega (arith, e, z)) (λ z. omega (arith, e, z))
    (offer_served input answers a.session a.window a.rest a.count a.rows i h k _ (offer_case a.session a.window piece)))

within_on : (input : List ℕ) (answers : ℕ → Bool) (a b : At) → Steps answers a b → Within a.session.walk.settings input → Within b.session.walk.settings input
within_on input answers a b t = subst (λ c. Within c input) (sym (steps_stay answers a b t).0)

weight_most : (s : Session) (rest : List ℕ) → weight s rest ≤ 2 * length rest + ahead_bytes s + 1
unfolding weight
weight_most s rest = omega (arith, open_most s.places.input)

pub soon : Soon
soon c input answers a r table room n =
    let i = inv_run c input answers a r in
    let same = run_settings c input answers a r in
    let roomy = subst (λ x. row_size * (x.before + 2) ≤ length table) (sym same) room in
    let b = calls_from n answers table a in
    let t = steps_on input answers table n a i roomy in (
      t,
      λ l.
          let o = over_by input answers table n a i roomy (omega (arith, l, weight_most a.session a.rest)) in
          (o, λ h. within_room input answers b (inv_steps input answers a b i t) (within_on input answers a b t (subst (λ x. Within x input) (sym same) h)) o),
    )

-- any run within the size can be carried on until its end record is served or it is refused by 3
pub carried : (input : List ℕ) (answers : ℕ → Bool) (a : At) → InvAt input answers a → Within a.session.walk.settings input
    → (b : At) × Steps answers a b × (Ends b ⊎ NoRoom b)
carried input answers a i h =
    let size = row_size * (a.session.walk.settings.before + 2) in
    let table : List ℕ = replicate size 0 in
    let room : size ≤ length table = omega (arith, length-replicate {A = ℕ} size 0) in
    let n = weight a.session a.rest in
    let b = calls_from n answers table a in
    let t = steps_on input answers table n a i room in
    (b, t, within_room input answers b (inv_steps input answers a b i t) (within_on input answers a b t h) (over_by input answers table n a i room (omega arith)))
