-- Turn after turn, and read after read, until what must be printed is printed.
use Rattle.std.proofs.Common.{◌≡◌, ℕ, zero, suc, ◌+◌, ◌*◌, ◌≤◌, false, List, [], ◌∷◌, ◌++◌, length, sym, refl, ap, ◌∙◌, subst, append_assoc, append-nil, arith}
use Rattle.definition.specs.declared.Going.TheVariants.{On}
use Rattle.definition.specs.declared.Settings.{Settings}
use Rattle.session.specs.declared.Input.TheVariants.{Open, Ended}
use Rattle.session.specs.declared.Session.{Session}
use Rattle.session.specs.Calls.{telling, tell_result, told, told_session}
use Rattle.session.specs.Held.{waits}
use Rattle.promises.specs.Promises.{answers_of}
use Rattle.session.proofs.Agree.{agrees_of}
use Rattle.promises.proofs.Carry.{told_falls, told_served, weight}
use Rattle.promises.proofs.History.{inv_told}
use Rattle.machine.specs.Machine.{Read, Turn, ended, ends, failed, goes, run, some, wants}
use Rattle.machine.specs.Program.{Program, Standing, driver, hears, turns}
use Rattle.machine.specs.Promises.{Ending, Prints, breaks_off, broken, bytes_of, ending_of, said, unended, whole}
use Rattle.machine.proofs.Closings.{Now, prints_cut_off}
use Rattle.machine.proofs.Counted.{upto}
use Rattle.machine.proofs.Feeds.{at, hears_end}
use Rattle.machine.proofs.Runs.{run_ends, run_goes, run_hears, run_waits}
use Rattle.machine.proofs.Turns.{Did, did_of, halted, lacks, went}

module _ (p : Program) (c : Settings) (input : List ℕ) (how : Ending) where
  -- what is still to come of the input and how it ends are known from the reads, while it is open
  abbrev Reading : Session → List ℕ → List Read → Type 0
  Reading s future reads = s.places.input ≡ Open → (future ≡ bytes_of reads) × (how ≡ ending_of reads)

  -- the text so far, and a text after it
  abbrev SoFar : ℕ → ℕ → List ℕ → Type 0
  SoFar window count text = Prints p c window input how (said p c input (upto c input count) ++ text)

  -- # A turn that goes on

  gone_on : (n window count count' : ℕ) (t : Turn Standing) (reads : List Read) (text : List ℕ) (st : Standing) → t ≡ goes text st
      → said p c input (upto c input count') ≡ said p c input (upto c input count) ++ text
      → SoFar window count' (run (driver p) n (turns p st) reads) → SoFar window count (run (driver p) (suc n) t reads)
  gone_on n window count count' t reads text st e k =
      let before = said p c input (upto c input count) in
      let more = run (driver p) n (turns p st) reads in
      subst (Prints p c window input how)
      (ap (λ x. x ++ more) k ∙ append_assoc before text more ∙ ap (λ x. before ++ x) (sym (run_goes (driver p) n t reads text st e)))

  -- # Where no more is read

  not_whole : (h : Ending) → how ≡ h → (h ≡ whole → ⊥) → how ≡ whole → ⊥
  not_whole h e k z = k (sym e ∙ z)

  module _ (s : Session) (w rest : List ℕ) (count : ℕ) (given : List (List ℕ)) (n : Now p c input how s w rest count given)
      (v : waits s w ≡ false) (open-now : s.places.input ≡ Open) (on_now : s.walk.going ≡ On) (none : rest ≡ []) where
    cut_now : (h : Ending) → how ≡ h → (h ≡ whole → ⊥) → SoFar s.places.window count (breaks_off h p)
    cut_now h e k =
        subst (λ x. Prints p c s.places.window input how (said p c input (upto c input count) ++ breaks_off x p)) e
        (subst
        (λ x. Now p x input how s w rest count given
        → Prints p x s.places.window input how (said p x input (upto x input count) ++ breaks_off how p))
        n.same
        (λ m. prints_cut_off p input how s w rest count given m v open-now on_now none (not_whole h e k)) n)

  -- # The end is told

  told_input : (s : Session) (w rest : List ℕ) (count : ℕ) (given : List (List ℕ)) → Now p c input how s w rest count given → s.places.input ≡ Open → s.walk.going ≡ On
      → ((told s).session.walk.settings ≡ s.walk.settings) × ((told s).session.places.window ≡ s.places.window) × ((told s).session.places.input ≡ Ended)
  unfolding tell_result telling told told_session
  told_input s w rest count given n e g = rw (agrees_of s n.inv.agree, g, e) (refl, refl, refl)

  told_now : (s : Session) (w : List ℕ) (count : ℕ) (given : List (List ℕ)) → Now p c input how s w [] count given → s.places.input ≡ Open → s.walk.going ≡ On
      → how ≡ whole → Now p c input how (told s).session w [] count given
  told_now s w count given n e g h =
      let t = told_input s w [] count given n e g in
      record {
        same = t.0 ∙ n.same;
        inv = inv_told input (answers_of p.matcher c input) s w [] count given n.inv (λ _ _. refl);
        told = λ _. h;
        lines_whole = λ z. absurd (let y : ◌≡◌ {A = ℕ} 0 1 = cc t.2 in omega (arith, y));
      }

  -- # Turn after turn

  abbrev Settles : ℕ → Type 0
  Settles n =
      (s : Session) (w rest future : List ℕ) (count : ℕ) (given : List (List ℕ)) (reads : List Read)
      → Now p c input how s w (rest ++ future) count given → Reading s future reads
      → weight s (rest ++ future) + 2 * length reads + 2 ≤ n
      → SoFar s.places.window count (run (driver p) n (turns p (at s w rest)) reads)

  -- what was read stands behind what was at hand
  heard_some : (n : ℕ) → Settles n → (s : Session) (w future : List ℕ) (count : ℕ) (given : List (List ℕ)) (bytes : List ℕ) (reads : List Read)
      → Now p c input how s w future count given → s.places.input ≡ Open → future ≡ bytes ++ bytes_of reads → how ≡ ending_of reads
      → weight s future + 2 * length reads + 2 ≤ n
      → SoFar s.places.window count (run (driver p) (suc n) (hears p (some bytes) (at s w [])) reads)
  heard_some n on s w future count given bytes reads now e f h l =
      let now' = subst (λ x. Now p c input how s w x count given) f now in
      gone_on n s.places.window count count (hears p (some bytes) (at s w [])) reads [] (at s w bytes) refl
      (sym (append-nil (said p c input (upto c input count))))
      (on s w bytes (bytes_of reads) count given reads now' (λ _. (refl, h)) (subst (λ x. weight s x + 2 * length reads + 2 ≤ n) f l))

  heard_end : (n : ℕ) → Settles n → (s : Session) (w : List ℕ) (count : ℕ) (given : List (List ℕ)) (reads : List Read)
      → Now p c input how s w [] count given → s.places.input ≡ Open → s.walk.going ≡ On → how ≡ whole
      → weight s [] + 2 * length reads + 2 ≤ n
      → SoFar s.places.window count (run (driver p) (suc n) (hears p ended (at s w [])) reads)
  heard_end n on s w count given reads now e g h l =
      let i = now.inv in
      let answers = answers_of p.matcher c input in
      let t = told_input s w [] count given now e g in
      let served = told_served input answers s w [] count given i in
      let lighter = told_falls input answers s w [] count given i e g in
      gone_on n s.places.window count count (hears p ended (at s w [])) reads [] (at (told s).session w []) (hears_end p s w [] served)
      (sym (append-nil (said p c input (upto c input count))))
      (subst (λ x. SoFar x count (run (driver p) n (turns p (at (told s).session w [])) reads)) t.1
      (on (told s).session w [] [] count given reads (told_now s w count given now e g h)
      (λ z. absurd (let y : ◌≡◌ {A = ℕ} 0 1 = cc t.2 in omega (arith, y))) (omega (arith, l, lighter))))

  -- a read is wanted
  heard : (n : ℕ) → Settles n → (s : Session) (w future : List ℕ) (count : ℕ) (given : List (List ℕ)) (reads : List Read)
      → Now p c input how s w future count given → s.places.input ≡ Open → s.walk.going ≡ On → waits s w ≡ false
      → future ≡ bytes_of reads → how ≡ ending_of reads → weight s future + 2 * length reads + 2 ≤ suc (suc n)
      → SoFar s.places.window count (run (driver p) (suc (suc n)) (wants (at s w [])) reads)
  unfolding bytes_of ending_of
  heard n on s w future count given [] now e g v f h l =
      subst (SoFar s.places.window count) (sym (run_waits (driver p) (suc n) (wants (at s w [])) [] (at s w []) refl refl))
      (cut_now s w future count given now v e g f unended h (λ z. let y : ◌≡◌ {A = ℕ} 0 1 = cc in omega arith))
  heard n on s w future count given (some bytes ∷ reads) now e g v f h l =
      subst (SoFar s.places.window count) (sym (run_hears (driver p) (suc n) (wants (at s w [])) (some bytes ∷ reads) (at s w []) (some bytes) reads refl refl))
      (heard_some n on s w future count given bytes reads now e f h (omega (arith, l)))
  heard n on s w future count given (ended ∷ reads) now e g v f h l =
      subst (SoFar s.places.window count) (sym (run_hears (driver p) (suc n) (wants (at s w [])) (ended ∷ reads) (at s w []) ended reads refl refl))
      (heard_end n on s w count given reads (subst (λ x. Now p c input how s w x count given) f now) e g h
      (subst (λ x. weight s x + 2 * length reads + 2 ≤ n) f (omega (arith, l))))
  heard n on s w future count given (failed ∷ reads) now e g v f h l =
      subst (SoFar s.places.window count)
      (sym
      (run_hears (driver p) (suc n) (wants (at s w [])) (failed ∷ reads) (at s w []) failed reads refl refl
      ∙ run_ends (driver p) n (ends p.fails) reads p.fails refl))
      (cut_now s w future count given now v e g f broken h (λ z. let y : ◌≡◌ {A = ℕ} 0 1 = cc in omega arith))

  settle_by : (n : ℕ) → Settles (suc n) → Settles n → (s : Session) (w rest future : List ℕ) (count : ℕ) (given : List (List ℕ)) (reads : List Read)
      → Now p c input how s w (rest ++ future) count given → Reading s future reads
      → weight s (rest ++ future) + 2 * length reads + 2 ≤ suc (suc n)
      → Did p c input how s w rest future count given
      → SoFar s.places.window count (run (driver p) (suc (suc n)) (turns p (at s w rest)) reads)
  settle_by n on less s w rest future count given reads now r l (went text s' w' rest' count' given' e now' lighter k window opens) =
      gone_on (suc n) s.places.window count count' (turns p (at s w rest)) reads text (at s' w' rest') e k
      (subst (λ x. SoFar x count' (run (driver p) (suc n) (turns p (at s' w' rest')) reads)) window
      (on s' w' rest' future count' given' reads now' (λ z. r (opens z)) (omega (arith, l, lighter))))
  settle_by n on less s w rest future count given reads now r l (halted text e prints) =
      subst (SoFar s.places.window count) (sym (run_ends (driver p) (suc n) (turns p (at s w rest)) reads text e)) prints
  settle_by n on less s w rest future count given reads now r l (lacks e none open-now on_now v) =
      let known = r open-now in
      let now' = subst (λ x. Now p c input how s w (x ++ future) count given) none now in
      let t : turns p (at s w rest) ≡ wants (at s w []) = e ∙ ap (λ x. wants (at s w x)) none in
      subst (λ x. SoFar s.places.window count (run (driver p) (suc (suc n)) x reads)) (sym t)
      (heard n less s w future count given reads now' open-now on_now v known.0 known.1
      (subst (λ x. weight s (x ++ future) + 2 * length reads + 2 ≤ suc (suc n)) none l))

  pub settle : (n : ℕ) → Settles n
  settle zero s w rest future count given reads now r l = absurd (omega (arith, l))
  settle (suc zero) s w rest future count given reads now r l = absurd (omega (arith, l))
  settle (suc (suc n)) s w rest future count given reads now r l =
      settle_by n (settle (suc n)) (settle n) s w rest future count given reads now r l (did_of p c input how s w rest future count given now)
