-- The contract of each public call as a relation between what is lent and what comes back, and that each leaves one outcome:
-- for any arguments whatever, refused or served.
use Rattle.std.specs.Prelude.{◌≡◌, ℕ, Bool, List, length, Result}
use Rattle.definition.specs.declared.End.{End}
use Rattle.definition.specs.declared.Refusal.{Refusal}
use Rattle.definition.specs.declared.Settings.{Settings}
use Rattle.session.specs.declared.Answered.{Answered}
use Rattle.session.specs.declared.Offered.{Offered}
use Rattle.session.specs.declared.Refused.{Refused}
use Rattle.session.specs.Calls.{answer_result, answered_table, offer_result, offered_window, open_result, record_result, shown_from, shown_line, tell_result, waiting}
use Rattle.session.specs.Place.{place_in}
use Rattle.session.specs.Sound.{closed}
use Rattle.searcher.specs.declared.Searcher.{Searcher}
use Rattle.searcher.specs.Door.{door_answered, door_offered, door_opened, searcher}

-- what opening and telling the end give: the searcher
abbrev pub Opened : Type 0
Opened = Result Searcher (Refused Searcher)

abbrev pub WasOffered : Type 0
WasOffered = Result (Offered Searcher) (Refused Searcher)

abbrev pub WasAnswered : Type 0
WasAnswered = Result (Answered Searcher) (Refused Searcher)

abbrev pub Closes : Searcher → Type 0
Closes r = r ≡ searcher closed

abbrev pub Opens : Settings → ℕ → Opened → Type 0
Opens c window r = r ≡ door_opened (open_result c window)

-- the window as it came, the piece, the answer, the window as it went
abbrev pub Offers : Searcher → List ℕ → List ℕ → WasOffered → List ℕ → Type 0
Offers self w piece r after =
    (r ≡ door_offered (offer_result self.session w piece)) × (after ≡ offered_window self.session w piece)

abbrev pub Waits : Searcher → List ℕ → Result Bool Refusal → Type 0
Waits self w r = r ≡ waiting self.session w

-- the window's bytes and where it lies, then the bytes of the part shown and where that lies
abbrev pub Shows : Searcher → List ℕ → ℕ × ℕ → List ℕ → ℕ × ℕ → Type 0
Shows self w at r place =
    (r ≡ shown_line self.session w) × (place ≡ place_in at (shown_from self.session (length w)))

-- window, the table as it came, yes or no, the answer, the table as it went
abbrev pub Answers : Searcher → List ℕ → List ℕ → Bool → WasAnswered → List ℕ → Type 0
Answers self w table hit r after =
    (r ≡ door_answered (answer_result self.session w table hit)) × (after ≡ answered_table self.session w table hit)

abbrev pub TellsEnd : Searcher → Opened → Type 0
TellsEnd self r = r ≡ door_opened (tell_result self.session)

abbrev pub Records : Searcher → Result End Refusal → Type 0
Records self r = r ≡ record_result self.session

-- Two outcomes of a call on the same arguments are the same outcome (proofs/Outcomes.antt, one_outcome).
pub record OneOutcome : Type 0 where
  pub closing : (r q : Searcher) → Closes r → Closes q → r ≡ q
  pub opening : (c : Settings) (window : ℕ) (r q : Opened) → Opens c window r → Opens c window q → r ≡ q
  pub offer :
      (self : Searcher) (w piece : List ℕ) (r q : WasOffered) (v u : List ℕ) → Offers self w piece r v → Offers self w piece q u → (r ≡ q) × (v ≡ u)
  pub waiting : (self : Searcher) (w : List ℕ) (r q : Result Bool Refusal) → Waits self w r → Waits self w q → r ≡ q
  pub line :
      (self : Searcher) (w : List ℕ) (at : ℕ × ℕ) (r q : List ℕ) (n m : ℕ × ℕ) → Shows self w at r n → Shows self w at q m → (r ≡ q) × (n ≡ m)
  pub answer :
      (self : Searcher) (w table : List ℕ) (hit : Bool) (r q : WasAnswered) (v u : List ℕ)
      → Answers self w table hit r v
      → Answers self w table hit q u
      → (r ≡ q) × (v ≡ u)
  pub tell_end : (self : Searcher) (r q : Opened) → TellsEnd self r → TellsEnd self q → r ≡ q
  pub end_record : (self : Searcher) (r q : Result End Refusal) → Records self r → Records self q → r ≡ q
