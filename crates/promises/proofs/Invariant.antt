-- What holds at every moment of a run: the lines gone through, the raw bytes taken, and how session and window show them.
use Rattle.std.proofs.Common.{◌≡◌, ℕ, ◌-◌, ◌<◌, Bool, true, List, [], ◌++◌, length, ap, arith, length-append, eq-eqb}
use mathlib.Core.List.{flatten, map}
use Rattle.definition.specs.declared.Settings.{Settings}
use Rattle.definition.specs.Definition.{quit_met}
use Rattle.definition.specs.Rows.{flat}
use Rattle.definition.specs.State.{begun, rows, state, trim}
use Rattle.definition.specs.Text.{lines, part, text}
use Rattle.definition.proofs.Terminator.{Whole}
use Rattle.definition.proofs.Uncut.{Uncut}
use Rattle.session.specs.declared.Input.{Input}
use Rattle.session.specs.declared.Input.TheVariants.{Open, Ended, QuitFound}
use Rattle.session.specs.declared.Session.{Session}
use Rattle.session.specs.Calls.{replaced_in}
use Rattle.session.specs.Held.{shown, unanswered}
use Rattle.promises.specs.Promises.{Fitted}
use Rattle.session.specs.Sound.{Agree, sound, taken_bytes}
use Rattle.session.proofs.Agree.{agrees_of}
use Rattle.session.proofs.Parts.{part_length}

-- how the input stands, for what is left of it
abbrev pub InputNow : Settings → Input → List ℕ → Type 0
InputNow c Open rest = Unit {0}
InputNow c Ended rest = rest ≡ []
InputNow c QuitFound rest = (quit_met c.binary rest ≡ true) × (text c rest ≡ [])

pub record Inv (input : List ℕ) (answers : ℕ → Bool) (s : Session) (w rest : List ℕ) (count : ℕ) (given : List (List ℕ)) : Type 0 where
  -- the raw bytes taken, and the lines gone through
  pub past : List ℕ
  pub gone : List (List ℕ)
  pub agree : Agree s
  pub window_is : length w ≡ s.places.window
  pub input_is : input ≡ past ++ rest
  pub uncut : Uncut s.walk.settings past
  pub text_is : text s.walk.settings past ≡ flatten gone ++ unanswered s w
  pub bytes_is : s.walk.bytes ≡ length (flatten gone)
  pub lines_is : s.walk.lines ≡ length gone
  pub count_is : count ≡ length gone
  pub state_is : trim s.walk.settings (shown s w) ≡ trim s.walk.settings (state s.walk.settings answers (begun s.walk.settings) gone)
  pub rows_are : given ≡ map flat (rows s.walk.settings answers (begun s.walk.settings) gone)
  pub lines_are : lines s.walk.settings.terminator (text s.walk.settings input)
      ≡ gone ++ lines s.walk.settings.terminator (unanswered s w ++ text s.walk.settings rest)
  pub whole : 0 < length (unanswered s w ++ text s.walk.settings rest) → Whole s.walk.settings.terminator (part s.places.floor s.places.next w)
  pub fitted : Fitted s.walk.settings answers s.places.window gone
  pub replaced_is : s.places.replaced ≡ replaced_in s.walk.settings.binary s.walk.settings.terminator 0 past
  pub input_now : InputNow s.walk.settings s.places.input rest

pub unanswered_length : (s : Session) (w : List ℕ) → Agree s → length w ≡ s.places.window → length (unanswered s w) ≡ s.places.end - s.places.next
unfolding unanswered
unanswered_length s w a size = part_length s.places.next s.places.end w a.places.next_end (omega (arith, a, size))

module _ (input : List ℕ) (answers : ℕ → Bool) (s : Session) (w rest : List ℕ) (count : ℕ) (given : List (List ℕ))
    (i : Inv input answers s w rest count given) where
  pub taken_is : taken_bytes s ≡ length i.past
  unfolding taken_bytes
  taken_is =
      omega (
        arith,
        i.uncut,
        ap length i.text_is,
        length-append (flatten i.gone) (unanswered s w),
        i.bytes_is,
        unanswered_length s w i.agree i.window_is,
      )

  pub sound_now : sound s (length w) ≡ true
  unfolding sound
  sound_now = rw (agrees_of s i.agree, eq-eqb (length w) s.places.window i.window_is)
