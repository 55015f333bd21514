-- 01, "A session": each call as a decision, in the order of the refusals, and what it then gives: the answer, and every byte of window
-- and row table. What a call hands back is said twice: as the `Result` that the code gives, and, made from that, by 01's numbers: 0 or
-- the refusal's, "0 taken, 0 rows", and "a refused end record is all zeros".
use Rattle.std.specs.Prelude.{◌≡◌, ℕ, ◌+◌, ◌-◌, min, Bool, true, false, cond, not, ◌&&◌, ◌||◌, List, [], ◌∷◌, ◌++◌, length, take, drop, ◌==◌, nat_le, nat_lt, Option, Some, None, Result, Ok, Err}
use Rattle.definition.specs.declared.Row.{Row}
use Rattle.definition.specs.declared.Binary.{Binary}
use Rattle.definition.specs.declared.Binary.TheVariants.{Ignore, Quit, Convert}
use Rattle.definition.specs.declared.Cause.{Cause}
use Rattle.definition.specs.declared.End.{End}
use Rattle.definition.specs.declared.Going.{Going}
use Rattle.definition.specs.declared.Going.TheVariants.{On, LimitMet, NonmatchMet}
use Rattle.definition.specs.declared.Refusal.{Refusal}
use Rattle.definition.specs.declared.Refusal.TheVariants.{BadSettings, BadWindow, WindowFull, SizeTaken, Unsound, Unfinished}
use Rattle.definition.specs.declared.Settings.{Settings}
use Rattle.definition.specs.Bounds.{allowed, max_input, max_window}
use Rattle.definition.specs.Definition.{cause_number, cause_of, end_numbers}
use Rattle.definition.specs.Numbers.{refusal_number}
use Rattle.definition.specs.State.{fate_of}
use Rattle.definition.specs.Text.{first_place, part, text}
use Rattle.driver_core.specs.Answer.{AnswerDecision, AnswerRefused, Give, answering_since, below_one_since, gets_row, put_rows, rows_since, walk_next}
use Rattle.driver_core.specs.Walk.{is_on, remains_ahead, shown_ahead, walk_end, walk_start}
use Rattle.session.specs.declared.Answered.{Answered}
use Rattle.session.specs.declared.Input.{Input}
use Rattle.session.specs.declared.Input.TheVariants.{Open, Ended, QuitFound}
use Rattle.session.specs.declared.Offered.{Offered}
use Rattle.session.specs.declared.Places.{Places}
use Rattle.session.specs.declared.Refused.{Refused}
use Rattle.session.specs.declared.Session.{Session}
use Rattle.session.specs.Held.{held_bytes, is_open, kept_from, line_length, shown, since, unanswered, waits}
use Rattle.session.specs.Sound.{ahead_bytes, agrees, closed, places_start, sound, taken_bytes}

-- what a call hands back that is not served
abbrev pub refused : Refusal → Session → Refused Session
refused k s = record { refusal = k; next = s }

-- # Opening

abbrev pub fresh : Settings → ℕ → Session
fresh c window = record { walk = walk_start c; places = places_start window }

-- "1: settings out of range, or pass-through with context. 2: window length at opening 0 or above 65,536"; "1 before 2"
unfoldable pub opening : Settings → ℕ → Option Refusal
opening c window = cond (allowed c) (cond (nat_lt 0 window && nat_le window max_window) None (Some BadWindow)) (Some BadSettings)

-- "Refusals 1 and 2 hand back a closed session"
abbrev pub open_given : Option Refusal → Settings → ℕ → Result Session (Refused Session)
open_given None c window = Ok (fresh c window)
open_given (Some k) c window = Err (refused k closed)

unfoldable pub open_result : Settings → ℕ → Result Session (Refused Session)
open_result c window = open_given (opening c window) c window

pub record OpenOutcome : Type 0 where
  pub refusal : ℕ
  pub session : Session

abbrev pub open_told : Result Session (Refused Session) → OpenOutcome
open_told (Ok s) = record { refusal = 0; session = s }
open_told (Err r) = record { refusal = refusal_number r.refusal; session = r.next }

unfoldable pub opened : Settings → ℕ → OpenOutcome
opened c window = open_told (open_result c window)

-- # Offering a piece

-- how many bytes of a piece come before a Quit byte
abbrev pub quit_place : Binary → List ℕ → ℕ
quit_place Ignore piece = length piece
quit_place (Quit b) piece = first_place b piece
quit_place (Convert b) piece = length piece

unfoldable pub before_quit : Session → List ℕ → ℕ
before_quit s piece = quit_place s.walk.settings.binary piece

-- "a Quit byte at the piece's front"
unfoldable pub quit_front : Session → List ℕ → Bool
quit_front s piece = before_quit s piece == 0 && nat_lt 0 (length piece)

-- "An empty piece, or one after the end or a stop, takes 0 and changes nothing."
unfoldable pub idle : Session → List ℕ → Bool
idle s piece = length piece == 0 || not (is_open s.places.input) || not (is_on s.walk.going)

-- a piece with bytes while the input is open and no stop has come, not led by a Quit byte, to a sound session
abbrev pub Plain : Session → List ℕ → List ℕ → Type 0
Plain s w piece = (sound s (length w) ≡ true) × (idle s piece ≡ false) × (quit_front s piece ≡ false)

-- "as many as fit and as the size allows"
unfoldable pub fitting : Session → List ℕ → List ℕ → ℕ
fitting s w piece = min (before_quit s piece) (min (s.places.window - held_bytes s w) (max_input - taken_bytes s))

-- what an offer does: refuse, change nothing, or take bytes, and whether a Quit byte comes next after them
pub data OfferDecision : Type 0 where
  OfferRefused : Refusal → OfferDecision
  Idle : OfferDecision
  Take : ℕ → Bool → OfferDecision

-- "A Quit byte next after the bytes taken .. ends the input there."
unfoldable pub taking : Session → List ℕ → List ℕ → OfferDecision
taking s w piece =
    Take (fitting s w piece) (fitting s w piece == before_quit s piece && nat_lt (fitting s w piece) (length piece))

-- "6 first ..; a stop or end before a Quit byte at the piece's front; that before 5; 5 before 3"
unfoldable pub offering : Session → List ℕ → List ℕ → OfferDecision
offering s w piece =
    cond (not (sound s (length w))) (OfferRefused Unsound)
    (cond (idle s piece) Idle
    (cond (quit_front s piece) (taking s w piece)
    (cond (nat_le max_input (taken_bytes s)) (OfferRefused SizeTaken)
    (cond (not (waits s w) && nat_le s.places.window (held_bytes s w)) (OfferRefused WindowFull)
    (taking s w piece)))))

-- the first replaced byte of a piece that starts at an offset
abbrev pub replaced_in : Binary → ℕ → ℕ → List ℕ → Option ℕ
replaced_in Ignore t offset bytes = None
replaced_in (Quit b) t offset bytes = None
replaced_in (Convert b) t offset bytes =
    cond (not (b == t) && nat_lt (first_place b bytes) (length bytes)) (Some (offset + first_place b bytes)) None

abbrev pub first_of : Option ℕ → Option ℕ → Option ℕ
first_of None later = later
first_of (Some p) later = Some p

-- "the held part, from the kept part on, moves to the window's front; then bytes go into the window from the held end on"
unfoldable pub stored : Session → List ℕ → List ℕ → ℕ → Bool → Session
stored s w piece n quit =
    record {
      walk = s.walk;
      places =
          record {
            window = s.places.window;
            floor = 0;
            next = s.places.next - kept_from s w;
            end = s.places.end - kept_from s w + n;
            input = cond quit QuitFound Open;
            replaced =
                first_of s.places.replaced
                (replaced_in s.walk.settings.binary s.walk.settings.terminator (taken_bytes s) (take n piece));
          };
    }

-- ".. converted if set. Window places beyond the new held end stay as they were."
unfoldable pub stored_window : Session → List ℕ → List ℕ → ℕ → List ℕ
stored_window s w piece n =
    part (kept_from s w) s.places.end w ++ (text s.walk.settings (take n piece) ++ drop (s.places.end - kept_from s w + n) w)

abbrev pub offer_given : OfferDecision → Session → List ℕ → List ℕ → Result (Offered Session) (Refused Session)
offer_given (OfferRefused k) s w piece = Err (refused k s)
offer_given Idle s w piece = Ok (record { taken = 0; next = s })
offer_given (Take n quit) s w piece = Ok (record { taken = n; next = stored s w piece n quit })

pub record OfferOutcome : Type 0 where
  pub refusal : ℕ
  pub taken : ℕ
  pub session : Session

abbrev pub offer_told : Result (Offered Session) (Refused Session) → OfferOutcome
offer_told (Ok o) = record { refusal = 0; taken = o.taken; session = o.next }
offer_told (Err r) = record { refusal = refusal_number r.refusal; taken = 0; session = r.next }

abbrev pub offer_answer : OfferDecision → Session → List ℕ → List ℕ → OfferOutcome
offer_answer o s w piece = offer_told (offer_given o s w piece)

abbrev pub offer_window : OfferDecision → Session → List ℕ → List ℕ → List ℕ
offer_window (OfferRefused k) s w piece = w
offer_window Idle s w piece = w
offer_window (Take n quit) s w piece = stored_window s w piece n

unfoldable pub offer_result : Session → List ℕ → List ℕ → Result (Offered Session) (Refused Session)
offer_result s w piece = offer_given (offering s w piece) s w piece

unfoldable pub offered : Session → List ℕ → List ℕ → OfferOutcome
offered s w piece = offer_answer (offering s w piece) s w piece

unfoldable pub offered_window : Session → List ℕ → List ℕ → List ℕ
offered_window s w piece = offer_window (offering s w piece) s w piece

-- # Asking

-- "a call of its own tells waiting, none, or refusal 6"
unfoldable pub waiting : Session → List ℕ → Result Bool Refusal
waiting s w = cond (sound s (length w)) (Ok (waits s w)) (Err Unsound)

-- 01's number for each case
abbrev pub waiting_refusal : Result Bool Refusal → ℕ
waiting_refusal (Ok waits) = 0
waiting_refusal (Err k) = refusal_number k

-- "The waiting line is shown as that part of the lent window itself, without its terminator ..; on the last two the part is empty."
unfoldable pub shown_line : Session → List ℕ → List ℕ
shown_line s w = cond (sound s (length w)) (shown_ahead s.walk (is_open s.places.input) (unanswered s w)) []

-- where in the window that part starts: at the first byte not answered; refused, at the front
unfoldable pub shown_from : Session → ℕ → ℕ
shown_from s window = cond (sound s window) s.places.next 0

-- # Answering

-- the line with the bytes since the last line with a row, as the core answers it
unfoldable pub answer_rows : Session → List ℕ → Bool → List Row
answer_rows s w hit = rows_since s.walk (since s w) (line_length s w) hit

unfoldable pub below_one : Session → List ℕ → Bool → Bool
below_one s w hit = below_one_since s.walk (since s w) hit

-- 6 first; then as the core decides
unfoldable pub answering : Session → List ℕ → ℕ → Bool → AnswerDecision
answering s w table hit =
    cond (not (sound s (length w))) (AnswerRefused Unsound)
    (cond (not (waits s w)) (AnswerRefused Unsound)
    (answering_since s.walk (since s w) (line_length s w) table hit))

-- the places after a line of some length, with a row of its own or without
unfoldable pub places_next : Places → ℕ → Bool → Places
places_next p len row =
    record {
      window = p.window;
      floor = cond row (p.next + len) p.floor;
      next = p.next + len;
      end = p.end;
      input = p.input;
      replaced = p.replaced;
    }

unfoldable pub answer_session : Session → List ℕ → Bool → Session
answer_session s w hit =
    record {
      walk = walk_next s.walk (since s w) (line_length s w) hit;
      places = places_next s.places (line_length s w) (gets_row (fate_of s.walk.settings (shown s w) hit));
    }

abbrev pub answer_given : AnswerDecision → Session → List ℕ → Bool → Result (Answered Session) (Refused Session)
answer_given (AnswerRefused k) s w hit = Err (refused k s)
answer_given Give s w hit = Ok (record { rows = length (answer_rows s w hit); next = answer_session s w hit })

pub record AnswerOutcome : Type 0 where
  pub refusal : ℕ
  pub rows : ℕ
  pub session : Session

abbrev pub answer_told : Result (Answered Session) (Refused Session) → AnswerOutcome
answer_told (Ok a) = record { refusal = 0; rows = a.rows; session = a.next }
answer_told (Err r) = record { refusal = refusal_number r.refusal; rows = 0; session = r.next }

abbrev pub answer_answer : AnswerDecision → Session → List ℕ → Bool → AnswerOutcome
answer_answer o s w hit = answer_told (answer_given o s w hit)

abbrev pub answer_table : AnswerDecision → Session → List ℕ → List ℕ → Bool → List ℕ
answer_table (AnswerRefused k) s w table hit = table
answer_table Give s w table hit = put_rows (answer_rows s w hit) table

unfoldable pub answer_result : Session → List ℕ → List ℕ → Bool → Result (Answered Session) (Refused Session)
answer_result s w table hit = answer_given (answering s w (length table) hit) s w hit

unfoldable pub answered : Session → List ℕ → List ℕ → Bool → AnswerOutcome
answered s w table hit = answer_answer (answering s w (length table) hit) s w hit

unfoldable pub answered_table : Session → List ℕ → List ℕ → Bool → List ℕ
answered_table s w table hit = answer_table (answering s w (length table) hit) s w table hit

-- # Telling the end

abbrev pub end_input : Input → Input
end_input Open = Ended
end_input Ended = Ended
end_input QuitFound = QuitFound

-- "Telling the end again, or after a stop, changes nothing."
abbrev pub input_told : Going → Input → Input
input_told On input = end_input input
input_told LimitMet input = input
input_told NonmatchMet input = input

-- the places with the input standing so
abbrev pub with_input : Places → Input → Places
with_input p input =
    record {
      window = p.window;
      floor = p.floor;
      next = p.next;
      end = p.end;
      input = input;
      replaced = p.replaced;
    }

unfoldable pub told_session : Session → Session
told_session s = record { walk = s.walk; places = with_input s.places (input_told s.walk.going s.places.input) }

unfoldable pub telling : Session → Option Refusal
telling s = cond (agrees s) None (Some Unsound)

abbrev pub tell_given : Option Refusal → Session → Result Session (Refused Session)
tell_given None s = Ok (told_session s)
tell_given (Some k) s = Err (refused k s)

unfoldable pub tell_result : Session → Result Session (Refused Session)
tell_result s = tell_given (telling s) s

pub record TellOutcome : Type 0 where
  pub refusal : ℕ
  pub session : Session

abbrev pub tell_told : Result Session (Refused Session) → TellOutcome
tell_told (Ok s) = record { refusal = 0; session = s }
tell_told (Err r) = record { refusal = refusal_number r.refusal; session = r.next }

unfoldable pub told : Session → TellOutcome
told s = tell_told (tell_result s)

-- # The end record

-- "7: end record asked while lines or input remain and no stop has come"
unfoldable pub remains : Session → Bool
remains s = remains_ahead s.walk (is_open s.places.input) (ahead_bytes s)

unfoldable pub recording : Session → Option Refusal
recording s = cond (agrees s) (cond (remains s) (Some Unfinished) None) (Some Unsound)

abbrev pub is_quit : Input → Bool
is_quit Open = false
is_quit Ended = false
is_quit QuitFound = true

-- a replaced byte counts once it is gone through
abbrev pub gone_through : Option ℕ → ℕ → Option ℕ
gone_through None bytes = None
gone_through (Some p) bytes = cond (nat_lt p bytes) (Some p) None

abbrev pub under_convert : Binary → Option ℕ → Option ℕ
under_convert Ignore place = None
under_convert (Quit b) place = None
under_convert (Convert b) place = place

-- "the Quit byte's under cause 1, under Convert the first replaced byte among those gone through, else none"
unfoldable pub recorded_place : Session → Cause → Option ℕ
recorded_place s cause =
    cond (cause_number cause == 1) (Some (taken_bytes s)) (under_convert s.walk.settings.binary (gone_through s.places.replaced s.walk.bytes))

unfoldable pub record_of : Session → End
record_of s =
    let cause = cause_of s.walk.going (is_quit s.places.input) in
    walk_end s.walk (cause_number cause) (recorded_place s cause)

abbrev pub record_given : Option Refusal → Session → Result End Refusal
record_given None s = Ok (record_of s)
record_given (Some k) s = Err k

unfoldable pub record_result : Session → Result End Refusal
record_result s = record_given (recording s) s

-- "a refused end record is all zeros"
abbrev pub no_record : End
no_record = record { bytes = 0; lines = 0; matches = 0; cause = 0; offset = None }

pub record Recorded : Type 0 where
  pub refusal : ℕ
  pub end : End

abbrev pub record_told : Result End Refusal → Recorded
record_told (Ok end) = record { refusal = 0; end = end }
record_told (Err k) = record { refusal = refusal_number k; end = no_record }

-- the same as numbers: the refusal or 0, then the six of the end record
abbrev pub record_numbers : Result End Refusal → List ℕ
record_numbers r = (record_told r).refusal ∷ end_numbers (record_told r).end

unfoldable pub recorded : Session → Recorded
recorded s = record_told (record_result s)
