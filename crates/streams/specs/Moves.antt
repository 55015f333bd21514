-- What a call of `read` or `write` did, by the count that it gave or the errno that it left. This is all that a program decides
-- by: a failure is never the end, a signal is neither, and a part is not the whole.
use Rattle.std.specs.Prelude.{ℕ, suc, zero, ◌-◌, ◌≤◌, min, Bool, false, cond, List, [], ◌∷◌, eqb, ℤ, pos, negsuc, length}
use Rattle.std.specs.Prelude.{Option, Some, None, Result, Ok, Err, ◌≡◌, true, take}
use Rattle.std.specs.Io.KnownBytes.{Appends, ReadConsumes}
use Rattle.std.specs.IoError.{error_kind, raw_os_error}
use Rattle.std.specs.declared.io.Error.{Error}
use Rattle.std.specs.declared.io.ErrorKind.{ErrorKind}
use Rattle.std.specs.declared.io.ErrorKind.TheVariants as Kinds
use Rattle.streams.specs.declared.Failure.{Failure}
use Rattle.streams.specs.declared.Failure.TheVariants.{Interrupted, Errno}

-- EINTR: a signal came before a byte was moved
abbrev pub is_signal : ℤ → Bool
is_signal (pos n) = eqb n 4
is_signal (negsuc n) = false

unfoldable pub unmoved_by : ℤ → Failure
unmoved_by error = cond (is_signal error) Interrupted (Errno error)

-- by a count or an errno: the count 0 is the end of an input; a call moves no more than it was lent
abbrev pub moved_of : Result ℕ ℤ → ℕ → Result ℕ Failure
moved_of (Ok n) most = Ok (min n most)
moved_of (Err error) most = Err (unmoved_by error)

-- what is left to be written of a text of so many bytes, or the errno where it cannot be written, 0 where none was moved
abbrev pub left_of : Result ℕ Failure → ℕ → Result ℕ ℤ
left_of (Ok zero) size = Err (pos 0)
left_of (Ok (suc n)) size = Ok (size - suc n)
left_of (Err Interrupted) size = Ok size
left_of (Err (Errno error)) size = Err error

-- what a read moved lies at the buffer's front
abbrev pub MovedWithin : Result ℕ Failure → List ℕ → Type 0
MovedWithin (Ok n) buffer = n ≤ length buffer
MovedWithin (Err e) buffer = Unit

-- `failed read` and a newline
abbrev pub failed_read : List ℕ
failed_read = 102 ∷ 97 ∷ 105 ∷ 108 ∷ 101 ∷ 100 ∷ 32 ∷ 114 ∷ 101 ∷ 97 ∷ 100 ∷ 10 ∷ []

-- # What std gives of a call

-- an error's errno: the system's, or that of its kind
abbrev pub errno_by : Option ℤ → ErrorKind → ℤ
errno_by (Some code) kind = code
errno_by None Kinds.Interrupted = pos 4
errno_by None kind = pos 5

abbrev pub errno_of : Error → ℤ
errno_of e = errno_by (raw_os_error e) (error_kind e)

-- an error goes by its errno
abbrev pub moved_in : Result ℕ Error → ℕ → Result ℕ Failure
moved_in (Ok n) most = moved_of (Ok n) most
moved_in (Err e) most = moved_of (Err (errno_of e)) most

-- # The bytes that a reader has left and that a writer holds, where those are known

-- a read takes the bytes that it moved, and nothing moves but at the end; a signal and a failure take none
abbrev pub Takes : Option (List ℕ) → Option (List ℕ) → Result ℕ Failure → List ℕ → Type 0
Takes old new moved buffer = ReadConsumes old new moved buffer

-- what is written of a text is a front of it, and all of it where that is told
abbrev pub WritesFront : Option (List ℕ) → Option (List ℕ) → List ℕ → Bool → Type 0
WritesFront old new text whole = (n : ℕ) × Appends old new (take n text) × (whole ≡ true → length text ≤ n)
