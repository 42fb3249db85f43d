-- What the adapters of the system decide of an outcome.
use Rattle.std.specs.Prelude.{ℕ, zero, suc, ◌≡◌, ◌+◌, ◌-◌, ◌^◌, min, Bool, true, false, Result, Ok, Err, IsErr, Option, Some}
use Rattle.std.specs.Prelude.{None, ℤ, pos, ◌<ℤ◌}
use Rattle.std.specs.Fs.{file_type, IsFile}
use Rattle.std.specs.declared.fs.attrs.Metadata.{Metadata}
use Rattle.std.specs.IoError.{error_kind}
use Rattle.std.specs.declared.io.Error.{Error}
use Rattle.std.specs.declared.io.ErrorKind.{ErrorKind}
use Rattle.std.specs.declared.io.ErrorKind.TheVariants as kind
use Rattle.sb_world.specs.declared.folder.FolderFault.{FolderFault}
use Rattle.sb_world.specs.declared.folder.FolderFault.TheVariants as fault
use Rattle.sb_world.specs.declared.world.MakeFault.{MakeFault}
use Rattle.sb_world.specs.declared.world.MakeFault.TheVariants as make

-- a count of faults after a call, one more where it failed so
abbrev pub count_after : Bool → ℕ → ℕ
count_after true count = min (count + 1) (2 ^ 64 - 1)
count_after false count = count

-- nothing is there where it wasn't found, and any other error is one
abbrev pub IsFoundByError : ErrorKind → Result Bool Error → Type 0
IsFoundByError kind.NotFound result = result ≡ Ok false
IsFoundByError _ result = IsErr result

-- a file is there, or something else is, which is an error
pub record IsFoundByType (metadata : Metadata) (result : Result Bool Error) : Type 0 where
  pub file : IsFile (file_type metadata) → result ≡ Ok true
  pub other : (IsFile (file_type metadata) → ⊥) → IsErr result

-- whether a file is there, by what was seen under its name
abbrev pub IsFound : Result Metadata Error → Result Bool Error → Type 0
IsFound (Ok metadata) result = IsFoundByType metadata result
IsFound (Err error) result = IsFoundByError (error_kind error) result

-- the fault of a kind of error
abbrev pub fault_of_kind : ErrorKind → FolderFault
fault_of_kind kind.OutOfMemory = fault.Memory
fault_of_kind _ = fault.Failed

-- a call answers its value where the directory was in its place, and else the fault of the first error
abbrev pub IsSettled : {T : Type 0} → Result T Error → Result Unit Error → Result T FolderFault → Type 0
IsSettled (Ok value) (Ok done) result = result ≡ Ok value
IsSettled (Ok value) (Err error) result = result ≡ Err (fault_of_kind (error_kind error))
IsSettled (Err error) place result = result ≡ Err (fault_of_kind (error_kind error))

-- why no bench was made, by a kind of error
abbrev pub fault_of_making : ErrorKind → MakeFault
fault_of_making kind.OutOfMemory = make.Memory
fault_of_making _ = make.Store

-- why no listener was made, by a kind of error
abbrev pub fault_of_listening : ErrorKind → MakeFault
fault_of_listening kind.OutOfMemory = make.Memory
fault_of_listening _ = make.Listen

-- after an error of such a kind the same call may go well
abbrev pub is_passing_kind : ErrorKind → Bool
is_passing_kind kind.WouldBlock = true
is_passing_kind kind.Interrupted = true
is_passing_kind kind.ConnectionAborted = true
is_passing_kind _ = false

-- how many connections are accepted, where there is a limit: 0 is none
abbrev pub limit_on : ℕ → Option ℕ
limit_on zero = None
limit_on (suc count) = Some (suc count)

-- how many more are accepted behind an accept: one fewer where it gave a connection
abbrev pub left_after : {T : Type 0} → Result (Option T) Error → Option ℕ → Option ℕ
left_after outcome None = None
left_after (Ok (Some connection)) (Some left) = Some (left - 1)
left_after (Ok None) (Some left) = Some left
left_after (Err error) (Some left) = Some left

-- the moment so many seconds behind the begin of 1970, as far as an i64 goes; one before it where they can't be had
abbrev pub IsMoment : Option ℕ → ℤ → Type 0
IsMoment None moment = moment <ℤ pos 0
IsMoment (Some seconds) moment = moment ≡ pos (min seconds (2 ^ 63 - 1))
