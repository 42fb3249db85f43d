-- What requests want done, and which are refused.
use Rattle.std.specs.Prelude.{ℕ, ◌+◌, ◌*◌, nat_eq, nat_lt, Bool, true, false, if◌then◌else◌, List, [], ◌∷◌, ◌++◌, take, drop}
use Rattle.std.specs.List.{filter}
use Rattle.std.specs.Prelude.{Option, Some, None, Result, Ok, Err}
use Rattle.sb_base.specs.declared.geometry.Geometry.{Geometry}
use Rattle.sb_base.specs.declared.part.Part.{Part}
use Rattle.sb_base.specs.Ranges.{parts_of}
use Rattle.sb_base.specs.declared.entry.Entry.{Entry}
use Rattle.sb_history.specs.Contents.{zeros}
use Rattle.sb_nbd.specs.declared.wanted.Wanted.{Wanted}
use Rattle.sb_nbd.specs.declared.command.Command.{Command}
use Rattle.sb_nbd.specs.declared.command.Command.TheVariants.{Read, Write, Disc, Flush, Trim, WriteZeroes}
use Rattle.sb_nbd.specs.Commands.{command_of, has_other_flags, has_fua}
use Rattle.sb_nbd.specs.Numbers.{disc_type, einval, enospc, eperm, max_payload}
use Rattle.sb_nbd.specs.Requests.{Request}
use Rattle.sb_crew.specs.Outcomes.{Outcome, ReadDone, WriteDone, flush_of, bytes_read}
use Rattle.sb_session.specs.declared.zeroing.Zeroing.{Zeroing}
use Rattle.sb_session.specs.declared.zeroing.Zeroing.TheVariants.{EachPart, WholeBlocks}

-- DISC, whatever its flags
abbrev pub is_disc : Wanted → Bool
is_disc w = nat_eq w.kind disc_type

-- a range passes the end of a disk
abbrev pub passes_end : Geometry → Wanted → Bool
passes_end geometry w = nat_lt (geometry.block_size * geometry.blocks) (w.offset + w.length)

-- the command of a request that reads, or its error: it is too long, or its range passes the end
abbrev pub read_verdict : Geometry → Wanted → Result Command ℕ
read_verdict geometry w =
    if nat_lt max_payload w.length then Err einval else if passes_end geometry w then Err einval else Ok Read

-- the command of a request that writes, or its error: the disk is read-only, or its range passes the end, which has
-- this error
abbrev pub write_verdict : Bool → Geometry → Wanted → Command → ℕ → Result Command ℕ
write_verdict read_only geometry w command error =
    if read_only then Err eperm else if passes_end geometry w then Err error else Ok command

-- the same for a request with a command and no other flags than it may have
abbrev pub verdict_of : Bool → Geometry → Wanted → Command → Result Command ℕ
verdict_of read_only geometry w Read = read_verdict geometry w
verdict_of read_only geometry w Write = write_verdict read_only geometry w Write enospc
verdict_of read_only geometry w Trim = write_verdict read_only geometry w Trim einval
verdict_of read_only geometry w WriteZeroes = write_verdict read_only geometry w WriteZeroes enospc
verdict_of read_only geometry w Flush = Ok Flush
verdict_of read_only geometry w Disc = Ok Disc

-- first another type than those of the commands, and then a flag that the command may not have, are refused
abbrev pub verdict_as : Bool → Geometry → Wanted → Option Command → Result Command ℕ
verdict_as read_only geometry w None = Err einval
verdict_as read_only geometry w (Some command) =
    if has_other_flags command w.flags then Err einval else verdict_of read_only geometry w command

-- the command of a request that is served, or the error by which it is refused
abbrev pub verdict : Bool → Geometry → Wanted → Result Command ℕ
verdict read_only geometry w = verdict_as read_only geometry w (command_of w.kind)

-- the command of a range of the disk
abbrev pub has_range : Command → Bool
has_range Flush = false
has_range Disc = false
has_range other = true

-- the parts of a request's range
abbrev pub parts_in_range : Geometry → Wanted → List Part
parts_in_range geometry w = parts_of geometry.block_size w.offset (w.offset + w.length)

-- a part gets zeros: each part does, or only one that is a whole block of this size
abbrev pub is_zeroed : Zeroing → ℕ → Part → Bool
is_zeroed EachPart size part = true
is_zeroed WholeBlocks size part = nat_eq part.length size

abbrev pub zeroed : Zeroing → ℕ → List Part → List Part
zeroed zeroing size parts = filter (is_zeroed zeroing size) parts

-- the parts of the disk that a command is about: those of the request's range, but of a TRIM its whole blocks alone
abbrev pub parts_wanted : Geometry → Wanted → Command → List Part
parts_wanted geometry w Read = parts_in_range geometry w
parts_wanted geometry w Write = parts_in_range geometry w
parts_wanted geometry w Trim = zeroed WholeBlocks geometry.block_size (parts_in_range geometry w)
parts_wanted geometry w WriteZeroes = zeroed EachPart geometry.block_size (parts_in_range geometry w)
parts_wanted geometry w Flush = []
parts_wanted geometry w Disc = []

-- the reads of parts, the newest first
abbrev pub reads_of : List Part → List Outcome
reads_of [] = []
reads_of (part ∷ parts) = reads_of parts ++ ReadDone part ∷ []

-- the writes of parts, the newest first, each with its bytes from a payload
abbrev pub writes_of : List Part → List ℕ → List Outcome
writes_of [] payload = []
writes_of (part ∷ parts) payload = writes_of parts (drop part.length payload) ++ WriteDone part
    (take part.length payload) ∷ []

-- the writes of zeros to parts, the newest first
abbrev pub zeros_of : List Part → List Outcome
zeros_of [] = []
zeros_of (part ∷ parts) = zeros_of parts ++ WriteDone part (zeros part.length) ∷ []

-- the flush that FUA wants behind the writes
abbrev pub fua_of : ℕ → ℕ → List Outcome
fua_of flags mark = if has_fua flags then flush_of mark else []

-- what a request with this command that isn't refused wants done, the newest first; the mark is that of its flush, if
-- it has one
abbrev pub goal_of : Geometry → Request → ℕ → Command → List Outcome
goal_of geometry r mark Read = reads_of (parts_wanted geometry r.wanted Read)
goal_of geometry r mark Write =
    fua_of r.wanted.flags mark ++ writes_of (parts_wanted geometry r.wanted Write) r.payload
goal_of geometry r mark Trim = fua_of r.wanted.flags mark ++ zeros_of (parts_wanted geometry r.wanted Trim)
goal_of geometry r mark WriteZeroes =
    fua_of r.wanted.flags mark ++ zeros_of (parts_wanted geometry r.wanted WriteZeroes)
goal_of geometry r mark Flush = flush_of mark
goal_of geometry r mark Disc = []

-- the bytes of a reply without error: those that a READ read, else none
abbrev pub body_of : Command → List Entry → List ℕ
body_of Read entries = bytes_read entries
body_of other entries = []
