-- What a request asks for, by its type, and the flags that it may have (NBD protocol, "Request types", "Command flags").
use Rattle.std.specs.Prelude.{ℕ, ◌+◌, nat_eq, nat_lt, Bool, if◌then◌else◌, Option, Some, None}
use Rattle.std.specs.Int.Bits.{bit_and}
use Rattle.sb_nbd.specs.declared.command.Command.{Command}
use Rattle.sb_nbd.specs.declared.command.Command.TheVariants.{Read, Write, Disc, Flush, Trim, WriteZeroes}
use Rattle.sb_nbd.specs.Numbers.{read_type, write_type, disc_type, flush_type, trim_type, write_zeroes_type}
use Rattle.sb_nbd.specs.Numbers.{fua, no_hole}

-- the command of a type, if it is one of these
abbrev pub command_of : ℕ → Option Command
command_of kind =
    if nat_eq kind read_type then Some Read
    else if nat_eq kind write_type then Some Write
    else if nat_eq kind disc_type then Some Disc
    else if nat_eq kind flush_type then Some Flush
    else if nat_eq kind trim_type then Some Trim
    else if nat_eq kind write_zeroes_type then Some WriteZeroes
    else None

-- all flags that a command may have: FUA, and WRITE_ZEROES also NO_HOLE
abbrev pub flags_of : Command → ℕ
flags_of WriteZeroes = fua + no_hole
flags_of other = fua

-- a flag is there that the command may not have: they are the lowest bits
abbrev pub has_other_flags : Command → ℕ → Bool
has_other_flags command flags = nat_lt (flags_of command) flags

-- FUA is among the flags
abbrev pub has_fua : ℕ → Bool
has_fua flags = nat_eq (bit_and flags fua) fua
