-- Where a disk is served: HOST:PORT
use Rattle.std.specs.Prelude.{ℕ, ◌==◌, ◌&&◌, nat_le, nat_lt, Bool, true, false, List, [], ◌∷◌, drop, Result, Ok, Err}
use Rattle.std.specs.List.{list_all, prefix_len}
use Rattle.std.specs.Char.{is_ascii_digit}
use Rattle.sb_base.specs.declared.size.SizeFault.{SizeFault}
use Rattle.sb_base.specs.Sizes.{size_of}
use Rattle.s3backer.specs.Urls.{is_host_byte}

-- a port to listen at: 0, which is any that is free, to 65,535
abbrev pub is_port_number : Result ℕ SizeFault → Bool
is_port_number (Ok number) = nat_lt number 65536
is_port_number (Err fault) = false

abbrev pub is_port : List ℕ → Bool
is_port digits = list_all is_ascii_digit digits && is_port_number (size_of digits)

-- a colon, and a port behind it
abbrev pub is_port_behind : List ℕ → Bool
is_port_behind [] = false
is_port_behind (first ∷ digits) = (first == 58) && is_port digits

-- a host that isn't empty, with a colon and a port behind it
abbrev pub is_address : List ℕ → Bool
is_address text =
    let count = prefix_len is_host_byte text in
    nat_lt 0 count && is_port_behind (drop count text)
