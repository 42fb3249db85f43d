-- The base URL of a store: http://host/ or http://host:port/
use Rattle.std.specs.Prelude.{ℕ, ◌≡◌, ◌-◌, ◌==◌, ◌||◌, ◌&&◌, nat_le, nat_lt, nat_eq, Bool, if◌then◌else◌}
use Rattle.std.specs.Prelude.{List, [], ◌∷◌, length, take, drop, codes, Option, Some, None, Result, Ok, Err}
use Rattle.std.specs.List.{list_all, prefix_len}
use Rattle.std.specs.Cmp.Lexicographic.{pointwise}
use Rattle.std.specs.Char.{is_ascii_alphanumeric, is_ascii_digit}
use Rattle.sb_base.specs.declared.size.SizeFault.{SizeFault}
use Rattle.sb_base.specs.Sizes.{size_of}

-- a byte of a host's name: a letter, a digit, `.` or `-`
abbrev pub is_host_byte : ℕ → Bool
is_host_byte byte = is_ascii_alphanumeric byte || (byte == 46) || (byte == 45)

-- a TCP port by its number: 1 to 65,535
abbrev pub port_by : Result ℕ SizeFault → Option ℕ
port_by (Ok number) = if nat_lt 0 number && nat_lt number 65536 then Some number else None
port_by (Err fault) = None

-- the port that some digits stand for
abbrev pub port_of : List ℕ → Option ℕ
port_of digits = if list_all is_ascii_digit digits then port_by (size_of digits) else None

-- the port of the digits before a slash
abbrev pub port_before_slash : List ℕ → Option ℕ
port_before_slash text =
    if pointwise nat_eq (drop (length text - 1) text) (codes "/") then port_of (take (length text - 1) text) else None

-- the port behind a host: that of HTTP (RFC 9110, section 4.2.1) before a slash, or one between a colon and a slash
abbrev pub port_behind : List ℕ → Option ℕ
port_behind [] = None
port_behind (first ∷ behind) =
    if first == 58 then port_before_slash behind
    else (if (first == 47) && (length behind == 0) then Some 80 else None)

-- a host that isn't empty, and its port
abbrev pub place_with : List ℕ → Option ℕ → Option (List ℕ × ℕ)
place_with host (Some port) = if length host == 0 then None else Some (host, port)
place_with host None = None

-- the host and the port behind the scheme
abbrev pub place_behind : List ℕ → Option (List ℕ × ℕ)
place_behind text =
    let count = prefix_len is_host_byte text in
    place_with (take count text) (port_behind (drop count text))

-- the host and the port of a base URL
abbrev pub place_of : List ℕ → Option (List ℕ × ℕ)
place_of url =
    if pointwise nat_eq (take 7 url) (codes "http://") then place_behind (drop 7 url) else None
