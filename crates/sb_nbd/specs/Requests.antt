-- Requests as bytes (NBD protocol, "Request message").
use Rattle.std.specs.Prelude.{ℕ, ◌≡◌, ◌≤◌, ◌<◌, ◌^◌, nat_eq, if◌then◌else◌, List, ◌++◌, length}
use Rattle.std.specs.Int.{w16, w32, w64, to_be_bytes}
use Rattle.sb_nbd.specs.declared.wanted.Wanted.{Wanted}
use Rattle.sb_nbd.specs.Numbers.{max_payload, request_magic, write_type}

-- the magic of a request
unfoldable pub magic_bytes : List ℕ
magic_bytes = to_be_bytes w32 request_magic

-- the fields behind the magic
unfoldable pub fields_bytes : Wanted → List ℕ
fields_bytes w = to_be_bytes w16 w.flags ++ (to_be_bytes w16
    w.kind ++ (to_be_bytes w64 w.cookie ++ (to_be_bytes w64 w.offset ++ to_be_bytes w32 w.length)))

-- numbers that the fields have room for
pub record FitsFields (w : Wanted) : Type 0 where
  pub flags : w.flags < 2 ^ 16
  pub kind : w.kind < 2 ^ 16
  pub cookie : w.cookie < 2 ^ 64
  pub offset : w.offset < 2 ^ 64
  pub length : w.length < 2 ^ 32

-- a request with the bytes that it carries
pub record Request : Type 0 where
  pub wanted : Wanted
  pub payload : List ℕ

-- how many bytes follow the fields: those of a WRITE, whatever its flags
abbrev pub payload_length : Wanted → ℕ
payload_length w = if nat_eq w.kind write_type then w.length else 0

-- a request that may be read
pub record IsRequest (r : Request) : Type 0 where
  pub payload : length r.payload ≡ payload_length r.wanted
  pub within : payload_length r.wanted ≤ max_payload
  pub fits : FitsFields r.wanted

-- the bytes of a request
abbrev pub request_bytes : Request → List ℕ
request_bytes r = magic_bytes ++ (fields_bytes r.wanted ++ r.payload)
