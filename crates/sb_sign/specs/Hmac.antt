-- HMAC-SHA256 (RFC 2104 over FIPS 180-4). A block of SHA-256 has 64 bytes.
use Rattle.std.specs.Prelude.{ℕ, ◌-◌, nat_lt, List, ◌++◌, length, map, replicate, bit_xor, if◌then◌else◌}
use Rattle.sha2.specs.Sha256.{sha256}
use Rattle.sha2.specs.Hashers.{Holds256}
use Rattle.sb_sign.specs.declared.hmac.Keyed.{Keyed}

-- a key, or its hash where it is longer than a block
abbrev pub short_key : List ℕ → List ℕ
short_key key = if nat_lt 64 (length key) then sha256 key else key

-- a key as a block: zeros follow it
abbrev pub filled : List ℕ → List ℕ
filled key = key ++ replicate (64 - length key) 0

-- a block with a pad: the exclusive or of each byte with it
abbrev pub padded : ℕ → List ℕ → List ℕ
padded pad block = map (λ byte. bit_xor byte pad) block

-- the HMAC of a message: two hashes, each begun with the key's block under a pad of its own
unfoldable pub hmac_of : List ℕ → List ℕ → List ℕ
hmac_of key message =
    sha256 (padded 0x5c (filled (short_key key)) ++ sha256 (padded 0x36 (filled (short_key key)) ++ message))

-- the two hashers have taken in a key
pub record IsKeyed (keyed : Keyed) (key : List ℕ) : Type 0 where
  pub inner : Holds256 keyed.inner (padded 0x36 (filled (short_key key)))
  pub outer : Holds256 keyed.outer (padded 0x5c (filled (short_key key)))
