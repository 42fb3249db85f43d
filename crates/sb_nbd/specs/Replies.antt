-- Replies as bytes (NBD protocol, "Simple reply message").
use Rattle.std.specs.Prelude.{ℕ, List, ◌++◌}
use Rattle.std.specs.Int.{w32, w64, to_be_bytes}
use Rattle.sb_nbd.specs.Numbers.{reply_magic}

-- magic, error and cookie
unfoldable pub reply_head : ℕ → ℕ → List ℕ
reply_head error cookie = to_be_bytes w32 reply_magic ++ (to_be_bytes w32 error ++ to_be_bytes w64 cookie)

-- a reply with its body
abbrev pub reply_bytes : ℕ → ℕ → List ℕ → List ℕ
reply_bytes error cookie body = reply_head error cookie ++ body
