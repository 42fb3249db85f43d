-- Replies to options as bytes (NBD protocol, "Option reply types").
use Rattle.std.specs.Prelude.{ℕ, List, ◌++◌, length}
use Rattle.std.specs.Int.{w16, w32, w64, to_be_bytes}
use Rattle.sb_nbd.specs.Numbers.{option_reply_magic, export_kind, block_size_kind, max_payload}

-- magic, option, kind, and how many bytes follow
unfoldable pub option_reply_head : ℕ → ℕ → ℕ → List ℕ
option_reply_head option kind size = to_be_bytes w64 option_reply_magic ++ (to_be_bytes w32
    option ++ (to_be_bytes w32 kind ++ to_be_bytes w32 size))

-- a reply to an option with its body
abbrev pub option_reply_bytes : ℕ → ℕ → List ℕ → List ℕ
option_reply_bytes option kind body = option_reply_head option kind (length body) ++ body

-- the size of a disk and its transmission flags, as information
unfoldable pub export_info : ℕ → ℕ → List ℕ
export_info size flags = to_be_bytes w16 export_kind ++ (to_be_bytes w64 size ++ to_be_bytes w16 flags)

-- the least, the preferred and the greatest size of a request, as information: 1, the disk's blocks, and 32 MiB
unfoldable pub block_size_info : ℕ → List ℕ
block_size_info block_size = to_be_bytes w16 block_size_kind ++ (to_be_bytes w32 1 ++ (to_be_bytes w32
    block_size ++ to_be_bytes w32 max_payload))
