-- Which contents are visible to a GET, and whether its answer shows one of them.
use Rattle.std.specs.Prelude.{ℕ, Bool, true, false, ◌&&◌, nat_eq, List, length, Option, Some, None}
use Rattle.std.specs.List.{list_any}
use Rattle.std.specs.Str.{bytes_eq}
use Rattle.md5.specs.Md5.{md5}
use Rattle.sb_base.specs.declared.entry.Shown.{Shown}
use Rattle.sb_base.specs.declared.entry.Shown.TheVariants as shown
use Rattle.sb_history.specs.Contents.{is_zeros}
use Rattle.sb_history.specs.Visibility as visibility
use Rattle.sb_staleness.specs.declared.puts.SeenPut.{SeenPut}
use Rattle.sb_staleness.specs.declared.visible.Sight.{Sight}
use Rattle.sb_staleness.specs.Seen.{delays_seen, put_seen, puts_seen}

-- an answer shows this content, or its digest, where that was asked about
abbrev pub shows : ℕ → Option (List ℕ) → Shown → List ℕ → Bool
shows block_size verify shown.Absent content = nat_eq (length content) block_size && is_zeros content
shows block_size verify (shown.Bytes bytes) content = bytes_eq content bytes
shows block_size (Some digest) shown.Same content = bytes_eq (md5 content) digest
shows block_size None shown.Same content = false
shows block_size verify shown.Failed content = true

-- a put has settled before the GET began
abbrev pub is_settled : Sight → SeenPut → Bool
is_settled sight put =
    visibility.is_settled sight.delays.show sight.begin.place sight.begin.reading (put_seen put)

-- a put that has settled supersedes this one
abbrev pub is_superseded : Sight → SeenPut → Bool
is_superseded sight put =
    list_any (λ later. is_settled sight later && visibility.supersedes sight.delays.order (put_seen later)
    (put_seen put)) sight.puts.now

-- what the store may show to a GET
abbrev pub visible_to : Sight → List (List ℕ)
visible_to sight =
    visibility.visible_contents (delays_seen sight.delays) sight.begin.place sight.begin.reading sight.start.now
    (puts_seen sight.puts.now)
