-- What a part is written with.
use Rattle.std.specs.Prelude.{ℕ, List}
use Rattle.sb_base.specs.declared.part.Part.{Part}
use Rattle.sb_history.specs.Contents.{zeros}
use Rattle.sb_crew.specs.declared.writes.Content.{Content}
use Rattle.sb_crew.specs.declared.writes.Content.TheVariants as content

-- the bytes that a part is written with: those that are given, or as many zeros as it is long
abbrev pub content_of : Content → Part → List ℕ
content_of (content.Bytes bytes) part = bytes.now
content_of content.Zeros part = zeros part.length
