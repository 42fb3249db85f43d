-- The contents at the start, out of the image of a disk.
use Rattle.std.specs.Prelude.{ℕ, ◌*◌, List, take, drop}
use Rattle.sb_history.specs.Contents.{Start}

-- a block's bytes of the image, in which block follows block
abbrev pub start_of : ℕ → List ℕ → Start
start_of block_size image block = take block_size (drop (block * block_size) image)
