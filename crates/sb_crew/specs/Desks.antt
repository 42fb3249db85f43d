-- What a caller makes its requests with.
use Rattle.std.specs.Prelude.{◌≡◌, vec_len}
use Rattle.sb_base.specs.declared.geometry.Geometry.{Geometry}
use Rattle.sb_crew.specs.declared.desk.Desk.{Desk}

-- the desk's buffer holds one block
abbrev pub HasRoom : {L C : Type 0} → Geometry → Desk L C → Type 0
HasRoom geometry desk = vec_len desk.room ≡ geometry.block_size
