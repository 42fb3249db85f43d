-- The names of a disk's objects, and what its first block's object carries.
use Rattle.std.specs.Prelude.{ℕ, Bool, List}
use Rattle.sb_world.specs.declared.link.Meta.{Meta}
use Rattle.sb_names.specs.Names.{object_name_of}

-- what a disk's names are made of, the prefix by its bytes, and the sizes that its first block's object carries
pub record Naming : Type 0 where
  pub prefix : List ℕ
  pub hashed : Bool
  pub meta : Meta

-- the name of a block's object
abbrev pub name_of : Naming → ℕ → List ℕ
name_of names block = object_name_of names.prefix block names.hashed
