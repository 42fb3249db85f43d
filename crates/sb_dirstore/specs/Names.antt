-- The names of a disk's objects, in a folder.
use Rattle.std.specs.Prelude.{ℕ, Bool, List}
use Rattle.sb_names.specs.Names.{object_name_of, token_name_of}
use Rattle.sb_dirstore.specs.Objects.{IsObjectName}

-- a block's name may be an object's
abbrev pub BlocksAreObjects : Type 0
BlocksAreObjects = (prefix : List ℕ) (block : ℕ) (hashed : Bool) → IsObjectName (object_name_of prefix block hashed)

-- the token's name may be an object's
abbrev pub TokenIsObject : Type 0
TokenIsObject = (prefix : List ℕ) → IsObjectName (token_name_of prefix)
