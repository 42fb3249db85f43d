-- Options as bytes (NBD protocol, "Option haggling").
use Rattle.std.specs.Prelude.{ℕ, ◌≡◌, ◌≤◌, ◌<◌, ◌^◌, List, ◌++◌, length}
use Rattle.std.specs.Int.{w32, w64, to_be_bytes}
use Rattle.sb_nbd.specs.declared.option.Asked.{Asked}
use Rattle.sb_nbd.specs.Numbers.{max_option, option_magic}

-- the magic of an option
unfoldable pub option_magic_bytes : List ℕ
option_magic_bytes = to_be_bytes w64 option_magic

-- the numbers behind the magic
unfoldable pub head_bytes : Asked → List ℕ
head_bytes a = to_be_bytes w32 a.option ++ to_be_bytes w32 a.length

-- numbers that the head has room for
pub record FitsHead (a : Asked) : Type 0 where
  pub option : a.option < 2 ^ 32
  pub length : a.length < 2 ^ 32

-- an option with the bytes that it carries
pub record Option : Type 0 where
  pub asked : Asked
  pub payload : List ℕ

-- an option that may be read
pub record IsOption (o : Option) : Type 0 where
  pub payload : length o.payload ≡ o.asked.length
  pub within : o.asked.length ≤ max_option
  pub fits : FitsHead o.asked

-- the bytes of an option
abbrev pub option_bytes : Option → List ℕ
option_bytes o = option_magic_bytes ++ (head_bytes o.asked ++ o.payload)
