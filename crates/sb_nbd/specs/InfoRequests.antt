-- What INFO and GO carry (NBD protocol, "Option types").
use Rattle.std.specs.Prelude.{ℕ, ◌≡◌, ◌<◌, ◌^◌, nat_eq, if◌then◌else◌, List, [], ◌∷◌, ◌++◌, length}
use Rattle.std.specs.Prelude.{Result, Ok, Err}
use Rattle.std.specs.Int.{w16, w32, to_be_bytes}
use Rattle.std.specs.List.{AllByRecursion}
use Rattle.sb_nbd.specs.declared.info.Details.{Details}
use Rattle.sb_nbd.specs.declared.info.Details.TheVariants.{Export, ExportAndBlockSize}
use Rattle.sb_nbd.specs.declared.info.OptionRefusal.{OptionRefusal}
use Rattle.sb_nbd.specs.declared.info.OptionRefusal.TheVariants.{Invalid, Unknown}
use Rattle.sb_nbd.specs.Numbers.{block_size_kind}

-- the name of an export, and the kinds of information that are wanted of it
pub record InfoRequest : Type 0 where
  pub name : List ℕ
  pub kinds : List ℕ

-- kinds of information as bytes
abbrev pub kinds_bytes : List ℕ → List ℕ
kinds_bytes [] = []
kinds_bytes (kind ∷ kinds) = to_be_bytes w16 kind ++ kinds_bytes kinds

-- a name and kinds that its counts have room for
pub record IsInfoRequest (q : InfoRequest) : Type 0 where
  pub name : length q.name < 2 ^ 32
  pub count : length q.kinds < 2 ^ 16
  pub kinds : AllByRecursion (λ kind. kind < 2 ^ 16) q.kinds

-- the bytes that INFO or GO carries: each list behind its count
abbrev pub info_bytes : InfoRequest → List ℕ
info_bytes q = to_be_bytes w32 (length q.name) ++ (q.name ++ (to_be_bytes w16 (length q.kinds) ++ kinds_bytes q.kinds))

-- what is wanted, where one more kind is
abbrev pub with_kind : Details → ℕ → Details
with_kind wanted kind = if nat_eq kind block_size_kind then ExportAndBlockSize else wanted

-- what is wanted by kinds: the block sizes, where they are among them
abbrev pub details_of : List ℕ → Details
details_of [] = Export
details_of (kind ∷ kinds) = with_kind (details_of kinds) kind

-- bytes spell so many kinds, which want this
pub record ReadsKinds (bytes : List ℕ) (count : ℕ) (wanted : Details) : Type 0 where
  pub kinds : List ℕ
  pub spelled : bytes ≡ kinds_bytes kinds
  pub count_is : length kinds ≡ count
  pub fit : AllByRecursion (λ kind. kind < 2 ^ 16) kinds
  pub wanted_is : wanted ≡ details_of kinds

-- what bytes ask for. They are INVALID where they spell no name and kinds, and UNKNOWN where the name isn't empty.
abbrev pub ReadsInfo : List ℕ → Result Details OptionRefusal → Type 0
ReadsInfo bytes (Ok details) =
    (q : InfoRequest) × IsInfoRequest q × (bytes ≡ info_bytes q) × (q.name ≡ []) × (details ≡ details_of q.kinds)
ReadsInfo bytes (Err Invalid) = (q : InfoRequest) → IsInfoRequest q → bytes ≡ info_bytes q → ⊥
ReadsInfo bytes (Err Unknown) =
    (q : InfoRequest) × IsInfoRequest q × (bytes ≡ info_bytes q) × (0 < length q.name)
ReadsInfo bytes (Err other) = ⊥
