-- The words of a disk over a directory, and what they mean.
use Rattle.std.specs.Prelude.{ℕ, ◌≡◌, Bool, true, false, ◌||◌, nat_eq, nat_lt, if◌then◌else◌, List, []}
use Rattle.std.specs.Prelude.{◌∷◌, ◌++◌, length, codes, Option, Some, None, Result, Ok, Err}
use Rattle.std.specs.List.{list_any}
use Rattle.sb_base.specs.declared.geometry.Geometry.{Geometry}
use Rattle.sb_base.specs.declared.geometry.GeometryFault.{GeometryFault}
use Rattle.sb_base.specs.declared.size.SizeFault.{SizeFault}
use Rattle.sb_base.specs.declared.access.StorePlan.TheVariants as store
use Rattle.sb_base.specs.Shapes.{geometry_of}
use Rattle.sb_base.specs.Sizes.{size_of}
use Rattle.s3backer.specs.Addresses.{is_address}
use Rattle.s3backer.specs.Plans.{PlanParts}
use Rattle.s3backer.specs.declared.plan.Form.{Form}
use Rattle.s3backer.specs.declared.plan.Form.TheVariants as form
use Rattle.s3backer.specs.declared.words.Usage.{Usage}
use Rattle.s3backer.specs.declared.words.Usage.TheVariants as usage

-- the values among the words of a disk over a directory
pub record DirectoryGiven : Type 0 where
  pub prefix : Option (List ℕ)
  pub hashed : Bool
  pub size : List ℕ
  pub directory : List ℕ
  pub address : Option (List ℕ)

-- an option's word and its value, where it is given
abbrev pub option_words : List ℕ → Option (List ℕ) → List (List ℕ)
option_words name None = []
option_words name (Some value) = (name ++ value) ∷ []

-- a flag's word, where it is given
abbrev pub flag_words : List ℕ → Bool → List (List ℕ)
flag_words name true = name ∷ []
flag_words name false = []

-- without an address a disk is served over standard input and output
abbrev pub form_words : Option (List ℕ) → List (List ℕ)
form_words None = codes "--stdio" ∷ []
form_words (Some address) = []

-- an address's word, where it is given
abbrev pub address_words : Option (List ℕ) → List (List ℕ)
address_words None = []
address_words (Some address) = address ∷ []

-- the words that give these values: --stdio --test [--prefix=TEXT] [--blockHashPrefix] --size=SIZE DIR, or
-- --test [--prefix=TEXT] [--blockHashPrefix] --size=SIZE DIR HOST:PORT
abbrev pub directory_words : DirectoryGiven → List (List ℕ)
directory_words given =
    form_words given.address ++ codes "--test" ∷ (option_words (codes "--prefix=") given.prefix
    ++ flag_words (codes "--blockHashPrefix") given.hashed ++ (codes "--size=" ++ given.size) ∷ given.directory
    ∷ address_words given.address)

-- a word is an option: it begins with a dash and is longer
abbrev pub is_option : List ℕ → Bool
is_option (first ∷ second ∷ bytes) = nat_eq first 45
is_option word = false

-- a word that is given is no option
abbrev pub IsPlain : Option (List ℕ) → Type 0
IsPlain None = Unit {0}
IsPlain (Some word) = is_option word ≡ false

-- the words give these values, and the directory and the address are no options
pub record AreDirectoryWords (words : List (List ℕ)) (given : DirectoryGiven) : Type 0 where
  pub words_are : words ≡ directory_words given
  pub plain : is_option given.directory ≡ false
  pub plain_address : IsPlain given.address

-- a byte that no name of an object has: none of the printable ASCII, or one that XML gives a meaning
abbrev pub is_odd : ℕ → Bool
is_odd byte =
    nat_lt byte 32 || nat_lt 126 byte || nat_eq byte 60 || nat_eq byte 62 || nat_eq byte 38 || nat_eq byte 34
    || nat_eq byte 39

-- a prefix is longer than 200 bytes or has such a byte
abbrev pub is_bad_prefix : List ℕ → Bool
is_bad_prefix prefix = nat_lt 200 (length prefix) || list_any is_odd prefix

-- the prefix that is given, or none
abbrev pub prefix_or_empty : Option (List ℕ) → List ℕ
prefix_or_empty None = []
prefix_or_empty (Some prefix) = prefix

-- the path of a directory, unless it is refused
abbrev pub checked_directory : List ℕ → Result Unit Usage
checked_directory directory = if nat_eq (length directory) 0 then Err (usage.BadBucket directory) else Ok tt

-- the prefix and the path of a directory, or what is refused of them
abbrev pub checked_names : List ℕ → List ℕ → Result Unit Usage
checked_names prefix directory =
    if is_bad_prefix prefix then Err (usage.BadPrefix prefix)
    else if list_any (nat_eq 47) prefix then Err usage.PrefixSlash
    else checked_directory directory

-- the geometry, unless no disk has it
abbrev pub shaped : Result Geometry GeometryFault → Result Geometry Usage
shaped (Ok geometry) = Ok geometry
shaped (Err fault) = Err (usage.Geometry fault)

-- the geometry of a disk whose size is this word, if it reads as so many bytes, in blocks of 4,096
abbrev pub sized : List ℕ → Result ℕ SizeFault → Result Geometry Usage
sized word (Ok bytes) = shaped (geometry_of bytes 4096)
sized word (Err fault) = Err (usage.BadSize (codes "--size") word)

-- how a disk is served: at an address, where there is one
abbrev pub form_of : Option (List ℕ) → Form
form_of None = form.Stdio
form_of (Some address) = form.Server address

-- the address, unless it is refused
abbrev pub checked_address : Option (List ℕ) → Result Unit Usage
checked_address None = Ok tt
checked_address (Some address) = if is_address address then Ok tt else Err (usage.BadAddress address)

-- the plan of a disk over a directory, to be read and written
abbrev pub directory_plan : Geometry → DirectoryGiven → PlanParts
directory_plan geometry given = record {
  form = form_of given.address;
  store = store.Dir given.directory;
  prefix = prefix_or_empty given.prefix;
  hashed = given.hashed;
  geometry = geometry;
  read_only = false;
}

-- the plan of a geometry, of names and of an address, where none is refused
abbrev pub planned : Result Geometry Usage → Result Unit Usage → Result Unit Usage → DirectoryGiven
    → Result PlanParts Usage
planned (Err fault) names address given = Err fault
planned (Ok geometry) (Err fault) address given = Err fault
planned (Ok geometry) (Ok checked) (Err fault) given = Err fault
planned (Ok geometry) (Ok checked) (Ok found) given = Ok (directory_plan geometry given)

-- the plan by the values of the words, or the first of their faults
abbrev pub plan_of_directory : DirectoryGiven → Result PlanParts Usage
plan_of_directory given =
    planned (sized given.size (size_of given.size)) (checked_names (prefix_or_empty given.prefix) given.directory)
    (checked_address given.address) given
