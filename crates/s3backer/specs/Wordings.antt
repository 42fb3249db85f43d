-- What is said of words that are not taken.
use Rattle.std.specs.Prelude.{ℕ, ◌≡◌, ◌⊎◌, List, [], ◌∷◌, ◌++◌, Option, codes}
use Rattle.sb_world.specs.Told.{Gains}
use Rattle.sb_shown.specs.Shown.{shown}
use Rattle.s3backer.specs.declared.words.Usage.{Usage}
use Rattle.s3backer.specs.declared.words.Usage.TheVariants as usage

-- the wording of a fault; of a size that no disk has it is that fault's own text, as it is shown
abbrev pub IsWording : Usage → List ℕ → Type 0
IsWording usage.NotBuilt text =
    text ≡ codes "s3backer --stdio --test [--prefix=TEXT] [--blockHashPrefix] --size=SIZE DIR"
    ++ codes ", or s3backer --test [--prefix=TEXT] [--blockHashPrefix] --size=SIZE DIR HOST:PORT"
    ++ codes ", or s3backer --stdio --baseURL=URL --accessId=ID --accessKey=KEY --size=SIZE BUCKET"
IsWording (usage.BadSize name word) text = text ≡ shown name ++ codes ": not a size: " ++ shown word
IsWording (usage.Geometry fault) text = (told : List ℕ) × (text ≡ shown told)
IsWording (usage.BadPrefix prefix) text = text ≡ codes "--prefix: not a prefix: " ++ shown prefix
IsWording usage.PrefixSlash text = text ≡ codes "--prefix: a slash, with --test"
IsWording (usage.BadBucket name) text = text ≡ codes "not the name of a bucket or directory: " ++ shown name
IsWording usage.HttpsRefused text = text ≡ codes "--baseURL: https is not supported"
IsWording (usage.BadAddress address) text = text ≡ codes "not HOST:PORT: " ++ shown address
IsWording (usage.BadUrl url) text = text ≡ codes "--baseURL: not http://host/ or http://host:port/: " ++ shown url

-- the line with a wording
abbrev pub usage_line : List ℕ → List ℕ
usage_line wording = codes "s3backer: usage: " ++ wording ++ 10 ∷ []

-- a line that tells this fault
abbrev pub IsUsageLine : Usage → List ℕ → Type 0
IsUsageLine fault line = (wording : List ℕ) × IsWording fault wording × (line ≡ usage_line wording)

-- such a line was said, or one without a wording, for want of memory
pub record SaysUsage (fault : Usage) (said said' : Option (List (List ℕ))) : Type 0 where
  pub wording : List ℕ
  pub is : IsWording fault wording ⊎ (wording ≡ [])
  pub line : Gains said said' (usage_line wording ∷ [])
