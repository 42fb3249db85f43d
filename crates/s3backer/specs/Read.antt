-- What the readers of words answer.
use Rattle.std.specs.Prelude.{ℕ, ◌≡◌, Bool, true, false, List, [], ◌∷◌, ◌++◌, codes, Option, Some, None, is_none, Result, Ok}
use Rattle.std.specs.Prelude.{Err}
use Rattle.std.specs.Option.{option_copied}
use Rattle.std.proofs.Common.{inl, inr}
use Rattle.s3backer.specs.Directories.{DirectoryGiven, AreDirectoryWords, IsPlain, address_words, is_option}
use Rattle.s3backer.specs.Buckets.{BucketGiven, AreBucketWords}
use Rattle.s3backer.specs.Words.{Given, AreWordsOf, TakesMemory, OwesMemory}
use Rattle.s3backer.specs.declared.words.Usage.{Usage}
use Rattle.s3backer.specs.declared.words.PlanFault.{PlanFault}
use Rattle.s3backer.specs.declared.words.PlanFault.TheVariants as fault
use Rattle.s3backer.specs.declared.bucket.BucketValues.{BucketValues}
use Rattle.s3backer.specs.declared.directory.DirectoryValues.{DirectoryValues}
use Rattle.s3backer.specs.declared.words.Values.{Values}
use Rattle.s3backer.specs.declared.words.Values.TheVariants as values

-- the values as bytes
abbrev pub directory_given_of : DirectoryValues → DirectoryGiven
directory_given_of values = record {
  prefix = option_copied values.prefix;
  hashed = values.hashed;
  size = values.size.now;
  directory = values.directory.now;
  address = option_copied values.address;
}

abbrev pub bucket_given_of : BucketValues → BucketGiven
bucket_given_of values = record {
  url = values.url.now;
  id = values.id.now;
  key = values.key.now;
  size = values.size.now;
  bucket = values.bucket.now;
}

abbrev pub given_of : Values → Given
given_of (values.Directory values) = inl (directory_given_of values)
given_of (values.Bucket values) = inr (bucket_given_of values)

-- a word is the first, and the rest is behind it
abbrev pub StripsWord : List (List ℕ) → List ℕ → Option (List (List ℕ)) → Type 0
StripsWord words word None = (rest : List (List ℕ)) → words ≡ word ∷ rest → ⊥
StripsWord words word (Some rest) = words ≡ word ∷ rest

-- an option is the first word, with this value and the rest behind it, or it isn't
abbrev pub TakesOption : List (List ℕ) → List ℕ → Option (List ℕ) → List (List ℕ) → Type 0
TakesOption words name None rest =
    (rest ≡ words) × ((value : List ℕ) (behind : List (List ℕ)) → words ≡ (name ++ value) ∷ behind → ⊥)
TakesOption words name (Some value) rest = words ≡ (name ++ value) ∷ rest

-- an option is the first word, with this value and the rest behind it, or there is none
abbrev pub TakesValue : List (List ℕ) → List ℕ → Option (List ℕ × List (List ℕ)) → Type 0
TakesValue words name None = (value : List ℕ) (behind : List (List ℕ)) → words ≡ (name ++ value) ∷ behind → ⊥
TakesValue words name (Some (value, behind)) = words ≡ (name ++ value) ∷ behind

-- a flag is the first word, with the rest behind it, or it isn't
abbrev pub TakesFlag : List (List ℕ) → List ℕ → Bool → List (List ℕ) → Type 0
TakesFlag words name true rest = words ≡ name ∷ rest
TakesFlag words name false rest = (rest ≡ words) × ((behind : List (List ℕ)) → words ≡ name ∷ behind → ⊥)

-- the words are a size and a last one, or they aren't
abbrev pub AreLast : List (List ℕ) → Option (List ℕ × List ℕ) → Type 0
AreLast words None =
    (size last : List ℕ) → words ≡ (codes "--size=" ++ size) ∷ last ∷ [] → is_option last ≡ false → ⊥
AreLast words (Some (size, last)) = (words ≡ (codes "--size=" ++ size) ∷ last ∷ []) × (is_option last ≡ false)

-- the words are one that is no option, or they aren't
abbrev pub IsOnly : List (List ℕ) → Option (List ℕ) → Type 0
IsOnly words None = (word : List ℕ) → words ≡ word ∷ [] → is_option word ≡ false → ⊥
IsOnly words (Some word) = (words ≡ word ∷ []) × (is_option word ≡ false)

-- the words are two that are no options, or they aren't
abbrev pub AreTwo : List (List ℕ) → Option (List ℕ × List ℕ) → Type 0
AreTwo words None = (first second : List ℕ) → words ≡ first ∷ second ∷ [] → is_option first ≡ false
    → is_option second ≡ false → ⊥
AreTwo words (Some (first, second)) =
    (words ≡ first ∷ second ∷ []) × (is_option first ≡ false) × (is_option second ≡ false)

-- the words are a directory and an address where there is one, which are no options
pub record ArePlainOf (words : List (List ℕ)) (directory : List ℕ) (address : Option (List ℕ)) : Type 0 where
  pub words_are : words ≡ directory ∷ address_words address
  pub plain : is_option directory ≡ false
  pub plain_address : IsPlain address

-- so they are, or they aren't
abbrev pub ArePlain : Bool → List (List ℕ) → Option (List ℕ × Option (List ℕ)) → Type 0
ArePlain stdio words None = (directory : List ℕ) (address : Option (List ℕ)) → is_none address ≡ stdio
    → ArePlainOf words directory address → ⊥
ArePlain stdio words (Some (directory, address)) =
    (is_none address ≡ stdio) × ArePlainOf words directory address

-- the words are a size, a directory and an address where there is one, or they aren't
pub record ArePlacesOf (words : List (List ℕ)) (size directory : List ℕ) (address : Option (List ℕ)) : Type 0 where
  pub words_are : words ≡ (codes "--size=" ++ size) ∷ directory ∷ address_words address
  pub plain : is_option directory ≡ false
  pub plain_address : IsPlain address

abbrev pub ArePlaces : Bool → List (List ℕ) → Option (List ℕ × List ℕ × Option (List ℕ)) → Type 0
ArePlaces stdio words None = (size directory : List ℕ) (address : Option (List ℕ)) → is_none address ≡ stdio
    → ArePlacesOf words size directory address → ⊥
ArePlaces stdio words (Some (size, directory, address)) =
    (is_none address ≡ stdio) × ArePlacesOf words size directory address

-- the words give these values of a disk over a directory, or none
abbrev pub ReadsDirectory : List (List ℕ) → Option DirectoryGiven → Type 0
ReadsDirectory words None = (given : DirectoryGiven) → AreDirectoryWords words given → ⊥
ReadsDirectory words (Some given) = AreDirectoryWords words given

-- the words give these values of a disk over a bucket, or none
abbrev pub ReadsBucket : List (List ℕ) → Option BucketGiven → Type 0
ReadsBucket words None = (given : BucketGiven) → AreBucketWords words given → ⊥
ReadsBucket words (Some given) = AreBucketWords words given

-- the words give these values, or none
abbrev pub ReadsWords : List (List ℕ) → Option Given → Type 0
ReadsWords words None = (given : Given) → AreWordsOf words given → ⊥
ReadsWords words (Some given) = AreWordsOf words given

-- a refusal that takes memory is due
abbrev pub RefusalNeedsMemory : {X : Type 0} → Result X Usage → Type 0
RefusalNeedsMemory (Ok value) = ⊥
RefusalNeedsMemory (Err fault) = TakesMemory fault

-- a call answers this value or fault, or want of memory for telling the fault
abbrev pub Answers : {X : Type 0} → Result X Usage → Result X PlanFault → Type 0
Answers expected (Ok value) = expected ≡ Ok value
Answers expected (Err (fault.Usage usage)) = expected ≡ Err usage
Answers expected (Err fault.Memory) = RefusalNeedsMemory expected

-- an answer with another form of its value
abbrev pub with_value : {X Y E : Type 0} → (X → Y) → Result X E → Result Y E
with_value form (Ok value) = Ok (form value)
with_value form (Err fault) = Err fault

-- a call answers this plan or fault, or want of memory for it
abbrev pub Plans : {X : Type 0} → Result X Usage → Result X PlanFault → Type 0
Plans expected (Ok plan) = expected ≡ Ok plan
Plans expected (Err (fault.Usage usage)) = expected ≡ Err usage
Plans expected (Err fault.Memory) = OwesMemory expected

-- a fault of words, or want of memory for telling it
abbrev pub refused_as : {E : Type 0} → Result Usage E → PlanFault
refused_as (Ok usage) = fault.Usage usage
refused_as (Err lack) = fault.Memory
