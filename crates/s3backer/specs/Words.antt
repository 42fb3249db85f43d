-- Which words are taken, and what they mean.
use Rattle.std.specs.Prelude.{ℕ, ◌≡◌, ◌⊎◌, List, Result, Ok, Err}
use Rattle.std.proofs.Common.{inl, inr}
use Rattle.s3backer.specs.Plans.{PlanParts}
use Rattle.s3backer.specs.Directories.{DirectoryGiven, AreDirectoryWords, plan_of_directory}
use Rattle.s3backer.specs.Buckets.{BucketGiven, AreBucketWords, plan_of_bucket}
use Rattle.s3backer.specs.declared.words.Usage.{Usage}
use Rattle.s3backer.specs.declared.words.Usage.TheVariants as usage
use Rattle.s3backer.specs.declared.words.PlanFault.{PlanFault}
use Rattle.s3backer.specs.declared.words.PlanFault.TheVariants as fault

-- the values among words that are taken, of a disk over a directory or over a bucket
abbrev pub Given : Type 0
Given = DirectoryGiven ⊎ BucketGiven

-- the words give these values
abbrev pub AreWordsOf : List (List ℕ) → Given → Type 0
AreWordsOf words (inl given) = AreDirectoryWords words given
AreWordsOf words (inr given) = AreBucketWords words given

-- the plan by the values of the words, or the first of their faults
abbrev pub plan_of : Given → Result PlanParts Usage
plan_of (inl given) = plan_of_directory given
plan_of (inr given) = plan_of_bucket given

-- the words are taken, and have this plan
pub record IsTaken (words : List (List ℕ)) (plan : PlanParts) : Type 0 where
  pub given : Given
  pub form : AreWordsOf words given
  pub plan_is : plan_of given ≡ Ok plan

-- the words are of the form, and this is the first fault of their values
pub record HasFault (words : List (List ℕ)) (fault : Usage) : Type 0 where
  pub given : Given
  pub form : AreWordsOf words given
  pub fault_is : plan_of given ≡ Err fault

-- why words are not taken
abbrev pub IsRefused : List (List ℕ) → Usage → Type 0
IsRefused words usage.NotBuilt = (given : Given) → AreWordsOf words given → ⊥
IsRefused words fault = HasFault words fault

-- telling why words are not taken takes memory: it tells one of them
abbrev pub TakesMemory : Usage → Type 0
TakesMemory (usage.BadSize name word) = Unit {0}
TakesMemory (usage.BadPrefix prefix) = Unit {0}
TakesMemory (usage.BadBucket name) = Unit {0}
TakesMemory (usage.BadUrl url) = Unit {0}
TakesMemory (usage.BadAddress address) = Unit {0}
TakesMemory fault = ⊥

-- a plan takes memory, and so do some refusals
abbrev pub OwesMemory : {X : Type 0} → Result X Usage → Type 0
OwesMemory (Ok plan) = Unit {0}
OwesMemory (Err fault) = TakesMemory fault

-- the answer to words takes memory
pub record NeedsMemory (words : List (List ℕ)) : Type 0 where
  pub given : Given
  pub form : AreWordsOf words given
  pub owes : OwesMemory (plan_of given)

-- a plan of words
abbrev pub IsPlan : List (List ℕ) → Result PlanParts PlanFault → Type 0
IsPlan words (Ok plan) = IsTaken words plan
IsPlan words (Err (fault.Usage usage)) = IsRefused words usage
IsPlan words (Err fault.Memory) = NeedsMemory words
