-- The words of a disk over a bucket, and what they mean.
use Rattle.std.specs.Prelude.{ℕ, ◌≡◌, Bool, true, false, ◌||◌, ◌&&◌, ◌==◌, nat_eq, nat_lt, if◌then◌else◌, List, []}
use Rattle.std.specs.Prelude.{◌∷◌, ◌++◌, length, codes, Option, Some, None, Result, Ok, Err}
use Rattle.std.specs.List.{list_all, starts_with}
use Rattle.std.specs.Char.{is_ascii_alphanumeric}
use Rattle.sb_base.specs.declared.geometry.Geometry.{Geometry}
use Rattle.sb_base.specs.declared.access.Access.TheVariants as access
use Rattle.sb_base.specs.declared.access.StorePlan.TheVariants as store
use Rattle.sb_base.specs.Sizes.{size_of}
use Rattle.s3backer.specs.Plans.{PlanParts}
use Rattle.s3backer.specs.Directories.{is_option, sized}
use Rattle.s3backer.specs.Urls.{place_of}
use Rattle.s3backer.specs.declared.plan.Form.TheVariants as form
use Rattle.s3backer.specs.declared.words.Usage.{Usage}
use Rattle.s3backer.specs.declared.words.Usage.TheVariants as usage

-- the values among the words of a disk over a bucket
pub record BucketGiven : Type 0 where
  pub url : List ℕ
  pub id : List ℕ
  pub key : List ℕ
  pub size : List ℕ
  pub bucket : List ℕ

-- the words that give these values: --stdio --baseURL=URL --accessId=ID --accessKey=KEY --size=SIZE BUCKET
abbrev pub bucket_words : BucketGiven → List (List ℕ)
bucket_words given =
    codes "--stdio" ∷ (codes "--baseURL=" ++ given.url) ∷ (codes "--accessId=" ++ given.id)
    ∷ (codes "--accessKey=" ++ given.key) ∷ (codes "--size=" ++ given.size) ∷ given.bucket ∷ []

-- the words give these values, and the last one is no option
pub record AreBucketWords (words : List (List ℕ)) (given : BucketGiven) : Type 0 where
  pub words_are : words ≡ bucket_words given
  pub plain : is_option given.bucket ≡ false

-- a byte of a bucket's name: a letter, a digit, `.`, `-` or `_`
abbrev pub is_bucket_byte : ℕ → Bool
is_bucket_byte byte = is_ascii_alphanumeric byte || (byte == 46) || (byte == 45) || (byte == 95)

-- a bucket's name has 1 to 63 bytes
abbrev pub is_bucket_length : ℕ → Bool
is_bucket_length count = nat_lt 0 count && nat_lt count 64

-- a bucket's name has such a length, and such bytes
abbrev pub is_bucket : List ℕ → Bool
is_bucket name = is_bucket_length (length name) && list_all is_bucket_byte name

-- the name of a bucket, unless it is refused
abbrev pub checked_bucket : List ℕ → Result Unit Usage
checked_bucket name = if is_bucket name then Ok tt else Err (usage.BadBucket name)

-- the host and the port of a URL, unless it has none
abbrev pub placed : List ℕ → Option (List ℕ × ℕ) → Result (List ℕ × ℕ) Usage
placed url (Some place) = Ok place
placed url None = Err (usage.BadUrl url)

-- the host and the port of a base URL, or what is refused of it
abbrev pub checked_url : List ℕ → Result (List ℕ × ℕ) Usage
checked_url url = if starts_with nat_eq url (codes "https:") then Err usage.HttpsRefused else placed url (place_of url)

-- the plan of a disk over a bucket, to be read and written: the bucket is named in the path, requests are signed for
-- us-east-1, and pauses before further attempts begin with 200 ms and are 30 s together
abbrev pub bucket_plan : Geometry → List ℕ → ℕ → List ℕ → List ℕ → List ℕ → PlanParts
bucket_plan geometry host port bucket id key = record {
  form = form.Stdio;
  store = store.S3 host port bucket false (codes "us-east-1") (access.Given id key) 200 30000;
  prefix = [];
  hashed = false;
  geometry = geometry;
  read_only = false;
}

-- the plan of a geometry, of a bucket's name and of a place, where none is refused
abbrev pub planned_bucket : Result Geometry Usage → Result Unit Usage → Result (List ℕ × ℕ) Usage → BucketGiven
    → Result PlanParts Usage
planned_bucket (Err fault) name place given = Err fault
planned_bucket (Ok geometry) (Err fault) place given = Err fault
planned_bucket (Ok geometry) (Ok checked) (Err fault) given = Err fault
planned_bucket (Ok geometry) (Ok checked) (Ok place) given =
    Ok (bucket_plan geometry place.0 place.1 given.bucket given.id given.key)

-- the plan by the values of the words, or the first of their faults
abbrev pub plan_of_bucket : BucketGiven → Result PlanParts Usage
plan_of_bucket given =
    planned_bucket (sized given.size (size_of given.size)) (checked_bucket given.bucket) (checked_url given.url) given
