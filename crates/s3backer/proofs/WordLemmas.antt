-- Words that the readers refuse are of no given values.
use Rattle.std.proofs.Common.{ℕ, ◌≡◌, List, [], ◌∷◌, ◌++◌, Option, Some, None, Bool, true, false, Result, Ok, Err}
use Rattle.std.proofs.Common.{codes}
use Rattle.std.proofs.Common.{refl, sym, ◌∙◌, ap, arith, slice_index_or, if◌then◌else◌, nat_eq, length}
use Rattle.std.specs.List.{list_any, starts_with}
use Rattle.std.proofs.Common.{inl, inr}
use Rattle.s3backer.specs.Directories.{DirectoryGiven, IsPlain, form_words, address_words, option_words, flag_words, is_option, plan_of_directory}
use Rattle.s3backer.specs.Directories.{planned, checked_address, shaped, sized, checked_directory, checked_names, prefix_or_empty, is_bad_prefix}
use Rattle.s3backer.specs.Buckets.{BucketGiven, planned_bucket, checked_bucket, checked_url, placed, plan_of_bucket, is_bucket}
use Rattle.s3backer.specs.Urls.{place_of}
use Rattle.s3backer.specs.Words.{Given, AreWordsOf, IsPlan, plan_of}
use Rattle.s3backer.specs.Read.{TakesOption, TakesFlag, StripsWord, ArePlaces, ReadsDirectory, Plans}
use Rattle.s3backer.specs.Addresses.{is_address}
use Rattle.s3backer.specs.Plans.{PlanParts}
use Rattle.s3backer.specs.declared.words.Usage.{Usage}
use Rattle.s3backer.specs.declared.words.Usage.TheVariants as usage
use Rattle.s3backer.specs.declared.words.PlanFault.{PlanFault}
use Rattle.s3backer.specs.declared.words.PlanFault.TheVariants as fault
use Rattle.sb_base.specs.declared.geometry.Geometry.{Geometry}
use Rattle.sb_base.specs.declared.geometry.GeometryFault.{GeometryFault}
use Rattle.sb_base.specs.declared.size.SizeFault.{SizeFault}
use Rattle.sb_base.specs.Shapes.{geometry_of}
use Rattle.sb_base.specs.Sizes.{size_of}

-- the rest of equal lists that are not empty
tail : {X : Type 0} {x y : X} {xs ys : List X} → x ∷ xs ≡ y ∷ ys → xs ≡ ys
tail same = cc

-- the third byte of the first word
abbrev third : List (List ℕ) → ℕ
third words = slice_index_or (slice_index_or words 0 []) 2 0

-- the third bytes of an option, a flag and a size differ
option_or_flag : ◌≡◌ {A = ℕ} 112 98 → ⊥
option_or_flag same = omega (arith, same)

option_or_size : ◌≡◌ {A = ℕ} 112 115 → ⊥
option_or_size same = omega (arith, same)

stdio_or_test : ◌≡◌ {A = ℕ} 115 116 → ⊥
stdio_or_test same = omega (arith, same)

flag_or_size : ◌≡◌ {A = ℕ} 98 115 → ⊥
flag_or_size same = omega (arith, same)

-- words from the prefix on
abbrev front_words : Option (List ℕ) → Bool → List ℕ → List ℕ → List (List ℕ) → List (List ℕ)
front_words prefix hashed size directory more =
    option_words (codes "--prefix=") prefix ++ flag_words (codes "--blockHashPrefix") hashed
    ++ (codes "--size=" ++ size) ∷ directory ∷ more

-- without a size and a directory and what stands behind them words are of no values
ends_badly : (words behind last more : List (List ℕ)) (prefix : Option (List ℕ)) (hashed : Bool)
    → TakesOption words (codes "--prefix=") prefix behind → TakesFlag behind (codes "--blockHashPrefix") hashed last
    → ((size directory : List ℕ) → last ≡ (codes "--size=" ++ size) ∷ directory ∷ more → is_option directory ≡ false → ⊥)
    → (given : Option (List ℕ)) (flag : Bool) (size directory : List ℕ)
    → words ≡ front_words given flag size directory more → is_option directory ≡ false → ⊥
ends_badly words behind last more (Some value) true option flagged none (Some given) true size directory are plain =
    none size directory (cc) plain
ends_badly words behind last more (Some value) true option flagged none (Some given) false size directory are plain =
    flag_or_size (ap third (sym flagged ∙ tail (sym option ∙ are)))
ends_badly words behind last more (Some value) true option flagged none None true size directory are plain =
    option_or_flag (ap third (sym option ∙ are))
ends_badly words behind last more (Some value) true option flagged none None false size directory are plain =
    option_or_size (ap third (sym option ∙ are))
ends_badly words behind last more (Some value) false option flagged none (Some given) true size directory are plain =
    flagged.1 _ (tail (sym option ∙ are))
ends_badly words behind last more (Some value) false option flagged none (Some given) false size directory are plain =
    none size directory (cc) plain
ends_badly words behind last more (Some value) false option flagged none None true size directory are plain =
    option_or_flag (ap third (sym option ∙ are))
ends_badly words behind last more (Some value) false option flagged none None false size directory are plain =
    option_or_size (ap third (sym option ∙ are))
ends_badly words behind last more None true option flagged none (Some given) flag size directory are plain =
    option.1 given _ are
ends_badly words behind last more None true option flagged none None true size directory are plain =
    none size directory (cc) plain
ends_badly words behind last more None true option flagged none None false size directory are plain =
    flag_or_size (ap third (sym flagged ∙ (option.0 ∙ are)))
ends_badly words behind last more None false option flagged none (Some given) flag size directory are plain =
    option.1 given _ are
ends_badly words behind last more None false option flagged none None true size directory are plain =
    flagged.1 _ (option.0 ∙ are)
ends_badly words behind last more None false option flagged none None false size directory are plain =
    none size directory (cc) plain

-- nor are they without the form's words in front
badly_formed : (words first second behind last : List (List ℕ)) (stdio : Bool) (prefix : Option (List ℕ)) (hashed : Bool)
    → TakesFlag words (codes "--stdio") stdio first → first ≡ codes "--test" ∷ second
    → TakesOption second (codes "--prefix=") prefix behind → TakesFlag behind (codes "--blockHashPrefix") hashed last
    → ArePlaces stdio last None
    → (given : Option (List ℕ)) (flag : Bool) (size directory : List ℕ) (address : Option (List ℕ))
    → words ≡ form_words address ++ codes "--test" ∷ front_words given flag size directory (address_words address)
    → is_option directory ≡ false → IsPlain address → ⊥
badly_formed words first second behind last true prefix hashed stdio test option flagged none given flag size directory None are plain place =
    ends_badly second behind last [] prefix hashed option flagged
    (λ (s d : List ℕ) ends p. none s d None refl (record { words_are = ends; plain = p; plain_address = tt }))
    given flag size directory (tail (sym test ∙ tail (sym stdio ∙ are))) plain
badly_formed words first second behind last true prefix hashed stdio test option flagged none given flag size directory (Some address) are plain place =
    stdio_or_test (ap third (sym stdio ∙ are))
badly_formed words first second behind last false prefix hashed stdio test option flagged none given flag size directory None are plain place =
    stdio.1 _ are
badly_formed words first second behind last false prefix hashed stdio test option flagged none given flag size directory (Some address) are plain place =
    ends_badly second behind last (address ∷ []) prefix hashed option flagged
    (λ (s d : List ℕ) ends p. none s d (Some address) refl (record { words_are = ends; plain = p; plain_address = place }))
    given flag size directory (tail (sym test ∙ (stdio.0 ∙ are))) plain

-- so the readers find no values only where there are none
pub no_values : (words first second behind last : List (List ℕ)) (stdio : Bool) (prefix : Option (List ℕ)) (hashed : Bool)
    → TakesFlag words (codes "--stdio") stdio first → first ≡ codes "--test" ∷ second
    → TakesOption second (codes "--prefix=") prefix behind
    → TakesFlag behind (codes "--blockHashPrefix") hashed last → ArePlaces stdio last None → ReadsDirectory words None
no_values words first second behind last stdio prefix hashed formed test option flagged none given form =
    badly_formed words first second behind last stdio prefix hashed formed test option flagged none given.prefix
    given.hashed given.size given.directory given.address form.words_are form.plain form.plain_address

not_tested : (words first : List (List ℕ)) (stdio : Bool) → TakesFlag words (codes "--stdio") stdio first
    → StripsWord first (codes "--test") None → (address : Option (List ℕ)) (more : List (List ℕ))
    → words ≡ form_words address ++ codes "--test" ∷ more → ⊥
not_tested words first true stdio test None more are = test _ (tail (sym stdio ∙ are))
not_tested words first true stdio test (Some address) more are = stdio_or_test (ap third (sym stdio ∙ are))
not_tested words first false stdio test None more are = stdio.1 _ are
not_tested words first false stdio test (Some address) more are = test _ (stdio.0 ∙ are)

pub no_test : (words first : List (List ℕ)) (stdio : Bool) → TakesFlag words (codes "--stdio") stdio first
    → StripsWord first (codes "--test") None → ReadsDirectory words None
no_test words first stdio formed test given form =
    not_tested words first stdio formed test given.address _ form.words_are

neither : {X : Type 0} (bad slash : Bool) (x y z : X) → bad ≡ false → slash ≡ false
    → (if bad then x else if slash then y else z) ≡ z
neither true slash x y z good flat = absurd (cc)
neither false true x y z good flat = absurd (cc)
neither false false x y z good flat = refl

-- of a prefix that isn't refused the path decides
pub names_pass : (prefix directory : List ℕ) → is_bad_prefix prefix ≡ false → list_any (nat_eq 47) prefix ≡ false
    → checked_names prefix directory ≡ checked_directory directory
names_pass prefix directory good flat =
    neither (is_bad_prefix prefix) (list_any (nat_eq 47) prefix) (Err (usage.BadPrefix prefix)) (Err usage.PrefixSlash)
    (checked_directory directory) good flat

-- the plan of values is never refused as words of no form
shaped_form : (outcome : Result Geometry GeometryFault) → shaped outcome ≡ Err usage.NotBuilt → ⊥
shaped_form (Ok geometry) refused = absurd (cc)
shaped_form (Err fault) refused = absurd (cc)

sized_form : (word : List ℕ) (size : Result ℕ SizeFault) → sized word size ≡ Err usage.NotBuilt → ⊥
sized_form word (Ok bytes) refused = shaped_form (geometry_of bytes 4096) refused
sized_form word (Err fault) refused = absurd (cc)

names_form : (prefix directory : List ℕ) (bad slash empty : Bool)
    → ◌≡◌ {A = Result (Unit {0}) Usage} (if bad then Err (usage.BadPrefix prefix)
    else if slash then Err usage.PrefixSlash else if empty then Err (usage.BadBucket directory) else Ok tt)
    (Err usage.NotBuilt) → ⊥
names_form prefix directory true slash empty refused = absurd (cc)
names_form prefix directory false true empty refused = absurd (cc)
names_form prefix directory false false true refused = absurd (cc)
names_form prefix directory false false false refused = absurd (cc)

planned_form : (geometry : Result Geometry Usage) (names address : Result Unit Usage) (given : DirectoryGiven)
    → (geometry ≡ Err usage.NotBuilt → ⊥) → (names ≡ Err usage.NotBuilt → ⊥) → (address ≡ Err usage.NotBuilt → ⊥)
    → planned geometry names address given ≡ Err usage.NotBuilt → ⊥
planned_form (Err cause) names address given fits named placed refused = fits (cc)
planned_form (Ok geometry) (Err cause) address given fits named placed refused = named (cc)
planned_form (Ok geometry) (Ok checked) (Err cause) given fits named placed refused = placed (cc)
planned_form (Ok geometry) (Ok checked) (Ok found) given fits named placed refused = absurd (cc)

address_by : (address : List ℕ) (good : Bool)
    → ◌≡◌ {A = Result (Unit {0}) Usage} (if good then Ok tt else Err (usage.BadAddress address)) (Err usage.NotBuilt) → ⊥
address_by address true refused = absurd (cc)
address_by address false refused = absurd (cc)

address_form : (address : Option (List ℕ)) → checked_address address ≡ Err usage.NotBuilt → ⊥
address_form None refused = absurd (cc)
address_form (Some address) refused = address_by address (is_address address) refused

directory_form : (given : DirectoryGiven) → plan_of_directory given ≡ Err usage.NotBuilt → ⊥
directory_form given refused =
    let prefix = prefix_or_empty given.prefix in
    planned_form (sized given.size (size_of given.size)) (checked_names prefix given.directory)
    (checked_address given.address) given
    (sized_form given.size (size_of given.size))
    (names_form prefix given.directory (is_bad_prefix prefix) (list_any (nat_eq 47) prefix)
    (nat_eq (length given.directory) 0)) (address_form given.address) refused

bucket_name_form : (name : List ℕ) (good : Bool)
    → ◌≡◌ {A = Result (Unit {0}) Usage} (if good then Ok tt else Err (usage.BadBucket name)) (Err usage.NotBuilt) → ⊥
bucket_name_form name true refused = absurd (cc)
bucket_name_form name false refused = absurd (cc)

placed_form : (url : List ℕ) (place : Option (List ℕ × ℕ)) → placed url place ≡ Err usage.NotBuilt → ⊥
placed_form url (Some place) refused = absurd (cc)
placed_form url None refused = absurd (cc)

url_form : (url : List ℕ) (secure : Bool)
    → ◌≡◌ {A = Result (List ℕ × ℕ) Usage} (if secure then Err usage.HttpsRefused else placed url (place_of url))
    (Err usage.NotBuilt) → ⊥
url_form url true refused = absurd (cc)
url_form url false refused = placed_form url (place_of url) refused

planned_bucket_form : (geometry : Result Geometry Usage) (name : Result Unit Usage) (place : Result (List ℕ × ℕ) Usage)
    (given : BucketGiven)
    → (geometry ≡ Err usage.NotBuilt → ⊥) → (name ≡ Err usage.NotBuilt → ⊥) → (place ≡ Err usage.NotBuilt → ⊥)
    → planned_bucket geometry name place given ≡ Err usage.NotBuilt → ⊥
planned_bucket_form (Err cause) name place given fits named stands refused = fits (cc)
planned_bucket_form (Ok geometry) (Err cause) place given fits named stands refused = named (cc)
planned_bucket_form (Ok geometry) (Ok checked) (Err cause) given fits named stands refused = stands (cc)
planned_bucket_form (Ok geometry) (Ok checked) (Ok place) given fits named stands refused = absurd (cc)

bucket_form : (given : BucketGiven) → plan_of_bucket given ≡ Err usage.NotBuilt → ⊥
bucket_form given refused =
    planned_bucket_form (sized given.size (size_of given.size)) (checked_bucket given.bucket) (checked_url given.url) given
    (sized_form given.size (size_of given.size)) (bucket_name_form given.bucket (is_bucket given.bucket))
    (url_form given.url (starts_with nat_eq given.url (codes "https:"))) refused

has_form : (given : Given) → plan_of given ≡ Err usage.NotBuilt → ⊥
has_form (inl given) refused = directory_form given refused
has_form (inr given) refused = bucket_form given refused

-- what values answer, the words answer
pub planned_words : (words : List (List ℕ)) (given : Given) (outcome : Result PlanParts PlanFault)
    → AreWordsOf words given
    → Plans (plan_of given) outcome → IsPlan words outcome
planned_words words given (Ok plan) form answers = record { given = given; form = form; plan_is = answers }
planned_words words given (Err (fault.Usage usage.NotBuilt)) form answers = absurd (has_form given answers)
planned_words words given (Err (fault.Usage (usage.BadSize name word))) form answers =
    record { given = given; form = form; fault_is = answers }
planned_words words given (Err (fault.Usage (usage.Geometry cause))) form answers =
    record { given = given; form = form; fault_is = answers }
planned_words words given (Err (fault.Usage (usage.BadPrefix prefix))) form answers =
    record { given = given; form = form; fault_is = answers }
planned_words words given (Err (fault.Usage usage.PrefixSlash)) form answers =
    record { given = given; form = form; fault_is = answers }
planned_words words given (Err (fault.Usage (usage.BadBucket path))) form answers =
    record { given = given; form = form; fault_is = answers }
planned_words words given (Err (fault.Usage usage.HttpsRefused)) form answers =
    record { given = given; form = form; fault_is = answers }
planned_words words given (Err (fault.Usage (usage.BadAddress address))) form answers =
    record { given = given; form = form; fault_is = answers }
planned_words words given (Err (fault.Usage (usage.BadUrl url))) form answers =
    record { given = given; form = form; fault_is = answers }
planned_words words given (Err fault.Memory) form answers = record { given = given; form = form; owes = answers }
