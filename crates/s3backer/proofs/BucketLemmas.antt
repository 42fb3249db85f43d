-- Words that the readers refuse are of no given values of a disk over a bucket.
use Rattle.std.proofs.Common.{ℕ, ◌≡◌, List, [], ◌∷◌, ◌++◌, Option, Some, None, codes, sym, ◌∙◌}
use Rattle.s3backer.specs.Buckets.{BucketGiven, AreBucketWords}
use Rattle.s3backer.specs.Read.{TakesValue, AreLast, ReadsBucket}

-- the rest of equal lists that are not empty
tail : {X : Type 0} {x y : X} {xs ys : List X} → x ∷ xs ≡ y ∷ ys → xs ≡ ys
tail same = cc

-- words without a base URL
pub no_url : (words first : List (List ℕ)) → words ≡ codes "--stdio" ∷ first
    → TakesValue first (codes "--baseURL=") None → ReadsBucket words None
no_url words first stdio none given form = none given.url _ (tail (sym stdio ∙ form.words_are))

-- words without an access id behind it
pub no_id : (words first second : List (List ℕ)) (url : List ℕ) → words ≡ codes "--stdio" ∷ first
    → first ≡ (codes "--baseURL=" ++ url) ∷ second → TakesValue second (codes "--accessId=") None
    → ReadsBucket words None
no_id words first second url stdio based none given form =
    none given.id _ (tail (sym based ∙ tail (sym stdio ∙ form.words_are)))

-- words without a key behind that
pub no_key : (words first second third : List (List ℕ)) (url id : List ℕ) → words ≡ codes "--stdio" ∷ first
    → first ≡ (codes "--baseURL=" ++ url) ∷ second → second ≡ (codes "--accessId=" ++ id) ∷ third
    → TakesValue third (codes "--accessKey=") None → ReadsBucket words None
no_key words first second third url id stdio based named none given form =
    none given.key _ (tail (sym named ∙ tail (sym based ∙ tail (sym stdio ∙ form.words_are))))

-- words without a size and a bucket at their end
pub no_size : (words first second third fourth : List (List ℕ)) (url id key : List ℕ)
    → words ≡ codes "--stdio" ∷ first → first ≡ (codes "--baseURL=" ++ url) ∷ second
    → second ≡ (codes "--accessId=" ++ id) ∷ third → third ≡ (codes "--accessKey=" ++ key) ∷ fourth
    → AreLast fourth None → ReadsBucket words None
no_size words first second third fourth url id key stdio based named keyed none given form =
    none given.size given.bucket
    (tail (sym keyed ∙ tail (sym named ∙ tail (sym based ∙ tail (sym stdio ∙ form.words_are))))) form.plain
