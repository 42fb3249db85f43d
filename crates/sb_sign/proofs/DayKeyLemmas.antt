-- Keys of days.
use Rattle.std.proofs.Common.{◌≡◌, ℕ, List, ◌++◌, take, ap}
use Rattle.std.specs.Prelude.{codes}
use Rattle.sb_sign.specs.Credentials.{Credentials}
use Rattle.sb_sign.specs.Hmac.{hmac_of}
use Rattle.sb_sign.specs.Signatures.{signing_key_of}

-- the dates of one day have one key
pub same_day : (credentials : Credentials) (one other : List ℕ) → take 8 one ≡ take 8 other
    → signing_key_of credentials one ≡ signing_key_of credentials other
unfolding signing_key_of
same_day credentials one other same =
    ap (λ (day : List ℕ). hmac_of
    (hmac_of (hmac_of (hmac_of (codes "AWS4" ++ credentials.secret) day) credentials.region) (codes "s3"))
    (codes "aws4_request")) same
