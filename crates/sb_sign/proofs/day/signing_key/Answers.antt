use Rattle.std.proofs.Common.{refl}
use Rattle.sb_sign.specs.Signatures.{signing_key_of}
use Rattle.sb_sign.proofs.day.signing_key.Goals as goal

pub returns : goal.returns
unfolding signing_key_of
returns c credentials keyed region =
    let day = c.hmac-day.ensures _ keyed in
    rw (c.hmac_sha256.ensures, c.hmac_sha256-service.ensures, c.hmac_sha256-region.ensures, day, region) refl
