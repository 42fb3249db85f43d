use Rattle.std.proofs.Common.{List, ℕ, ap, sym, ◌∙◌}
use Rattle.sb_sign.specs.Signatures.{authorization_of}
use Rattle.sb_sign.proofs.OneDate.{dates_agree}
use Rattle.sb_sign.proofs.laws.signatures_agree.Goals as goal

pub returns : goal.returns
returns c credentials request moment one other is also =
    let date = dates_agree moment one.date other.date is.date also.date in
    (date, is.header ∙ ap (λ (d : List ℕ). authorization_of credentials request d) date ∙ sym also.header)
