use Rattle.std.proofs.Common.{◌≡◌, arith, pos, ◌*ℤ◌}
use Rattle.jiff_core.specs.DateTime.{civil_nanos}
use Rattle.jiff_core.proofs.SignedLemmas.{signed_arith}
use Rattle.sb_sign.specs.Date.{civil_of}
use Rattle.sb_sign.proofs.DateFacts.{civil_when, day_since_1970, year_since_1970}
use Rattle.sb_sign.proofs.date.date_of.Goals as goal

pub date_text-requires : goal.date_text-requires
date_text-requires c =
    let dt = c.to_datetime.result in
    let same : civil_nanos dt ≡ c.args.moment *ℤ pos 1_000_000_000 =
    omega (arith, signed_arith, c.to_datetime.ensures, c.in-Ok.ensures.value) in
    year_since_1970 dt.date (day_since_1970 dt c.args.moment same (omega (arith, signed_arith)))

pub returns-clause-text : goal.returns-clause-text
returns-clause-text c =
    let dt = c.to_datetime.result in
    let same : civil_nanos dt ≡ c.args.moment *ℤ pos 1_000_000_000 =
    omega (arith, signed_arith, c.to_datetime.ensures, c.in-Ok.ensures.value) in
    let year = year_since_1970 dt.date (day_since_1970 dt c.args.moment same (omega (arith, signed_arith))) in
    record { civil = civil_of dt; when = civil_when dt c.args.moment same year; text = c.date_text.ensures }
