-- The key of a day that is kept.
use Rattle.sb_sign.specs.declared.day.DayKey.{DayKey}
use Rattle.sb_sign.specs.Credentials.{Credentials}
use Rattle.sb_sign.specs.Hmac.{IsKeyed}
use Rattle.sb_sign.specs.Signatures.{signing_key_of}

-- the hashers have taken in the key that signs on the day of their date
abbrev pub IsKeyOf : Credentials → DayKey → Type 0
IsKeyOf credentials key = IsKeyed key.keyed (signing_key_of credentials key.date)
