use Rattle.sb_laws.proofs.Shown.{checked_settings_cover}
use Rattle.sb_laws.proofs.laws.checked_settings_cover.Goals as goal

pub returns : goal.returns
returns c = checked_settings_cover
