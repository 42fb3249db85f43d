use Rattle.sb_laws.proofs.Epochs.{stamps_are_epochs}
use Rattle.sb_laws.proofs.laws.stamps_are_epochs.Goals as goal

pub returns : goal.returns
returns c = stamps_are_epochs
