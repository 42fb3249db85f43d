use Rattle.std.proofs.Common.{length}
use Rattle.sb_server.proofs.caller.+give_passes.Given as goal

abbrev pub decreases-give_passes : goal.decreases-give_passes
decreases-give_passes g l = length l.callers.now
