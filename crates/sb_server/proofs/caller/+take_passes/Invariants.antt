use Rattle.std.proofs.Common.{length}
use Rattle.sb_server.proofs.caller.+take_passes.Given as goal

abbrev pub decreases-take_passes : goal.decreases-take_passes
decreases-take_passes g l = length l.callers.now
