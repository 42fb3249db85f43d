use Rattle.std.proofs.Common.{length}
use Rattle.sb_server.proofs.server.+first_fault.Given as goal

abbrev pub decreases-first_fault : goal.decreases-first_fault
decreases-first_fault g l = length l.clients.now
