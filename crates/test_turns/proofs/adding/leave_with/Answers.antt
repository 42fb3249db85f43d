use Rattle.test_turns.proofs.adding.leave_with.Goals as goal

pub leave-requires-clause-value : goal.leave-requires-clause-value
leave-requires-clause-value g c = (rw c.requires.event c.requires.count, c.requires.base)
