use Rattle.std.proofs.Common.{rules, ◌∙◌, ap}
use Rattle.sb_crew.specs.Answers.{call_fault}
use Rattle.sb_crew.proofs.SharedRequests.{pass_fetch_taken, pass_fetch_failed, pass_fetch_stale, pass_fetch_paused}
use Rattle.sb_crew.proofs.disk.Disk.fetch.Goals as goal

pub returns-in-Taken-clause-did : goal.returns-in-Taken-clause-did
returns-in-Taken-clause-did g c =
    pass_fetch_taken c.args.job c.get-got.result c.get-got.new.out c.now-now.result c.end_get-done.ensures.turn.0
    c.end_get-done.result c.end_get-done.ensures.turn.1 c.end_get-done.ensures.ready c.requires.job
    (search rules) c.get-got.ensures.cause c.end_get-done.ensures.answer (search rules) c.now-now.ensures.told

pub returns-in-Err-clause-did : goal.returns-in-Err-clause-did
returns-in-Err-clause-did g c =
    pass_fetch_failed c.args.job c.in-Err.fault c.from.result c.get-got.new.out c.now-now.result
    c.end_get-done.ensures.turn.0 c.end_get-done.result (rw c.in-Err.is at c.end_get-done.ensures.turn.1)
    c.end_get-done.ensures.ready c.requires.job (search rules) c.in-Err.ensures.cause c.now-now.ensures.told
    (c.from.ensures ∙ ap call_fault c.fault_for.ensures)

pub returns-then-is_late-clause-did : goal.returns-then-is_late-clause-did
returns-then-is_late-clause-did g c =
    rw (c.block-block.ensures, c.begun-begun.ensures) (pass_fetch_stale c.args.job c.get-got.result c.get-got.new.out
    c.now-now.result c.end_get-done.ensures.turn.0
    c.end_get-done.result c.end_get-done.ensures.turn.1 c.end_get-done.ensures.ready c.requires.job
    (search rules) c.get-got.ensures.cause c.end_get-done.ensures.answer c.in-Stale.expected c.in-Stale.shown
    c.in-Stale.is (search rules) c.now-now.ensures.told)

pub returns-else-is_late-clause-did : goal.returns-else-is_late-clause-did
returns-else-is_late-clause-did g c =
    pass_fetch_paused c.args.job c.get-got.result c.get-got.new.out c.now-now.result c.end_get-done.ensures.turn.0
    c.end_get-done.result c.end_get-done.ensures.turn.1 c.end_get-done.ensures.ready c.requires.job
    (search rules) c.get-got.ensures.cause c.end_get-done.ensures.answer c.in-Stale.expected c.in-Stale.shown
    c.in-Stale.is (search rules) c.now-now.ensures.told (search rules)
