use Rattle.std.proofs.Common.{rules, ◌∙◌, ap, Ok, Err}
use Rattle.sb_crew.specs.Answers.{call_fault}
use Rattle.sb_crew.proofs.Requesting.{fetch_taken, fetch_failed, fetch_stale, fetch_paused}
use Rattle.sb_crew.proofs.alone.Alone.fetch.Goals as goal

pub returns-in-Taken-clause-did : goal.returns-in-Taken-clause-did
returns-in-Taken-clause-did g c =
    fetch_taken c.args.job c.get-got.result c.get-got.new.out c.now-now.result c.end_fetch.new.self.reading
    c.end_fetch.result c.now.result c.requires.job (search rules) c.get-got.ensures.cause c.now-now.ensures.told
    c.end_fetch.ensures.event c.end_fetch.ensures.answer c.in-Taken.is c.now.ensures.told

pub returns-in-Err-clause-did : goal.returns-in-Err-clause-did
returns-in-Err-clause-did g c =
    fetch_failed c.args.job c.in-Err.fault c.from.result c.get-got.new.out c.now-now.result
    c.end_fetch.new.self.reading c.end_fetch.result c.requires.job (search rules) c.in-Err.ensures.cause
    c.now-now.ensures.told (rw c.in-Err.is at c.end_fetch.ensures.event) (c.from.ensures ∙ ap call_fault c.fault_for.ensures)

pub returns-then-is_late-clause-did : goal.returns-then-is_late-clause-did
returns-then-is_late-clause-did g c =
    rw (c.block-block.ensures, c.begun-begun.ensures) (fetch_stale c.args.job c.get-got.result c.get-got.new.out
    c.now-now.result c.end_fetch.new.self.reading c.end_fetch.result c.in-Stale.expected c.in-Stale.shown c.requires.job
    (search rules) c.get-got.ensures.cause c.now-now.ensures.told c.end_fetch.ensures.event c.end_fetch.ensures.answer
    c.in-Stale.is (search rules))

pub returns-in-Ok-pause-clause-did : goal.returns-in-Ok-pause-clause-did
returns-in-Ok-pause-clause-did g c =
    fetch_paused c.args.job c.get-got.result c.get-got.new.out
    c.now-now.result c.end_fetch.new.self.reading c.end_fetch.result c.in-Stale.expected c.in-Stale.shown
    (Ok c.in-Ok-pause.next) c.requires.job (search rules) c.get-got.ensures.cause c.now-now.ensures.told
    c.end_fetch.ensures.event c.end_fetch.ensures.answer c.in-Stale.is (search rules) c.in-Ok-pause.ensures

pub returns-in-Err-pause-clause-did : goal.returns-in-Err-pause-clause-did
returns-in-Err-pause-clause-did g c =
    rw c.from-in-Err-pause.ensures (fetch_paused c.args.job c.get-got.result c.get-got.new.out
    c.now-now.result c.end_fetch.new.self.reading c.end_fetch.result c.in-Stale.expected c.in-Stale.shown
    (Err c.in-Err-pause.fault) c.requires.job (search rules) c.get-got.ensures.cause c.now-now.ensures.told
    c.end_fetch.ensures.event c.end_fetch.ensures.answer c.in-Stale.is (search rules) c.in-Err-pause.ensures)
