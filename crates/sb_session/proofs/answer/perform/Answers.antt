use Rattle.std.proofs.Common.{rules, refl}
use Rattle.sb_nbd.specs.RequestReading.{request_in}
use Rattle.sb_nbd.specs.declared.command.Command.TheVariants.{Trim, WriteZeroes}
use Rattle.sb_session.proofs.Writing.{refused_answers, writing_served, write_served, flush_served}
use Rattle.sb_session.proofs.answer.perform.Goals as goal

pub returns-in-Err-clause-told : goal.returns-in-Err-clause-told
returns-in-Err-clause-told g c =
    refused_answers _ c.args.read_only _ (request_in c.args.wanted c.args.room.now) c.in-Err.error (search rules)
    (g.D.Calls.did_nothing c.args.disk.now c.args.desk.now)

pub returns-in-Ok-Write-clause-told : goal.returns-in-Ok-Write-clause-told
returns-in-Ok-Write-clause-told g c =
    write_served _ c.args.read_only (g.D.Calls.base c.args.disk.now) (request_in c.args.wanted c.args.room.now) _
    c.answer_write-error.result (search rules) (search rules) (search rules) c.answer_write-error.ensures.told

pub returns-in-Ok-Trim-clause-told : goal.returns-in-Ok-Trim-clause-told
returns-in-Ok-Trim-clause-told g c =
    writing_served _ c.args.read_only (g.D.Calls.base c.args.disk.now) (request_in c.args.wanted c.args.room.now) Trim _
    c.answer_zeros-error.result (search rules) (λ mark. refl) (λ entries. refl) c.answer_zeros-error.ensures.told

pub returns-in-Ok-WriteZeroes-clause-told : goal.returns-in-Ok-WriteZeroes-clause-told
returns-in-Ok-WriteZeroes-clause-told g c =
    writing_served _ c.args.read_only (g.D.Calls.base c.args.disk.now) (request_in c.args.wanted c.args.room.now)
    WriteZeroes _ c.answer_zeros-error-in-Ok-WriteZeroes.result (search rules) (λ mark. refl) (λ entries. refl)
    c.answer_zeros-error-in-Ok-WriteZeroes.ensures.told

pub returns-in-Ok-Flush-clause-told : goal.returns-in-Ok-Flush-clause-told
returns-in-Ok-Flush-clause-told g c =
    flush_served _ c.args.read_only (g.D.Calls.base c.args.disk.now) (request_in c.args.wanted c.args.room.now)
    c.answer_flush-error.result (search rules) c.answer_flush-error.ensures.told
