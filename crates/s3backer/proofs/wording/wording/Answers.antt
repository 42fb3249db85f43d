use Rattle.s3backer.proofs.wording.wording.Goals as goal

pub returns-in-BadSize : goal.returns-in-BadSize
returns-in-BadSize c =
    rw (c.in-BadSize.is, ← c.bytes.ensures, ← c.bytes-in-BadSize.ensures) c.with_values.ensures
