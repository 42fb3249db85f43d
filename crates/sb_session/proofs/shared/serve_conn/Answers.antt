use Rattle.sb_session.proofs.shared.serve_conn.Goals as goal

pub returns-clause-told : goal.returns-clause-told
returns-clause-told g c =
    let told = c.serve-end.ensures.told in
    record { deed = told.deed; done = told.done.1; course = told.course }

pub returns-clause-same : goal.returns-clause-same
returns-clause-same g c = c.serve-end.ensures.told.done.1.runs.same
