use Rattle.std.proofs.Common.{rules}
use Rattle.sb_server.proofs.Connecting.{conn_did}
use Rattle.sb_server.proofs.client.serve_one.Goals as goal

pub returns : goal.returns
returns g c =
    let own = c.number-number.ensures.number in
    let session = c.serve_conn-theirs in
    conn_did c.args.pass.now c.args.theirs session.result.0 c.join.new.pass c.args.client.now c.back.new.self
    session.new.desk session.new.buffer c.args.source session.new.source c.args.sink session.new.sink session.result.1
    c.requires.theirs.1 c.requires.theirs.2 (search rules) c.requires.connection session.ensures.told
    session.ensures.same session.ensures.read_cause session.ensures.write_cause session.ensures.room
    c.back.ensures.came c.back.ensures.over c.back.ensures.faults (rw own.0 at c.back.ensures.gave)
    c.join.ensures.pass.0 c.join.ensures.pass.1
