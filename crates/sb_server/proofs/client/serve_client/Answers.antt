use Rattle.std.proofs.Common.{Ok, Err}
use Rattle.sb_turn.specs.Passes.{number}
use Rattle.sb_server.proofs.Connecting.{client_starts, client_goes_on, client_ends}
use Rattle.sb_server.proofs.client.serve_client.Goals as goal

pub connections-init : goal.connections-init
connections-init g c = client_starts c.args.pass.now c.args.client.now c.requires.ready c.requires.room

pub connections-preserved : goal.connections-preserved
connections-preserved g c =
    let split = c.split-theirs in
    client_goes_on c.args.pass.now c.connections.pass split.new.pass c.serve_one.new.pass (number split.result)
    c.args.client.now c.connections.client c.serve_one.new.client c.accept.new.self
    (g.N.Source.Source.left c.in-Ok-Some.source) c.connections.invariant split.ensures.pass.1
    (rw c.in-Ok-Some.field-0-is at c.in-Ok-Some.ensures.came) (rw c.in-Ok-Some.field-0-is at c.in-Ok-Some.ensures.over)
    c.accept.ensures.gave c.accept.ensures.cause.later c.serve_one.ensures

pub returns-in-Ok-None : goal.returns-in-Ok-None
returns-in-Ok-None g c =
    let split = c.split-theirs in
    let none = c.in-Ok-None in
    client_ends c.args.pass.now c.connections.pass split.new.pass split.result c.join.new.pass (number split.result)
    c.args.client.now c.connections.client c.accept.new.self (Ok tt) c.connections.invariant split.ensures.pass.1
    (rw none.field-0-is at none.ensures.came) (rw none.field-0-is at none.ensures.over) c.accept.ensures.gave
    none.ensures.cause split.ensures.new.1.joined c.join.ensures.pass.0 c.join.ensures.pass.1

pub returns-in-Err : goal.returns-in-Err
returns-in-Err g c =
    let split = c.split-theirs in
    let bad = c.in-Err in
    client_ends c.args.pass.now c.connections.pass split.new.pass split.result c.join-in-Err.new.pass
    (number split.result) c.args.client.now c.connections.client c.accept.new.self (Err bad.fault)
    c.connections.invariant split.ensures.pass.1 bad.ensures.came bad.ensures.over c.accept.ensures.gave
    bad.ensures.cause split.ensures.new.1.joined c.join-in-Err.ensures.pass.0 c.join-in-Err.ensures.pass.1
