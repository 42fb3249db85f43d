use Rattle.std.proofs.Common.{◌≡◌, IfOk, sym, subst}
use Rattle.sb_sign.specs.Credentials.{Credentials}
use Rattle.sb_sign.specs.Signatures.{authorization_of}
use Rattle.sb_sign.proofs.signer.Signer.authorization.Goals as goal

pub returns-clause-is : goal.returns-clause-is
returns-clause-is c =
    let inside : Credentials =
    record { id = c.self.inside.id; secret = c.self.inside.secret; region = c.self.inside.region } in
    let turned = c.turn_to.ensures inside c.self.invariant.0 (sym c.bytes.ensures) c.self.invariant.1 in
    subst (λ (k : Credentials). IfOk c.header_of.result
    (λ header. header ≡ authorization_of k c.args.request.now c.args.date.now)) c.self.view_is
    (c.header_of.ensures inside (sym c.bytes-2.ensures) (sym c.bytes-3.ensures) turned.1)
