use Rattle.std.proofs.Common.{◌≡◌, arith, to_z-of_z, w64, of_z, to_z}
use Rattle.sb_s3request.proofs.request.write_signed.Goals as goal

-- src/request.rt:68:1
pub returns-in-Ok-write_head-clause-head : goal.returns-in-Ok-write_head-clause-head
returns-in-Ok-write_head-clause-head c =
    let same : to_z w64 (of_z w64 c.args.moment) ≡ c.args.moment = grind (arith, to_z-of_z) in
    record {
      request = c.in-Ok.parts.request;
      authorization = c.in-Ok-sign.signed;
      asks = c.in-Ok.ensures.request;
      signed = rw same at c.in-Ok-sign.ensures.signed;
      bytes = rw c.in-Ok.ensures.host at
          (rw c.in-Ok.ensures.request.path at (rw c.clear.ensures.items at c.in-Ok-write_head.ensures));
    }
