use Rattle.std.proofs.Common.{sym, refl, ◌∙◌}
use Rattle.sb_server.proofs.worker.work.Goals as goal

pub returns : goal.returns
returns g c = record {
  first = c.in-Some.pass;
  had = sym c.in-Some.ensures.value;
  last = c.work.new.pass;
  has = refl;
  may = c.work.ensures.ready;
  room = c.work.ensures.room ∙ c.requires.1;
  stopped = c.work.ensures.did;
}
