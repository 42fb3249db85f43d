use Rattle.std.proofs.Common.{ap, sym, ◌∙◌}
use Rattle.sb_world.specs.Benches.{BenchParts, shut_bench}
use Rattle.sb_world.specs.Worlds.{with_last}
use Rattle.sb_server.specs.Servers.{bench_with}
use Rattle.sb_server.proofs.Mounting.{put_back, shut_with}
use Rattle.sb_server.proofs.server.serve_bench.Goals as goal

pub returns : goal.returns
returns g c =
    let served = g.W.World.view c.serve_link-end.new.world in
    let parts : BenchParts g.row.W-Link.Denot g.row.W-Clock.Denot g.row.W-Source.Denot g.row.W-Sink.Denot = record {
      links = c.bench.inside.links.items;
      clock = c.bench.inside.clock;
      input = c.bench.inside.input;
      output = c.bench.inside.output;
      errors = c.bench.inside.errors;
    } in
    let link' = c.serve_link-end.result.1 in
    let clock' = c.serve_link-end.result.2 in
    let links = put_back _ _ _ c.in-Some.link link' c.requires.link
    (ap (λ (b : BenchParts _ _ _ _). b.links) (sym c.bench.view_is) ∙ c.in-Some.ensures.items)
    c.in-Ok.ensures.items in
    record {
      link = c.in-Some.link;
      desk' = (link', clock');
      link_is = links.0;
      served_then = served;
      serves = rw (← ap (λ (b : BenchParts _ _ _ _). b.clock) c.bench.view_is) c.serve_link-end.ensures;
      shut = shut_with served (g.W.World.view c.shut.new.self) parts _ (link', clock') c.shut.ensures links.1
          ∙ ap (λ (b : BenchParts _ _ _ _). with_last (shut_bench served.tells (bench_with (link', clock') b)) served)
          c.bench.view_is;
    }
