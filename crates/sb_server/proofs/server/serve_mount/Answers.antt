use Rattle.sb_server.specs.Tellings.{telling}
use Rattle.sb_server.proofs.Mounting.{no_bench, no_crew, bench_served}
use Rattle.sb_server.proofs.server.serve_mount.Goals as goal

pub returns-in-Err : goal.returns-in-Err
returns-in-Err g c =
    let tells = telling g.W.Listener.Listener g.W.Link.Link g.W.Clock.Clock g.W.Listener.Source.Source
    g.W.Listener.Sink.Sink in
    no_bench tells g.W.Listener.Listener g.W.Link.Link g.W.Clock.Clock c.args.mount.now _ _ c.in-Err.fault
    c.in-Err.ensures.fits c.in-Err.ensures.makes

pub returns-in-Ok-gather_crew : goal.returns-in-Ok-gather_crew
returns-in-Ok-gather_crew g c =
    let tells = telling g.W.Listener.Listener g.W.Link.Link g.W.Clock.Clock g.W.Listener.Source.Source
    g.W.Listener.Sink.Sink in
    bench_served tells g.W.Listener.Listener g.W.Link.Link g.W.Clock.Clock c.args.mount.now _ _ _ _ c.in-Ok.bench
    c.in-Ok-gather_crew.crew c.serve_bench.result c.in-Ok.ensures.makes c.in-Ok.ensures.unused
    c.in-Ok-gather_crew.ensures.asks c.in-Ok-gather_crew.ensures.anew c.serve_bench.ensures

pub returns-in-Err-gather_crew : goal.returns-in-Err-gather_crew
returns-in-Err-gather_crew g c =
    let tells = telling g.W.Listener.Listener g.W.Link.Link g.W.Clock.Clock g.W.Listener.Source.Source
    g.W.Listener.Sink.Sink in
    no_crew tells g.W.Listener.Listener g.W.Link.Link g.W.Clock.Clock c.args.mount.now _ _ _ _ c.in-Ok.bench
    c.in-Err-gather_crew.fault c.in-Ok.ensures.makes c.in-Err-gather_crew.ensures.asks c.shut.ensures
