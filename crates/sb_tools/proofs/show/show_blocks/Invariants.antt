use Rattle.std.proofs.Common.{◌≤◌}
use Rattle.sb_tools.specs.Listings.{last_of}
use Rattle.sb_tools.proofs.Showing.{Shown}
use Rattle.sb_tools.proofs.show.show_blocks.Given as goal

-- the pages so far were shown, and more follow
abbrev pub invariant-pages : goal.invariant-pages
invariant-pages g l = record {
  shown : Shown l.prefix l.hashed
      (record { log = g.L.Link.log l.fn.link; held = g.S.Sink.held l.fn.sink })
      (record { log = g.L.Link.log l.link; held = g.S.Sink.held l.sink })
      (last_of l.listing.marker l.listing.page) l._asked l.shown;
  store : g.L.Link.faults l.fn.link ≤ g.L.Link.faults l.link;
  output : g.S.Sink.faults l.fn.sink ≤ g.S.Sink.faults l.sink;
}
