use Rattle.std.proofs.Common.{ℕ, List, [], ◌++◌, map}
use Rattle.sb_fakes.specs.Versions.{newest_body}
use Rattle.sb_fakes.specs.declared.object.Object.{Object}
use Rattle.sb_fakes.specs.declared.history.History.{History}
use Rattle.sb_fakes.proofs.Collecting.{collects_none, collects_more, collects_front, collects_back, collects_all}
use Rattle.sb_fakes.proofs.timed.TimedStore.all_names.Goals as goal

pub loop-object-init : goal.loop-object-init
loop-object-init c = rw c.new-names.ensures.items (collects_none (newest_body c.args.self.now))

pub loop-object-preserved : goal.loop-object-preserved
loop-object-preserved c =
    collects_more (λ (object : Object (List ℕ)). object.name) (newest_body c.args.self.now) []
    c.args.self.now.start.items c.loop-object.object-index c.object-item.result c.loop-object.names.items
    c.add_name.new.names.items (rw (← c.deref-object-items.ensures.value) c.loop-object-test.true)
    (rw (← c.deref-object-items.ensures.value) c.object-item.is) c.loop-object.invariant c.in_ok-add_name.ensures

pub loop-history-init : goal.loop-history-init
loop-history-init c =
    collects_front (λ (object : Object (List ℕ)). object.name) (newest_body c.args.self.now)
    c.args.self.now.start.items c.loop-object.object-index c.loop-object.names.items
    (rw (← c.deref-object-items.ensures.value) c.loop-object-test.false) c.loop-object.invariant

pub loop-history-preserved : goal.loop-history-preserved
loop-history-preserved c =
    collects_more (λ (history : History). history.name) (newest_body c.args.self.now)
    (map (λ (object : Object (List ℕ)). object.name) c.args.self.now.start.items)
    c.args.self.now.histories.items c.loop-history.history-index c.history-item.result c.loop-history.names.items
    c.add_name-in-loop-history.new.names.items
    (rw (← c.deref-history-items.ensures.value) c.loop-history-test.true)
    (rw (← c.deref-history-items.ensures.value) c.history-item.is) c.loop-history.invariant
    c.in_ok-add_name-2.ensures

pub returns : goal.returns
returns c =
    collects_all c.args.self.now.start.items c.args.self.now.histories.items c.loop-history.names.items
    (collects_back (λ (history : History). history.name) (newest_body c.args.self.now)
    (map (λ (object : Object (List ℕ)). object.name) c.args.self.now.start.items) c.args.self.now.histories.items
    c.loop-history.history-index c.loop-history.names.items
    (rw (← c.deref-history-items.ensures.value) c.loop-history-test.false) c.loop-history.invariant)
