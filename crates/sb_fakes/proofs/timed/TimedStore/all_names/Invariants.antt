use Rattle.std.proofs.Common.{ℕ, List, ◌++◌, take, map}
use Rattle.sb_fakes.specs.Names.{Collects}
use Rattle.sb_fakes.specs.Versions.{newest_body}
use Rattle.sb_fakes.specs.declared.object.Object.{Object}
use Rattle.sb_fakes.specs.declared.history.History.{History}
use Rattle.sb_fakes.proofs.timed.TimedStore.all_names.Given as goal

-- the names of the objects so far are collected
abbrev pub invariant-loop-object : goal.invariant-loop-object
invariant-loop-object l =
    Collects l.names.items (map (λ (object : Object (List ℕ)). object.name) (take l.object-index l.fn.self.start.items))
    (newest_body l.fn.self)

-- and those of the histories so far
abbrev pub invariant-loop-history : goal.invariant-loop-history
invariant-loop-history l =
    Collects l.names.items (map (λ (object : Object (List ℕ)). object.name) l.fn.self.start.items
    ++ map (λ (history : History). history.name) (take l.history-index l.fn.self.histories.items))
    (newest_body l.fn.self)
