use Rattle.sb_core.specs.JobSearches.{put_from_at, RestsSeen}
use Rattle.sb_core.specs.Searches.{left_behind}
use Rattle.sb_core.proofs.machine.Core.next_due.Given as goal

abbrev pub invariant-dirty : goal.invariant-dirty
invariant-dirty l =
    RestsSeen (put_from_at l.fn.self.window l.fn.self.settings l.fn.self.reading l.fn.self.last_mark l.too_dirty
    l.fn.self.blocks.cached) l.fn.self.reading l.fn.self.blocks.cached l.after l.until

abbrev pub decreases-dirty : goal.decreases-dirty
decreases-dirty l = left_behind l.fn.self.blocks.cached l.after
