use Rattle.std.proofs.Common.{ℕ, ◌∙◌, sym, subst, arith, ◌<◌, None, Some, Bool}
use Rattle.sb_blocks.specs.Orders.{IsFirst}
use Rattle.sb_core.specs.Jobs.{job_rank, ComesAt}
use Rattle.std.specs.FinMap.{get}
use Rattle.std.proofs.Common.{◌≡◌}
use Rattle.sb_blocks.specs.Orders.{rank_of}
use Rattle.sb_core.proofs.JobSearch.{next_rest, from_here, found_job, rests_until, core_starts}
use Rattle.sb_core.proofs.PutSearch.{left_less}
use Rattle.sb_core.proofs.machine.Core.next_due.Goals as goal

pub dirty-preserved : goal.dirty-preserved
dirty-preserved c =
    let core = c.args.self.now in
    let too = c.is_too_dirty-too_dirty.result in
    let ahead : core.reading < c.put_from-from.result = omega (arith, c.if-from-self.false) in
    rw c.min-until.ensures (next_rest core.window core.settings core.reading core.last_mark too core.blocks.cached
    core.limit c.dirty.after c.in-Some.next.0 c.in-Some.next.1 c.in-Some.ensures c.dirty.until c.put_from-from.result
    (from_here core.window core.settings core.reading core.last_mark too core.blocks.cached core.limit c.dirty.after
    c.in-Some.next.0 c.in-Some.next.1 c.in-Some.ensures ∙ sym c.put_from-from.ensures) ahead c.dirty.invariant)

pub dirty-smaller : goal.dirty-smaller
dirty-smaller c =
    left_less c.args.self.now.window c.args.self.now.reading None c.args.self.now.blocks.cached c.dirty.after
    c.in-Some.next.0 c.in-Some.next.1 c.in-Some.ensures

pub returns-then-from-self : goal.returns-then-from-self
returns-then-from-self c =
    let core = c.args.self.now in
    let too = c.is_too_dirty-too_dirty.result in
    let here = from_here core.window core.settings core.reading core.last_mark too core.blocks.cached core.limit
    c.dirty.after c.in-Some.next.0 c.in-Some.next.1 c.in-Some.ensures in
    subst (λ (t : Bool). (x : ℕ) × IsFirst (job_rank core.window core.settings core.reading core.last_mark t)
    core.blocks.cached x c.in-Some.next.1) c.is_too_dirty-too_dirty.ensures
    (found_job core.window core.settings core.reading core.last_mark too core.blocks.cached core.limit (core_starts core)
    c.dirty.after c.in-Some.next.0 c.in-Some.next.1 c.dirty.until c.in-Some.ensures
    (omega (arith, here, c.put_from-from.ensures, c.if-from-self.true)) c.dirty.invariant)

pub returns : goal.returns
returns c =
    let core = c.args.self.now in
    let too = c.is_too_dirty-too_dirty.result in
    subst (λ (t : Bool). ComesAt (λ reading. (block : ℕ) × (since : ℕ)
    × (rank_of (job_rank core.window core.settings reading core.last_mark t) block (get core.blocks.cached block)
    ≡ Some since)) core.reading c.dirty.until) c.is_too_dirty-too_dirty.ensures
    (rests_until core.window core.settings core.reading core.last_mark too core.blocks.cached core.limit
    (core_starts core) c.dirty.after c.dirty.until c.in_default.ensures c.dirty.invariant)
