use Rattle.std.proofs.Common.{arith, sym, ap, ◌∙◌, ◌≡◌, ◌<◌, ◌≤◌, ◌+◌, true, false, None}
use Rattle.std.specs.FinMap.{get, len}
use Rattle.sb_base.specs.declared.line.Why.TheVariants.{Busy}
use Rattle.sb_base.specs.declared.entry.EntryKind.TheVariants as kind
use Rattle.sb_history.specs.Contents.{zeros}
use Rattle.sb_core.specs.Cores.{marks_of}
use Rattle.sb_core.proofs.Answering.{read_waits}
use Rattle.sb_core.proofs.CoreEvents.{adds_ticked, waits_from, zeros_from, get_from, read_from, missing_is, stays_put}
use Rattle.sb_core.proofs.LeadsSince.{since_keeps, since_end, since_get, since_wait}
use Rattle.sb_core.proofs.LeadEvents.{read_ends, read_keeps, get_leads, get_keeps}
use Rattle.sb_core.proofs.machine.Core.read.Goals as goal

pub returns-then-holds-clause-represents : goal.returns-then-holds-clause-represents
returns-then-holds-clause-represents c =
    let mid = c.tick-place.new.self in
    adds_ticked c.args.self.now mid c.read_held.new.self c.args.now c.tick-place.result c.args.pass
    (kind.Read c.args.part c.read_held.new.out) c.tick-place.ensures
    (read_from mid c.read_held.new.self c.tick-place.result c.args.pass c.args.part c.read_held.new.out
    c.read_held.ensures (sym c.if-holds.ensures))

pub returns-then-not-is_missing-clause-represents : goal.returns-then-not-is_missing-clause-represents
returns-then-not-is_missing-clause-represents c =
    let mid = c.tick-place.new.self in
    adds_ticked c.args.self.now mid mid c.args.now c.tick-place.result c.args.pass
    (kind.Waited (Busy c.args.part.block)) c.tick-place.ensures
    (λ before past later next s. waits_from mid mid c.args.pass (Busy c.args.part.block) (stays_put mid) before
    c.tick-place.result past later next s)

pub returns-then-marked-clause-represents : goal.returns-then-marked-clause-represents
returns-then-marked-clause-represents c =
    let mid = c.tick-place.new.self in
    let missing : get mid.blocks.cached c.args.part.block ≡ None =
    missing_is (get mid.blocks.cached c.args.part.block) (sym c.if-not-is_missing.ensures) in
    let on : c.args.part.block < mid.geometry.blocks = rw c.tick-place.ensures.geometry c.requires.part.block in
    let marked : marks_of mid c.args.part.block ≡ true = sym c.if-marked.ensures in
    let within : c.args.part.offset + c.args.part.length ≤ mid.geometry.block_size =
    rw c.tick-place.ensures.geometry c.requires.part.within in
    adds_ticked c.args.self.now mid mid c.args.now c.tick-place.result c.args.pass
    (kind.Read c.args.part c.fill_zeros.new.out) c.tick-place.ensures
    (λ before past later next s. zeros_from mid c.tick-place.result c.args.pass c.args.part c.fill_zeros.new.out missing on
    marked within (c.fill_zeros.ensures ∙ ap zeros c.requires.out) before past later next s)

pub returns-then-free-ne0-clause-represents : goal.returns-then-free-ne0-clause-represents
returns-then-free-ne0-clause-represents c =
    let mid = c.tick-place.new.self in
    let missing : get mid.blocks.cached c.args.part.block ≡ None =
    missing_is (get mid.blocks.cached c.args.part.block) (sym c.if-not-is_missing.ensures) in
    let free : len mid.blocks.cached < mid.settings.cache_size =
    omega (arith, c.free.ensures, c.if-free-ne0.true, mid.its_cache.room) in
    let on : c.args.part.block < mid.geometry.blocks = rw c.tick-place.ensures.geometry c.requires.part.block in
    let unmarked : marks_of mid c.args.part.block ≡ false = sym c.if-marked.ensures in
    adds_ticked c.args.self.now mid c.begin_get.new.self c.args.now c.tick-place.result c.args.pass
    (kind.GetBegin c.begin_get.result.block c.begin_get.result.expect c.begin_get.result.verify) c.tick-place.ensures
    (λ before past later next s. get_from mid c.begin_get.new.self c.args.pass c.args.part.block c.begin_get.result
    c.begin_get.ensures.starts missing free on unmarked before c.tick-place.result past later next s)

pub returns-in-Dropped-clause-represents : goal.returns-in-Dropped-clause-represents
returns-in-Dropped-clause-represents c =
    adds_ticked c.args.self.now c.tick-place.new.self c.make_room.new.self c.args.now c.tick-place.result c.args.pass
    (kind.Dropped c.in-Dropped.block) c.tick-place.ensures
    (λ before past later next s. c.in-Dropped.ensures.adds before c.tick-place.result past later next s)

pub returns-in-Put-clause-represents : goal.returns-in-Put-clause-represents
returns-in-Put-clause-represents c =
    adds_ticked c.args.self.now c.tick-place.new.self c.make_room.new.self c.args.now c.tick-place.result c.args.pass
    (kind.PutBegin c.in-Put.job.block c.make_room.new.out) c.tick-place.ensures
    (λ before past later next s. c.in-Put.ensures.adds before c.tick-place.result past later next s)

pub returns-in-Wait-clause-represents : goal.returns-in-Wait-clause-represents
returns-in-Wait-clause-represents c =
    adds_ticked c.args.self.now c.tick-place.new.self c.make_room.new.self c.args.now c.tick-place.result c.args.pass
    (kind.Waited c.in-Wait.why) c.tick-place.ensures
    (λ before past later next s. c.in-Wait.ensures.adds before c.tick-place.result past later next s)

pub returns-then-holds-clause-leads : goal.returns-then-holds-clause-leads
returns-then-holds-clause-leads c =
    let mid = c.tick-place.new.self in
    since_end c.args.self.now mid c.read_held.new.self c.args.now c.tick-place.result c.tick-place.ensures
    (read_ends mid c.read_held.new.self c.tick-place.result c.args.part c.read_held.new.out c.read_held.ensures)

pub returns-then-holds-clause-open : goal.returns-then-holds-clause-open
returns-then-holds-clause-open c =
    let mid = c.tick-place.new.self in
    since_keeps c.args.self.now mid c.read_held.new.self c.args.now c.tick-place.result c.tick-place.ensures
    (read_keeps mid c.read_held.new.self c.tick-place.result c.args.part c.read_held.new.out c.read_held.ensures)

pub returns-then-free-ne0-clause-leads : goal.returns-then-free-ne0-clause-leads
returns-then-free-ne0-clause-leads c =
    let mid = c.tick-place.new.self in
    let missing : get mid.blocks.cached c.args.part.block ≡ None =
    missing_is (get mid.blocks.cached c.args.part.block) (sym c.if-not-is_missing.ensures) in
    let free : len mid.blocks.cached < mid.blocks.room = omega (arith, c.free.ensures, c.if-free-ne0.true) in
    since_get c.args.self.now mid c.begin_get.new.self c.args.now c.tick-place.result c.tick-place.ensures c.args.pass
    c.args.part.block c.begin_get.result
    (get_leads mid c.begin_get.new.self c.args.pass c.args.part.block c.begin_get.result c.begin_get.ensures.starts
    missing free c.begin_get.ensures.opens)

pub returns-then-free-ne0-clause-open : goal.returns-then-free-ne0-clause-open
returns-then-free-ne0-clause-open c =
    let mid = c.tick-place.new.self in
    let missing : get mid.blocks.cached c.args.part.block ≡ None =
    missing_is (get mid.blocks.cached c.args.part.block) (sym c.if-not-is_missing.ensures) in
    since_keeps c.args.self.now mid c.begin_get.new.self c.args.now c.tick-place.result c.tick-place.ensures
    (get_keeps mid c.begin_get.new.self c.args.pass c.args.part.block c.begin_get.result c.begin_get.ensures.starts
    missing)

pub returns-in-Wait-clause-leads : goal.returns-in-Wait-clause-leads
returns-in-Wait-clause-leads c =
    since_wait c.args.self.now c.tick-place.new.self c.make_room.new.self c.args.now c.tick-place.result
    c.tick-place.ensures None c.in-Wait.why c.in-Wait.ensures.leads

pub returns-in-Wait-clause-answer : goal.returns-in-Wait-clause-answer
returns-in-Wait-clause-answer c =
    let mid = c.tick-place.new.self in
    let missing : get mid.blocks.cached c.args.part.block ≡ None =
    missing_is (get mid.blocks.cached c.args.part.block) (sym c.if-not-is_missing.ensures) in
    let unmarked : marks_of mid c.args.part.block ≡ false = sym c.if-marked.ensures in
    let full : len mid.blocks.cached ≡ mid.blocks.room = omega (arith, c.free.ensures, c.if-free-ne0.false) in
    rw (
      ← c.tick-place.ensures.reading,
      ← c.tick-place.ensures.window,
      ← c.tick-place.ensures.blocks,
      ← c.tick-place.ensures.marks,
    ) (read_waits mid.window mid.reading mid.blocks (marks_of mid c.args.part.block) c.args.part.block
    (get mid.blocks.cached c.args.part.block) c.in-Wait.why missing unmarked full c.in-Wait.ensures.rule)
