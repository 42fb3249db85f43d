use Rattle.std.proofs.Common.{◌≡◌, ◌≤◌, ◌+◌, ◌∙◌, sym, ap, subst, arith, length}
use Rattle.sb_rows.specs.Rows.{IsGapFor}
use Rattle.sb_history.specs.Contents.{zeros, overlay}
use Rattle.sb_blocks.specs.declared.cached.Cached.{Cached}
use Rattle.sb_blocks.specs.Tables.{IsShaped, cache_of}
use Rattle.sb_blocks.specs.Moves.{first_written}
use Rattle.sb_blocks.specs.Caches.{CacheState, with_entry}
use Rattle.sb_blocks.proofs.CacheLemmas.{entries_are, insert_shaped, insert_view, spare_roomy, has_spare, filled_length}
use Rattle.sb_blocks.proofs.blocks.Blocks.insert_written.Goals as goal

pub filled-body-requires-clause-room : goal.filled-body-requires-clause-room
filled-body-requires-clause-room c =
    subst (λ size. size ≤ c.in-Some.spare) (sym (ap (λ (cache : CacheState). cache.geometry.block_size) c.self.view_is))
    (spare_roomy c.self.inside.geometry c.self.inside.room c.self.inside.rows.items c.self.inside.spare.items c.args.self.now c.self.view_is
    c.self.invariant.0 c.pop.new.self.items c.in-Some.spare c.in-Some.ensures.items)

-- the gap among the rows
gap : (c : goal.After-put_row) → IsGapFor c.self.inside.rows.items c.args.part.block c.args.at
gap c = subst (λ rows. IsGapFor rows c.args.part.block c.args.at)
    (sym (entries_are c.self.inside.geometry c.self.inside.room c.self.inside.rows.items c.self.inside.spare.items c.args.self.now c.self.view_is
    c.self.invariant.0)) c.requires.gap

pub put_row-requires-clause-at : goal.put_row-requires-clause-at
put_row-requires-clause-at c =
    let place = (subst (λ rows. IsGapFor rows c.args.part.block c.args.at) (sym (entries_are c.self.inside.geometry c.self.inside.room c.self.inside.rows.items c.self.inside.spare.items c.args.self.now c.self.view_is
    c.self.invariant.0)) c.requires.gap).in_range in
    omega (arith, place)

-- the bytes among zeros
filled : (c : goal.After-put_row) → c.filled-body.result
    ≡ overlay (zeros c.args.self.now.geometry.block_size) c.args.part.offset c.args.bytes.now
filled c = c.filled-body.ensures
    ∙ ap (λ (cache : CacheState). overlay (zeros cache.geometry.block_size) c.args.part.offset c.args.bytes.now) c.self.view_is

whole : (c : goal.After-put_row) → c.args.part.offset + length c.args.bytes.now ≤ c.args.self.now.geometry.block_size
whole c = omega (arith, c.requires.part.within, c.requires.bytes)

pub invariant_of-self : goal.invariant_of-self
invariant_of-self c =
    let long = ap length (filled c) ∙ filled_length c.args.self.now.geometry.block_size c.args.part.offset
    c.args.bytes.now (whole c) in (
      subst (λ rs. IsShaped c.self.inside.geometry c.self.inside.room rs c.pop.new.self.items)
          (sym c.put_row.ensures.items)
          (insert_shaped c.self.inside.geometry c.self.inside.room c.self.inside.rows.items c.self.inside.spare.items c.args.self.now c.self.view_is
          c.self.invariant.0 c.args.part.block c.args.at c.first_written-entry.result c.pop.new.self.items
          c.in-Some.spare (gap c) c.requires.part.block c.in-Some.ensures.items
          (ap (λ (e : Cached). length e.body) c.first_written-entry.ensures ∙ long)),
      omega (arith, c.put_row.ensures.capacity, c.self.invariant.1),
      omega (arith, c.pop.ensures.capacity, c.self.invariant.2),
    )

pub unreachable-requires : goal.unreachable-requires
unreachable-requires c =
    let none : length c.self.inside.spare.items ≡ 0 = omega (arith, c.in-None.ensures.cases.0) in
    has_spare c.self.inside.geometry c.self.inside.room c.self.inside.rows.items c.self.inside.spare.items c.args.self.now c.self.view_is
    c.self.invariant.0 none c.requires.free

pub returns : goal.returns
returns c =
    ap (λ rs. cache_of c.self.inside.geometry c.self.inside.room rs) c.put_row.ensures.items
    ∙ insert_view c.self.inside.geometry c.self.inside.room c.self.inside.rows.items c.self.inside.spare.items c.args.self.now c.self.view_is
    c.self.invariant.0 c.args.part.block c.args.at c.first_written-entry.result (gap c)
    ∙ ap (with_entry c.args.self.now c.args.part.block) (c.first_written-entry.ensures
    ∙ ap (first_written c.args.now c.args.place c.args.epoch) (filled c))
