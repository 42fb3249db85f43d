use Rattle.std.proofs.Common.{None, sym, ap, subst, ◌∙◌, arith, length}
use Rattle.std.proofs.lemmas.List.{length-replicate}
use Rattle.std.specs.Ordering.{nat_cmp}
use Rattle.std.specs.FinMap.{len, len-empty}
use Rattle.sb_blocks.specs.declared.cached.Cached.{Cached}
use Rattle.sb_blocks.specs.Caches.{CachedBlocks, CacheState}
use Rattle.test_blocks.specs.Slots.{AllFit, cached_of}
use Rattle.test_blocks.proofs.SlotLemmas.{fit_none, no_slots}
use Rattle.test_blocks.proofs.plain.Plain.new.Goals as goal

pub invariant_of-result : goal.invariant_of-result
invariant_of-result c = record {
  each = let long = ap length c.loop-made.invariant ∙ length-replicate c.loop-made.made None in
      omega (arith, long, c.loop-made-test.false, c.loop-made.auto.made-end);
  fit = subst (AllFit c.args.geometry.now.block_size) (sym c.loop-made.invariant)
      (fit_none c.args.geometry.now.block_size c.loop-made.made);
  enough = let none = ap (λ slots. len (cached_of slots)) c.loop-made.invariant ∙ ap len (no_slots c.loop-made.made) ∙ len-empty nat_cmp Cached in
      omega (arith, none);
}

pub returns : goal.returns
returns c =
    ap (λ (m : CachedBlocks). let cache : CacheState = record {
      geometry = c.args.geometry.now;
      room = c.args.room;
      cached = m;
    } in cache) (ap cached_of c.loop-made.invariant ∙ no_slots c.loop-made.made)
