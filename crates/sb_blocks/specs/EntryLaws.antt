-- Laws of an entry, by what the cache has of a block.
use Rattle.std.proofs.Common.{◌≡◌, ℕ, ◌≤◌, ◌+◌, Bool, true, List, length, Option, Some, None, is_some, sym, ap, subst, ◌∙◌, arith}
use Rattle.std.proofs.lemmas.Grind.{common_steps}
use Rattle.std.proofs.lemmas.List.{length-replicate}
use Rattle.sb_base.specs.declared.part.Part.{Part}
use Rattle.sb_base.specs.declared.entry.Shown.{Shown}
use Rattle.sb_base.specs.declared.entry.Shown.TheVariants as shown
use Rattle.sb_history.specs.Contents.{overlay}
use Rattle.sb_history.specs.Cache.{answer_content}
use Rattle.sb_blocks.specs.declared.cached.State.{State}
use Rattle.sb_blocks.specs.declared.cached.State.TheVariants.{Reading, Clean, Dirty, Writing, Writing2}
use Rattle.sb_blocks.specs.declared.cached.Cached.{Cached}
use Rattle.sb_blocks.specs.Cached.{passes, is_dirty, content_by, content_in, get_in, put_in}
use Rattle.sb_blocks.specs.Moves.{ShowsContent, written}
use Rattle.sb_blocks.specs.Caches.{CacheState, with_entry, Changes, after_write}
use Rattle.sb_blocks.specs.Calls.{CopiesBody}

-- the lengths of bodies
pub overlay_length : (content bytes : List ℕ) (offset : ℕ) → offset + length bytes ≤ length content
    → length (overlay content offset bytes) ≡ length content
overlay_length content bytes offset within = grind (arith, common_steps)

pub taken_length : (size : ℕ) (answer : Shown) → ShowsContent size answer
    → length (answer_content size None answer) ≡ size
taken_length size shown.Absent shows = length-replicate size 0
taken_length size (shown.Bytes bytes) shows = shows
taken_length size shown.Same shows = absurd shows
taken_length size shown.Failed shows = absurd shows

pub never_get : (found : Option Cached) → found ≡ None → is_some (get_in found) ≡ true → ⊥
never_get None none is = cc
never_get (Some entry) none is = cc

pub never_put : (found : Option Cached) → found ≡ None → is_some (put_in found) ≡ true → ⊥
never_put None none is = cc
never_put (Some entry) none is = cc

pub never_none : (test : State → Bool) (found : Option Cached) → found ≡ None → passes test found ≡ true → ⊥
never_none test None none is = cc
never_none test (Some entry) none is = cc

dirty_copies : (state : State) (body out : List ℕ) → is_dirty state ≡ true → out ≡ body
    → CopiesBody (content_by state body) out
dirty_copies (Reading get) body out dirty is = absurd (cc)
dirty_copies Clean body out dirty is = is
dirty_copies (Dirty stamp since) body out dirty is = is
dirty_copies (Writing put stamp) body out dirty is = is
dirty_copies (Writing2 put stamp later since) body out dirty is = is

pub copies : (found : Option Cached) (entry : Cached) (out : List ℕ) → found ≡ Some entry
    → passes is_dirty found ≡ true → out ≡ entry.body → CopiesBody (content_in found) out
copies found entry out is dirty so =
    subst (λ (f : Option Cached). CopiesBody (content_in f) out) (sym is)
    (dirty_copies entry.state entry.body out (sym (ap (passes is_dirty) is) ∙ dirty) so)

pub changes : (old new : CacheState) (block : ℕ) (change : Cached → Cached) (found : Option Cached) (entry : Cached)
    → found ≡ Some entry → new ≡ with_entry old block (change entry) → Changes old new block change found
changes old new block change found entry is set = subst (Changes old new block change) (sym is) set

-- by what the cache has of the block
pub after_held : (cache new : CacheState) (known_zero : Bool) (now place epoch : ℕ) (part : Part) (bytes : List ℕ)
    (found : Option Cached) (entry : Cached) → found ≡ Some entry
    → new ≡ with_entry cache part.block (written known_zero now place epoch part.offset bytes entry)
    → new ≡ after_write cache known_zero now place epoch part bytes found
after_held cache new known_zero now place epoch part bytes found entry is so =
    so ∙ ap (after_write cache known_zero now place epoch part bytes) (sym is)
