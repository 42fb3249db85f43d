-- Contents keep the length of a block.
use Rattle.std.proofs.Common.{ℕ, ◌≡◌, ◌+◌, ◌≤◌, ◌⊎◌, Bool, true, false, if◌then◌else◌, nat_eq, List, [], ◌∷◌, length}
use Rattle.std.proofs.Common.{unwrap_or, Option, Some, None, length-append, length-take, length-drop, refl, inl, inr}
use Rattle.std.proofs.Common.{arith, rules}
use Rattle.std.proofs.lemmas.List.{drop_all, length-replicate}
use Rattle.sb_base.specs.declared.settings.Settings.{Settings}
use Rattle.sb_base.specs.declared.entry.EntryKind.{EntryKind}
use Rattle.sb_base.specs.declared.entry.EntryKind.TheVariants as kind
use Rattle.sb_base.specs.declared.entry.Entry.{Entry}
use Rattle.sb_base.specs.declared.geometry.Geometry.{Geometry}
use Rattle.sb_history.specs.Contents.{Start, zeros, overlay, FillBlocks}
use Rattle.sb_history.specs.Values.{value_of, value_after}
use Rattle.sb_history.specs.Cache.{Found}
use Rattle.sb_history.specs.AccessRules.{MayFollow, FollowsAccessRules}

-- lengths
pub overlay_sized : (n offset : ℕ) (content bytes : List ℕ) → length content ≡ n → offset + length bytes ≤ n
    → length (overlay content offset bytes) ≡ n
overlay_sized n offset content bytes is fits = simp (length-append, length-take, length-drop) (omega (arith, is, fits))

overlay_whole : (n : ℕ) (a b bytes : List ℕ) → length a ≡ n → length b ≡ n → length bytes ≡ n
    → overlay a 0 bytes ≡ overlay b 0 bytes
overlay_whole n a b bytes la lb is =
    rw (drop_all (0 + length bytes) a (omega (arith, la, is)), drop_all (0 + length bytes) b (omega (arith, lb, is)))

sized_if : (n : ℕ) (t : Bool) (a b : List ℕ) → length a ≡ n → length b ≡ n → length (if t then a else b) ≡ n
sized_if n true a b la lb = la
sized_if n false a b la lb = lb

sized_after : (geometry : Geometry) (settings : Settings) (found : Found) (start : Start) (past : List Entry)
    (block pass reading : ℕ) (e : EntryKind) → length (value_of start past block) ≡ geometry.block_size → MayFollow
    geometry settings found past pass reading e → length (value_after block e (value_of start past block)) ≡
    geometry.block_size
sized_after geometry settings found start past block pass reading (kind.Write part bytes) is may =
    sized_if geometry.block_size (nat_eq part.block block) _ _
    (overlay_sized geometry.block_size part.offset (value_of start past block) bytes is may.fits) is
sized_after geometry settings found start past block pass reading e is may = is

pub value_sized : (geometry : Geometry) (settings : Settings) (found : Found) (start : Start) (past : List Entry)
    → FillBlocks geometry.block_size start → FollowsAccessRules geometry settings found past → (block : ℕ)
    → length (value_of start past block) ≡ geometry.block_size
value_sized geometry settings found start [] sized rules block = sized block
value_sized geometry settings found start (entry ∷ past) sized rules block =
    sized_after geometry settings found start past block entry.pass entry.reading entry.kind
    (value_sized geometry settings found start past sized rules.2 block) rules.0

length-zeros : (n : ℕ) → length (zeros n) ≡ n
length-zeros n = length-replicate n 0

-- a write makes of what is known what it makes of the content
pub write_known :
    (n : ℕ) (k : Option (List ℕ)) (absent : Bool) (content bytes : List ℕ) (offset : ℕ) → length content ≡ n
    → (k ≡ None → absent ≡ false → (offset ≡ 0) × (length bytes ≡ n))
    → (k ≡ Some content) ⊎ ((k ≡ None) × (absent ≡ true → content ≡ zeros n))
    → overlay (unwrap_or k (zeros n)) offset bytes ≡ overlay content offset bytes
write_known n k absent content bytes offset is whole (inl some) = rw some
write_known n k true content bytes offset is whole (inr none) = rw (none.0, none.1 refl)
write_known n k false content bytes offset is whole (inr none) =
    let w = whole none.0 refl in
    rw (none.0, w.0) (overlay_whole n (zeros n) content bytes (length-zeros n) is w.1)
