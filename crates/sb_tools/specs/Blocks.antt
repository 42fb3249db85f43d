-- Which block a name is that of.
use Rattle.std.specs.Prelude.{ℕ, zero, suc, ◌≡◌, ◌^◌, ◌↔◌, Bool, if◌then◌else◌, List, Option, Some, None}
use Rattle.std.specs.List.{filter_map}
use Rattle.std.specs.Str.{bytes_eq}
use Rattle.sb_names.specs.Names.{object_name_of, IsNameOf}

-- the greatest number below a bound of which a test holds
unfoldable pub greatest_below : ℕ → (ℕ → Bool) → Option ℕ
greatest_below zero test = None
greatest_below (suc bound) test = if test bound then Some bound else greatest_below bound test

-- the block whose object has a name, if there is one
unfoldable pub block_of : List ℕ → Bool → List ℕ → Option ℕ
block_of prefix hashed name = greatest_below (2 ^ 32) (λ block. bytes_eq name (object_name_of prefix block hashed))

-- the blocks whose objects have these names, in their order
abbrev pub blocks_in : List ℕ → Bool → List (List ℕ) → List ℕ
blocks_in prefix hashed names = filter_map (block_of prefix hashed) names

-- a name is read as a block exactly where it is the name of that block's object
abbrev pub ReadsNames : Type 0
ReadsNames = (prefix : List ℕ) (hashed : Bool) (name : List ℕ) (block : ℕ)
    → (block_of prefix hashed name ≡ Some block) ↔ IsNameOf prefix hashed name block
