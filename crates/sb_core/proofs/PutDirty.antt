-- What a block is to the search for the next PUT.
use Rattle.std.proofs.Common.{ℕ, ◌≡◌, ◌⊎◌, inl, inr}
use Rattle.std.proofs.Common.{if◌then◌else◌, Option, Some, None}
use Rattle.std.proofs.Common.{refl, sym}
use Rattle.sb_blocks.specs.declared.cached.State.{State}
use Rattle.sb_blocks.specs.declared.cached.State.TheVariants.{Reading, Clean, Dirty, Writing, Writing2}
use Rattle.sb_blocks.specs.declared.cached.Cached.{Cached}
use Rattle.sb_blocks.specs.Cached.{since_in, stamp_in}
use Rattle.sb_blocks.specs.Orders.{rank_of, comes_behind, dirty_by, dirty_rank}
use Rattle.sb_core.specs.Rules.{is_covered, owing_by}

-- what a block is to the search: the reading since which it is dirty, if it is, and its stamp
pub dirty_cases : (found : Option Cached)
    → (since_in found ≡ None) ⊎ ((entry : Cached) × (stamp : ℕ) × (since : ℕ) × (found ≡ Some entry)
    × (entry.state ≡ Dirty stamp since))
dirty_cases None = inl refl
dirty_cases (Some entry) = by entry.state refl where
  by : (state : State) → entry.state ≡ state
      → (since_in (Some entry) ≡ None) ⊎ ((entry_ : Cached) × (stamp : ℕ) × (since : ℕ) × (Some entry ≡ Some entry_)
      × (entry_.state ≡ Dirty stamp since))
  by (Reading get_) is = inl (rw is refl)
  by Clean is = inl (rw is refl)
  by (Dirty stamp since) is = inr (entry, stamp, since, refl, is)
  by (Writing put stamp) is = inl (rw is refl)
  by (Writing2 put stamp later since) is = inl (rw is refl)

-- the rank of a block behind another, by the reading since which it is dirty
abbrev pub behind : Option (ℕ × ℕ) → ℕ → Option ℕ → Option ℕ
behind after block None = None
behind after block (Some since) = if comes_behind since block after then Some since else None

pub behind_is : (after : Option (ℕ × ℕ)) (block : ℕ) (found : Option Cached)
    → rank_of (dirty_rank after) block found ≡ behind after block (since_in found)
behind_is after block None = refl
behind_is after block (Some entry) = by entry.state where
  by : (state : State) → dirty_by after block state
      ≡ behind after block (since_in (Some (record entry { state = state })))
  by (Reading get_) = refl
  by Clean = refl
  by (Dirty stamp since) = refl
  by (Writing put stamp) = refl
  by (Writing2 put stamp later since) = refl

-- only what is dirty may be put, or waits
abbrev pub owing : Option ℕ → Option ℕ → Option ℕ → Option ℕ
owing mark None since = None
owing mark (Some stamp) None = None
owing mark (Some stamp) (Some since) = if is_covered mark stamp then Some since else None

pub owing_is : (mark : Option ℕ) (found : Option Cached) (P : Option ℕ → Option ℕ) → P None ≡ None
    → ((block : ℕ) → rank_of (λ b c. P (owing_by mark c.state)) block found ≡ P (owing mark (stamp_in found) (since_in found)))
owing_is mark None P none block = sym none
owing_is mark (Some entry) P none block = by entry.state where
  by : (state : State) → P (owing_by mark state)
      ≡ P (owing mark (stamp_in (Some (record entry { state = state }))) (since_in (Some (record entry { state = state }))))
  by (Reading get_) = refl
  by Clean = refl
  by (Dirty stamp since) = refl
  by (Writing put stamp) = refl
  by (Writing2 put stamp later since) = refl
