-- Parts of a world in memory that nothing was done with yet.
use Rattle.std.specs.Prelude.{ℕ, ◌≡◌, false, List, [], Option}
use Rattle.std.specs.List.{AllByRecursion}
use Rattle.sb_world.specs.Told.{IsUnused}
use Rattle.sb_world.specs.declared.link.Call.{Call}
use Rattle.sb_fakes.specs.declared.listener.MemoryListener.{MemoryListener}

-- no link was asked for anything
abbrev pub AreUnused : {L : Type 0} → (L → Option (List Call)) → (L → ℕ) → List L → Type 0
AreUnused log faults links = AllByRecursion (λ link. IsUnused (log link) (faults link)) links

-- a listener with no accept and no connection given back
pub record IsUntouched (listener : MemoryListener) : Type 0 where
  pub none_came : listener.at ≡ 0
  pub goes_on : listener.over ≡ false
  pub none_given : listener.given.items ≡ []
  pub counted : listener.faults ≡ 0

abbrev pub AreUntouched : List MemoryListener → Type 0
AreUntouched listeners = AllByRecursion IsUntouched listeners
