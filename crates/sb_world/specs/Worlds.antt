-- What a world tells, and what its calls do to that.
use Rattle.std.specs.Prelude.{ℕ, ◌≡◌, Bool, true, false, List, [], ◌∷◌, Option, Some, IfOk, IfSome, Result, Ok, Err, length}
use Rattle.sb_base.specs.declared.access.StorePlan.{StorePlan}
use Rattle.sb_base.specs.declared.text.Text.{Text}
use Rattle.sb_world.specs.Told.{Gains, CountsJust}
use Rattle.sb_world.specs.Benches.{BenchParts, with_links, link_count}
use Rattle.sb_world.specs.declared.world.Ask.{Ask}
use Rattle.sb_world.specs.declared.world.Ask.TheVariants as ask
use Rattle.sb_world.specs.declared.world.MakeFault.{MakeFault}
use Rattle.sb_world.specs.declared.world.MakeFault.TheVariants as fault

-- what was handed over at the end: a client's listener, and the link and clock of a client or a worker
pub record HeardParts (N L C : Type 0) : Type 0 where
  pub listener : Option N
  pub desk : Option (L × C)

-- a world: what its next bench is made of, where it tells that, whether it tells the bench that was shut last, which
-- never changes, that bench, what it was asked for, the lines that it said, what was handed over to it, each where it is
-- told, and its count of faults
pub record WorldView (N L C R S : Type 0) : Type 0 where
  pub next : Option (BenchParts L C R S)
  pub tells : Bool
  pub last : Option (BenchParts L C R S)
  pub asks : Option (List Ask)
  pub said : Option (List (List ℕ))
  pub heard : Option (List (HeardParts N L C))
  pub faults : ℕ

-- nothing was made, for another cause than memory
abbrev pub make_failed : {T : Type 0} → Result T MakeFault → Bool
make_failed (Ok bench) = false
make_failed (Err fault.Store) = true
make_failed (Err fault.Listen) = true
make_failed (Err fault.Memory) = false

-- what a fault of making tells: of a bench and a desk that the store can't be reached, of a listener that its address
-- can't be listened on, and of each want of memory
abbrev pub IsOfStore : MakeFault → Type 0
IsOfStore fault.Store = Unit {0}
IsOfStore fault.Listen = ⊥
IsOfStore fault.Memory = Unit {0}

abbrev pub IsOfAddress : MakeFault → Type 0
IsOfAddress fault.Store = ⊥
IsOfAddress fault.Listen = Unit {0}
IsOfAddress fault.Memory = Unit {0}

-- a world of which another bench was shut last, and one that has said other lines
abbrev pub with_last : {N L C R S : Type 0} → Option (BenchParts L C R S) → WorldView N L C R S → WorldView N L C R S
with_last last world = record {
  next = world.next;
  tells = world.tells;
  last = last;
  asks = world.asks;
  said = world.said;
  heard = world.heard;
  faults = world.faults;
}

abbrev pub with_said : {N L C R S : Type 0} → Option (List (List ℕ)) → WorldView N L C R S → WorldView N L C R S
with_said said world = record {
  next = world.next;
  tells = world.tells;
  last = world.last;
  asks = world.asks;
  said = said;
  heard = world.heard;
  faults = world.faults;
}

-- a world to which other things were handed over
abbrev pub with_heard : {N L C R S : Type 0} → Option (List (HeardParts N L C)) → WorldView N L C R S
    → WorldView N L C R S
with_heard heard world = record {
  next = world.next;
  tells = world.tells;
  last = world.last;
  asks = world.asks;
  said = world.said;
  heard = heard;
  faults = world.faults;
}

-- a bench was asked for, over this store and with so many links, and was made or wasn't: it is the next one, the ask is
-- told, the count of faults rises where none was made for another cause than memory and stays else, and so does the rest
pub record MakesBench {N L C R S : Type 0} (before after : WorldView N L C R S) (store : Option StorePlan) (links : ℕ)
    (result : Result (BenchParts L C R S) MakeFault) : Type 0 where
  pub linked : IfOk result (λ (bench : BenchParts L C R S). length bench.links ≡ link_count store links)
  pub next_is : IfOk result
      (λ (bench : BenchParts L C R S). IfSome before.next (λ told. bench ≡ with_links (link_count store links) told))
  pub asked : Gains before.asks after.asks (ask.Bench store links ∷ [])
  pub counted : CountsJust before.faults after.faults (make_failed result)
  pub same_tells : after.tells ≡ before.tells
  pub same_last : after.last ≡ before.last
  pub same_said : after.said ≡ before.said
  pub same_heard : after.heard ≡ before.heard

-- something was asked for, and was made or wasn't: the ask is told, the count of faults rises where nothing was made for
-- another cause than memory and stays else, and so do the bench that was shut last, the lines said and what was handed
-- over
pub record Makes {N L C R S T : Type 0} (before after : WorldView N L C R S) (asked_for : Ask)
    (result : Result T MakeFault) : Type 0 where
  pub asked : Gains before.asks after.asks (asked_for ∷ [])
  pub counted : CountsJust before.faults after.faults (make_failed result)
  pub same_tells : after.tells ≡ before.tells
  pub same_last : after.last ≡ before.last
  pub same_said : after.said ≡ before.said
  pub same_heard : after.heard ≡ before.heard

-- a link to this store and a clock were asked for
abbrev pub MakesDesk : {N L C R S : Type 0} → WorldView N L C R S → WorldView N L C R S → StorePlan
    → Result (L × C) MakeFault → Type 0
MakesDesk before after store result = Makes before after (ask.Desk store) result

-- a listener was asked for, at this address and of so many connections
abbrev pub MakesListener : {N L C R S : Type 0} → WorldView N L C R S → WorldView N L C R S → Text → ℕ
    → Result N MakeFault → Type 0
MakesListener before after address limit result = Makes before after (ask.Listener address limit) result

-- a listener, or a link and a clock, or all of them were handed over, and the rest stays
pub record HangsUp {N L C R S : Type 0} (before after : WorldView N L C R S) (listener : Option N)
    (desk : Option (L × C)) : Type 0 where
  pub told : Gains before.heard after.heard (record { listener = listener; desk = desk } ∷ [])
  pub others : after ≡ with_heard after.heard before

-- a line was said, and the rest stays
pub record SaysLine {N L C R S : Type 0} (before after : WorldView N L C R S) (line : List ℕ) : Type 0 where
  pub told : Gains before.said after.said (line ∷ [])
  pub others : after ≡ with_said after.said before
