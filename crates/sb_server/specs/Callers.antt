-- Passes that callers work with.
use Rattle.std.specs.List.{AllByRecursion}
use Rattle.std.specs.Prelude.{◌≡◌, ◌<◌, List, [], ◌∷◌, ◌++◌, Some}
use Rattle.sb_turn.specs.declared.pass.Pass.{Pass}
use Rattle.sb_turn.specs.Views.{Account}
use Rattle.sb_turn.specs.Passes.{mine, joined, number}
use Rattle.sb_core.specs.declared.machine.Core.{Core}
use Rattle.sb_core.specs.declared.standing.Timed.{Timed}
use Rattle.sb_core.specs.declared.standing.Fixed.{Fixed}
use Rattle.sb_core.specs.contracts.standing.CoreStands.TheImpl.{ghosts}
use Rattle.sb_crew.specs.declared.disk.Disk.{Disk}
use Rattle.sb_crew.specs.SharedDisks.{MayUse}
use Rattle.sb_server.specs.declared.caller.Caller.{Caller}
use Rattle.sb_server.specs.Accounts.{Gathers}

-- callers work with the same as before
abbrev pub SameTools : {T : Type 0} → List (Caller T) → List (Caller T) → Type 0
SameTools [] [] = Unit {0}
SameTools (x ∷ xs) (y ∷ ys) = (y.tools ≡ x.tools) × SameTools xs ys
SameTools olds news = ⊥

-- what each caller came to, from its tools before to those after
abbrev pub AllCame : {T A : Type 0} → (T → T → A → Type 0) → List (Caller T) → List (Caller T) → List A → Type 0
AllCame Came [] [] [] = Unit {0}
AllCame Came (x ∷ xs) (y ∷ ys) (a ∷ more) = Came x.tools y.tools a × AllCame Came xs ys more
AllCame Came olds news all = ⊥

-- a pass of a core's lock
abbrev pub CorePass : Type 0
CorePass = Pass Core Timed Fixed ghosts

-- a caller has a pass, with which calls may be made
abbrev pub HasPass : {T : Type 0} → Disk → Caller T → Type 0
HasPass disk caller = (p : CorePass) × (caller.pass ≡ Some p) × MayUse disk p

-- each caller has one of these passes, with which calls may be made
abbrev pub HavePasses : {T : Type 0} → Disk → List (Caller T) → List CorePass → Type 0
HavePasses disk [] [] = Unit {0}
HavePasses disk (x ∷ xs) (p ∷ ps) = (x.pass ≡ Some p) × MayUse disk p × HavePasses disk xs ps
HavePasses disk callers passes = ⊥

-- a pass that has made and joined nothing
pub record IsNew (p : CorePass) : Type 0 where
  pub positive : 0 < number p
  pub none_made : mine p ≡ []
  pub none_joined : joined p ≡ []

-- the accounts of a pass that joined one of them after the other
abbrev pub joined_all : List CorePass → List (Account Timed) → List (Account Timed)
joined_all [] accounts = accounts
joined_all (p ∷ ps) accounts = joined_all ps ((number p, mine p) ∷ (joined p ++ accounts))

-- a pass gave numbers away, and is else the same
pub record GaveAway (disk : Disk) (p q : CorePass) : Type 0 where
  pub may : MayUse disk q
  pub same_number : number q ≡ number p
  pub same_own : mine q ≡ mine p
  pub same_joined : joined q ≡ joined p

-- callers got new passes, split from this one
pub record GotPasses {T : Type 0} (disk : Disk) (p q : CorePass) (olds news : List (Caller T))
    : Type 0 where
  pub passes : List CorePass
  pub have : HavePasses disk news passes
  pub new : AllByRecursion IsNew passes
  pub same : SameTools olds news
  pub from : GaveAway disk p q

-- a pass joined these
pub record JoinedThem (disk : Disk) (p q : CorePass) (passes : List CorePass)
    : Type 0 where
  pub may : MayUse disk q
  pub same_number : number q ≡ number p
  pub same_own : mine q ≡ mine p
  pub joined_are : joined q ≡ joined_all passes (joined p)

-- a pass joined those of these callers
pub record TookPasses {T : Type 0} (disk : Disk) (p q : CorePass) (olds news : List (Caller T)) : Type 0 where
  pub passes : List CorePass
  pub had : HavePasses disk olds passes
  pub same : SameTools olds news
  pub joins : JoinedThem disk p q passes

-- what a pass did while others worked: it made nothing itself, and took in others with these accounts
pub record PassGathered (disk : Disk) (p q : CorePass) (accounts : List (Account Timed)) : Type 0 where
  pub may : MayUse disk q
  pub same_number : number q ≡ number p
  pub same_own : mine q ≡ mine p
  pub gathers : Gathers (joined p) (joined q) accounts
