-- What the calls of a folder in memory leave, where they are to fail too.
use Rattle.std.specs.Prelude.{ℕ, ◌≡◌, ◌≢◌, ◌⊎◌, ◌/◌, Bool, true, false, List, length, take}
use Rattle.std.specs.Prelude.{Option, Some, None, Result, Ok, Err}
use Rattle.sb_world.specs.Folders.{Files, SparesOthersThan}
use Rattle.sb_world.specs.declared.folder.FolderFault.{FolderFault}
use Rattle.sb_world.specs.declared.folder.FolderFault.TheVariants as fault
use Rattle.sb_fakes.specs.Objects.{SparesAllBodies, HasBody}
use Rattle.sb_fakes.specs.declared.folder.Left.{Left}
use Rattle.sb_fakes.specs.declared.folder.Left.TheVariants as left

-- the bytes that a call that is to fail leaves in a file's place, if it changes the file
abbrev pub left_of : Left → List ℕ → Option (List ℕ)
left_of left.Old body = None
left_of left.New body = Some body
left_of left.Cut body = Some (take (length body / 2) body)

-- a file has these bytes now, or all are as before
abbrev pub MayHaveBody : List ℕ → Option (List ℕ) → Files → Files → Type 0
MayHaveBody name (Some body) old now = HasBody name body old now
MayHaveBody name None old now = SparesAllBodies old now

-- a write makes the file just these bytes; one that is to fail makes it what is left; without memory none changes
abbrev pub WritesOrLeaves : Bool → Left → List ℕ → List ℕ → Result Unit FolderFault → Files → Files → Type 0
WritesOrLeaves fails left name body (Ok done) old now = (fails ≡ false) × HasBody name body old now
WritesOrLeaves fails left name body (Err fault.Failed) old now =
    (fails ≡ true) × MayHaveBody name (left_of left body) old now
WritesOrLeaves fails left name body (Err fault.Memory) old now = SparesAllBodies old now

-- these bytes are under the other name now
pub record Moves (from to body : List ℕ) (old now : Files) : Type 0 where
  pub moved : now to ≡ Some body
  pub gone : from ≢ to → now from ≡ None
  pub others : SparesOthersThan from to old now

-- these bytes are under the other name now, or all are as before
abbrev pub MayMove : List ℕ → List ℕ → Option (List ℕ) → Files → Files → Type 0
MayMove from to (Some body) old now = Moves from to body old now
MayMove from to None old now = SparesAllBodies old now

-- a rename of a file that is there, which is to fail, moves what is left of it
pub record MovesLeft (left : Left) (from to : List ℕ) (old now : Files) : Type 0 where
  pub body : List ℕ
  pub there : old from ≡ Some body
  pub moved : MayMove from to (left_of left body) old now

-- a rename moves the file; one of a missing file fails and changes none, and so does one without memory
abbrev pub RenamesOrLeaves : Bool → Left → List ℕ → List ℕ → Result Unit FolderFault → Files → Files → Type 0
RenamesOrLeaves fails left from to (Ok done) old now =
    (fails ≡ false) × (body : List ℕ) × (old from ≡ Some body) × Moves from to body old now
RenamesOrLeaves fails left from to (Err fault.Failed) old now =
    ((old from ≡ None) × SparesAllBodies old now) ⊎ ((fails ≡ true) × MovesLeft left from to old now)
RenamesOrLeaves fails left from to (Err fault.Memory) old now = SparesAllBodies old now

-- a remove takes the file away; one that is to fail changes none
abbrev pub RemovesOrFails : Bool → List ℕ → Result Bool FolderFault → Files → Files → Type 0
RemovesOrFails fails name (Ok there) old now = fails ≡ false
RemovesOrFails fails name (Err fault.Failed) old now = (fails ≡ true) × SparesAllBodies old now
RemovesOrFails fails name (Err fault.Memory) old now = ⊥

-- a read or a listing fails just where it is to; a listing may lack memory
abbrev pub FailsAsPlanned : {T : Type 0} → Bool → Result T FolderFault → Type 0
FailsAsPlanned fails (Ok done) = fails ≡ false
FailsAsPlanned fails (Err fault.Failed) = fails ≡ true
FailsAsPlanned fails (Err fault.Memory) = fails ≡ false
