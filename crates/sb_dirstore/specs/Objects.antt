-- The objects in a folder, and what the calls of its link find and change.
use Rattle.std.specs.Prelude.{ℕ, ◌≡◌, ◌≢◌, ◌⊎◌, Bool, false, not, if◌then◌else◌, List, ◌++◌, length, nat_eq, codes}
use Rattle.std.specs.Prelude.{Option, Some, None, IsSome, Result, Ok, Err, OnOk, OnErr}
use Rattle.std.specs.List.{ends_with}
use Rattle.md5.specs.Md5.{md5}
use Rattle.sb_world.specs.Folders.{Files, Writes, Renames, SparesOthers}
use Rattle.sb_world.specs.declared.folder.FolderFault.{FolderFault}
use Rattle.sb_world.specs.declared.folder.FolderFault.TheVariants as folder
use Rattle.sb_world.specs.declared.link.Call.{Call}
use Rattle.sb_world.specs.declared.link.Got.{Got}
use Rattle.sb_world.specs.declared.link.Got.TheVariants as got
use Rattle.sb_world.specs.declared.link.HeadText.{HeadText}
use Rattle.sb_world.specs.declared.link.LinkFault.{LinkFault}
use Rattle.sb_world.specs.declared.link.LinkFault.TheVariants as fault
use Rattle.sb_dirstore.specs.declared.dir_link.DirLink.{DirLink}

-- the folder of a link
abbrev pub folder_of : {F : Type 0} → DirLink F → F
folder_of link = link.folder

-- the calls of a link, the newest first
abbrev pub log_of : {F : Type 0} → DirLink F → List Call
log_of link = link.log

-- how often a link has failed
abbrev pub faults_of : {F : Type 0} → DirLink F → ℕ
faults_of link = link.faults

-- a name is a temporary file's, and so the folder's own
abbrev pub is_temporary : List ℕ → Bool
is_temporary name = ends_with nat_eq name (codes ".tmp")

-- a name may be an object's
abbrev pub IsObjectName : List ℕ → Type 0
IsObjectName name = is_temporary name ≡ false

-- the same as a test
abbrev pub is_object_name : List ℕ → Bool
is_object_name name = not (is_temporary name)

-- the name of an object's temporary file
abbrev pub temporary_of : List ℕ → List ℕ
temporary_of name = name ++ codes ".tmp"

-- the objects in a folder: its files, but for the temporary ones
abbrev pub objects_of : Files → Files
objects_of files name = if is_temporary name then None else files name

-- what a fault of the folder is at its link: status 605
abbrev pub fault_at_link : FolderFault → LinkFault
fault_at_link folder.Failed = fault.Failed 605
fault_at_link folder.Memory = fault.Memory

-- a request failed for this cause, if it failed for another than memory
abbrev pub IfFailed : {T : Type 0} → Result T LinkFault → (ℕ → Type 0) → Type 0
IfFailed (Ok value) Cause = Unit {0}
IfFailed (Err (fault.Failed status)) Cause = Cause status
IfFailed (Err fault.Memory) Cause = Unit {0}

-- bytes have another digest than was asked about, if one was
abbrev pub HasAnotherDigest : Option (List ℕ) → List ℕ → Type 0
HasAnotherDigest None bytes = Unit {0}
HasAnotherDigest (Some digest) bytes = md5 bytes ≢ digest

-- an object has the digest that was asked about, and so many bytes
pub record HasDigest (verify : Option (List ℕ)) (count : ℕ) (object : Option (List ℕ)) : Type 0 where
  pub bytes : List ℕ
  pub there : object ≡ Some bytes
  pub fits : length bytes ≡ count
  pub asked : verify ≡ Some (md5 bytes)

-- an object has another number of bytes
pub record HasOtherLength (count : ℕ) (object : Option (List ℕ)) : Type 0 where
  pub bytes : List ℕ
  pub there : object ≡ Some bytes
  pub differs : length bytes ≢ count

-- a request failed since the folder failed: with status 605
abbrev pub has_folder_failed : {T : Type 0} → Result T LinkFault → Bool
has_folder_failed (Ok value) = false
has_folder_failed (Err (fault.Failed status)) = nat_eq status 605
has_folder_failed (Err fault.Memory) = false

-- a GET answers what the object is, with its bytes in the buffer where they aren't the same; status 600 is another
-- length
abbrev pub Finds : Option (List ℕ) → Result Got LinkFault → List ℕ → Option (List ℕ) → Type 0
Finds verify (Ok got.Absent) out object = object ≡ None
Finds verify (Ok got.Bytes) out object = (object ≡ Some out) × HasAnotherDigest verify out
Finds verify (Ok got.Same) out object = HasDigest verify (length out) object
Finds verify (Err (fault.Failed status)) out object = status ≡ 600 → HasOtherLength (length out) object
Finds verify (Err fault.Memory) out object = Unit {0}

-- a HEAD answers whether the object is there, with no text
abbrev pub FindsHead : Result (Option HeadText) LinkFault → Option (List ℕ) → Type 0
FindsHead (Ok None) object = object ≡ None
FindsHead (Ok (Some texts)) object = IsSome object × (texts.size ≡ None) × (texts.block_size ≡ None)
FindsHead (Err fault) object = Unit {0}

-- a put wrote the temporary file, and gave it the object's name
pub record Replaces (name body : List ℕ) (old files : Files) : Type 0 where
  pub between : Files
  pub written : Writes {E = FolderFault} (temporary_of name) body (Ok tt) old between
  pub renamed : Renames {E = FolderFault} (temporary_of name) name (Ok tt) between files

-- a put failed before it had written the temporary file, and changed no other
abbrev pub FailsToWrite : List ℕ → Files → Files → Type 0
FailsToWrite name old files = SparesOthers (temporary_of name) old files

-- a put wrote the temporary file, and failed to give it the object's name
pub record FailsToRename (name body : List ℕ) (old files : Files) : Type 0 where
  pub between : Files
  pub written : Writes {E = FolderFault} (temporary_of name) body (Ok tt) old between
  pub renamed : Renames {E = FolderFault} (temporary_of name) name (Err folder.Failed) between files

-- how a put changes the files
abbrev pub Puts : List ℕ → List ℕ → Result Unit LinkFault → Files → Files → Type 0
Puts name body (Ok done) old files = Replaces name body old files
Puts name body (Err fault) old files = FailsToWrite name old files ⊎ FailsToRename name body old files

-- how a put changes the objects
pub record PutsObject (name body : List ℕ) (result : Result Unit LinkFault) (old files : Files) : Type 0 where
  pub made : OnOk result (objects_of files name ≡ Some body)
  pub kept : OnErr result ((objects_of files name ≡ objects_of old name) ⊎ FailsToRename name body old files)
  pub others : SparesOthers name (objects_of old) (objects_of files)

-- how a delete changes the objects
pub record DeletesObject (name : List ℕ) (result : Result Unit LinkFault) (old files : Files) : Type 0 where
  pub gone : OnOk result (objects_of files name ≡ None)
  pub others : SparesOthers name (objects_of old) (objects_of files)
