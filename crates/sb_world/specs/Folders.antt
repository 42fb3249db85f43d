-- What the files of a folder are, and how its calls change them.
use Rattle.std.specs.Prelude.{ℕ, ◌≡◌, ◌≢◌, Bool, true, false, List, Option, Some, None, IsSome, Result, Ok, Err, length, nat_eq}
use Rattle.std.specs.Option.{is_some}
use Rattle.std.specs.Cmp.Lexicographic.{pointwise}
use Rattle.std.specs.List.{AllByRecursion, Contains, IsDistinct}
use Rattle.sb_world.specs.declared.folder.FileGot.{FileGot}
use Rattle.sb_world.specs.declared.folder.FileGot.TheVariants as got
use Rattle.sb_world.specs.declared.folder.FolderFault.{FolderFault}
use Rattle.sb_world.specs.declared.folder.FolderFault.TheVariants as fault

-- the bytes of each file by its name, none where there is no such file
abbrev pub Files : Type 0
Files = List ℕ → Option (List ℕ)

-- where the files are told now, they were told before, and have changed so
pub record Becomes (before now : Option Files) (change : Files → Files → Type 0) : Type 0 where
  pub told : (files : Files) → now ≡ Some files → (old : Files) × (before ≡ Some old) × change old files

-- a read answers just what the file is, into room of so many bytes
abbrev pub Reads : {E : Type 0} → List ℕ → Result FileGot E → List ℕ → Files → Type 0
Reads name (Ok got.Absent) room files = files name ≡ None
Reads name (Ok got.Bytes) room files = files name ≡ Some room
Reads name (Ok (got.OtherLength count)) room files =
    (body : List ℕ) × (files name ≡ Some body) × (length body ≡ count) × (count ≢ length room)
Reads name (Err fault) room files = Unit {0}

-- every file but this one is as before
abbrev pub SparesOthers : List ℕ → Files → Files → Type 0
SparesOthers name old files = (other : List ℕ) → other ≢ name → files other ≡ old other

-- a write makes the file just these bytes; one that fails leaves it unknown
abbrev pub Writes : {E : Type 0} → List ℕ → List ℕ → Result Unit E → Files → Files → Type 0
Writes name body (Ok done) old files = (files name ≡ Some body) × SparesOthers name old files
Writes name body (Err fault) old files = SparesOthers name old files

-- every file but these two is as before
abbrev pub SparesOthersThan : List ℕ → List ℕ → Files → Files → Type 0
SparesOthersThan from to old files = (other : List ℕ) → other ≢ from → other ≢ to → files other ≡ old other

-- a rename gives a file that is there the other name; one that fails leaves both unknown
abbrev pub Renames : {E : Type 0} → List ℕ → List ℕ → Result Unit E → Files → Files → Type 0
Renames from to (Ok done) old files = IsSome (old from) × (files to ≡ old from) × (from ≢ to → files from ≡ None)
    × SparesOthersThan from to old files
Renames from to (Err fault) old files = SparesOthersThan from to old files

-- a remove leaves no file of the name, and tells whether there was one; one that fails leaves it unknown
abbrev pub Removes : {E : Type 0} → List ℕ → Result Bool E → Files → Files → Type 0
Removes name (Ok there) old files = (there ≡ is_some (old name)) × (files name ≡ None) × SparesOthers name old files
Removes name (Err fault) old files = SparesOthers name old files

-- the names of all files, each once
pub record HasNames (names : List (List ℕ)) (files : Files) : Type 0 where
  pub each : AllByRecursion (λ name. IsSome (files name)) names
  pub all : (name : List ℕ) → IsSome (files name) → Contains names name
  pub once : IsDistinct (pointwise nat_eq) names

-- a listing has the names of all files
abbrev pub Lists : {E : Type 0} → List (List ℕ) → Result Unit E → Files → Type 0
Lists names (Ok done) files = HasNames names files
Lists names (Err fault) files = Unit {0}

-- a folder's call failed for another cause than memory
abbrev pub folder_failed : {T : Type 0} → Result T FolderFault → Bool
folder_failed (Ok value) = false
folder_failed (Err fault.Failed) = true
folder_failed (Err fault.Memory) = false
