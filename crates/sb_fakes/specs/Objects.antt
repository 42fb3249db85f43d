-- The objects of a fake, and what a GET or a HEAD of one shows.
use Rattle.std.specs.Prelude.{ℕ, suc, nat_eq, ◌≡◌, ◌≢◌, Bool, not, if◌then◌else◌, List, [], ◌∷◌, length}
use Rattle.std.specs.Prelude.{Option, Some, None, Result, Ok, Err, decimal}
use Rattle.std.specs.Cmp.Lexicographic.{pointwise}
use Rattle.std.specs.Option.{is_some, option_map}
use Rattle.md5.specs.Md5.{md5}
use Rattle.sb_world.specs.declared.link.Got.{Got}
use Rattle.sb_world.specs.declared.link.Got.TheVariants as got
use Rattle.sb_world.specs.declared.link.LinkFault.{LinkFault}
use Rattle.sb_world.specs.declared.link.LinkFault.TheVariants as fault
use Rattle.sb_world.specs.declared.link.Meta.{Meta}
use Rattle.sb_world.specs.declared.link.HeadText.{HeadText}
use Rattle.sb_pages.specs.Listings.{IsPage}
use Rattle.sb_fakes.specs.declared.object.Object.{Object}
use Rattle.sb_fakes.specs.declared.content.Content.{Content}

-- the body of the first object that has the name
abbrev pub bodies_of : {X : Type 0} → List (Object X) → List ℕ → Option X
bodies_of [] name = None
bodies_of (object ∷ objects) name =
    if pointwise nat_eq object.name name then Some object.body else bodies_of objects name

-- the bodies of every name but this one are as before
abbrev pub SparesBodies : {X : Type 0} → List ℕ → (List ℕ → Option X) → (List ℕ → Option X) → Type 0
SparesBodies name old now = (other : List ℕ) → other ≢ name → now other ≡ old other

-- the bodies of every name are as before
abbrev pub SparesAllBodies : {X : Type 0} → (List ℕ → Option X) → (List ℕ → Option X) → Type 0
SparesAllBodies old now = (name : List ℕ) → now name ≡ old name

-- a name has this body now
abbrev pub HasBody : {X : Type 0} → List ℕ → X → (List ℕ → Option X) → (List ℕ → Option X) → Type 0
HasBody name body old now = (now name ≡ Some body) × SparesBodies name old now

-- a name has no body now
abbrev pub HasNoBody : {X : Type 0} → List ℕ → (List ℕ → Option X) → (List ℕ → Option X) → Type 0
HasNoBody name old now = (now name ≡ None) × SparesBodies name old now

-- a put of a store makes the object this content, and without memory changes none
abbrev pub Puts : List ℕ → Content → Result Unit LinkFault → (List ℕ → Option Content) → (List ℕ → Option Content)
    → Type 0
Puts name content (Ok done) old now = HasBody name content old now
Puts name content (Err (fault.Failed status)) old now = ⊥
Puts name content (Err fault.Memory) old now = SparesAllBodies old now

-- how many names the files have, each counted where it stands last
abbrev pub count_of : {X : Type 0} → List (Object X) → ℕ
count_of [] = 0
count_of (file ∷ files) = if is_some (bodies_of files file.name) then count_of files else suc (count_of files)

-- an object has another name
abbrev pub is_other : {X : Type 0} → List ℕ → Object X → Bool
is_other name object = not (pointwise nat_eq object.name name)

-- an object has another length than this
abbrev pub IsOfOtherLength : Option (List ℕ) → ℕ → Type 0
IsOfOtherLength None count = ⊥
IsOfOtherLength (Some body) count = length body ≢ count

-- an object has the digest that is asked about, and so many bytes
pub record HasDigest (verify : Option (List ℕ)) (body : Option (List ℕ)) (count : ℕ) : Type 0 where
  pub bytes : List ℕ
  pub there : body ≡ Some bytes
  pub fits : length bytes ≡ count
  pub asked : verify ≡ Some (md5 bytes)

-- a GET answers just what the object is, into room of so many bytes, and no bytes of one that has the MD5 (RFC 1321)
-- that is asked about; one of another length fails with status 600
abbrev pub Shows : Option (List ℕ) → Option (List ℕ) → Result Got LinkFault → List ℕ → Type 0
Shows verify body (Ok got.Absent) out = body ≡ None
Shows verify body (Ok got.Bytes) out = (body ≡ Some out) × (verify ≢ Some (md5 out))
Shows verify body (Ok got.Same) out = HasDigest verify body (length out)
Shows verify body (Err (fault.Failed status)) out = (status ≡ 600) × IsOfOtherLength body (length out)
Shows verify body (Err fault.Memory) out = ⊥

-- the body of a content
abbrev pub body_in : Option Content → Option (List ℕ)
body_in content = option_map (λ kept. kept.body) content

-- the texts of an object that carries no sizes
abbrev pub no_texts : HeadText
no_texts = record { size = None; block_size = None }

-- the texts of an object's sizes: decimal numbers
abbrev pub texts_of : Option Meta → HeadText
texts_of None = no_texts
texts_of (Some meta) = record { size = Some (decimal meta.size); block_size = Some (decimal meta.block_size) }

-- a HEAD without memory fails, and any other finds just this
abbrev pub Heads : Option HeadText → Result (Option HeadText) LinkFault → Type 0
Heads texts (Ok found) = found ≡ texts
Heads texts (Err (fault.Failed status)) = ⊥
Heads texts (Err fault.Memory) = Unit {0}

-- a listing without memory fails, and any other has the next page of all objects
abbrev pub Lists : List ℕ → List ℕ → List (List ℕ) → Result Bool LinkFault → (List ℕ → Option (List ℕ)) → Type 0
Lists prefix marker names (Ok more) objects = IsPage prefix marker names more objects
Lists prefix marker names (Err (fault.Failed status)) objects = ⊥
Lists prefix marker names (Err fault.Memory) objects = Unit {0}
