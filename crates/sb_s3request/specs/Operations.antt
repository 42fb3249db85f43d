-- What a bucket is asked for.
use Rattle.std.specs.Prelude.{ℕ, Bool, true, false, List, [], ◌∷◌, codes, Option, Some, None}
use Rattle.sb_world.specs.declared.link.Meta.{Meta}
use Rattle.sb_sign.specs.declared.request.Method.{Method}
use Rattle.sb_sign.specs.declared.request.Method.TheVariants.{Get, Put, Head, Delete}
use Rattle.sb_sign.specs.declared.request.Pair.{Pair}
use Rattle.sb_s3request.specs.declared.operation.Listing.{Listing}
use Rattle.sb_s3request.specs.declared.operation.Operation.{Operation}

-- a method, the name of an object, a query, a body, the MD5 that an object may have, and the sizes of a disk
pub record Asked : Type 0 where
  pub method : Method
  pub name : List ℕ
  pub query : List Pair
  pub body : List ℕ
  pub verify : Option (List ℕ)
  pub meta : Option Meta

-- a name with a value
abbrev pub pair : List ℕ → List ℕ → Pair
pair name value = record { name = name; value = value }

-- the marker of a listing, if there is one
abbrev pub marker_of : List ℕ → List Pair → List Pair
marker_of [] pairs = pairs
marker_of (first ∷ more) pairs = pair (codes "marker") (first ∷ more) ∷ pairs

-- the query of a listing: names behind the marker, at most 1,000, which begin with the prefix
abbrev pub listing_query : List ℕ → List ℕ → List Pair
listing_query prefix marker =
    marker_of marker (pair (codes "max-keys") (codes "1000") ∷ pair (codes "prefix") prefix ∷ [])

-- the query of a listing, or none
abbrev pub query_of : Option Listing → List Pair
query_of None = []
query_of (Some listing) = listing_query listing.prefix.now listing.marker.now

-- what an operation asks for
abbrev pub asked_of : Operation → Asked
asked_of operation = record {
  method = operation.method;
  name = operation.name.now;
  query = query_of operation.listing;
  body = operation.body.now;
  verify = operation.verify;
  meta = operation.meta;
}

-- an object is read, unless it has that MD5
abbrev pub get_asked : List ℕ → Option (List ℕ) → Asked
get_asked name verify =
    record { method = Get; name = name; query = []; body = []; verify = verify; meta = None }

-- an object is put, with the sizes of a disk where they are given
abbrev pub put_asked : List ℕ → List ℕ → Option Meta → Asked
put_asked name body meta =
    record { method = Put; name = name; query = []; body = body; verify = None; meta = meta }

-- an object is deleted
abbrev pub delete_asked : List ℕ → Asked
delete_asked name = record { method = Delete; name = name; query = []; body = []; verify = None; meta = None }

-- an object is looked at
abbrev pub head_asked : List ℕ → Asked
head_asked name = record { method = Head; name = name; query = []; body = []; verify = None; meta = None }

-- names are listed
abbrev pub list_asked : List ℕ → List ℕ → Asked
list_asked prefix marker =
    record { method = Get; name = []; query = listing_query prefix marker; body = []; verify = None; meta = None }

-- the method is HEAD, to which no response has a body (RFC 9110, section 9.3.2)
abbrev pub is_head : Method → Bool
is_head Head = true
is_head method = false
