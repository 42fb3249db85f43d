-- Each listing has one answer.
use Rattle.std.specs.Prelude.{ℕ, ◌≡◌, ◌≢◌, Bool, List, Result, Err}
use Rattle.sb_s3link.specs.declared.listing.ListingFault.{ListingFault}
use Rattle.sb_s3link.specs.declared.listing.ListingFault.TheVariants.{Memory}
use Rattle.sb_s3link.specs.Listings.{IsListing}

-- two answers to one text are one, with the same names, where memory was found
abbrev pub ListingsAgree : Type 0
ListingsAgree =
    (text : List ℕ) (names also : List (List ℕ)) (one other : Result Bool ListingFault)
    → IsListing text names one → IsListing text also other → one ≢ Err Memory → other ≢ Err Memory
    → (one ≡ other) × (names ≡ also)
