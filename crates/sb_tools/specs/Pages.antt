-- A listing that is asked for page by page, as it is kept between its pages.
use Rattle.std.specs.Prelude.{ℕ, List}
use Rattle.sb_tools.specs.declared.listing.Listing.{Listing}
use Rattle.sb_tools.specs.Listings.{last_of}

-- what the next page is asked for from: the last name that came, or the empty name before any
abbrev pub end_of : Listing → List ℕ
end_of listing = last_of listing.marker listing.page
