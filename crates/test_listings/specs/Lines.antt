-- What is printed of a listing.
use Rattle.std.specs.Prelude.{ℕ, Bool, true, false, List, [], ◌∷◌, ◌++◌, Result, Ok, Err, codes}
use Rattle.std.specs.List.{flat_map}
use Rattle.hex.specs.Hex.{encode_lower}
use Rattle.sb_s3link.specs.declared.listing.ListingFault.{ListingFault}
use Rattle.sb_s3link.specs.declared.listing.ListingFault.TheVariants.{NoTruncatedMark, KeyCut, Memory}

-- the line of a name: its bytes in hex
abbrev pub name_line : List ℕ → List ℕ
name_line name = encode_lower name ++ 10 ∷ []

-- how a listing ends, as a line
abbrev pub ending_text : Result Bool ListingFault → List ℕ
ending_text (Ok true) = codes "more\n"
ending_text (Ok false) = codes "end\n"
ending_text (Err NoTruncatedMark) = codes "no mark\n"
ending_text (Err (KeyCut at)) = codes "a cut name\n"
ending_text (Err Memory) = codes "out of memory\n"

-- the lines of a listing
unfoldable pub lines_of : List (List ℕ) → Result Bool ListingFault → List ℕ
lines_of names ending = flat_map name_line names ++ ending_text ending
