use Rattle.std.proofs.Common.{length, ◌-◌, ◌≡◌, ◌≤◌, drop, List}
use Rattle.sb_s3link.specs.Items.{Item, AreItems, marks_of, names_of}
use Rattle.sb_s3link.specs.Listings.{Keeps}
use Rattle.sb_s3link.proofs.listing.read_listing.Given as goal

-- the items so far
abbrev pub invariant-items : goal.invariant-items
invariant-items l =
    (items : List Item) × AreItems l.body items (drop l.at l.body) × (l.at ≤ length l.body)
    × Keeps l.marks (marks_of items) × (l.page ≡ names_of items)

abbrev pub decreases-items : goal.decreases-items
decreases-items l = length l.body - l.at
