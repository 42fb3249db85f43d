use Rattle.std.proofs.Common.{◌≡◌, drop}
use Rattle.sb_tools.specs.Listings.{fallen_in}
use Rattle.sb_tools.proofs.listing.first_fallen.Given as goal

-- the names so far are in order: what is out of order is so in the rest
abbrev pub invariant-loop-place : goal.invariant-loop-place
invariant-loop-place l = fallen_in l.fn.before l.names ≡ fallen_in l.last (drop l.place l.names)
