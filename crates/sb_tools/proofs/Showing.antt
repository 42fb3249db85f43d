-- The blocks of a listing, shown page by page.
use Rattle.std.proofs.Common.{ℕ, ◌≡◌, ◌<◌, ◌≤◌, ◌+◌, ◌^◌, Bool, true, false, List, [], ◌∷◌, ◌++◌, Some, None, Ok, Err, length, refl, sym, ap, subst, ◌∙◌, arith, length-append, append_assoc}
use Rattle.std.specs.Prelude.{Option, Result}
use Rattle.sb_world.specs.Streams.{Holds}
use Rattle.sb_world.specs.Told.{Gains}
use Rattle.sb_world.specs.declared.link.Call.{Call}
use Rattle.sb_tools.specs.declared.fault.ToolFault.{ToolFault}
use Rattle.sb_tools.specs.declared.fault.ToolFault.TheVariants as fault
use Rattle.sb_tools.specs.Blocks.{blocks_in}
use Rattle.sb_tools.specs.Listings.{Listed, AsksPage, IsListing, calls_of, goes_on, last_of, marker_of, names_of}
use Rattle.sb_tools.specs.Showing.{HoldsFront, FailsToShow, Scene, Shows, ShowsAll, ShowsUntil, lines_in}
use Rattle.sb_tools.proofs.Counting.{names_fit}
use Rattle.sb_tools.proofs.Lines.{blocks_in-append, holds_as, holds_join, lines_in-append}
use Rattle.sb_tools.proofs.Pages.{Stands, Breaks, asked_longer, longer}

-- pages that came and were shown, behind which more follow
pub record Shown (prefix : List ℕ) (hashed : Bool) (before now : Scene) (marker : List ℕ) (turns shown : ℕ) : Type 0 where
  pub pages : List Listed
  pub stands : Stands pages marker turns
  pub asked : Gains before.log now.log (calls_of prefix pages)
  pub wrote : Holds before.held now.held (lines_in prefix hashed (names_of pages))
  pub count : shown ≡ length (blocks_in prefix hashed (names_of pages))

-- the listing with the page that came and was shown
pub record ShownMore (prefix : List ℕ) (hashed : Bool) (before now : Scene) (from : List ℕ) (names : List (List ℕ))
    (more : Bool) (asked shown : ℕ) : Type 0 where
  pub older : List Listed
  pub listing : IsListing (record { names = names; more = more } ∷ older)
  pub follows : from ≡ marker_of older
  pub count : length older ≡ asked
  pub gained : Gains before.log now.log (calls_of prefix (record { names = names; more = more } ∷ older))
  pub wrote : Holds before.held now.held (lines_in prefix hashed (names_of older ++ names))
  pub blocks : shown ≡ length (blocks_in prefix hashed (names_of older ++ names))

-- the lines of one more page
pub wrote_longer : {before between now : Option (List ℕ)} (prefix : List ℕ) (hashed : Bool)
    (names page : List (List ℕ)) → Holds before between (lines_in prefix hashed names)
    → Holds between now (lines_in prefix hashed page) → Holds before now (lines_in prefix hashed (names ++ page))
wrote_longer prefix hashed names page early late =
    holds_as (sym (lines_in-append prefix hashed names page)) (holds_join early late)

-- the blocks of one more page
pub count_longer : (prefix : List ℕ) (hashed : Bool) (names page : List (List ℕ))
    → length (blocks_in prefix hashed names) + length (blocks_in prefix hashed page)
    ≡ length (blocks_in prefix hashed (names ++ page))
count_longer prefix hashed names page =
    sym (ap length (blocks_in-append prefix hashed names page)
    ∙ length-append (blocks_in prefix hashed names) (blocks_in prefix hashed page))

-- a page came and was shown
pub shown_more : {prefix marker : List ℕ} {hashed : Bool} {before between now : Scene} {asked shown count : ℕ}
    {names : List (List ℕ)} {more : Bool} {calls : List Call} → Shown prefix hashed before between marker asked shown
    → asked < 2 ^ 32 → AsksPage prefix marker (Ok more) names calls → Gains between.log now.log calls
    → count ≡ length (blocks_in prefix hashed names) → Holds between.held now.held (lines_in prefix hashed names)
    → ShownMore prefix hashed before now marker names more asked (shown + count)
shown_more {prefix} {hashed = hashed} {shown = shown} {count = count} {names = names} so_far within asks gained counted wrote =
    let all = count_longer prefix hashed (names_of so_far.pages) names in
    record {
      older = so_far.pages;
      listing = longer so_far.stands within asks;
      follows = so_far.stands.marker;
      count = so_far.stands.count;
      gained = asked_longer so_far.stands asks so_far.asked gained;
      wrote = wrote_longer prefix hashed (names_of so_far.pages) names so_far.wrote wrote;
      blocks = omega (arith, so_far.count, counted, all);
    }

-- there are few enough blocks
pub shown_fits : {prefix from : List ℕ} {hashed : Bool} {before now : Scene} {names : List (List ℕ)} {more : Bool}
    {asked shown : ℕ} → ShownMore prefix hashed before now from names more asked shown → shown ≤ 2 ^ 32
shown_fits {prefix} {hashed = hashed} {names = names} {more = more} shows =
    let fits = names_fit prefix hashed (record { names = names; more = more } ∷ shows.older) shows.listing in
    omega (arith, shows.blocks, fits)

-- more follow it
pub shown_on : {prefix from : List ℕ} {hashed : Bool} {before now : Scene} {names : List (List ℕ)} {more : Bool}
    {asked shown : ℕ} {marker : List ℕ} → ShownMore prefix hashed before now from names more asked shown
    → more ≡ true → marker ≡ last_of from names → Shown prefix hashed before now marker (asked + 1) shown
shown_on {names = names} {more = more} shows on last =
    record {
      pages = record { names = names; more = more } ∷ shows.older;
      stands = record {
        listing = shows.listing;
        more = on;
        count = omega (arith, shows.count);
        marker = last ∙ ap (λ (behind : List ℕ). last_of behind names) shows.follows;
      };
      asked = shows.gained;
      wrote = shows.wrote;
      count = shows.blocks;
    }

-- it is the last
pub shown_all : {prefix from : List ℕ} {hashed : Bool} {before now : Scene} {names : List (List ℕ)} {more : Bool}
    {asked shown : ℕ} → ShownMore prefix hashed before now from names more asked shown → more ≡ false
    → Shows prefix hashed before now (Ok shown)
shown_all {prefix} {names = names} {more = more} shows ends = record {
  pages = record { names = names; more = more } ∷ shows.older;
  calls = calls_of prefix (record { names = names; more = more } ∷ shows.older);
  whole = record { listing = shows.listing; ended = ends; asked = refl };
  shows = record { asked = shows.gained; wrote = shows.wrote };
  count = shows.blocks;
}

until_shows : {prefix : List ℕ} {hashed : Bool} {before now : Scene} (failed : ToolFault)
    → ShowsUntil prefix hashed before now failed → Shows prefix hashed before now (Err failed)
until_shows (fault.Mounted token) shows = shows
until_shows (fault.BadToken body) shows = shows
until_shows (fault.StoreFault status) shows = shows
until_shows fault.Declined shows = shows
until_shows fault.NoGeometry shows = shows
until_shows (fault.BadGeometry size block_size) shows = shows
until_shows fault.InputFault shows = shows
until_shows fault.OutputFault shows = absurd shows.broken.cause
until_shows (fault.BadOrder name) shows = shows
until_shows fault.PagesSpent shows = shows
until_shows fault.Memory shows = shows

-- the listing broke off
pub shown_until : {prefix marker : List ℕ} {hashed : Bool} {before between now : Scene} {asked shown : ℕ}
    {failed : ToolFault} (so_far : Shown prefix hashed before between marker asked shown)
    → Breaks prefix failed so_far.pages before.log now.log → now.held ≡ between.held
    → Shows prefix hashed before now (Err failed)
shown_until {prefix} {hashed = hashed} {before = before} {between = between} {now = now} {failed = failed} so_far breaks same =
    until_shows failed (record {
      pages = so_far.pages;
      calls = breaks.calls;
      broken = breaks.broken;
      shows = record {
        asked = breaks.asked;
        wrote = subst (λ (held : Option (List ℕ)). Holds before.held held (lines_in prefix hashed (names_of so_far.pages)))
            (sym same) so_far.wrote;
      };
    })

-- the output failed
pub shown_in_part : {prefix marker : List ℕ} {hashed : Bool} {before between now : Scene} {asked shown : ℕ}
    {names : List (List ℕ)} {more : Bool} {calls : List Call} {failed : ToolFault}
    → Shown prefix hashed before between marker asked shown → asked < 2 ^ 32
    → AsksPage prefix marker (Ok more) names calls → Gains between.log now.log calls → failed ≡ fault.OutputFault
    → HoldsFront between.held now.held (lines_in prefix hashed names) → Shows prefix hashed before now (Err failed)
shown_in_part {prefix} {hashed = hashed} {before = before} {now = now} {names = names} {more = more} so_far within asks gained is cut =
    subst (λ (by : ToolFault). Shows prefix hashed before now (Err by)) (sym is)
    (record {
      page = record { names = names; more = more };
      older = so_far.pages;
      listing = longer so_far.stands within asks;
      asked = asked_longer so_far.stands asks so_far.asked gained;
      front = cut.front;
      behind = cut.behind;
      cut = cut.cut;
      wrote = holds_join so_far.wrote cut.wrote;
    })
