-- Listings: the names of a bucket that begin with a prefix, page by page.
use Rattle.std.specs.Prelude.{ℕ, ◌≡◌, ◌<◌, ◌^◌, Bool, true, false, if◌then◌else◌, List, [], ◌∷◌, ◌++◌, length, Option, Some, None, Result, Ok, Err, IfOk}
use Rattle.std.specs.Ordering.{nat_cmp, is_gt}
use Rattle.std.specs.Cmp.Lexicographic.{slice_cmp}
use Rattle.sb_world.specs.declared.link.Call.{Call}
use Rattle.sb_world.specs.declared.link.Call.TheVariants as call
use Rattle.sb_world.specs.declared.link.LinkFault.{LinkFault}
use Rattle.sb_world.specs.declared.link.LinkFault.TheVariants as link
use Rattle.sb_world.specs.declared.link.ListReply.{ListReply}
use Rattle.sb_world.specs.declared.link.ListReply.TheVariants as listed
use Rattle.sb_tools.specs.Faults.{fault_by}
use Rattle.sb_tools.specs.declared.fault.ToolFault.{ToolFault}
use Rattle.sb_tools.specs.declared.fault.ToolFault.TheVariants as fault

-- a page: its names, and whether more follow
pub record Listed : Type 0 where
  pub names : List (List ℕ)
  pub more : Bool

-- a name is above another in byte order
abbrev pub is_above : List ℕ → List ℕ → Bool
is_above before name = is_gt (slice_cmp nat_cmp name before)

-- the last of names, or the name before them
abbrev pub last_of : List ℕ → List (List ℕ) → List ℕ
last_of before [] = before
last_of before (name ∷ names) = last_of name names

-- the first name that isn't above the one before it
abbrev pub fallen_in : List ℕ → List (List ℕ) → Option (List ℕ)
fallen_in before [] = None
fallen_in before (name ∷ names) = if is_above before name then fallen_in name names else Some name

-- what is out of order in a page behind a name: the first name that isn't above the one before it, or the empty name
-- where the page has none and more follow
abbrev pub disorder_in : List ℕ → List (List ℕ) → Bool → Option (List ℕ)
disorder_in before [] true = Some []
disorder_in before names more = fallen_in before names

-- whether more follow a page, unless something in it is out of order
abbrev pub more_unless : Bool → Option (List ℕ) → Result Bool ToolFault
more_unless more None = Ok more
more_unless more (Some name) = Err (fault.BadOrder name)

-- whether more follow the page behind a name, by the reply to the request for it
abbrev pub more_by_reply : List ℕ → ListReply → Result Bool ToolFault
more_by_reply marker (listed.Names names more) = more_unless more (disorder_in marker names more)
more_by_reply marker (listed.Fault failure) = Err (fault_by failure)

-- the page behind a name was asked for, by one request, and has these names where it came
pub record AsksPage (prefix marker : List ℕ) (result : Result Bool ToolFault) (names : List (List ℕ)) (calls : List Call)
    : Type 0 where
  pub reply : ListReply
  pub asked : calls ≡ call.List prefix marker reply ∷ []
  pub answer : result ≡ more_by_reply marker reply
  pub page : IfOk result (λ more. reply ≡ listed.Names names more)

-- the names of pages, the newest page first, in the order in which they came
abbrev pub names_of : List Listed → List (List ℕ)
names_of [] = []
names_of (page ∷ older) = names_of older ++ page.names

-- what the page behind these is asked for from: the last name that came, or the empty name before any
abbrev pub marker_of : List Listed → List ℕ
marker_of [] = []
marker_of (page ∷ older) = last_of (marker_of older) page.names

-- more follow: no page came, or the newest tells so
abbrev pub goes_on : List Listed → Bool
goes_on [] = true
goes_on (page ∷ older) = page.more

-- pages of one listing: each is in order, and stands behind fewer than 2^32, all of which tell that more follow
abbrev pub IsListing : List Listed → Type 0
IsListing [] = Unit {0}
IsListing (page ∷ older) =
    (disorder_in (marker_of older) page.names page.more ≡ None) × (goes_on older ≡ true) × (length older < 2 ^ 32)
    × IsListing older

-- the requests for pages, the newest first
abbrev pub calls_of : List ℕ → List Listed → List Call
calls_of prefix [] = []
calls_of prefix (page ∷ older) =
    call.List prefix (marker_of older) (listed.Names page.names page.more) ∷ calls_of prefix older

-- the requests for pages of which the last failed
abbrev pub failed_calls : List ℕ → List Listed → LinkFault → List Call
failed_calls prefix pages failure =
    call.List prefix (marker_of pages) (listed.Fault failure) ∷ calls_of prefix pages

-- a listing has come to its end: all its pages, for which it was asked so
pub record IsWhole (prefix : List ℕ) (pages : List Listed) (calls : List Call) : Type 0 where
  pub listing : IsListing pages
  pub ended : goes_on pages ≡ false
  pub asked : calls ≡ calls_of prefix pages

-- a page that is out of order behind these
pub record IsDisorder (prefix name : List ℕ) (pages : List Listed) (calls : List Call) : Type 0 where
  pub page : Listed
  pub disorder : disorder_in (marker_of pages) page.names page.more ≡ Some name
  pub fewer : length pages < 2 ^ 32
  pub asked : calls ≡ calls_of prefix (page ∷ pages)

-- the request for the page behind these failed
pub record IsFailure (prefix : List ℕ) (failure : LinkFault) (pages : List Listed) (calls : List Call) : Type 0 where
  pub fewer : length pages < 2 ^ 32
  pub asked : calls ≡ failed_calls prefix pages failure

-- as many pages came as are asked for
pub record IsSpent (prefix : List ℕ) (pages : List Listed) (calls : List Call) : Type 0 where
  pub spent : length pages ≡ 2 ^ 32
  pub asked : calls ≡ calls_of prefix pages

-- why a listing doesn't go on behind these pages
abbrev pub IsCause : List ℕ → ToolFault → List Listed → List Call → Type 0
IsCause prefix (fault.StoreFault status) pages calls = IsFailure prefix (link.Failed status) pages calls
IsCause prefix fault.Memory pages calls = IsFailure prefix link.Memory pages calls
IsCause prefix (fault.BadOrder name) pages calls = IsDisorder prefix name pages calls
IsCause prefix fault.PagesSpent pages calls = IsSpent prefix pages calls
IsCause prefix other pages calls = ⊥

-- a listing broke off behind these pages, behind which more follow
pub record IsBroken (prefix : List ℕ) (fault : ToolFault) (pages : List Listed) (calls : List Call) : Type 0 where
  pub listing : IsListing pages
  pub more : goes_on pages ≡ true
  pub cause : IsCause prefix fault pages calls
