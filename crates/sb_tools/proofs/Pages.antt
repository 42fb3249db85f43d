-- A listing between its pages.
use Rattle.std.proofs.Common.{ℕ, ◌≡◌, ◌<◌, ◌≤◌, ◌+◌, ◌^◌, Bool, true, false, List, [], ◌∷◌, ◌++◌, Some, None, Ok, Err, length, refl, sym, ap, subst, ◌∙◌, arith}
use Rattle.std.specs.Prelude.{Option, Result}
use Rattle.sb_world.specs.Told.{Gains, CountsFaults}
use Rattle.sb_world.specs.declared.link.Call.{Call}
use Rattle.sb_world.specs.declared.link.Call.TheVariants as call
use Rattle.sb_world.specs.declared.link.LinkFault.TheVariants as link
use Rattle.sb_world.specs.declared.link.ListReply.{ListReply}
use Rattle.sb_world.specs.declared.link.ListReply.TheVariants as listed
use Rattle.sb_tools.specs.declared.fault.ToolFault.{ToolFault}
use Rattle.sb_tools.specs.declared.fault.ToolFault.TheVariants as fault
use Rattle.sb_tools.specs.Asking.{Asks}
use Rattle.sb_tools.specs.Listings.{Listed, AsksPage, IsBroken, IsCause, IsListing, IsWhole, calls_of, disorder_in, goes_on, marker_of, more_by_reply, more_unless}
use Rattle.sb_tools.proofs.Gaining.{gains_join, gains_as}

-- so many pages came, all of which tell that more follow, and the next one is asked for from this name
pub record Stands (pages : List Listed) (from : List ℕ) (asked : ℕ) : Type 0 where
  pub listing : IsListing pages
  pub more : goes_on pages ≡ true
  pub count : length pages ≡ asked
  pub marker : from ≡ marker_of pages

-- no page came
pub stands_first : (marker : List ℕ) → marker ≡ [] → Stands [] marker 0
stands_first marker e = record { listing = tt; more = refl; count = refl; marker = e }

is_in_order : (more : Bool) (found : Option (List ℕ)) → Ok more ≡ more_unless more found → found ≡ None
is_in_order more None e = refl
is_in_order more (Some name) e = absurd (cc)

-- a page that came in order
pub came : {prefix marker : List ℕ} {names : List (List ℕ)} {more : Bool} {calls : List Call}
    → AsksPage prefix marker (Ok more) names calls → disorder_in marker names more ≡ None
came {prefix} {marker} {names} {more} {calls} asks =
    let answer = rw asks.page at asks.answer in
    is_in_order more (disorder_in marker names more) answer

-- the listing with the page that came
pub longer : {pages : List Listed} {marker prefix : List ℕ} {count : ℕ} {names : List (List ℕ)} {more : Bool}
    {calls : List Call} → Stands pages marker count → count < 2 ^ 32 → AsksPage prefix marker (Ok more) names calls
    → IsListing (record { names = names; more = more } ∷ pages)
longer {pages} {marker} {prefix} {count} {names} {more} {calls} stands within asks =
    let order : disorder_in marker names more ≡ None = came asks in
    let order = rw stands.marker at order in
    let fewer : length pages < 2 ^ 32 = omega (arith, stands.count, within) in
    (order, stands.more, fewer, stands.listing)

-- what was asked for with that page
pub asked_longer : {pages : List Listed} {marker prefix : List ℕ} {count : ℕ} {names : List (List ℕ)} {more : Bool}
    {calls : List Call} {before between now : Option (List Call)} → Stands pages marker count
    → AsksPage prefix marker (Ok more) names calls → Gains before between (calls_of prefix pages)
    → Gains between now calls → Gains before now (calls_of prefix (record { names = names; more = more } ∷ pages))
asked_longer {pages} {marker} {prefix} {count} {names} {more} {calls} stands asks early late =
    let reply : calls ≡ call.List prefix (marker_of pages) (listed.Names names more) ∷ [] =
    asks.asked ∙ ap (λ (reply : ListReply). call.List prefix marker reply ∷ []) asks.page
    ∙ ap (λ (from : List ℕ). call.List prefix from (listed.Names names more) ∷ []) stands.marker in
    gains_join early (gains_as reply late)

falls : (failed : ToolFault) (more : Bool) (found : Option (List ℕ)) → Err failed ≡ more_unless more found
    → (name : List ℕ) × (failed ≡ fault.BadOrder name) × (found ≡ Some name)
falls failed more None e = absurd (cc)
falls failed more (Some name) e = (name, cc, refl)

cause_of : (prefix : List ℕ) (failed : ToolFault) (pages : List Listed) (reply : ListReply) → length pages < 2 ^ 32
    → Err failed ≡ more_by_reply (marker_of pages) reply
    → IsCause prefix failed pages (call.List prefix (marker_of pages) reply ∷ calls_of prefix pages)
cause_of prefix failed pages (listed.Names names more) fewer e =
    let found = falls failed more (disorder_in (marker_of pages) names more) e in
    let calls = call.List prefix (marker_of pages) (listed.Names names more) ∷ calls_of prefix pages in
    subst (λ (by : ToolFault). IsCause prefix by pages calls) (sym found.1)
    (record { page = record { names = names; more = more }; disorder = found.2; fewer = fewer; asked = refl })
cause_of prefix failed pages (listed.Fault (link.Failed status)) fewer e =
    let is : fault.StoreFault status ≡ failed = cc in
    let calls = call.List prefix (marker_of pages) (listed.Fault (link.Failed status)) ∷ calls_of prefix pages in
    subst (λ (by : ToolFault). IsCause prefix by pages calls) is (record { fewer = fewer; asked = refl })
cause_of prefix failed pages (listed.Fault link.Memory) fewer e =
    let is : fault.Memory ≡ failed = cc in
    let calls = call.List prefix (marker_of pages) (listed.Fault link.Memory) ∷ calls_of prefix pages in
    subst (λ (by : ToolFault). IsCause prefix by pages calls) is (record { fewer = fewer; asked = refl })

-- a listing whose next page didn't come, or not in order
pub record Breaks (prefix : List ℕ) (failed : ToolFault) (pages : List Listed) (before now : Option (List Call)) : Type 0 where
  pub calls : List Call
  pub broken : IsBroken prefix failed pages calls
  pub asked : Gains before now calls

pub breaks : {pages : List Listed} {marker prefix : List ℕ} {count : ℕ} {names : List (List ℕ)} {failed : ToolFault}
    {calls : List Call} {before between now : Option (List Call)} → Stands pages marker count → count < 2 ^ 32
    → AsksPage prefix marker (Err failed) names calls → Gains before between (calls_of prefix pages)
    → Gains between now calls → Breaks prefix failed pages before now
breaks {pages} {marker} {prefix} {count} {names} {failed} {calls} stands within asks early late =
    let fewer : length pages < 2 ^ 32 = omega (arith, stands.count, within) in
    let reply : calls ≡ call.List prefix (marker_of pages) asks.reply ∷ [] =
    asks.asked ∙ ap (λ (from : List ℕ). call.List prefix from asks.reply ∷ []) stands.marker in
    record {
      calls = call.List prefix (marker_of pages) asks.reply ∷ calls_of prefix pages;
      broken = record {
        listing = stands.listing;
        more = stands.more;
        cause = cause_of prefix failed pages asks.reply fewer (rw stands.marker at asks.answer);
      };
      asked = gains_join early (gains_as reply late);
    }

-- as many pages came as are asked for
pub breaks_spent : {pages : List Listed} {marker prefix : List ℕ} {asked : ℕ} {before now : Option (List Call)}
    → Stands pages marker asked → asked ≡ 2 ^ 32 → Gains before now (calls_of prefix pages)
    → Breaks prefix fault.PagesSpent pages before now
breaks_spent {pages} {marker} {prefix} stands spent asked = record {
  calls = calls_of prefix pages;
  broken = record {
    listing = stands.listing;
    more = stands.more;
    cause = record { spent = stands.count ∙ spent; asked = refl };
  };
  asked = asked;
}

no_output : (marker : List ℕ) (reply : ListReply) (failed : ToolFault) → Err failed ≡ more_by_reply marker reply
    → failed ≡ fault.OutputFault → ⊥
no_output marker (listed.Names names more) failed e is =
    let found = falls failed more (disorder_in marker names more) e in
    let other = found.1 in
    absurd (cc)
no_output marker (listed.Fault (link.Failed status)) failed e is = absurd (cc)
no_output marker (listed.Fault link.Memory) failed e is = absurd (cc)

-- a listing doesn't break off for a fault of the output
pub no_fault_of_output : {prefix marker : List ℕ} {names : List (List ℕ)} {failed : ToolFault} {calls : List Call}
    → AsksPage prefix marker (Err failed) names calls → failed ≡ fault.OutputFault → ⊥
no_fault_of_output {marker = marker} {failed = failed} asks is = no_output marker asks.reply failed asks.answer is
