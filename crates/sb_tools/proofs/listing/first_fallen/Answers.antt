use Rattle.std.proofs.Common.{◌∙◌, ◌<◌, ◌≡◌, length, ap, sym, Some, ℕ, List, [], subst}
use Rattle.std.specs.Prelude.{true, false}
use Rattle.std.proofs.lemmas.List.{get_or_default}
use Rattle.sb_tools.specs.Listings.{is_above, fallen_in}
use Rattle.sb_tools.proofs.Ordering.{fallen_on, fallen_here}
use Rattle.sb_tools.proofs.listing.first_fallen.Goals as goal

pub loop-place-preserved : goal.loop-place-preserved
loop-place-preserved c =
    let name = c.index-names-place.result in
    let test = rw c.bytes.ensures at c.is_above.ensures in
    rw c.bytes-last.ensures (
    c.loop-place.invariant
    ∙ fallen_on c.loop-place.last.now c.args.names.now c.loop-place.place name c.loop-place-test.true
    c.index-names-place.is c.is_above.result test c.if-not-is_above.false
    )

pub returns-then-not-is_above : goal.returns-then-not-is_above
returns-then-not-is_above c =
    let name = c.index-names-place.result in
    let test = rw c.bytes.ensures at c.is_above.ensures in
    let here = fallen_here c.loop-place.last.now c.args.names.now c.loop-place.place name c.loop-place-test.true
    c.index-names-place.is c.is_above.result test c.if-not-is_above.true in (
      c.loop-place-test.true,
      c.loop-place.invariant ∙ here
          ∙ ap Some (c.index-names-place.is
          ∙ get_or_default c.args.names.now c.loop-place.place name [] c.loop-place-test.true),
    )
