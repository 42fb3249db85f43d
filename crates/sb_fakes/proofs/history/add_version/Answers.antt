use Rattle.std.proofs.Common.{◌≡◌, ◌<◌, ◌++◌, ◌∷◌, [], refl, arith, take, get_or, List, length, rules, subst}
use Rattle.std.proofs.lemmas.Grind.{common_steps}
use Rattle.sb_fakes.specs.Versions.{versions_in, with_version}
use Rattle.sb_fakes.specs.declared.history.History.{History}
use Rattle.sb_fakes.proofs.VersionLemmas.{Skips, added_or, begun}
use Rattle.sb_fakes.proofs.history.add_version.Goals as goal

pub returns-then-eq : goal.returns-then-eq
returns-then-eq c =
    let xs = c.loop-history.history-items in
    let i = c.loop-history.history-index in
    let first = c.history-item.result in
    let within : i < length xs = search rules in
    let named : (get_or xs i first).name ≡ c.args.name.now = search rules in
    rw (← c.loop-history.invariant.same) (added_or c.add.result c.args.name.now c.args.content c.args.ended xs _ i first
    (get_or xs i first) c.add.new.self within refl named c.add.ensures.name c.loop-history.invariant.skips
    (grind (arith, common_steps)) c.add.ensures.added)

pub returns : goal.returns
returns c =
    let xs = c.args.histories.now.items in
    let named : c.add-2.new.self.name ≡ c.args.name.now = search rules in
    let items : c.push.new.self.items ≡ xs ++ c.add-2.new.self ∷ [] = grind (arith, common_steps) in
    let whole : take c.loop-history.history-index c.loop-history.history-items ≡ xs = grind (arith, common_steps) in
    let skips : Skips c.args.name.now xs =
    subst (λ (front : List History). Skips c.args.name.now front) whole c.loop-history.invariant.skips in
    let first : versions_in c.add-2.new.self ≡ with_version c.args.content c.args.ended
    (record { kept = []; newest = 0 }) = search rules in
    begun c.args.name.now c.args.content c.args.ended xs c.push.new.self.items c.add-2.new.self named skips items first
