-- What a pass put stays the newest put of its block while that is open.
use Rattle.std.proofs.Common.{ℕ, ◌≡◌, ◌<◌, Bool, true, false, nat_eq, if◌then◌else◌, List, [], ◌∷◌, ◌++◌, length}
use Rattle.std.proofs.Common.{Some, None, refl, sym, ◌∙◌, ap, subst}
use Rattle.std.proofs.lemmas.Bool.{eqb-true}
use Rattle.sb_turn.specs.declared.stands.Stands.{Ghosts}
use Rattle.sb_turn.specs.declared.pass.Pass.{Pass}
use Rattle.sb_turn.specs.Histories.{IsPast}
use Rattle.sb_turn.specs.Passes.{seen, mine, number, base_of, IsFree, HoldsTurn, IsSamePass}
use Rattle.sb_base.specs.declared.geometry.Geometry.{Geometry}
use Rattle.sb_base.specs.declared.settings.Settings.{Settings}
use Rattle.sb_base.specs.declared.entry.Entry.{Entry}
use Rattle.sb_base.specs.declared.entry.EntryKind.{EntryKind}
use Rattle.sb_base.specs.declared.entry.EntryKind.TheVariants as kind
use Rattle.sb_history.specs.Puts.{Ending, Put, puts_of, puts_after, ended}
use Rattle.sb_history.specs.AccessRules.{MayFollow, FollowsAccessRules}
use Rattle.sb_history.specs.AccessRules as rules
use Rattle.sb_blocks.specs.declared.cached.OpenPut.{OpenPut}
use Rattle.sb_core.specs.declared.machine.Core.{Core}
use Rattle.sb_core.specs.declared.standing.Timed.{Timed}
use Rattle.sb_core.specs.declared.standing.Fixed.{Fixed}
use Rattle.sb_core.specs.declared.job.PutJob.{PutJob}
use Rattle.sb_core.specs.Represents.{nothing_found, open_put}
use Rattle.sb_core.specs.PutWindow.{newest_content, IsDigestOf, IsPutDigest}
use Rattle.sb_core.specs.Standing.{entries_in, fixed_of, StandsFor}
use Rattle.sb_crew.specs.SharedJoins.{entries_in-append}
use Rattle.sb_crew.specs.Sharing.{seen_by, IsOpenPut}
use Rattle.sb_crew.proofs.SharedTurns.{AreOfOthers, of_others, none_open, put_stays, none_own, same_fixed}

content_ended : (t : Bool) (ending : Ending) (puts : List Put)
    → newest_content (if t then ended ending puts else puts) ≡ newest_content puts
content_ended true ending [] = refl
content_ended true ending (put ∷ puts) = refl
content_ended false ending puts = refl

content_stays_one : (geometry : Geometry) (settings : Settings) (past : List Entry) (block pass place reading : ℕ)
    (of : EntryKind) (open_is : OpenPut) → MayFollow geometry settings nothing_found past pass reading of
    → open_put (puts_of past block) ≡ Some open_is
    → newest_content (puts_after block pass place reading of (puts_of past block)) ≡ newest_content (puts_of past block)
content_stays_one geometry settings past block pass place reading (kind.PutBegin asked content) open_is may is =
    by (nat_eq asked block) refl where
      new : Put
      new = record { content = content; pass = pass; place = place; reading = reading; ending = None }

      by : (b : Bool) → nat_eq asked block ≡ b
          → newest_content (if b then new ∷ puts_of past block else puts_of past block)
          ≡ newest_content (puts_of past block)
      by true same =
          let at : asked ≡ block = eqb-true asked block same in
          absurd (none_open past block open_is (puts_of past block) (subst (rules.IsIdle past) at may.idle_block) refl is)
      by false same = refl
content_stays_one geometry settings past block pass place reading (kind.PutEnd asked ok) open_is may is =
    content_ended (nat_eq asked block) (record { place = place; reading = reading; ok = ok }) (puts_of past block)
content_stays_one geometry settings past block pass place reading of open_is may is = refl

content_stays : (geometry : Geometry) (settings : Settings) (n : ℕ) (job : PutJob) (others past : List Entry)
    → AreOfOthers n others → FollowsAccessRules geometry settings nothing_found (others ++ past)
    → IsOpenPut past n job
    → newest_content (puts_of (others ++ past) job.block) ≡ newest_content (puts_of past job.block)
content_stays geometry settings n job [] past are follows is = refl
content_stays geometry settings n job (entry ∷ others) past are follows is =
    content_stays_one geometry settings (others ++ past) job.block entry.pass (length (others ++ past)) entry.reading
    entry.kind (record { pass = n; zeros = job.zeros }) follows.0
    (put_stays geometry settings n job others past are.1 follows.2 is)
    ∙ content_stays geometry settings n job others past are.1 follows.2 is

-- a digest of what a pass put is that of the put in the core that has the turn
module _ {g : Ghosts Core Timed Fixed} where
  pub digest_kept : (p mid : Pass Core Timed Fixed g) (fixed : Fixed) (core : Core) (job : PutJob) (digest : List ℕ)
      → 0 < number p → IsFree p → base_of p ≡ Some fixed → IsSamePass p mid → IsPast (seen p) (seen mid)
      → mine mid ≡ mine p → HoldsTurn mid → StandsFor core (seen_by mid) → base_of mid ≡ Some (fixed_of core)
      → IsOpenPut (seen_by p) (number p) job → IsPutDigest fixed.settings (seen_by p) job.block digest
      → IsPutDigest core.settings (seen_by mid) job.block digest
  digest_kept p mid fixed core job digest some free based entered past kept holds stood held is_open is =
      let others = past.0 in
      let inside : seen_by mid ≡ entries_in others ++ seen_by p =
      ap entries_in past.1 ∙ entries_in-append others (seen p) in
      let are = of_others (number p) others (none_own p mid others some free holds entered.number kept past.1) in
      let same : core.settings ≡ fixed.settings =
      ap (λ (f : Fixed). f.settings) (same_fixed p mid fixed core based entered held) in
      let content : newest_content (puts_of (seen_by mid) job.block) ≡ newest_content (puts_of (seen_by p) job.block) =
      ap (λ (h : List Entry). newest_content (puts_of h job.block)) inside
      ∙ content_stays core.geometry core.settings (number p) job (entries_in others) (seen_by p) are
      (subst (FollowsAccessRules core.geometry core.settings nothing_found) inside stood.represents.rules) is_open in
      subst (λ (c : List ℕ). IsDigestOf core.settings c digest) (sym content)
      (subst (λ (s : Settings). IsDigestOf s (newest_content (puts_of (seen_by p) job.block)) digest) (sym same) is)
