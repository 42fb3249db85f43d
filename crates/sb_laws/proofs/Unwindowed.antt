-- Without a window no GET has a digest to show.
use Rattle.std.proofs.Common.{ℕ, ◌≡◌, Bool, true, false, nat_eq, if◌then◌else◌, List, [], ◌∷◌, length, Option, Some}
use Rattle.std.proofs.Common.{None, subst, ◌∙◌}
use Rattle.sb_base.specs.declared.geometry.Geometry.{Geometry}
use Rattle.sb_base.specs.declared.settings.Settings.{Settings}
use Rattle.sb_base.specs.declared.entry.EntryKind.{EntryKind}
use Rattle.sb_base.specs.declared.entry.EntryKind.TheVariants as kind
use Rattle.sb_base.specs.declared.entry.Entry.{Entry}
use Rattle.sb_history.specs.Gets.{Fetch, fetch_of, fetch_after}
use Rattle.sb_history.specs.Puts.{puts_of}
use Rattle.sb_history.specs.Cache.{Found}
use Rattle.sb_history.specs.AccessRules.{MayFollow}
use Rattle.sb_history.specs.Laws.{UnwindowedExpectsNothing}
use Rattle.sb_laws.proofs.Shown.{nothing_expected}

either :
    (t : Bool) (new before : Option Fetch) (fetch : Fetch) → ((fetch : Fetch) → new ≡ Some fetch → fetch.expect ≡ None)
    → ((fetch : Fetch) → before ≡ Some fetch → fetch.expect ≡ None)
    → (if t then new else before) ≡ Some fetch → fetch.expect ≡ None
either true new before fetch at_new at_before is = at_new fetch is
either false new before fetch at_new at_before is = at_before fetch is

expects_after : (geometry : Geometry) (settings : Settings) (found : Found) (past : List Entry) (block pass reading : ℕ)
    (e : EntryKind) → settings.md5_size ≡ 0 → MayFollow geometry settings found past pass reading e
    → ((fetch : Fetch) → fetch_of past block ≡ Some fetch → fetch.expect ≡ None) → (fetch : Fetch)
    → fetch_after block pass (length past) reading e (fetch_of past block) ≡ Some fetch → fetch.expect ≡ None
expects_after geometry settings found past block pass reading (kind.GetBegin of expect verify) off may before fetch is =
    either (nat_eq of block)
    (Some (record { pass = pass; place = length past; reading = reading; expect = expect; verify = verify }))
    (fetch_of past block) fetch new before is where
      none : expect ≡ None
      none = may.expects ∙ nothing_expected settings reading (puts_of past of) off

      new : (fetch : Fetch) → Some
          (record { pass = pass; place = length past; reading = reading; expect = expect; verify = verify }) ≡ Some
          fetch → fetch.expect ≡ None
      new fetch same =
          let is_fetch : record
          { pass = pass; place = length past; reading = reading; expect = expect; verify = verify } ≡ fetch = cc in
          subst (λ (f : Fetch). f.expect ≡ None) is_fetch none
expects_after geometry settings found past block pass reading (kind.GetEnd of answer verify taken) off may before fetch
    is =
    either (nat_eq of block) None (fetch_of past block) fetch (λ fetch same. absurd (cc)) before is
expects_after geometry settings found past block pass reading e off may before fetch is = before fetch is

pub unwindowed_expects_nothing : UnwindowedExpectsNothing
unwindowed_expects_nothing geometry settings found [] rules off block fetch is = absurd (cc)
unwindowed_expects_nothing geometry settings found (entry ∷ past) rules off block fetch is =
    expects_after geometry settings found past block entry.pass entry.reading entry.kind off rules.0
    (unwindowed_expects_nothing geometry settings found past rules.2 off block) fetch is
