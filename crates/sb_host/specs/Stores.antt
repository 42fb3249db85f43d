-- What a store is, and which one a plan asks for.
use Rattle.std.specs.Prelude.{ℕ, ◌≡◌, List, []}
use Rattle.std.specs.List.{AllByRecursion}
use Rattle.sb_base.specs.declared.access.StorePlan.{StorePlan}
use Rattle.sb_base.specs.declared.access.StorePlan.TheVariants as plan
use Rattle.sb_world.specs.declared.link.Call.{Call}
use Rattle.sb_s3link.specs.declared.link.S3Link.{S3Link}
use Rattle.sb_s3link.specs.Courses.{Bucket}
use Rattle.sb_s3link.specs.Courses as bucket
use Rattle.sb_retry.specs.declared.retry.Retry.{Retry}
use Rattle.sb_retry.specs.Attempts as retry
use Rattle.sb_retry.specs.Schedules.{Begins}
use Rattle.sb_dirstore.specs.Objects as directory
use Rattle.sb_host.specs.declared.store.Store.{Store}
use Rattle.sb_host.specs.declared.store.Store.TheVariants as store

-- the calls of a store, the newest first
abbrev pub log_of : {W F C : Type 0} → Store W F C → List Call
log_of (store.Bucket link) = retry.log_of link
log_of (store.Directory link) = directory.log_of link

-- how often a store has failed
abbrev pub faults_of : {W F C : Type 0} → Store W F C → ℕ
faults_of (store.Bucket link) = bucket.faults_of (retry.link_of link)
faults_of (store.Directory link) = directory.faults_of link

-- nothing was asked of a store yet, and of each of these
pub record IsUnusedStore {W F C : Type 0} (link : Store W F C) : Type 0 where
  pub none_asked : log_of link ≡ []
  pub counted : faults_of link ≡ 0

abbrev pub AreUnused : {W F C : Type 0} → List (Store W F C) → Type 0
AreUnused links = AllByRecursion IsUnusedStore links

-- a link to a bucket over a wire, whose requests are signed at the moments of the one clock, and tried again behind the
-- pauses of the other, of which these are the first and the total
pub record IsBucket {W C : Type 0} (place : Bucket) (first total : ℕ) (wire : W) (clock second : C)
    (link : Retry (S3Link W C) C) : Type 0 where
  pub bucket_is : bucket.bucket_of (retry.link_of link) ≡ place
  pub wire_is : bucket.wire_of (retry.link_of link) ≡ wire
  pub signs_by : bucket.clock_of (retry.link_of link) ≡ clock
  pub pauses_by : retry.clock_of link ≡ second
  pub pauses : Begins first total (retry.schedule_of link)

-- the store that a plan asks for, with this id and key: a bucket over the wire, or a directory over the folder
abbrev pub IsStoreOf : {W F C : Type 0} → StorePlan → List ℕ → List ℕ → W → F → C → C → Store W F C → Type 0
IsStoreOf (plan.Dir path) id key wire folder clock second (store.Directory link) = directory.folder_of link ≡ folder
IsStoreOf (plan.S3 host port bucket vhost region access first total) id key wire folder clock second
    (store.Bucket link) =
    IsBucket
    (record {
      site = record { host = host; port = port; bucket = bucket; vhost = vhost };
      credentials = record { id = id; secret = key; region = region };
    })
    first total wire clock second link
IsStoreOf other id key wire folder clock second made = ⊥
