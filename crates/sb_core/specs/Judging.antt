-- What becomes of an answer to a GET.
use Rattle.std.specs.Prelude.{◌≢◌, Bool, true, false, if◌then◌else◌, ℕ, List, Option, Some, None}
use Rattle.std.specs.Str.{bytes_eq}
use Rattle.md5.specs.Md5.{md5}
use Rattle.sb_base.specs.declared.settings.Settings.{Settings}
use Rattle.sb_base.specs.declared.line.Expect.{Expect}
use Rattle.sb_base.specs.declared.entry.Shown.{Shown}
use Rattle.sb_base.specs.declared.entry.Shown.TheVariants as shown
use Rattle.sb_core.specs.declared.step.GetDone.{GetDone}
use Rattle.sb_core.specs.declared.step.GetDone.TheVariants as done

-- what becomes of an answer with a digest, or of a failure: it is taken where it has the expected digest, if there is
-- one
abbrev pub judged : Option Expect → Option (List ℕ) → GetDone
judged expect None = done.Failed
judged None (Some digest) = done.Taken
judged (Some expect) (Some digest) =
    if bytes_eq digest expect.digest then done.Taken else done.Stale expect.digest digest

-- the digest of an answer that has to be known: that of bytes, where the GET has to show one
abbrev pub digest_wanted : Option Expect → Shown → Option (List ℕ)
digest_wanted None answer = None
digest_wanted (Some expect) shown.Absent = None
digest_wanted (Some expect) (shown.Bytes bytes) = Some (md5 bytes)
digest_wanted (Some expect) shown.Same = None
digest_wanted (Some expect) shown.Failed = None

-- the answer to a GET is taken
abbrev pub is_taken : GetDone → Bool
is_taken done.Taken = true
is_taken done.Failed = false
is_taken (done.Stale expected shown) = false

-- an answer is stale only where there is a window
abbrev pub IsStaleByWindow : Settings → GetDone → Type 0
IsStaleByWindow settings done.Taken = Unit {0}
IsStaleByWindow settings done.Failed = Unit {0}
IsStaleByWindow settings (done.Stale expected shown) = settings.md5_size ≢ 0
