-- What the cache has of a block stays what a history says of it: by a write of a part.
use Rattle.std.proofs.Common.{ℕ, ◌≡◌, ◌≤◌, Bool, true, false, not, ◌&&◌, if◌then◌else◌, min}
use Rattle.std.proofs.Common.{List, [], ◌∷◌, length, Option, Some, None, is_some, refl, sym, ◌∙◌}
use Rattle.std.proofs.Common.{ap, subst, arith}
use Rattle.sb_base.specs.declared.geometry.Geometry.{Geometry}
use Rattle.sb_base.specs.declared.settings.Settings.{Settings}
use Rattle.sb_base.specs.declared.part.Part.{Part}
use Rattle.sb_base.specs.declared.entry.EntryKind.TheVariants as kind
use Rattle.sb_base.specs.declared.entry.Entry.{Entry}
use Rattle.sb_history.specs.Contents.{zeros, is_zeros, overlay}
use Rattle.sb_history.specs.Puts.{Put, puts_of, newest_is_open}
use Rattle.sb_history.specs.Gets.{fetch_of}
use Rattle.sb_history.specs.Flushes.{flushes_begun, last_number}
use Rattle.sb_history.specs.Cache.{is_known_zero, cached_content, outcome, cached_unless_zeros}
use Rattle.sb_history.specs.Writes.{is_nil, unacked_writes, last_failed}
use Rattle.sb_history.specs.Eviction.{last_use}
use Rattle.sb_history.specs.CachePolicy.{WrittenDuringPut}
use Rattle.sb_history.specs.AccessRules.{last_reading, FollowsAccessRules}
use Rattle.sb_blocks.specs.declared.cached.OpenPut.{OpenPut}
use Rattle.sb_blocks.specs.declared.cached.State.{State}
use Rattle.sb_blocks.specs.declared.cached.State.TheVariants.{Reading, Clean, Dirty, Writing, Writing2}
use Rattle.sb_blocks.specs.declared.cached.Cached.{Cached}
use Rattle.sb_blocks.specs.Cached.{is_held}
use Rattle.sb_blocks.specs.Moves.{used_at, state_written, written, first_written}
use Rattle.sb_core.specs.Represents.{nothing_found, open_get, open_put, writes_since, IsStampOf, since_of, use_of}
use Rattle.sb_core.specs.Represents.{WrittenSincePut, BlockStands}
use Rattle.sb_core.proofs.Histories.{unacked_below, newest_within, AllBelow}
use Rattle.sb_core.proofs.Fields.{same, some_put, put_closed, no_stamp, since_closed}
use Rattle.sb_core.proofs.Owing.{SinceNewest, contains_head, newest_below}
use Rattle.sb_core.proofs.Stamps as stamps
use Rattle.sb_core.proofs.Stamps.{fresh_stamp, more_stamp, since_below, ended_closed}
use Rattle.sb_core.proofs.Readings.{failed_below, nil_is, since_first, since_more}
use Rattle.sb_core.proofs.BlocksStand.{at}
use Rattle.sb_core.proofs.OwnBlock.{with_state, use_at, placed}

-- what is known, where a write doesn't leave zeros
never_zeros : (known zeros_ : Bool) → (known && zeros_) ≡ false → zeros_ ≡ true → known ≡ true → ⊥
never_zeros true zeros_ is is_zero marked = cc
never_zeros false zeros_ is is_zero marked = cc

shut : (known open_ zeros_ : Bool) → open_ ≡ false → ((known && not open_) && zeros_) ≡ (known && zeros_)
shut true false zeros_ is = refl
shut false false zeros_ is = refl
shut known true zeros_ is = absurd (cc)

opened : (known open_ zeros_ : Bool) → open_ ≡ true → ((known && not open_) && zeros_) ≡ false
opened true true zeros_ is = refl
opened false true zeros_ is = refl
opened known false zeros_ is = absurd (cc)

-- writes of a part at a reading, by a pass, of a block that is known to be zeros or not
module _ (geometry : Geometry) (settings : Settings) (past : List Entry) (pass now place epoch : ℕ) (part : Part)
    (bytes : List ℕ) (known : Bool) (rules : FollowsAccessRules geometry settings nothing_found past)
    (later_reading : last_reading past ≤ now) (placed_at : place ≡ min (length past) last_number)
    (epochs : epoch ≡ min (flushes_begun past) last_number)
    (marked : is_known_zero geometry.block_size nothing_found past part.block ≡ known) where
  abbrev e : Entry
  e = at pass now (kind.Write part bytes)

  abbrev size : ℕ
  size = geometry.block_size

  abbrev writes : List ℕ
  writes = unacked_writes size nothing_found past part.block

  abbrev puts : List Put
  puts = puts_of past part.block

  abbrev cached : Option (List ℕ)
  cached = cached_content size nothing_found past part.block

  abbrev known_now : Bool
  known_now = is_known_zero size nothing_found past part.block

  -- the write acknowledges all
  abbrev clears : Bool
  clears = (known_now && not (newest_is_open puts)) && is_zeros (outcome size cached part bytes)

  below : AllBelow (length past) writes
  below = unacked_below size nothing_found past part.block

  all_writes : unacked_writes size nothing_found (e ∷ past) part.block ≡ (if clears then [] else length past ∷ writes)
  all_writes = ap (λ t. if t then (if clears then [] else length past ∷ writes) else writes) (same part.block)

  wrote : clears ≡ false → unacked_writes size nothing_found (e ∷ past) part.block ≡ length past ∷ writes
  wrote is = all_writes ∙ ap (λ t. if t then [] else length past ∷ writes) is

  cleared : clears ≡ true → unacked_writes size nothing_found (e ∷ past) part.block ≡ []
  cleared is = all_writes ∙ ap (λ t. if t then [] else length past ∷ writes) is

  -- what it clears, where no put is open
  clears_shut : (c : Option (List ℕ)) → cached ≡ c → open_put puts ≡ None
      → clears ≡ (known && is_zeros (outcome size c part bytes))
  clears_shut c is closed =
      shut known_now (newest_is_open puts) (is_zeros (outcome size cached part bytes)) (put_closed puts closed)
      ∙ ap (λ k. k && is_zeros (outcome size cached part bytes)) marked
      ∙ ap (λ o. known && is_zeros (outcome size o part bytes)) is

  clears_open : (put : OpenPut) → open_put puts ≡ Some put → clears ≡ false
  clears_open put is =
      opened known_now (newest_is_open puts) (is_zeros (outcome size cached part bytes)) (some_put puts ∙ ap is_some is)

  written_content : (body : List ℕ) → cached ≡ Some body
      → cached_content size nothing_found (e ∷ past) part.block ≡ Some (overlay body part.offset bytes)
  written_content body is =
      ap (λ t. if t then cached_unless_zeros known_now cached (outcome size cached part bytes) else cached)
      (same part.block)
      ∙ ap (λ c. cached_unless_zeros known_now c (outcome size c part bytes)) is

  unheld_content : (t : Bool) → cached ≡ None → (known && is_zeros (overlay (zeros size) part.offset bytes)) ≡ t
      → cached_content size nothing_found (e ∷ past) part.block
      ≡ (if t then None else Some (overlay (zeros size) part.offset bytes))
  unheld_content t is kept =
      ap (λ b. if b then cached_unless_zeros known_now cached (outcome size cached part bytes) else cached)
      (same part.block)
      ∙ ap (λ c. cached_unless_zeros known_now c (outcome size c part bytes)) is
      ∙ ap (λ k. cached_unless_zeros k None (outcome size None part bytes)) marked
      ∙ ap (λ b. if b then None else Some (overlay (zeros size) part.offset bytes)) kept

  used_now : last_use (e ∷ past) part.block ≡ use_of (used_at place now)
  used_now =
      ap (λ t. if t then use_at past now else last_use past part.block) (same part.block)
      ∙ placed past now place placed_at

  no_fail : last_failed (e ∷ past) part.block ≤ now
  no_fail =
      let before = failed_below geometry settings nothing_found past part.block rules in
      omega (arith, before, later_reading)

  closed_later : open_put puts ≡ None → IsStampOf (e ∷ past)
      (writes_since puts (unacked_writes size nothing_found (e ∷ past) part.block)) None
  closed_later closed =
      subst (λ ws. IsStampOf (e ∷ past) ws None)
      (sym (since_closed puts (unacked_writes size nothing_found (e ∷ past) part.block) closed)) (no_stamp (e ∷ past))

  none_owed : clears ≡ true
      → IsStampOf (e ∷ past) (unacked_writes size nothing_found (e ∷ past) part.block) None
  none_owed is = subst (λ ws. IsStampOf (e ∷ past) ws None) (sym (cleared is)) (no_stamp (e ∷ past))

  fresh : clears ≡ false → IsStampOf past writes None
      → IsStampOf (e ∷ past) (unacked_writes size nothing_found (e ∷ past) part.block) (Some epoch)
  fresh is old =
      subst (λ ws. IsStampOf (e ∷ past) ws (Some epoch)) (sym (wrote is))
      (fresh_stamp geometry settings e past writes epoch rules epochs refl (λ m. refl) old)

  more : (stamp : ℕ) → clears ≡ false → IsStampOf past writes (Some stamp)
      → IsStampOf (e ∷ past) (unacked_writes size nothing_found (e ∷ past) part.block) (Some stamp)
  more stamp is old =
      subst (λ ws. IsStampOf (e ∷ past) ws (Some stamp)) (sym (wrote is))
      (more_stamp geometry settings e past writes stamp rules refl (λ m. refl) old)

  dirty_now : clears ≡ false → is_nil writes ≡ true
      → since_of (e ∷ past) part.block (unacked_writes size nothing_found (e ∷ past) part.block) ≡ now
  dirty_now is nil =
      ap (since_of (e ∷ past) part.block) (wrote is) ∙ since_first e past part.block writes (nil_is writes nil) no_fail

  dirty_still : (since : ℕ) → clears ≡ false → is_nil writes ≡ false → since_of past part.block writes ≡ since
      → since_of (e ∷ past) part.block (unacked_writes size nothing_found (e ∷ past) part.block) ≡ since
  dirty_still since is some was =
      ap (since_of (e ∷ past) part.block) (wrote is) ∙ since_more e past part.block writes below some refl ∙ was

  -- what is dirty isn't zeros in a block that is known to be zeros
  owes_other : (body : List ℕ) → (known && is_zeros body) ≡ false → is_zeros body ≡ true → known_now ≡ true
      → WrittenDuringPut size nothing_found (e ∷ past) part.block
  owes_other body is is_zero here = absurd (never_zeros known (is_zeros body) is is_zero (sym marked ∙ here))

  -- of a block that isn't cached: zeros leave it so where it is known to be zeros
  pub unheld_write_stands : (known && is_zeros (overlay (zeros size) part.offset bytes)) ≡ true
      → BlockStands size past part.block None → BlockStands size (e ∷ past) part.block None
  unheld_write_stands keeps s =
      let here = clears_shut None s.content s.puts ∙ keeps in
      record {
        content = unheld_content true s.content keeps;
        asks = s.asks;
        puts = s.puts;
        stamp = none_owed here;
        later = closed_later s.puts;
        since = tt;
        later_since = tt;
        used = tt;
        owes = tt;
      }

  pub first_write_stands : (known && is_zeros (overlay (zeros size) part.offset bytes)) ≡ false
      → BlockStands size past part.block None
      → BlockStands size (e ∷ past) part.block
      (Some (first_written now place epoch (overlay (zeros size) part.offset bytes)))
  first_write_stands other s =
      let here = clears_shut None s.content s.puts ∙ other in
      record {
        content = unheld_content false s.content other;
        asks = s.asks;
        puts = s.puts;
        stamp = fresh here s.stamp;
        later = closed_later s.puts;
        since = dirty_now here s.stamp.some;
        later_since = tt;
        used = used_now;
        owes = owes_other (overlay (zeros size) part.offset bytes) other;
      }

  -- an entry after the write, which acknowledges all or doesn't
  abbrev entry_written : Bool → State → List ℕ → Cached
  entry_written t state body = record {
    state = state_written t epoch now state;
    last = used_at place now;
    body = overlay body part.offset bytes;
  }

  abbrev clears_body : List ℕ → Bool
  clears_body body = known && is_zeros (overlay body part.offset bytes)

  -- of a block of which no put is open
  clean_again : (body : List ℕ) → cached ≡ Some body → open_get (fetch_of past part.block) ≡ None
      → open_put puts ≡ None → (known && is_zeros (overlay body part.offset bytes)) ≡ true
      → BlockStands size (e ∷ past) part.block (Some (entry_written true Clean body))
  clean_again body content asks closed keeps =
      let here = clears_shut (Some body) content closed ∙ keeps in
      record {
        content = written_content body content;
        asks = asks;
        puts = closed;
        stamp = none_owed here;
        later = closed_later closed;
        since = tt;
        later_since = tt;
        used = used_now;
        owes = tt;
      }

  clean_written : (entry : Cached) (t : Bool) → (known && is_zeros (overlay entry.body part.offset bytes)) ≡ t
      → BlockStands size past part.block (Some (record entry { state = Clean }))
      → BlockStands size (e ∷ past) part.block (Some (entry_written t Clean entry.body))
  clean_written entry true keeps s = clean_again entry.body s.content s.asks s.puts keeps
  clean_written entry false other s =
      let here = clears_shut (Some entry.body) s.content s.puts ∙ other in
      record {
        content = written_content entry.body s.content;
        asks = s.asks;
        puts = s.puts;
        stamp = fresh here s.stamp;
        later = closed_later s.puts;
        since = dirty_now here s.stamp.some;
        later_since = tt;
        used = used_now;
        owes = owes_other (overlay entry.body part.offset bytes) other;
      }

  dirty_written : (entry : Cached) (stamp since : ℕ) (t : Bool)
      → (known && is_zeros (overlay entry.body part.offset bytes)) ≡ t
      → BlockStands size past part.block (Some (record entry { state = Dirty stamp since }))
      → BlockStands size (e ∷ past) part.block (Some (entry_written t (Dirty stamp since) entry.body))
  dirty_written entry stamp since true keeps s = clean_again entry.body s.content s.asks s.puts keeps
  dirty_written entry stamp since false other s =
      let here = clears_shut (Some entry.body) s.content s.puts ∙ other in
      record {
        content = written_content entry.body s.content;
        asks = s.asks;
        puts = s.puts;
        stamp = more stamp here s.stamp;
        later = closed_later s.puts;
        since = dirty_still since here s.stamp.some s.since;
        later_since = tt;
        used = used_now;
        owes = owes_other (overlay entry.body part.offset bytes) other;
      }

  -- while a PUT is open: the writes since it began
  wrote_since : (put : OpenPut) → open_put puts ≡ Some put
      → writes_since puts (unacked_writes size nothing_found (e ∷ past) part.block)
      ≡ length past ∷ writes_since puts writes
  wrote_since put is =
      ap (writes_since puts) (wrote (clears_open put is))
      ∙ stamps.since_more (length past) (last_reading past) put puts writes is
      (newest_within geometry settings nothing_found past part.block rules)

  below_open : AllBelow (length past) (writes_since puts writes)
  below_open = since_below (length past) puts writes below

  came_now : (put : OpenPut) → open_put puts ≡ Some put → WrittenSincePut size (e ∷ past) part.block
  came_now put is =
      subst (λ ws. SinceNewest ws puts) (sym (wrote (clears_open put is))) (
        length past,
        contains_head (length past) writes,
        newest_below (length past) (last_reading past) puts put is
            (newest_within geometry settings nothing_found past part.block rules),
      )

  writing_written : (entry : Cached) (put : OpenPut) (stamp : ℕ) (t : Bool)
      → BlockStands size past part.block (Some (record entry { state = Writing put stamp }))
      → BlockStands size (e ∷ past) part.block (Some (entry_written t (Writing put stamp) entry.body))
  writing_written entry put stamp t s =
      let here = clears_open put s.puts in
      record {
        content = written_content entry.body s.content;
        asks = s.asks;
        puts = s.puts;
        stamp = more stamp here s.stamp;
        later = subst (λ ws. IsStampOf (e ∷ past) ws (Some epoch)) (sym (wrote_since put s.puts))
            (fresh_stamp geometry settings e past (writes_since puts writes) epoch rules epochs refl (λ m. refl) s.later);
        since = tt;
        later_since = ap (since_of (e ∷ past) part.block) (wrote_since put s.puts)
            ∙ since_first e past part.block (writes_since puts writes) (nil_is (writes_since puts writes) s.later.some)
            no_fail;
        used = used_now;
        owes = came_now put s.puts;
      }

  writing2_written : (entry : Cached) (put : OpenPut) (stamp later since : ℕ) (t : Bool)
      → BlockStands size past part.block (Some (record entry { state = Writing2 put stamp later since }))
      → BlockStands size (e ∷ past) part.block (Some (entry_written t (Writing2 put stamp later since) entry.body))
  writing2_written entry put stamp later since t s =
      let here = clears_open put s.puts in
      record {
        content = written_content entry.body s.content;
        asks = s.asks;
        puts = s.puts;
        stamp = more stamp here s.stamp;
        later = subst (λ ws. IsStampOf (e ∷ past) ws (Some later)) (sym (wrote_since put s.puts))
            (more_stamp geometry settings e past (writes_since puts writes) later rules refl (λ m. refl) s.later);
        since = tt;
        later_since = ap (since_of (e ∷ past) part.block) (wrote_since put s.puts)
            ∙ since_more e past part.block (writes_since puts writes) below_open s.later.some refl ∙ s.later_since;
        used = used_now;
        owes = came_now put s.puts;
      }

  -- of a block that is held
  pub write_stands : (entry : Cached) → is_held entry.state ≡ true → BlockStands size past part.block (Some entry)
      → BlockStands size (e ∷ past) part.block (Some (written known now place epoch part.offset bytes entry))
  write_stands entry held s = by entry.state refl where
    back : (state : State) → entry.state ≡ state
        → BlockStands size (e ∷ past) part.block (Some (entry_written (clears_body entry.body) state entry.body))
        → BlockStands size (e ∷ past) part.block (Some (written known now place epoch part.offset bytes entry))
    back state is stands =
        subst (λ st. BlockStands size (e ∷ past) part.block (Some (entry_written (clears_body entry.body) st entry.body))) (sym is) stands

    by : (state : State) → entry.state ≡ state
        → BlockStands size (e ∷ past) part.block (Some (written known now place epoch part.offset bytes entry))
    by (Reading get) is = absurd (let clash = sym held ∙ ap is_held is in cc)
    by Clean is = back Clean is (clean_written entry (clears_body entry.body) refl (with_state size past part.block entry Clean is s))
    by (Dirty stamp since) is =
        back (Dirty stamp since) is
        (dirty_written entry stamp since (clears_body entry.body) refl (with_state size past part.block entry (Dirty stamp since) is s))
    by (Writing put stamp) is =
        back (Writing put stamp) is
        (writing_written entry put stamp (clears_body entry.body) (with_state size past part.block entry (Writing put stamp) is s))
    by (Writing2 put stamp later since) is =
        back (Writing2 put stamp later since) is
        (writing2_written entry put stamp later since (clears_body entry.body)
        (with_state size past part.block entry (Writing2 put stamp later since) is s))
