-- What the cache has of a block stays what a history says of it: by the begin and the end of a PUT.
use Rattle.std.proofs.Common.{ℕ, ◌≡◌, ◌≤◌, Bool, true, false, nat_le, if◌then◌else◌}
use Rattle.std.proofs.Common.{List, ◌∷◌, length, filter, Option, Some, None, refl, sym, ◌∙◌}
use Rattle.std.proofs.Common.{ap, subst}
use Rattle.sb_base.specs.declared.geometry.Geometry.{Geometry}
use Rattle.sb_base.specs.declared.settings.Settings.{Settings}
use Rattle.sb_base.specs.declared.entry.EntryKind.TheVariants as kind
use Rattle.sb_base.specs.declared.entry.Entry.{Entry}
use Rattle.sb_history.specs.Puts.{Ending, Put, puts_of, ended, newest_place}
use Rattle.sb_history.specs.Contents.{is_zeros}
use Rattle.sb_history.specs.Cache.{is_known_zero}
use Rattle.sb_history.specs.Writes.{is_nil, unacked_writes, last_failed}
use Rattle.sb_history.specs.CachePolicy.{WrittenDuringPut}
use Rattle.sb_history.specs.AccessRules.{last_reading, FollowsAccessRules}
use Rattle.sb_blocks.specs.declared.cached.OpenPut.{OpenPut}
use Rattle.sb_blocks.specs.declared.cached.State.{State}
use Rattle.sb_blocks.specs.declared.cached.State.TheVariants.{Reading, Clean, Dirty, Writing, Writing2}
use Rattle.sb_blocks.specs.declared.cached.Cached.{Cached}
use Rattle.sb_blocks.specs.Cached.{put_by}
use Rattle.sb_blocks.specs.Moves.{put_begun, put_ended}
use Rattle.sb_core.specs.Represents.{nothing_found, open_put, writes_since, IsStampOf, since_of}
use Rattle.sb_core.specs.Represents.{WrittenSincePut, BlockStands}
use Rattle.sb_core.proofs.Histories.{unacked_below, none_since, AllBelow, AllBelow-filter}
use Rattle.sb_core.proofs.Owing.{DuringOne, SinceNewest, during_begun, during_ended, since_ended, since_kept}
use Rattle.sb_core.proofs.Fields.{same, no_stamp, kept_stamp, since_closed, since_open}
use Rattle.sb_core.proofs.Stamps.{since_below, ended_closed}
use Rattle.sb_core.proofs.Readings.{since_stays, since_failed}
use Rattle.sb_core.proofs.BlocksStand.{at}
use Rattle.sb_core.proofs.OwnBlock.{with_state}

-- PUTs
begun_known : (zeros_ known : Bool) → (if zeros_ then known else false) ≡ true → (zeros_ ≡ true) × (known ≡ true)
begun_known true known is = (refl, is)
begun_known false known is = absurd (cc)

pub put_begun_stands : (block_size pass now block stamp since : ℕ) (past : List Entry) (entry : Cached)
    → BlockStands block_size past block (Some (record entry { state = Dirty stamp since }))
    → BlockStands block_size (at pass now (kind.PutBegin block entry.body) ∷ past) block
    (Some (put_begun pass (record entry { state = Dirty stamp since })))
put_begun_stands block_size pass now block stamp since past entry s =
    let e = at pass now (kind.PutBegin block entry.body) in
    let put : Put = record
    { content = entry.body; pass = pass; place = length past; reading = now; ending = None } in
    let ws = unacked_writes block_size nothing_found past block in
    record {
      content = s.content;
      asks = s.asks;
      puts = ap (λ t. open_put (if t then put ∷ puts_of past block else puts_of past block)) (same block);
      stamp = kept_stamp e past _ _ refl (λ m. refl) s.stamp;
      later = subst (λ t. IsStampOf (e ∷ past)
          (writes_since (if t then put ∷ puts_of past block else puts_of past block) ws) None) (sym (same block))
          (subst (λ left. IsStampOf (e ∷ past) left None)
          (sym (none_since (length past) ws (unacked_below block_size nothing_found past block)))
          (no_stamp (e ∷ past)));
      since = tt;
      later_since = tt;
      used = s.used;
      owes = λ marked.
          let both = begun_known (is_zeros entry.body) (is_known_zero block_size nothing_found past block)
          (sym (ap (λ t. if t then (if is_zeros entry.body then is_known_zero block_size nothing_found past block
          else false) else is_known_zero block_size nothing_found past block) (same block)) ∙ marked) in
          subst (λ t. DuringOne ws (if t then put ∷ puts_of past block else puts_of past block)) (sym (same block))
          (during_begun ws (puts_of past block) put (s.owes both.0 both.1));
    }

-- the end of a PUT at a reading, by a pass
module _ (geometry : Geometry) (settings : Settings) (past : List Entry) (pass now block : ℕ)
    (rules : FollowsAccessRules geometry settings nothing_found past) (later_reading : last_reading past ≤ now) where
  abbrev end : Bool → Entry
  end ok = at pass now (kind.PutEnd block ok)

  abbrev wide : ℕ
  wide = geometry.block_size

  abbrev owed : List ℕ
  owed = unacked_writes wide nothing_found past block

  abbrev sent : List Put
  sent = puts_of past block

  owed_below : AllBelow (length past) owed
  owed_below = unacked_below wide nothing_found past block

  closed : (ok : Bool) → open_put (puts_of (end ok ∷ past) block) ≡ None
  closed ok =
      let ending : Ending = record { place = length past; reading = now; ok = ok } in
      ap (λ t. open_put (if t then ended ending sent else sent)) (same block) ∙ ended_closed ending sent

  nothing_later : (ok : Bool) → IsStampOf (end ok ∷ past) (writes_since (puts_of (end ok ∷ past) block)
      (unacked_writes wide nothing_found (end ok ∷ past) block)) None
  nothing_later ok =
      subst (λ ws. IsStampOf (end ok ∷ past) ws None)
      (sym (since_closed (puts_of (end ok ∷ past) block) (unacked_writes wide nothing_found (end ok ∷ past) block)
      (closed ok))) (no_stamp (end ok ∷ past))

  abbrev left : List ℕ
  left = filter (λ write. nat_le (newest_place sent) write) owed

  acked : (put : OpenPut) → open_put sent ≡ Some put
      → unacked_writes wide nothing_found (end true ∷ past) block ≡ writes_since sent owed
  acked put is = ap (λ t. if t then left else owed) (same block) ∙ sym (since_open sent owed put is)

  owed_still : unacked_writes wide nothing_found (end false ∷ past) block ≡ owed
  owed_still = ap (λ t. if t then owed else owed) (same block)

  failed_now : last_failed (end false ∷ past) block ≡ now
  failed_now = ap (λ t. if t then now else last_failed past block) (same block)

  failed_still : last_failed (end true ∷ past) block ≡ last_failed past block
  failed_still = ap (λ t. if t then last_failed past block else last_failed past block) (same block)

  left_stamp : (put : OpenPut) (later : Option ℕ) → open_put sent ≡ Some put
      → IsStampOf past (writes_since sent owed) later
      → IsStampOf (end true ∷ past) (unacked_writes wide nothing_found (end true ∷ past) block) later
  left_stamp put later is old =
      subst (λ ws. IsStampOf (end true ∷ past) ws later) (sym (acked put is))
      (kept_stamp (end true) past (writes_since sent owed) later refl (λ m. refl) old)

  owed_stamp : (stamp : ℕ) → IsStampOf past owed (Some stamp)
      → IsStampOf (end false ∷ past) (unacked_writes wide nothing_found (end false ∷ past) block) (Some stamp)
  owed_stamp stamp old =
      subst (λ ws. IsStampOf (end false ∷ past) ws (Some stamp)) (sym owed_still)
      (kept_stamp (end false) past owed (Some stamp) refl (λ m. refl) old)

  dirty_again : is_nil owed ≡ false
      → since_of (end false ∷ past) block (unacked_writes wide nothing_found (end false ∷ past) block) ≡ now
  dirty_again some =
      ap (since_of (end false ∷ past) block) owed_still
      ∙ since_failed geometry settings nothing_found (end false) past block now owed rules later_reading owed_below some
      failed_now

  -- what came while a put was open
  abbrev ending_of : Bool → Ending
  ending_of ok = record { place = length past; reading = now; ok = ok }

  known_still : is_known_zero wide nothing_found (end false ∷ past) block ≡ is_known_zero wide nothing_found past block
  known_still = ap (λ t. if t then is_known_zero wide nothing_found past block
      else is_known_zero wide nothing_found past block) (same block)

  puts_ended : (ok : Bool) → puts_of (end ok ∷ past) block ≡ ended (ending_of ok) sent
  puts_ended ok = ap (λ t. if t then ended (ending_of ok) sent else sent) (same block)

  ended_during : WrittenDuringPut wide nothing_found past block
      → WrittenDuringPut wide nothing_found (end false ∷ past) block
  ended_during d =
      subst (λ ps. DuringOne (unacked_writes wide nothing_found (end false ∷ past) block) ps) (sym (puts_ended false))
      (subst (λ ws. DuringOne ws (ended (ending_of false) sent)) (sym owed_still)
      (during_ended owed sent (ending_of false) owed_below d))

  left_writes : (ok : Bool) → SinceNewest owed sent
      → SinceNewest (unacked_writes wide nothing_found (end ok ∷ past) block) sent
  left_writes true d =
      subst (λ t. SinceNewest (if t then left else owed) sent) (sym (same block)) (since_kept owed sent d)
  left_writes false d = subst (λ t. SinceNewest (if t then owed else owed) sent) (sym (same block)) d

  left_below : (ok : Bool) → AllBelow (length past) (unacked_writes wide nothing_found (end ok ∷ past) block)
  left_below true =
      subst (λ t. AllBelow (length past) (if t then left else owed)) (sym (same block))
      (AllBelow-filter (λ write. nat_le (newest_place sent) write) (length past) owed owed_below)
  left_below false = subst (λ t. AllBelow (length past) (if t then owed else owed)) (sym (same block)) owed_below

  since_during : (ok : Bool) (put : OpenPut) → open_put sent ≡ Some put → WrittenSincePut wide past block
      → WrittenDuringPut wide nothing_found (end ok ∷ past) block
  since_during ok put is d =
      subst (λ ps. DuringOne (unacked_writes wide nothing_found (end ok ∷ past) block) ps) (sym (puts_ended ok))
      (since_ended (unacked_writes wide nothing_found (end ok ∷ past) block) sent put (ending_of ok) is (left_below ok)
      (left_writes ok d))

  writing_ended : (ok : Bool) (entry : Cached) (put : OpenPut) (stamp : ℕ)
      → BlockStands wide past block (Some (record entry { state = Writing put stamp }))
      → BlockStands wide (end ok ∷ past) block (Some (put_ended ok now (record entry { state = Writing put stamp })))
  writing_ended true entry put stamp s = record {
    content = s.content;
    asks = s.asks;
    puts = closed true;
    stamp = left_stamp put None s.puts s.later;
    later = nothing_later true;
    since = tt;
    later_since = tt;
    used = s.used;
    owes = tt;
  }
  writing_ended false entry put stamp s = record {
    content = s.content;
    asks = s.asks;
    puts = closed false;
    stamp = owed_stamp stamp s.stamp;
    later = nothing_later false;
    since = dirty_again s.stamp.some;
    later_since = tt;
    used = s.used;
    owes = λ is_zero marked. ended_during (s.owes (sym known_still ∙ marked));
  }

  writing2_ended : (ok : Bool) (entry : Cached) (put : OpenPut) (stamp later since : ℕ)
      → BlockStands wide past block (Some (record entry { state = Writing2 put stamp later since }))
      → BlockStands wide (end ok ∷ past) block
      (Some (put_ended ok now (record entry { state = Writing2 put stamp later since })))
  writing2_ended true entry put stamp later since s = record {
    content = s.content;
    asks = s.asks;
    puts = closed true;
    stamp = left_stamp put (Some later) s.puts s.later;
    later = nothing_later true;
    since = ap (since_of (end true ∷ past) block) (acked put s.puts)
        ∙ since_stays (end true) past block (writes_since sent owed)
        (since_below (length past) sent owed owed_below) s.later.some failed_still ∙ s.later_since;
    later_since = tt;
    used = s.used;
    owes = λ is_zero marked. since_during true put s.puts s.owes;
  }
  writing2_ended false entry put stamp later since s = record {
    content = s.content;
    asks = s.asks;
    puts = closed false;
    stamp = owed_stamp stamp s.stamp;
    later = nothing_later false;
    since = dirty_again s.stamp.some;
    later_since = tt;
    used = s.used;
    owes = λ is_zero marked. since_during false put s.puts s.owes;
  }

  pub end_stands : (ok : Bool) (entry : Cached) (put : OpenPut) → put_by entry.state ≡ Some put
      → BlockStands wide past block (Some entry)
      → BlockStands wide (end ok ∷ past) block (Some (put_ended ok now entry))
  end_stands ok entry put opened s = by entry.state refl where
    back : (state : State) → entry.state ≡ state
        → BlockStands wide (end ok ∷ past) block (Some (put_ended ok now (record entry { state = state })))
        → BlockStands wide (end ok ∷ past) block (Some (put_ended ok now entry))
    back state is t = subst (λ st. BlockStands wide (end ok ∷ past) block
        (Some (put_ended ok now (record entry { state = st })))) (sym is) t

    by : (state : State) → entry.state ≡ state
        → BlockStands wide (end ok ∷ past) block (Some (put_ended ok now entry))
    by (Reading get) is = absurd (let clash = sym opened ∙ ap put_by is in cc)
    by Clean is = absurd (let clash = sym opened ∙ ap put_by is in cc)
    by (Dirty stamp since) is = absurd (let clash = sym opened ∙ ap put_by is in cc)
    by (Writing of stamp) is =
        back (Writing of stamp) is
        (writing_ended ok entry of stamp (with_state wide past block entry (Writing of stamp) is s))
    by (Writing2 of stamp later since) is =
        back (Writing2 of stamp later since) is
        (writing2_ended ok entry of stamp later since
        (with_state wide past block entry (Writing2 of stamp later since) is s))
