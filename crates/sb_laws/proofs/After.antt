-- When an answer is stale, and what the next mount reads.
use Rattle.std.proofs.Common.{ℕ, ◌≡◌, ◌+◌, ◌<◌, Bool, true, false, ◌||◌, List, [], ◌∷◌, length, Option, Some, refl, sym}
use Rattle.std.proofs.Common.{◌∙◌, ap, subst, inl, inr, arith}
use Rattle.sb_base.specs.declared.settings.Settings.{Settings}
use Rattle.sb_base.specs.declared.entry.EntryKind.{EntryKind}
use Rattle.sb_base.specs.declared.entry.EntryKind.TheVariants as kind
use Rattle.sb_base.specs.declared.entry.Entry.{Entry}
use Rattle.sb_history.specs.Contents.{Start, part_bytes}
use Rattle.sb_history.specs.Values.{value_of, value_after, writes_block, is_written}
use Rattle.sb_history.specs.Puts.{Put, puts_of}
use Rattle.sb_history.specs.Gets.{Fetch, fetch_of}
use Rattle.sb_history.specs.Visibility.{Delays, visible_contents}
use Rattle.sb_history.specs.Flushes.{flushed_place}
use Rattle.sb_history.specs.Durability.{possible_of, IsCrashDurable, OnlyHeldSince}
use Rattle.sb_history.specs.Cache.{cached_content, is_known_zero}
use Rattle.sb_history.specs.Writes.{unacked_writes}
use Rattle.sb_history.specs.Window.{expected}
use Rattle.sb_history.specs.AccessRules.{last_reading}
use Rattle.sb_history.specs.Laws.{StaleIsYoung, NextMountIsRecent}
use Rattle.sb_laws.proofs.Blocks.{HeldSince, blocks_hold, held_now, sound_is_steady}
use Rattle.sb_laws.proofs.Held.{Each}
use Rattle.sb_laws.proofs.Law.{cached_is, reads_latest, sound_survives_crash}
use Rattle.sb_laws.proofs.Order.{EndedBy, Ordered}
use Rattle.sb_laws.proofs.Phases.{Holds, NewestOk, Phase, getting, held, idle, writing}
use Rattle.sb_laws.proofs.Shown.{YoungOrOnly, shown_digest, young_or_only}
use Rattle.sb_laws.proofs.Steps.{remains}

-- what is known of a GET that is open
abbrev OpenGet : Delays → Settings → Fetch → List Put → List ℕ → List ℕ → Type 0
OpenGet delay settings fetch puts start content =
    EndedBy fetch.place fetch.reading puts × Ordered delay puts × Each (λ c. c ≡ content) (possible_of start puts)
    × NewestOk puts × (fetch.expect ≡ expected settings fetch.reading puts)

open_get : (block_size : ℕ) (settings : Settings) (delay : Delays) (found : Option (List ℕ)) (start : List ℕ) (n r : ℕ)
    (known : Option (List ℕ)) (absent : Bool) (get : Option Fetch) (puts : List Put) (owed content : List ℕ)
    (H : ℕ → List ℕ → Type 0) (now : (x : List ℕ) → H n x → x ≡ content)
    → Holds block_size settings delay found start n r known absent get puts owed content H → (fetch : Fetch)
    → get ≡ Some fetch → OpenGet delay settings fetch puts start content
open_get block_size settings delay found start n r known absent get puts owed content H now p fetch is = by p.0 where
  by : Phase block_size settings delay found n r known absent get puts owed content H
      → OpenGet delay settings fetch puts start content
  by (idle k g e o d) = absurd (cc)
  by (held k g e o) = absurd (cc)
  by (writing k g d o) = absurd (cc)
  by (getting other k g z a b e o d x v) =
      let same : other ≡ fetch = cc in
      subst (λ f. OpenGet delay settings f puts start content) same (
        e,
        o,
        remains block_size settings delay found start n r r (omega arith) get puts owed content H now d p.1,
        p.3 z d,
        x,
      )

pub stale_is_young : StaleIsYoung
stale_is_young geometry settings found start delay past sound block fetch expect answer digest is expects shows has
    differs =
    let known = open_get geometry.block_size settings delay (found.body block) (start block) (length past)
    (last_reading past) _ _ (fetch_of past block) (puts_of past block)
    (unacked_writes geometry.block_size found past block) (value_of start past block) (HeldSince start block past)
    (held_now start block past)
    (blocks_hold geometry settings found start delay past
    (sound_is_steady geometry settings found start delay past sound) block) fetch is in
    by (young_or_only delay settings fetch.place fetch.reading (start block) (value_of start past block)
    (puts_of past block) expect known.0 known.1 known.2 known.3 (sym known.4 ∙ expects)) where
      by : YoungOrOnly delay fetch.place fetch.reading (start block) (value_of start past block) (puts_of past block)
          expect → fetch.reading < expect.since + delay.show
      by (inl young) = young
      by (inr only) = absurd (differs (shown_digest geometry.block_size
          (visible_contents delay fetch.place fetch.reading (start block) (puts_of past block))
          (value_of start past block) digest fetch.verify answer only.0 shows has ∙ sym only.1))

-- a block that isn't written keeps its content
unwritten_after : (block : ℕ) (e : EntryKind) (content : List ℕ) → writes_block block e ≡ false
    → value_after block e content ≡ content
unwritten_after block (kind.Write part bytes) content is = rw is refl
unwritten_after block e content is = refl

both_false : (a b : Bool) → (a || b) ≡ false → (a ≡ false) × (b ≡ false)
both_false true b is = absurd (cc)
both_false false b is = (refl, is)

unwritten : (start : Start) (past : List Entry) (block : ℕ) → is_written past block ≡ false
    → value_of start past block ≡ start block
unwritten start [] block is = refl
unwritten start (entry ∷ past) block is =
    let both = both_false (writes_block block entry.kind) (is_written past block) is in
    unwritten_after block entry.kind (value_of start past block) both.0 ∙ unwritten start past block both.1

crash_now : (start : Start) (past : List Entry) → IsCrashDurable start past
    → OnlyHeldSince start (Some (flushed_place past)) past
crash_now start [] durable = durable
crash_now start (entry ∷ past) durable = durable.0

pub next_mount_is_recent : NextMountIsRecent
next_mount_is_recent geometry settings found start delay past sound next chosen settings' found' delay' past' sound'
    part bytes fresh carries =
    let block = part.block in
    let read = reads_latest geometry.block_size (cached_content geometry.block_size found' past' block)
    (is_known_zero geometry.block_size found' past' block) (value_of next past' block) part bytes
    (cached_is geometry.block_size settings' delay' found' next past' block
    (blocks_hold geometry settings' found' next delay' past'
    (sound_is_steady geometry settings' found' next delay' past' sound') block)) carries in (
      next block,
      crash_now start past (sound_survives_crash geometry settings found start delay past sound) block
          (next block) (chosen block),
      read ∙ ap (λ c. part_bytes c part) (unwritten next past' block fresh),
    )
