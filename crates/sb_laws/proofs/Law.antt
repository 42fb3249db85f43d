-- The laws: reads are those of registers, flushes are durable, and what a crash leaves was there since the last flush.
use Rattle.std.proofs.Common.{ℕ, suc, ◌≡◌, ◌<◌, ◌≤◌, ◌⊎◌, Bool, true, false, ◌&&◌, if◌then◌else◌, nat_eq, nat_le, max}
use Rattle.std.proofs.Common.{List, [], ◌∷◌, length, Contains, unwrap_or, Option, Some, None, refl, sym, subst, inl}
use Rattle.std.proofs.Common.{inr, arith}
use Rattle.std.specs.List.{list_all}
use Rattle.std.proofs.lemmas.Bool.{eqb-true, leb-true, le-leb}
use Rattle.std.proofs.lemmas.Bool.Decides.{leb_tells}
use Rattle.sb_base.specs.declared.part.Part.{Part}
use Rattle.sb_base.specs.declared.geometry.Geometry.{Geometry}
use Rattle.sb_base.specs.declared.settings.Settings.{Settings}
use Rattle.sb_base.specs.declared.entry.EntryKind.{EntryKind}
use Rattle.sb_base.specs.declared.entry.EntryKind.TheVariants as kind
use Rattle.sb_base.specs.declared.entry.Entry.{Entry}
use Rattle.sb_history.specs.Contents.{Start, zeros, part_bytes}
use Rattle.sb_history.specs.Values.{value_of, values_since, ReadsLatest, IsLegal}
use Rattle.sb_history.specs.Puts.{Put, Ending, puts_of, ended}
use Rattle.sb_history.specs.Gets.{fetch_of}
use Rattle.sb_history.specs.Visibility.{Delays}
use Rattle.sb_history.specs.Flushes.{flush_place, flush_place_after, flushed_place, flushed_place_after, last_number}
use Rattle.sb_history.specs.Durability.{possible_of, FlushIsDurable, FlushesAreDurable, IsCrashDurable, OnlyHeldSince}
use Rattle.sb_history.specs.Cache.{Found, cached_content, is_known_zero}
use Rattle.sb_history.specs.Writes.{is_nil, unacked_writes, is_unstamped_by}
use Rattle.sb_history.specs.AccessRules.{last_reading, NoneStamped, CarriesPart, EndsPut, BeginsPut, MayFollow}
use Rattle.sb_history.specs.Laws.{SoundIsLegal, SoundFlushes, SoundSurvivesCrash, UnwindowedIsLegal, UnwindowedFlushes}
use Rattle.sb_history.specs.Laws.{UnwindowedSurvivesCrash}
use Rattle.sb_laws.proofs.Blocks.{HeldSince, HoldsAt, IsSteady, blocks_hold, held_now, sound_is_steady, steady_before}
use Rattle.sb_laws.proofs.Blocks.{unwindowed_is_steady}
use Rattle.sb_laws.proofs.Held.{Each, Each-map, From, From-nil, Had}
use Rattle.sb_laws.proofs.Shown.{contained}
use Rattle.sb_laws.proofs.Steps.{known_cases}

-- what is cached of a block is its content
pub cached_is :
    (block_size : ℕ) (settings : Settings) (delay : Delays) (found : Found) (start : Start) (past : List Entry)
    (block : ℕ) → HoldsAt block_size settings delay found start past block
    → (cached_content block_size found past block ≡ Some (value_of start past block))
    ⊎ ((cached_content block_size found past block ≡ None)
    × (is_known_zero block_size found past block ≡ true → value_of start past block ≡ zeros block_size))
cached_is block_size settings delay found start past block holds =
    known_cases block_size settings delay (found.body block) (start block) (length past) (last_reading past)
    (last_reading past) (omega arith) (fetch_of past block) (puts_of past block)
    (unacked_writes block_size found past block) (value_of start past block) (HeldSince start block past)
    (held_now start block past)
    (cached_content block_size found past block) (is_known_zero block_size found past block) holds

-- reads
pub reads_latest :
    (block_size : ℕ) (k : Option (List ℕ)) (absent : Bool) (content : List ℕ) (part : Part) (bytes : List ℕ)
    → (k ≡ Some content) ⊎ ((k ≡ None) × (absent ≡ true → content ≡ zeros block_size))
    → CarriesPart block_size k absent part bytes → bytes ≡ part_bytes content part
reads_latest block_size k absent content part bytes (inl some) carries =
    subst (λ o. CarriesPart block_size o absent part bytes) some carries
reads_latest block_size k true content part bytes (inr none) carries =
    let is = subst (λ o. CarriesPart block_size o true part bytes) none.0 carries in
    rw (none.1 refl) is
reads_latest block_size k false content part bytes (inr none) carries =
    absurd (subst (λ o. CarriesPart block_size o false part bytes) none.0 carries)

latest :
    (geometry : Geometry) (settings : Settings) (delay : Delays) (found : Found) (start : Start) (past : List Entry)
    (pass reading : ℕ) (e : EntryKind) →
    ((block : ℕ) → HoldsAt geometry.block_size settings delay found start past block) → MayFollow geometry settings
    found past pass reading e → ReadsLatest start past e
latest geometry settings delay found start past pass reading (kind.Read part bytes) holds may =
    reads_latest geometry.block_size (cached_content geometry.block_size found past part.block)
    (is_known_zero geometry.block_size found past part.block) (value_of start past part.block) part bytes
    (cached_is geometry.block_size settings delay found start past part.block (holds part.block)) may
latest geometry settings delay found start past pass reading e holds may = tt

is_legal :
    (geometry : Geometry) (settings : Settings) (found : Found) (start : Start) (delay : Delays) (past : List Entry)
    → IsSteady geometry settings found start delay past → IsLegal start past
is_legal geometry settings found start delay [] steady = tt
is_legal geometry settings found start delay (entry ∷ past) steady =
    let before = steady_before geometry settings found start delay entry past steady in (
      latest geometry settings delay found start past entry.pass entry.reading entry.kind
          (blocks_hold geometry settings found start delay past before) steady.rules.0,
      is_legal geometry settings found start delay past before,
    )

-- flushes
contains_cons : (x y : List ℕ) (xs : List (List ℕ)) → Contains xs x → Contains (y ∷ xs) x
contains_cons x y xs at = (suc at.0, omega (arith, at.1), at.2)

held_if : (start : Start) (block p : ℕ) (past : List Entry) (y c : List ℕ) (b : Bool) → b ≡ true
    → Contains (values_since start p past block) c
    → Contains (y ∷ (if b then values_since start p past block else [])) c
held_if start block p past y c true is at = contains_cons c y (values_since start p past block) at
held_if start block p past y c false is at = absurd (cc)

held_contained : (start : Start) (block p : ℕ) (past : List Entry) (c : List ℕ) → HeldSince start block past p c
    → Contains (values_since start p past block) c
held_contained start block p [] c held = (0, omega arith, sym held)
held_contained start block p (entry ∷ past) c (inl is) = (0, omega arith, sym is)
held_contained start block p (entry ∷ past) c (inr before) =
    held_if start block p past (value_of start (entry ∷ past) block) c (nat_le p (length past))
    (le-leb p (length past) before.0) (held_contained start block p past c before.1)

-- a flush that began stands in the history
abbrev Below : ℕ → Option ℕ → Type 0
Below n None = Unit {0}
Below n (Some place) = place ≤ n

below_if : (n : ℕ) (t : Bool) (a b : Option ℕ) → Below n a → Below n b → Below n (if t then a else b)
below_if n true a b x y = x
below_if n false a b x y = y

Below-later : (n : ℕ) (place : Option ℕ) → Below n place → Below (suc n) place
Below-later n None below = tt
Below-later n (Some place) below = omega (arith, below)

below_after : (mark n : ℕ) (e : EntryKind) (before : Option ℕ) → Below n before
    → Below (suc n) (flush_place_after mark n e before)
below_after mark n (kind.FlushBegin of) before below =
    below_if (suc n) (nat_eq of mark) (Some n) before (omega arith) (Below-later n before below)
below_after mark n e before below = Below-later n before below

flush_place_below : (past : List Entry) (mark : ℕ) → Below (length past) (flush_place past mark)
flush_place_below [] mark = tt
flush_place_below (entry ∷ past) mark =
    below_after mark (length past) entry.kind (flush_place past mark) (flush_place_below past mark)

both_true : (a b : Bool) → (a && b) ≡ true → (a ≡ true) × (b ≡ true)
both_true true b is = (refl, is)
both_true false b is = absurd (cc)

all_from : (place : ℕ) (writes : List ℕ) → list_all (λ write. nat_le place write) writes ≡ true → From place writes
all_from place [] all = tt
all_from place (w ∷ ws) all =
    let both = both_true (nat_le place w) (list_all (λ write. nat_le place write) ws) all in
    (leb-true place w both.0, all_from place ws both.1)

unstamped_from : (mark place : ℕ) (writes : List ℕ) → (t : Bool)
    → (if t then is_nil writes else list_all (λ write. nat_le place write) writes) ≡ true → From place writes
unstamped_from mark place writes true is = From-nil place writes is
unstamped_from mark place writes false is = all_from place writes is

-- each content that the store may come to hold, the block had since a place
abbrev EachSince : Start → ℕ → List Entry → ℕ → Type 0
EachSince start place past block =
    Each (HeldSince start block past place) (possible_of (start block) (puts_of past block))

done_since : (block_size : ℕ) (settings : Settings) (delay : Delays) (found : Found) (start : Start) (past : List Entry)
    (mark place : ℕ) → place ≤ length past → (block : ℕ) → HoldsAt block_size settings delay found start past block
    → is_unstamped_by mark place (unacked_writes block_size found past block) ≡ true → EachSince start place past block
done_since block_size settings delay found start past mark place below block holds none =
    let from = unstamped_from mark place (unacked_writes block_size found past block) (nat_eq mark last_number) none in
    Each-map (Had (HeldSince start block past) (length past) (unacked_writes block_size found past block))
    (HeldSince start block past place) (possible_of (start block) (puts_of past block))
    (λ c had. had place below from) holds.1

only_held : (start : Start) (past : List Entry) (place : ℕ) → ((block : ℕ) → EachSince start place past block)
    → OnlyHeldSince start (Some place) past
only_held start past place each block content remains =
    held_contained start block place past content (contained (HeldSince start block past place) content
    (possible_of (start block) (puts_of past block)) remains.0 (each block) remains.1 remains.2)

flush_holds :
    (geometry : Geometry) (settings : Settings) (delay : Delays) (found : Found) (start : Start) (past : List Entry)
    (mark : ℕ) (place : Option ℕ) → Below (length past) place →
    ((block : ℕ) → HoldsAt geometry.block_size settings delay found start past block)
    → NoneStamped geometry.block_size found past mark place → OnlyHeldSince start place past
flush_holds geometry settings delay found start past mark None below holds none = none
flush_holds geometry settings delay found start past mark (Some place) below holds none =
    only_held start past place (λ block. done_since geometry.block_size settings delay found start past mark place
    below block (holds block) (none block))

flush_is_durable :
    (geometry : Geometry) (settings : Settings) (delay : Delays) (found : Found) (start : Start) (past : List Entry)
    (pass reading : ℕ) (e : EntryKind) →
    ((block : ℕ) → HoldsAt geometry.block_size settings delay found start past block) → MayFollow geometry settings
    found past pass reading e → FlushIsDurable start past e
flush_is_durable geometry settings delay found start past pass reading (kind.FlushDone mark) holds may =
    flush_holds geometry settings delay found start past mark (flush_place past mark) (flush_place_below past mark)
    holds may
flush_is_durable geometry settings delay found start past pass reading e holds may = tt

are_durable :
    (geometry : Geometry) (settings : Settings) (found : Found) (start : Start) (delay : Delays) (past : List Entry)
    → IsSteady geometry settings found start delay past → FlushesAreDurable start past
are_durable geometry settings found start delay [] steady = tt
are_durable geometry settings found start delay (entry ∷ past) steady =
    let before = steady_before geometry settings found start delay entry past steady in (
      flush_is_durable geometry settings delay found start past entry.pass entry.reading entry.kind
          (blocks_hold geometry settings found start delay past before) steady.rules.0,
      are_durable geometry settings found start delay past before,
    )

-- crashes
acked_is_possible :
    (Q : List ℕ → Type 0) (start : List ℕ) (ending : Ending) (pass : ℕ) (puts : List Put) → EndsPut puts pass
    → Each Q (possible_of start puts) → Each Q (possible_of start (ended ending puts))
acked_is_possible Q start ending pass [] ends all = absurd ends
acked_is_possible Q start ending pass (put ∷ puts) ends all =
    let others = rw ends.0 at all.1 in (all.0, fewer ending.ok others) where
      fewer : (ok : Bool) → Each Q (possible_of start puts) → Each Q (if ok then [] else possible_of start puts)
      fewer true others = tt
      fewer false others = others

either_possible :
    (Q : List ℕ → Type 0) (start : List ℕ) (t : Bool) (a b : List Put) → (t ≡ true → Each Q (possible_of start a))
    → Each Q (possible_of start b) → Each Q (possible_of start (if t then a else b))
either_possible Q start true a b x y = x refl
either_possible Q start false a b x y = y

put_is_value :
    (k : Option (List ℕ)) (put content : List ℕ) (P : Type 0) → (k ≡ Some content) ⊎ ((k ≡ None) × P) → k ≡ Some put
    → put ≡ content
put_is_value k put content P (inl some) is = cc
put_is_value k put content P (inr none) is = let wrong = none.0 in absurd (cc)

-- an event keeps what was held
keeps : (geometry : Geometry) (settings : Settings) (delay : Delays) (found : Found) (start : Start) (past : List Entry)
    (pass reading place block : ℕ) (e : EntryKind) → place ≤ length past → HoldsAt geometry.block_size settings delay
    found start past block
    → MayFollow geometry settings found past pass reading e → EachSince start place past block
    → EachSince start place (record { pass = pass; reading = reading; kind = e } ∷ past) block
keeps geometry settings delay found start past pass reading place block (kind.PutBegin of content) below holds may each
    =
    let entry : Entry = record { pass = pass; reading = reading; kind = kind.PutBegin of content } in
    let lifted = Each-map (HeldSince start block past place) (HeldSince start block (entry ∷ past) place)
    (possible_of (start block) (puts_of past block)) (λ c held. inr (below, held)) each in
    either_possible (HeldSince start block (entry ∷ past) place) (start block) (nat_eq of block)
    (record {
      content = content;
      pass = pass;
      place = length past;
      reading = reading;
      ending = None;
    } ∷ puts_of past block) (puts_of past block)
    (λ t.
    let begins = subst (λ b. BeginsPut geometry settings found past reading b content) (eqb-true of block t) may in (
      inl (put_is_value (cached_content geometry.block_size found past block) content (value_of start past block) _
          (cached_is geometry.block_size settings delay found start past block holds) begins.cached),
      lifted,
    )) lifted
keeps geometry settings delay found start past pass reading place block (kind.PutEnd of ok) below holds may each =
    let entry : Entry = record { pass = pass; reading = reading; kind = kind.PutEnd of ok } in
    let lifted = Each-map (HeldSince start block past place) (HeldSince start block (entry ∷ past) place)
    (possible_of (start block) (puts_of past block)) (λ c held. inr (below, held)) each in
    either_possible (HeldSince start block (entry ∷ past) place) (start block) (nat_eq of block)
    (ended (record { place = length past; reading = reading; ok = ok }) (puts_of past block)) (puts_of past block)
    (λ t. acked_is_possible (HeldSince start block (entry ∷ past) place) (start block)
    (record { place = length past; reading = reading; ok = ok }) pass (puts_of past block)
    (subst (λ b. EndsPut (puts_of past b) pass) (eqb-true of block t) may) lifted) lifted
keeps geometry settings delay found start past pass reading place block e below holds may each =
    let entry : Entry = record { pass = pass; reading = reading; kind = e } in
    Each-map (HeldSince start block past place) (HeldSince start block (entry ∷ past) place)
    (possible_of (start block) (puts_of past block)) (λ c held. inr (below, held)) each

max_of : (P : ℕ → Type 0) (a b : ℕ) → P a → P b → P (max a b)
max_of P a b x y = by (leb_tells a b) where
  by : ((nat_le a b ≡ true) × (a ≤ b)) ⊎ ((nat_le a b ≡ false) × (b < a)) → P (max a b)
  by (inl less) = subst P (omega (arith, less.1)) y
  by (inr more) = subst P (omega (arith, more.1)) x

-- after a flush that was done
done_or :
    (geometry : Geometry) (settings : Settings) (delay : Delays) (found : Found) (start : Start) (past : List Entry)
    (mark before block : ℕ) (place : Option ℕ) → Below (length past) place → before ≤ length past → HoldsAt
    geometry.block_size settings delay found start past block
    → NoneStamped geometry.block_size found past mark place → EachSince start before past block
    → EachSince start (max before (unwrap_or place 0)) past block × (max before (unwrap_or place 0) ≤ length past)
done_or geometry settings delay found start past mark before block None below after holds none each = absurd none
done_or geometry settings delay found start past mark before block (Some place) below after holds none each = (
  max_of (λ p. EachSince start p past block) before place each
      (done_since geometry.block_size settings delay found start past mark place below block holds (none block)),
  max_of (λ p. p ≤ length past) before place after below,
)

since_flush :
    (geometry : Geometry) (settings : Settings) (delay : Delays) (found : Found) (start : Start) (past : List Entry)
    (pass reading before block : ℕ) (e : EntryKind) → before ≤ length past → HoldsAt geometry.block_size settings
    delay found start past block
    → MayFollow geometry settings found past pass reading e → EachSince start before past block
    → EachSince start (flushed_place_after past e before) past block × (flushed_place_after past e before ≤ length past)
since_flush geometry settings delay found start past pass reading before block
    (kind.FlushDone mark) after holds may each =
    done_or geometry settings delay found start past mark before block (flush_place past mark)
    (flush_place_below past mark) after holds may each
since_flush geometry settings delay found start past pass reading before block e after holds may each = (each, after)

crash_holds :
    (geometry : Geometry) (settings : Settings) (found : Found) (start : Start) (delay : Delays) (past : List Entry)
    → IsSteady geometry settings found start delay past → (block : ℕ)
    → EachSince start (flushed_place past) past block × (flushed_place past ≤ length past)
crash_holds geometry settings found start delay [] steady block = ((refl, tt), omega arith)
crash_holds geometry settings found start delay (entry ∷ past) steady block =
    let steady' = steady_before geometry settings found start delay entry past steady in
    let before = crash_holds geometry settings found start delay past steady' block in
    let holds = blocks_hold geometry settings found start delay past steady' block in
    let after = since_flush geometry settings delay found start past entry.pass entry.reading (flushed_place past) block
    entry.kind before.1 holds steady.rules.0 before.0 in (
      keeps geometry settings delay found start past entry.pass entry.reading
          (flushed_place_after past entry.kind (flushed_place past)) block entry.kind after.1 holds steady.rules.0
          after.0,
      omega (arith, after.1),
    )

pub is_crash_durable :
    (geometry : Geometry) (settings : Settings) (found : Found) (start : Start) (delay : Delays) (past : List Entry)
    → IsSteady geometry settings found start delay past → IsCrashDurable start past
is_crash_durable geometry settings found start delay [] steady =
    only_held start [] 0 (λ block. (crash_holds geometry settings found start delay [] steady block).0)
is_crash_durable geometry settings found start delay (entry ∷ past) steady = (
  only_held start (entry ∷ past) (flushed_place (entry ∷ past))
      (λ block. (crash_holds geometry settings found start delay (entry ∷ past) steady block).0),
  is_crash_durable geometry settings found start delay past
      (steady_before geometry settings found start delay entry past steady),
)

-- the laws of a sound history
pub sound_is_legal : SoundIsLegal
sound_is_legal geometry settings found start delays past sound =
    is_legal geometry settings found start delays past (sound_is_steady geometry settings found start delays past sound)

pub sound_flushes : SoundFlushes
sound_flushes geometry settings found start delays past sound =
    are_durable geometry settings found start delays past
    (sound_is_steady geometry settings found start delays past sound)

pub sound_survives_crash : SoundSurvivesCrash
sound_survives_crash geometry settings found start delays past sound =
    is_crash_durable geometry settings found start delays past
    (sound_is_steady geometry settings found start delays past sound)

-- the same without a window
pub unwindowed_is_legal : UnwindowedIsLegal
unwindowed_is_legal geometry settings found start past plain =
    is_legal geometry settings found start (record { order = 0; show = 0 }) past
    (unwindowed_is_steady geometry settings found start past plain)

pub unwindowed_flushes : UnwindowedFlushes
unwindowed_flushes geometry settings found start past plain =
    are_durable geometry settings found start (record { order = 0; show = 0 }) past
    (unwindowed_is_steady geometry settings found start past plain)

pub unwindowed_survives_crash : UnwindowedSurvivesCrash
unwindowed_survives_crash geometry settings found start past plain =
    is_crash_durable geometry settings found start (record { order = 0; show = 0 }) past
    (unwindowed_is_steady geometry settings found start past plain)
