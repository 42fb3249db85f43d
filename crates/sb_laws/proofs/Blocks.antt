-- The state of each block after a history by the rules and the policy, over a store that is stale only within the
-- delays.
use Rattle.std.proofs.Common.{ℕ, ◌≡◌, ◌≤◌, ◌⊎◌, Bool, true, false, nat_eq, List, [], ◌∷◌, ◌++◌, length, Contains}
use Rattle.std.proofs.Common.{Option, Some, None, refl, sym, ◌∙◌, ap, subst, inl, inr, arith}
use Rattle.std.proofs.lemmas.Bool.{eqb-true}
use Rattle.std.proofs.lemmas.List.Elements.{Contains-append_right}
use Rattle.md5.specs.Md5.{md5}
use Rattle.sb_base.specs.declared.settings.Settings.{Settings}
use Rattle.sb_base.specs.declared.entry.Shown.{Shown}
use Rattle.sb_base.specs.declared.entry.EntryKind.{EntryKind}
use Rattle.sb_base.specs.declared.entry.EntryKind.TheVariants as kind
use Rattle.sb_base.specs.declared.entry.Entry.{Entry}
use Rattle.sb_base.specs.declared.geometry.Geometry.{Geometry}
use Rattle.sb_history.specs.Contents.{Start, zeros, overlay, FillBlocks}
use Rattle.sb_history.specs.Values.{value_of}
use Rattle.sb_history.specs.Puts.{puts_of}
use Rattle.sb_history.specs.Gets.{Fetch, fetch_of}
use Rattle.sb_history.specs.Visibility.{Delays, AnswersWithin, ShowsVisible, IsStaleWithin}
use Rattle.sb_history.specs.Durability.{possible_of}
use Rattle.sb_history.specs.Cache.{Found, cached_content, is_known_zero, zero_shown, outcome, answer_content}
use Rattle.sb_history.specs.Writes.{unacked_writes}
use Rattle.sb_history.specs.Eviction.{is_unverified}
use Rattle.sb_history.specs.Window.{expected, answer_digest, CoversDelays}
use Rattle.sb_history.specs.AccessRules.{last_reading, MayTake, EndsFetch, EndsPut, BeginsGet, BeginsPut, MayFollow}
use Rattle.sb_history.specs.AccessRules.{FollowsAccessRules}
use Rattle.sb_history.specs.CachePolicy.{FetchesUnknown, DropsVictim, PutsDirty, ObeysPolicy, FollowsCachePolicy}
use Rattle.sb_history.specs.Soundness.{IsUnwindowed}
use Rattle.sb_history.specs.Soundness.{contents_of, contents_in, IsCollisionFree, IsSoundHistory}
use Rattle.sb_laws.proofs.Ends.{ends_open, not_open_end, opening, verifies_found, zero_shown_is}
use Rattle.sb_laws.proofs.Held.{Each, Since}
use Rattle.sb_laws.proofs.Named.{Each-put-map, answer_in, puts_in, remaining_in, start_in, zeros_in}
use Rattle.sb_laws.proofs.Order.{EndedBy, Ordered}
use Rattle.sb_laws.proofs.Phases.{Holds, NewestOk, Verifies, idle, some_remains}
use Rattle.sb_laws.proofs.Shown.{IsPlain, only_or_expected, shown_is}
use Rattle.sb_laws.proofs.Sizes.{overlay_sized, value_sized, write_known}
use Rattle.sb_laws.proofs.Steps.{known_cases, step_drop, step_get_begin, step_get_end, step_known_zero, step_put_begin}
use Rattle.sb_laws.proofs.Steps.{step_put_end, step_same, step_write}
use Rattle.sb_laws.proofs.Victims.{dirty_owes, victim_is}

-- the block had this content since a place
abbrev pub HeldSince : Start → ℕ → List Entry → ℕ → List ℕ → Type 0
HeldSince start block [] p c = c ≡ start block
HeldSince start block (entry ∷ past) p c =
    Since (length past) (value_of start (entry ∷ past) block) (HeldSince start block past) p c

pub held_now : (start : Start) (block : ℕ) (past : List Entry) (c : List ℕ) → HeldSince start block past (length past) c
    → c ≡ value_of start past block
held_now start block [] c held = held
held_now start block (entry ∷ past) c (inl is) = is
held_now start block (entry ∷ past) c (inr before) = absurd (omega (arith, before.0))

abbrev pub HoldsAt : ℕ → Settings → Delays → Found → Start → List Entry → ℕ → Type 0
HoldsAt block_size settings delay found start past block =
    Holds block_size settings delay (found.body block) (start block) (length past) (last_reading past)
    (cached_content block_size found past block) (is_known_zero block_size found past block) (fetch_of past block)
    (puts_of past block) (unacked_writes block_size found past block) (value_of start past block)
    (HeldSince start block past)

-- no MD5 collision, or no digest that decides
abbrev pub DigestsDecide : ℕ → Settings → Found → Start → List Entry → Type 0
DigestsDecide block_size settings found start past =
    IsCollisionFree block_size start found past ⊎ ((block : ℕ) → IsPlain settings (found.body block))

-- what the proofs ask of a history: what IsSoundHistory and IsUnwindowed have in common
pub record IsSteady (geometry : Geometry) (settings : Settings) (found : Found) (start : Start) (delays : Delays)
    (past : List Entry) : Type 0 where
  pub sized : FillBlocks geometry.block_size start
  pub covers : CoversDelays settings delays
  pub rules : FollowsAccessRules geometry settings found past
  pub policy : FollowsCachePolicy geometry settings found past
  pub stale_within : IsStaleWithin geometry.block_size start delays past
  pub decides : DigestsDecide geometry.block_size settings found start past

pub sound_is_steady :
    (geometry : Geometry) (settings : Settings) (found : Found) (start : Start) (delays : Delays) (past : List Entry)
    → IsSoundHistory geometry settings found start delays past → IsSteady geometry settings found start delays past
sound_is_steady geometry settings found start delays past sound =
    record {
      sized = sound.sized;
      covers = sound.covers;
      rules = sound.rules;
      policy = sound.policy;
      stale_within = sound.stale_within;
      decides = inl sound.collision_free;
    }

pub unwindowed_is_steady :
    (geometry : Geometry) (settings : Settings) (found : Found) (start : Start) (past : List Entry)
    → IsUnwindowed geometry settings found start past
    → IsSteady geometry settings found start (record { order = 0; show = 0 }) past
unwindowed_is_steady geometry settings found start past plain =
    record {
      sized = plain.sized;
      covers = record { spacing = omega arith; window = inr (omega arith); off = λ none. refl };
      rules = plain.rules;
      policy = plain.policy;
      stale_within = plain.latest;
      decides = inr (λ block. (plain.off, plain.nothing block));
    }

-- one entry more
module _ (geometry : Geometry) (settings : Settings) (delay : Delays) (covers : CoversDelays settings delay)
    (found : Found) (start : Start) (past : List Entry) (block pass reading : ℕ) (later : last_reading past ≤ reading)
    (sized : length (value_of start past block) ≡ geometry.block_size) where
  took : (answer : Shown) (verify : Option (List ℕ)) (taken : Bool) → DigestsDecide geometry.block_size settings found
      start (record { pass = pass; reading = reading; kind = kind.GetEnd block answer verify taken } ∷ past)
      → ShowsVisible geometry.block_size (start block) delay (puts_of past block) (fetch_of past block) verify answer
      → EndsFetch geometry.block_size (fetch_of past block) pass answer verify taken → taken ≡ true
      → (fetch : Fetch) → fetch_of past block ≡ Some fetch → is_known_zero geometry.block_size found past block ≡ false
      → EndedBy fetch.place fetch.reading (puts_of past block) → Ordered delay (puts_of past block)
      → fetch.expect ≡ expected settings fetch.reading (puts_of past block) → Verifies (found.body block) fetch.verify
      → Each (λ c. c ≡ value_of start past block) (possible_of (start block) (puts_of past block))
      → NewestOk (puts_of past block)
      → (answer_content geometry.block_size (found.body block) answer ≡ value_of start past block)
      × (zero_shown geometry.block_size (found.body block) answer
      (is_known_zero geometry.block_size found past block) ≡ true
      → answer_content geometry.block_size (found.body block) answer ≡ zeros geometry.block_size)
  took answer verify taken free answers ends is fetch here not_zero by order expects verifies has ok =
      let others = contents_of geometry.block_size start found past in
      let new_contents = contents_in start found (kind.GetEnd block answer verify taken) in
      let contents = new_contents ++ others in
      let shows = subst (λ g. ShowsVisible geometry.block_size (start block) delay (puts_of past block) g verify answer)
      here answers in
      let may = subst (λ g. EndsFetch geometry.block_size g pass answer verify taken) here ends in
      let takes = subst (λ t. MayTake fetch.expect (answer_digest geometry.block_size verify answer) t) is may.2 in
      let put_contents = Each-put-map (Contains others) (Contains contents) (puts_of past block)
      (Contains-append_right new_contents others) (puts_in geometry.block_size start found past block) in
      let all_in = remaining_in (Contains contents) (start block) (puts_of past block)
      (start_in start found others block answer verify taken) put_contents in
      let one = some_remains (start block) (puts_of past block) (λ c. c ≡ value_of start past block) (Contains contents)
      has all_in in (
        shown_is geometry.block_size delay settings fetch.place fetch.reading (start block) (value_of start past block)
            (puts_of past block) (found.body block) (Contains contents) (subst (Contains contents) one.1 one.2)
            (here_decides free) fetch.expect verify answer
            (only_or_expected delay settings fetch.place fetch.reading (start block) (value_of start past block)
            (puts_of past block) covers by order has ok) expects
            (subst (λ v. Verifies (found.body block) v) (sym may.0) verifies) takes
            (answer_in geometry.block_size start found others block answer verify taken
            (zeros_in geometry.block_size start found past)) shows,
        zero_shown_is geometry.block_size (found.body block) answer
            (is_known_zero geometry.block_size found past block) not_zero,
      ) where
        here_decides : DigestsDecide geometry.block_size settings found start
            (record { pass = pass; reading = reading; kind = kind.GetEnd block answer verify taken } ∷ past)
            → ((a b : List ℕ) → Contains (contents_of geometry.block_size start found
            (record { pass = pass; reading = reading; kind = kind.GetEnd block answer verify taken } ∷ past)) a
            → Contains (contents_of geometry.block_size start found
            (record { pass = pass; reading = reading; kind = kind.GetEnd block answer verify taken } ∷ past)) b
            → md5 a ≡ md5 b → a ≡ b) ⊎ IsPlain settings (found.body block)
        here_decides (inl free) = inl free
        here_decides (inr plain) = inr (plain block)

  step :
      (e : EntryKind) → MayFollow geometry settings found past pass reading e → ObeysPolicy geometry settings found past
      reading e → AnswersWithin geometry.block_size start delay past e → DigestsDecide geometry.block_size settings
      found start (record { pass = pass; reading = reading; kind = e } ∷ past)
      → HoldsAt geometry.block_size settings delay found start past block → HoldsAt geometry.block_size settings delay
      found start (record { pass = pass; reading = reading; kind = e } ∷ past) block
  step (kind.KnownZero of) may obeys answers free p =
      step_known_zero geometry.block_size settings delay (found.body block) (start block) (length past)
      (last_reading past) reading later (fetch_of past block) (puts_of past block)
      (unacked_writes geometry.block_size found past block) (value_of start past block) (HeldSince start block past)
      (held_now start block past)
      (cached_content geometry.block_size found past block) (is_known_zero geometry.block_size found past block)
      (nat_eq of block)
      (λ t. let before = opening past block may.0 in (
        before.1,
        before.0,
        subst (λ b. start b ≡ zeros geometry.block_size) (eqb-true of block t) answers,
      )) p
  step (kind.Write part bytes) may obeys answers free p =
      step_write geometry.block_size settings delay (found.body block) (start block) (length past) (last_reading past)
      reading later (fetch_of past block) (puts_of past block) (unacked_writes geometry.block_size found past block)
      (value_of start past block) (HeldSince start block past) (held_now start block past)
      (cached_content geometry.block_size found past block) (is_known_zero geometry.block_size found past block)
      (outcome geometry.block_size (cached_content geometry.block_size found past block) part bytes)
      (overlay (value_of start past block) part.offset bytes) (nat_eq part.block block)
      (λ t.
      let same = eqb-true part.block block t in
      let is = write_known geometry.block_size (cached_content geometry.block_size found past block)
      (is_known_zero geometry.block_size found past block) (value_of start past block) bytes part.offset sized
      (subst (λ b. cached_content geometry.block_size found past b ≡ None
      → is_known_zero geometry.block_size found past b ≡ false
      → (part.offset ≡ 0) × (length bytes ≡ geometry.block_size)) same may.whole)
      (known_cases geometry.block_size settings delay (found.body block) (start block) (length past)
      (last_reading past) reading later (fetch_of past block) (puts_of past block)
      (unacked_writes geometry.block_size found past block) (value_of start past block)
      (HeldSince start block past) (held_now start block past)
      (cached_content geometry.block_size found past block) (is_known_zero geometry.block_size found past block) p) in (
        subst (λ b. fetch_of past b ≡ None) same may.no_get,
        is,
        ap length is ∙ overlay_sized geometry.block_size part.offset (value_of start past block) bytes sized may.fits,
      )) p
  step (kind.GetBegin of expect verify) may obeys answers free p =
      step_get_begin geometry.block_size settings delay (found.body block) (start block) (length past)
      (last_reading past) reading later (fetch_of past block) (puts_of past block)
      (unacked_writes geometry.block_size found past block) (value_of start past block) (HeldSince start block past)
      (held_now start block past)
      (cached_content geometry.block_size found past block) (is_known_zero geometry.block_size found past block)
      (record { pass = pass; place = length past; reading = reading; expect = expect; verify = verify }) refl refl
      (nat_eq of block)
      (λ t.
      let f = subst (λ b. BeginsGet settings past reading b expect) (eqb-true of block t) may in
      let g = subst (λ b. FetchesUnknown geometry.block_size found past b verify) (eqb-true of block t) obeys in (
        g.unknown,
        g.not_zero,
        f.idle_block.0,
        f.idle_block.1,
        f.expects,
        verifies_found (found.body block) (is_unverified found past block) verify g.verifies,
      )) p
  step (kind.GetEnd of answer verify taken) may obeys answers free p =
      step_get_end geometry.block_size settings delay (found.body block) (start block) (length past) (last_reading past)
      reading later (fetch_of past block) (puts_of past block) (unacked_writes geometry.block_size found past block)
      (value_of start past block) (HeldSince start block past) (held_now start block past)
      (cached_content geometry.block_size found past block) (is_known_zero geometry.block_size found past block)
      (zero_shown geometry.block_size (found.body block) answer
      (is_known_zero geometry.block_size found past block))
      (answer_content geometry.block_size (found.body block) answer) (nat_eq of block) taken
      (λ t is. not_open_end geometry.block_size (fetch_of past block) pass answer verify taken
      (subst (λ b. EndsFetch geometry.block_size (fetch_of past b) pass answer verify taken)
      (eqb-true of block t) may) is)
      (λ t is.
      let same = eqb-true of block t in
      took answer verify taken
      (subst (λ b. DigestsDecide geometry.block_size settings found start
      (record { pass = pass; reading = reading; kind = kind.GetEnd b answer verify taken } ∷ past)) same free)
      (subst (λ b. ShowsVisible geometry.block_size (start b) delay (puts_of past b)
      (fetch_of past b) verify answer) same answers)
      (subst (λ b. EndsFetch geometry.block_size (fetch_of past b) pass answer verify taken) same may) is) p
  step (kind.PutBegin of content) may obeys answers free p =
      step_put_begin geometry.block_size settings delay (found.body block) (start block) (length past)
      (last_reading past) reading later (fetch_of past block) (puts_of past block)
      (unacked_writes geometry.block_size found past block) (value_of start past block) (HeldSince start block past)
      (held_now start block past)
      (cached_content geometry.block_size found past block) (is_known_zero geometry.block_size found past block) content
      pass (nat_eq of block) covers.spacing sized
      (λ t.
      let f = subst (λ b. BeginsPut geometry settings found past reading b content) (eqb-true of block t) may in
      let g = subst (λ b. PutsDirty geometry settings found past reading b content) (eqb-true of block t) obeys in
      (f.cached, f.idle_block.1, dirty_owes geometry.block_size found past block g.dirty, f.spaced)) p
  step (kind.PutEnd of ok) may obeys answers free p =
      step_put_end geometry.block_size settings delay (found.body block) (start block) (length past) (last_reading past)
      reading later (fetch_of past block) (puts_of past block) (unacked_writes geometry.block_size found past block)
      (value_of start past block) (HeldSince start block past) (held_now start block past)
      (cached_content geometry.block_size found past block)
      (is_known_zero geometry.block_size found past block) (nat_eq of block) ok
      (λ t. ends_open (puts_of past block) pass (subst (λ b. EndsPut (puts_of past b) pass)
      (eqb-true of block t) may)) p
  step (kind.Dropped of) may obeys answers free p =
      step_drop geometry.block_size settings delay (found.body block) (start block) (length past) (last_reading past)
      reading later (fetch_of past block) (puts_of past block) (unacked_writes geometry.block_size found past block)
      (value_of start past block) (HeldSince start block past) (held_now start block past)
      (cached_content geometry.block_size found past block) (is_known_zero geometry.block_size found past block)
      (nat_eq of block)
      (λ t. victim_is geometry.block_size geometry.blocks found past block
      (subst (λ b. DropsVictim geometry settings found past reading b) (eqb-true of block t) obeys).is_victim) p
  step e may obeys answers free p =
      step_same geometry.block_size settings delay (found.body block) (start block) (length past) (last_reading past)
      reading later (fetch_of past block) (puts_of past block) (unacked_writes geometry.block_size found past block)
      (value_of start past block) (HeldSince start block past) (held_now start block past)
      (cached_content geometry.block_size found past block) (is_known_zero geometry.block_size found past block) p

-- what was free of collisions before is
free_before : (block_size : ℕ) (settings : Settings) (start : Start) (found : Found) (entry : Entry) (past : List Entry)
    → DigestsDecide block_size settings found start (entry ∷ past) → DigestsDecide block_size settings found start past
free_before block_size settings start found entry past (inl free) =
    let new_contents = contents_in start found entry.kind in
    let others = contents_of block_size start found past in
    inl (λ a b in_a in_b same. free a b (Contains-append_right new_contents others a in_a)
    (Contains-append_right new_contents others b in_b) same)
free_before block_size settings start found entry past (inr plain) = inr plain

pub steady_before :
    (geometry : Geometry) (settings : Settings) (found : Found) (start : Start) (delay : Delays) (entry : Entry)
    (past : List Entry) → IsSteady geometry settings found start delay (entry ∷ past) → IsSteady geometry settings
    found start delay past
steady_before geometry settings found start delay entry past steady =
    record {
      sized = steady.sized;
      covers = steady.covers;
      rules = steady.rules.2;
      policy = steady.policy.2;
      stale_within = steady.stale_within.1;
      decides = free_before geometry.block_size settings start found entry past steady.decides;
    }

pub blocks_hold :
    (geometry : Geometry) (settings : Settings) (found : Found) (start : Start) (delay : Delays) (past : List Entry)
    → IsSteady geometry settings found start delay past → (block : ℕ)
    → HoldsAt geometry.block_size settings delay found start past block
blocks_hold geometry settings found start delay [] steady block =
    (idle refl refl tt tt refl, ((λ p below all. refl), tt), (λ known_zero. absurd (cc)), λ not_null nil. tt)
blocks_hold geometry settings found start delay (entry ∷ past) steady block =
    step geometry settings delay steady.covers found start past block entry.pass entry.reading steady.rules.1
    (value_sized geometry settings found start past steady.sized steady.rules.2 block) entry.kind steady.rules.0
    steady.policy.0 steady.stale_within.0 steady.decides
    (blocks_hold geometry settings found start delay past
    (steady_before geometry settings found start delay entry past steady) block)
