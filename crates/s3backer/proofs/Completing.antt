-- Over a kind store, with a kind clock and without faults, nothing fails but for want of memory.
use Rattle.std.proofs.Common.{ℕ, ◌≡◌, ◌≢◌, ◌≤◌, ◌⊎◌, inl, inr, Bool, true, false, if◌then◌else◌, List, [], ◌∷◌, ◌++◌, length}
use Rattle.std.proofs.Common.{Option, Some, None, Result, Ok, Err, refl, sym, ◌∙◌, ap, subst, arith, ◌+◌}
use Rattle.std.proofs.lemmas.Bool.{leb-true}
use Rattle.std.specs.List.{AllByRecursion}
use Rattle.std.proofs.lemmas.Bool.{eq-eqb}
use Rattle.std.proofs.lemmas.List.Elements.{Contains-append_right}
use Rattle.sb_base.specs.declared.geometry.Geometry.{Geometry}
use Rattle.sb_base.specs.declared.settings.Settings.{Settings}
use Rattle.sb_base.specs.declared.entry.Entry.{Entry}
use Rattle.sb_base.specs.declared.entry.EntryKind.{EntryKind}
use Rattle.sb_base.specs.declared.entry.EntryKind.TheVariants as kind
use Rattle.sb_world.specs.Told.{Rose}
use Rattle.sb_world.specs.declared.clock.Tick.{Tick}
use Rattle.sb_world.specs.declared.clock.Tick.TheVariants as tick
use Rattle.sb_world.specs.declared.link.Call.{Call}
use Rattle.sb_history.specs.Contents.{Start}
use Rattle.sb_history.specs.Cache.{Found}
use Rattle.sb_history.specs.Puts.{puts_of}
use Rattle.sb_history.specs.Gets.{Fetch, fetch_of}
use Rattle.sb_history.specs.Visibility.{Delays, ShowsVisible, ShowsOneOf, visible_contents}
use Rattle.sb_history.specs.Window.{answer_digest}
use Rattle.sb_history.specs.AccessRules.{EndsFetch}
use Rattle.sb_history.specs.Soundness.{IsSoundHistory, contents_in, contents_of}
use Rattle.sb_history.specs.Laws.{StaleIsYoung}
use Rattle.sb_core.specs.Represents.{nothing_found}
use Rattle.sb_nbd.specs.Numbers.{enomem}
use Rattle.sb_crew.specs.Bases.{Base}
use Rattle.sb_crew.specs.Scenes.{Deed}
use Rattle.sb_crew.specs.declared.calls.CallFault.{CallFault}
use Rattle.sb_crew.specs.declared.calls.CallFault.TheVariants.{StoreFault, Memory, StaleRead, ClockStalled}
use Rattle.sb_crew.specs.declared.calls.FlushFault.{FlushFault}
use Rattle.sb_crew.specs.declared.calls.FlushFault.TheVariants as flush
use Rattle.sb_crew.specs.Outcomes.{Outcome, IsUntaken, AsksLate, IsStale, IsStalled, Stops, GoalEnds, FlushEnds}
use Rattle.sb_crew.specs.Counts.{failures, Counts}
use Rattle.sb_crew.specs.Joins.{failures_join}
use Rattle.sb_nbd.specs.declared.end.NbdEnd.TheVariants as nbd
use Rattle.sb_session.specs.declared.end.SessionEnd.{SessionEnd}
use Rattle.sb_session.specs.declared.end.SessionEnd.TheVariants as end
use Rattle.sb_session.specs.Streams.{Streams}
use Rattle.sb_session.specs.Goals.{verdict, goal_of, body_of}
use Rattle.sb_nbd.specs.declared.command.Command.{Command}
use Rattle.sb_session.specs.Answers.{AnswersBy, IsReplyTo, error_of}
use Rattle.sb_session.specs.Transcripts.{Exchange, IsTranscript, deed_in}
use Rattle.sb_session.specs.Sessions.{Course}
use Rattle.s3backer.proofs.Causes.{sum_nothing, quiet_has_none, cause_fails}
use Rattle.s3backer.specs.Headline.{ClockMoves, IsServed, AllServed, flush_status, run_status, LastFlushEnds}
use Rattle.s3backer.specs.Headline.{IsClientFault}

-- what came before a sound history's newest entries is sound
module _ (geometry : Geometry) (settings : Settings) (found : Found) (start : Start) (delays : Delays) where
  past_is_sound : (entry : Entry) (past : List Entry)
      → IsSoundHistory geometry settings found start delays (entry ∷ past)
      → IsSoundHistory geometry settings found start delays past
  past_is_sound entry past sound =
      let newest = contents_in start found entry.kind in
      let older = contents_of geometry.block_size start found past in
      record {
        sized = sound.sized;
        covers = sound.covers;
        rules = sound.rules.2;
        policy = sound.policy.2;
        stale_within = sound.stale_within.1;
        collision_free = λ a b first second.
            sound.collision_free a b (Contains-append_right newest older a first)
            (Contains-append_right newest older b second);
      }

  pub older_is_sound : (newer past : List Entry) → IsSoundHistory geometry settings found start delays (newer ++ past)
      → IsSoundHistory geometry settings found start delays past
  older_is_sound [] past sound = sound
  older_is_sound (entry ∷ newer) past sound = older_is_sound newer past (past_is_sound entry (newer ++ past) sound)

  -- no GET that began so long after the put that it had to show is shown another version
  never_late : StaleIsYoung → delays.show ≤ settings.stale_limit → (pass reading number begun : ℕ)
      (ended began : EntryKind) (past : List Entry) (block : ℕ) (expected shown : List ℕ)
      → IsSoundHistory geometry settings found start delays
      (record { pass = pass; reading = reading; kind = ended } ∷ record {
        pass = number;
        reading = begun;
        kind = began;
      } ∷ past)
      → IsUntaken geometry.block_size block shown ended → AsksLate settings.stale_limit block expected begun began
      → shown ≢ expected → ⊥
  never_late law young pass reading number begun (kind.GetEnd of answer verify taken)
      (kind.GetBegin asked (Some expect) verify') past block expected shown sound untaken late other =
      let newest : Entry = record {
        pass = number;
        reading = begun;
        kind = kind.GetBegin asked (Some expect) verify';
      } in
      let fetch : Fetch = record {
        pass = number;
        place = length past;
        reading = begun;
        expect = Some expect;
        verify = verify';
      } in
      let size = geometry.block_size in
      let before = past_is_sound (record { pass = pass; reading = reading; kind = kind.GetEnd of answer verify taken })
      (newest ∷ past) sound in
      let is : fetch_of (newest ∷ past) of ≡ Some fetch =
      ap (λ (t : Bool). if t then Some fetch else fetch_of past of) (eq-eqb asked of (late.0 ∙ sym untaken.0)) in
      let ends = subst (λ (got : Option Fetch). EndsFetch size got pass answer verify taken) is sound.rules.0 in
      let shows = subst (λ (got : Option Fetch).
      ShowsVisible size (start of) delays (puts_of (newest ∷ past) of) got verify answer) is sound.stale_within.0 in
      let seen = subst (λ (v : Option (List ℕ)). ShowsOneOf size
      (visible_contents delays (length past) begun (start of) (puts_of (newest ∷ past) of)) v answer) ends.0 shows in
      let digest = subst (λ (v : Option (List ℕ)). answer_digest size v answer ≡ Some shown) ends.0 untaken.2 in
      let soon = law geometry settings found start delays (newest ∷ past) before of fetch expect answer shown is refl seen
      digest (subst (λ (d : List ℕ). shown ≢ d) (sym late.1.0) other) in
      omega (arith, soon, young, leb-true (expect.since + settings.stale_limit) begun late.1.1)
  never_late law young pass reading number begun (kind.GetEnd of answer verify taken) (kind.GetBegin asked None verify')
      past block expected shown sound untaken late other = late.1
  never_late law young pass reading number begun (kind.GetEnd of answer verify taken) began past block expected shown
      sound untaken late other = absurd late
  never_late law young pass reading number begun ended began past block expected shown sound untaken late other =
      absurd untaken

-- a call over such a store isn't stale
never_stale : (base : Base) (start : Start) (delays : Delays) → StaleIsYoung
    → delays.show ≤ base.settings.stale_limit → (entries past : List Entry) (block : ℕ) (expected shown : List ℕ)
    (begun : ℕ) → IsSoundHistory base.geometry base.settings nothing_found start delays (entries ++ past)
    → IsStale base block expected shown begun entries → ⊥
never_stale base start delays law young [] past block expected shown begun sound stale = stale
never_stale base start delays law young (ended ∷ []) past block expected shown begun sound stale = stale
never_stale base start delays law young (ended ∷ began ∷ entries) past block expected shown begun sound stale =
    never_late base.geometry base.settings nothing_found start delays law young ended.pass ended.reading began.pass
    began.reading ended.kind began.kind (entries ++ past) block expected shown sound stale.0
    (subst (λ (n : ℕ). AsksLate base.settings.stale_limit block expected n began.kind) (sym stale.2) stale.1) stale.3

-- a clock that moves is one without its newest ticks
moves_behind : (newest : Tick) (ticks : List Tick) → ClockMoves (newest ∷ ticks) → ClockMoves ticks
moves_behind (tick.Paused millis) ticks moves = moves
moves_behind (tick.Taken after) [] moves = moves
moves_behind (tick.Taken after) (tick.Taken before ∷ ticks) moves = moves
moves_behind (tick.Taken after) (tick.Paused millis ∷ []) moves = moves
moves_behind (tick.Taken after) (tick.Paused millis ∷ tick.Paused other ∷ ticks) moves = moves
moves_behind (tick.Taken after) (tick.Paused millis ∷ tick.Taken before ∷ ticks) moves = moves.1

pub older_moves : (newer ticks : List Tick) → ClockMoves (newer ++ ticks) → ClockMoves ticks
older_moves [] ticks moves = moves
older_moves (newest ∷ newer) ticks moves = older_moves newer ticks (moves_behind newest (newer ++ ticks) moves)

-- so it doesn't stand still for a call
never_stalled : (before asked after : ℕ) (entries : List Entry) (ticks older : List Tick) → ClockMoves (ticks ++ older)
    → IsStalled before asked after entries ticks → ⊥
never_stalled before asked after [] ticks older moves stalled = stalled
never_stalled before asked after (entry ∷ entries) ticks older moves stalled =
    let reached = subst (λ (ts : List Tick). ClockMoves (ts ++ older)) stalled.1.1 moves in
    omega (arith, reached.0, stalled.1.2)

module _ (read_only : Bool) (base : Base) (start : Start) (delays : Delays) (law : StaleIsYoung)
    (young : delays.show ≤ base.settings.stale_limit) where
  -- a call none of whose requests failed lacked memory
  memory_alone : (goal : List Outcome) (deed older : Deed) (fault : CallFault)
      → IsSoundHistory base.geometry base.settings nothing_found start delays (deed.entries ++ older.entries)
      → ClockMoves (deed.ticks ++ older.ticks) → failures deed.calls ≡ 0 → Stops base goal deed fault
      → error_of fault ≡ enomem
  memory_alone goal deed older (StoreFault status) sound moves none stops =
      absurd (cause_fails base status deed stops.cause none)
  memory_alone goal deed older Memory sound moves none stops = refl
  memory_alone goal deed older (StaleRead block expected shown begun) sound moves none stops =
      absurd (never_stale base start delays law young deed.entries older.entries block expected shown begun sound
      stops.cause.0)
  memory_alone goal deed older (ClockStalled before asked after) sound moves none stops =
      absurd (never_stalled before asked after deed.entries deed.ticks older.ticks moves stops.cause.0)

  answer_served : (goal : List Outcome) (bytes : List ℕ) (deed older : Deed) (error : ℕ) (body : List ℕ)
      (result : Result Unit CallFault)
      → IsSoundHistory base.geometry base.settings nothing_found start delays (deed.entries ++ older.entries)
      → ClockMoves (deed.ticks ++ older.ticks) → failures deed.calls ≡ 0 → GoalEnds base goal result deed
      → IsReplyTo result bytes error body → (error ≡ 0) ⊎ (error ≡ enomem)
  answer_served goal bytes deed older error body (Ok done) sound moves none ends reply = inl reply.0
  answer_served goal bytes deed older error body (Err fault) sound moves none ends reply =
      inr (reply.0 ∙ memory_alone goal deed older fault sound moves none ends)

  either_served : (x : Exchange) → (x.error ≡ 0) ⊎ (x.error ≡ enomem) → IsServed read_only base x
  either_served x (inl done) = inl done
  either_served x (inr lacking) = inr (inl lacking)

  reply_served : (x : Exchange) (older : Deed) (judged : Result Command ℕ)
      → verdict read_only base.geometry x.request.wanted ≡ judged
      → IsSoundHistory base.geometry base.settings nothing_found start delays (x.deed.entries ++ older.entries)
      → ClockMoves (x.deed.ticks ++ older.ticks) → failures x.deed.calls ≡ 0
      → AnswersBy judged base x.request x.error x.body x.deed → IsServed read_only base x
  reply_served x older (Err code) is sound moves none answer = inr (inr (is ∙ ap (λ n. Err n) (sym answer.number)))
  reply_served x older (Ok command) is sound moves none answer =
      either_served x (answer_served (goal_of base.geometry x.request answer.0 command)
      (body_of command x.deed.entries) x.deed older x.error x.body answer.1.result sound moves none
      answer.1.ends answer.1.reply)

  replies_served : (xs : List Exchange)
      → IsSoundHistory base.geometry base.settings nothing_found start delays (deed_in xs).entries
      → ClockMoves (deed_in xs).ticks → failures (deed_in xs).calls ≡ 0 → IsTranscript read_only base xs
      → AllByRecursion (IsServed read_only base) xs
  replies_served [] sound moves none answered = tt
  replies_served (x ∷ xs) sound moves none answered =
      let parts = sum_nothing (failures x.deed.calls) (failures (deed_in xs).calls)
      (sym (failures_join x.deed.calls (deed_in xs).calls) ∙ none) in (
        reply_served x (deed_in xs) (verdict read_only base.geometry x.request.wanted) refl sound moves parts.0
            answered.0.answer,
        replies_served xs
            (older_is_sound base.geometry base.settings nothing_found start delays x.deed.entries
            (deed_in xs).entries sound)
            (older_moves x.deed.ticks (deed_in xs).ticks moves) parts.1 answered.1,
      )

  -- each reply of a session
  pub session_served : {before after : Streams} {ended : SessionEnd} {deed : Deed}
      (course : Course read_only base before after ended deed) (flush : Deed) (faults faults' : ℕ)
      → IsSoundHistory base.geometry base.settings nothing_found start delays (flush.entries ++ deed.entries)
      → ClockMoves (flush.ticks ++ deed.ticks) → (Rose faults faults' → ⊥)
      → Counts faults faults' (flush.calls ++ deed.calls) → AllServed course
  session_served (inl unserved) flush faults faults' sound moves quiet counts = tt
  session_served {deed = deed} (inr served) flush faults faults' sound moves quiet counts =
      let none = quiet_has_none faults faults' (flush.calls ++ deed.calls) quiet counts in
      let parts = sum_nothing (failures flush.calls) (failures deed.calls)
      (sym (failures_join flush.calls deed.calls) ∙ none) in
      let here = older_is_sound base.geometry base.settings nothing_found start delays flush.entries deed.entries sound in
      let on = older_moves flush.ticks deed.ticks moves in
      replies_served served.transcript
      (subst (λ (d : Deed). IsSoundHistory base.geometry base.settings nothing_found start delays d.entries)
      served.deed_is here) (subst (λ (d : Deed). ClockMoves d.ticks) served.deed_is on)
      (ap (λ (d : Deed). failures d.calls) (sym served.deed_is) ∙ parts.1) served.answered

  -- the flush
  flush_served : (flushed : Result Unit FlushFault) (deed : Deed) (older : List Tick) → ClockMoves (deed.ticks ++ older)
      → failures deed.calls ≡ 0 → FlushEnds base flushed deed → (flush_status flushed ≡ 0) ⊎ (flush_status flushed ≡ 12)
  flush_served (Ok done) deed older moves none ends = inl refl
  flush_served (Err (flush.StoreFault status)) deed older moves none ends =
      absurd (cause_fails base status deed ends.1.cause none)
  flush_served (Err flush.Memory) deed older moves none ends = inr refl
  flush_served (Err (flush.ClockStalled before asked after)) deed older moves none ends =
      absurd (never_stalled before asked after deed.entries deed.ticks older moves ends.1.cause.0)

  -- the flush after a session
  last_served : (writes_refused : Bool) (flushed : Result Unit FlushFault) (deed : Deed) (older : List Tick)
      → ClockMoves (deed.ticks ++ older) → failures deed.calls ≡ 0 → LastFlushEnds writes_refused base flushed deed
      → (flush_status flushed ≡ 0) ⊎ (flush_status flushed ≡ 12)
  last_served true flushed deed older moves none ends = inl (ap flush_status ends.0)
  last_served false flushed deed older moves none ends = flush_served flushed deed older moves none ends

  -- the end of a run
  pub end_served : (ended : SessionEnd) (flushed : Result Unit FlushFault) (deed : Deed) (calls : List Call)
      (older : List Tick) (faults faults' : ℕ) {Read Written : Type 0} → LastFlushEnds read_only base flushed deed
      → ClockMoves (deed.ticks ++ older) → (Rose faults faults' → ⊥) → Counts faults faults' (deed.calls ++ calls)
      → (ended ≡ end.Fault nbd.ReadFault → Read) → (ended ≡ end.Fault nbd.WriteFault → Written) → (Read → ⊥)
      → (Written → ⊥) → (IsClientFault ended → ⊥)
      → (run_status ended flushed ≡ 0) ⊎ (run_status ended flushed ≡ 12)
  end_served ended flushed deed calls older faults faults' {Read = Read} {Written = Written} ends moves quiet counts
      at_read at_write read written sound =
      by ended at_read at_write sound where
        none : failures deed.calls ≡ 0
        none = (sum_nothing (failures deed.calls) (failures calls)
            (sym (failures_join deed.calls calls) ∙ quiet_has_none faults faults' (deed.calls ++ calls) quiet counts)).0

        by : (e : SessionEnd) → (e ≡ end.Fault nbd.ReadFault → Read) → (e ≡ end.Fault nbd.WriteFault → Written)
            → (IsClientFault e → ⊥) → (run_status e flushed ≡ 0) ⊎ (run_status e flushed ≡ 12)
        by end.Disconnected at_read at_write sound = last_served read_only flushed deed older moves none ends
        by end.Aborted at_read at_write sound = last_served read_only flushed deed older moves none ends
        by end.Ended at_read at_write sound = last_served read_only flushed deed older moves none ends
        by (end.NoSuchExport size) at_read at_write sound = absurd (sound tt)
        by (end.Fault nbd.Ended) at_read at_write sound = absurd (sound tt)
        by (end.Fault (nbd.Cut got)) at_read at_write sound = absurd (sound tt)
        by (end.Fault (nbd.BadMagic magic)) at_read at_write sound = absurd (sound tt)
        by (end.Fault (nbd.BadFlags flags)) at_read at_write sound = absurd (sound tt)
        by (end.Fault (nbd.TooBig size)) at_read at_write sound = absurd (sound tt)
        by (end.Fault nbd.ReadFault) at_read at_write sound = absurd (read (at_read refl))
        by (end.Fault nbd.WriteFault) at_read at_write sound = absurd (written (at_write refl))
        by end.Spent at_read at_write sound = absurd (sound tt)
