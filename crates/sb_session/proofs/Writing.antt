-- Writing ranges, part by part, with the flush that FUA wants, and the replies.
use Rattle.std.proofs.Common.{ℕ, ◌≡◌, ◌+◌, ◌-◌, ◌∙◌, List, [], ◌∷◌, ◌++◌, length, take, drop, Ok, Err, sum_by}
use Rattle.std.proofs.Common.{append_assoc, append-nil, ap, sym, subst, refl, arith, Bool, true, false, Result}
use Rattle.std.proofs.Common.{if◌then◌else◌}
use Rattle.std.specs.List.{filter}
use Rattle.std.proofs.lemmas.List.{length-append, drop-drop}
use Rattle.std.proofs.lemmas.List.Elements.{filter-append}
use Rattle.std.proofs.lemmas.List.Sums.{sum_by-cons}
use Rattle.sb_base.specs.declared.part.Part.{Part}
use Rattle.sb_base.specs.Ranges.{parts_of}
use Rattle.sb_base.specs.declared.entry.Entry.{Entry}
use Rattle.sb_history.specs.Contents.{zeros}
use Rattle.sb_nbd.specs.Requests.{Request}
use Rattle.sb_nbd.specs.Commands.{has_fua}
use Rattle.sb_nbd.specs.declared.command.Command.{Command}
use Rattle.sb_nbd.specs.declared.command.Command.TheVariants.{Write, Flush}
use Rattle.sb_crew.specs.Bases.{Base}
use Rattle.sb_crew.specs.Scenes.{Deed, nothing, followed}
use Rattle.sb_crew.specs.Answers.{call_fault}
use Rattle.sb_crew.specs.declared.calls.CallFault.{CallFault}
use Rattle.sb_crew.specs.declared.calls.FlushFault.{FlushFault}
use Rattle.sb_crew.specs.Outcomes.{Outcome, WriteDone, outcomes_of, blocks_asked, IsBlockOf, AsksOnly, Meets, Stops}
use Rattle.sb_crew.specs.Outcomes.{Does, WriteDoes, FlushDoes, GoalEnds, flush_of}
use Rattle.sb_crew.proofs.OutcomeLemmas.{asks_join, reaches_if_none}
use Rattle.sb_session.specs.Goals.{verdict, parts_wanted, writes_of, zeros_of, fua_of, goal_of, body_of}
use Rattle.sb_session.specs.Answers.{WritesRange, FlushesWanted, WritesWanted, IsAnswer, WriteAnswers, FlushAnswers}
use Rattle.sb_session.specs.Answers.{Answers, AnswersBy, parts_asked, error_of}
use Rattle.sb_session.proofs.Reading.{all_wider, asks_more, asks_failed, met_both, stops_after, length_of}

pub writes_of-append : (ps qs : List Part) (payload : List ℕ)
    → writes_of (ps ++ qs) payload ≡ writes_of qs (drop (sum_by length_of ps) payload) ++ writes_of ps payload
writes_of-append [] qs payload = sym (append-nil (writes_of qs payload))
writes_of-append (p ∷ ps) qs payload =
    let after = drop p.length payload in
    let last = WriteDone p (take p.length payload) ∷ [] in
    let behind : drop (sum_by length_of ps) after ≡ drop (sum_by length_of (p ∷ ps)) payload =
    drop-drop (sum_by length_of ps) p.length payload
    ∙ ap (λ n. drop n payload) (sym (sum_by-cons length_of p ps)) in
    ap (λ os. os ++ last) (writes_of-append ps qs after)
    ∙ append_assoc (writes_of qs (drop (sum_by length_of ps) after)) (writes_of ps after) last
    ∙ ap (λ bytes. writes_of qs bytes ++ (writes_of ps after ++ last)) behind

-- nothing was written yet
pub writes_none : (base : Base) (did : Deed → Type 0) (payload : List ℕ) → did nothing
    → WritesRange base did [] (writes_of [] payload) (Ok tt)
writes_none base did payload done = record {
  deed = nothing;
  done = done;
  ends = record { met = refl; reached = reaches_if_none base.alone; none_fail = tt };
  asks = record { asked = tt };
}

-- the bytes that a part is written with
given : (ps : List Part) (p : Part) (at : ℕ) (payload : List ℕ) → at ≡ sum_by (λ (part : Part). part.length) ps
    → take (at + p.length - at) (drop at payload) ≡ take p.length (drop (sum_by length_of ps) payload)
given ps p at payload is =
    let width : at + p.length - at ≡ p.length = omega arith in
    ap (λ n. take n (drop at payload)) width ∙ ap (λ n. take p.length (drop n payload)) is

-- some parts were written, and one more
pub writes_more : (base : Base) (P Q R : Deed → Type 0) → ((x y : Deed) → P x → Q y → R (followed x y))
    → (ps : List Part) (p : Part) (at : ℕ) (payload : List ℕ) → at ≡ sum_by (λ (part : Part). part.length) ps
    → WritesRange base P ps (writes_of ps payload) (Ok tt) → WriteDoes base Q p (take (at + p.length - at) (drop at payload)) (Ok tt)
    → WritesRange base R (ps ++ p ∷ []) (writes_of (ps ++ p ∷ []) payload) (Ok tt)
writes_more base P Q R both ps p at payload is first second =
    let last = take p.length (drop (sum_by length_of ps) payload) in
    let more = subst (λ (bytes : List ℕ). Meets base (WriteDone p bytes ∷ []) second.deed) (given ps p at payload is)
    second.ends in
    record {
      deed = followed first.deed second.deed;
      done = both first.deed second.deed first.done second.done;
      ends = subst (λ (goal : List Outcome). Meets base goal (followed first.deed second.deed))
          (sym (writes_of-append ps (p ∷ []) payload))
          (met_both base (writes_of ps payload) (WriteDone p last ∷ []) first.deed second.deed first.ends more);
      asks = asks_more ps (p ∷ []) first.deed.entries second.deed.entries first.asks second.asks;
    }

-- some parts were written, and then a call failed
pub writes_stop : (base : Base) (P Q R : Deed → Type 0) → ((x y : Deed) → P x → Q y → R (followed x y))
    → (ps qs : List Part) (p : Part) (at : ℕ) (payload : List ℕ) (fault : CallFault)
    → at ≡ sum_by (λ (part : Part). part.length) ps → WritesRange base P ps (writes_of ps payload) (Ok tt)
    → WriteDoes base Q p (take (at + p.length - at) (drop at payload)) (Err fault)
    → WritesRange base R (ps ++ p ∷ qs) (writes_of (ps ++ p ∷ qs) payload) (Err fault)
writes_stop base P Q R both ps qs p at payload fault is first second =
    let behind = drop (sum_by length_of ps) payload in
    let last = take p.length behind in
    let stops = subst (λ (bytes : List ℕ). Stops base (WriteDone p bytes ∷ []) second.deed fault)
    (given ps p at payload is) second.ends in
    record {
      deed = followed first.deed second.deed;
      done = both first.deed second.deed first.done second.done;
      ends = stops_after base (writes_of ps payload) (WriteDone p last ∷ []) (writes_of qs (drop p.length behind))
          (writes_of (ps ++ p ∷ qs) payload) first.deed second.deed fault first.ends stops
          (sym (append_assoc (writes_of qs (drop p.length behind)) (WriteDone p last ∷ []) (writes_of ps payload))
          ∙ sym (writes_of-append ps (p ∷ qs) payload));
      asks = asks_failed ps qs p first.deed.entries second.deed.entries first.asks second.asks;
    }

-- the writes of zeros to parts, and then to more
zeros_of-append : (ps qs : List Part) → zeros_of (ps ++ qs) ≡ zeros_of qs ++ zeros_of ps
zeros_of-append [] qs = sym (append-nil (zeros_of qs))
zeros_of-append (p ∷ ps) qs =
    let last = WriteDone p (zeros p.length) ∷ [] in
    ap (λ os. os ++ last) (zeros_of-append ps qs) ∙ append_assoc (zeros_of qs) (zeros_of ps) last

-- no zeros were written yet
pub zeros_none : (base : Base) (did : Deed → Type 0) → did nothing → WritesRange base did [] (zeros_of []) (Ok tt)
zeros_none base did done = record {
  deed = nothing;
  done = done;
  ends = record { met = refl; reached = reaches_if_none base.alone; none_fail = tt };
  asks = record { asked = tt };
}

-- zeros were written to some parts, and to one more
pub zeros_more : (base : Base) (P Q R : Deed → Type 0) → ((x y : Deed) → P x → Q y → R (followed x y))
    → (ps : List Part) (p : Part) → WritesRange base P ps (zeros_of ps) (Ok tt)
    → WriteDoes base Q p (zeros p.length) (Ok tt)
    → WritesRange base R (ps ++ p ∷ []) (zeros_of (ps ++ p ∷ [])) (Ok tt)
zeros_more base P Q R both ps p first second = record {
  deed = followed first.deed second.deed;
  done = both first.deed second.deed first.done second.done;
  ends = subst (λ (goal : List Outcome). Meets base goal (followed first.deed second.deed)) (sym (zeros_of-append ps (p ∷ [])))
      (met_both base (zeros_of ps) (WriteDone p (zeros p.length) ∷ []) first.deed second.deed first.ends second.ends);
  asks = asks_more ps (p ∷ []) first.deed.entries second.deed.entries first.asks second.asks;
}

-- zeros were written to some parts, and then a call failed
pub zeros_stop : (base : Base) (P Q R : Deed → Type 0) → ((x y : Deed) → P x → Q y → R (followed x y))
    → (ps qs : List Part) (p : Part) (fault : CallFault) → WritesRange base P ps (zeros_of ps) (Ok tt)
    → WriteDoes base Q p (zeros p.length) (Err fault)
    → WritesRange base R (ps ++ p ∷ qs) (zeros_of (ps ++ p ∷ qs)) (Err fault)
zeros_stop base P Q R both ps qs p fault first second =
    let one = WriteDone p (zeros p.length) ∷ [] in
    record {
      deed = followed first.deed second.deed;
      done = both first.deed second.deed first.done second.done;
      ends = stops_after base (zeros_of ps) one (zeros_of qs) (zeros_of (ps ++ p ∷ qs)) first.deed second.deed fault
          first.ends second.ends
          (sym (append_assoc (zeros_of qs) one (zeros_of ps)) ∙ sym (zeros_of-append ps (p ∷ qs)));
      asks = asks_failed ps qs p first.deed.entries second.deed.entries first.asks second.asks;
    }

-- of some parts, one more that is kept, and others
pub one_kept : (keeps : Part → Bool) (ps qs : List Part) (p : Part) → keeps p ≡ true
    → filter keeps ps ++ (p ∷ filter keeps qs) ≡ filter keeps (ps ++ p ∷ qs)
one_kept keeps ps qs p kept = ap (λ (t : Bool). filter keeps ps ++ (if t then p ∷ filter keeps qs else filter keeps qs)) (sym kept)
    ∙ sym (filter-append keeps ps (p ∷ qs))

-- a flush that FUA wants, and how it ended
pub fua_flushed : (base : Base) (did : Deed → Type 0) (flags : ℕ) → has_fua flags ≡ true → FlushDoes base did (Ok tt)
    → FlushesWanted base did flags (Ok tt)
fua_flushed base did flags is flushed =
    let goal : fua_of flags flushed.ends.0 ≡ flush_of flushed.ends.0 =
    ap (λ (t : Bool). if t then flush_of flushed.ends.0 else []) is in
    record {
      deed = flushed.deed;
      done = flushed.done;
      asks = flushed.asks;
      ends = (
        flushed.ends.0,
        subst (λ (goal : List Outcome). GoalEnds base goal (Ok tt) flushed.deed) (sym goal) flushed.ends.1,
      );
    }

pub fua_fails : (base : Base) (did : Deed → Type 0) (flags : ℕ) (fault : FlushFault) (call : CallFault) → has_fua flags ≡ true
    → call ≡ call_fault fault → FlushDoes base did (Err fault) → FlushesWanted base did flags (Err call)
fua_fails base did flags fault call is same flushed =
    let goal : fua_of flags flushed.ends.0 ≡ flush_of flushed.ends.0 =
    ap (λ (t : Bool). if t then flush_of flushed.ends.0 else []) is in
    let fails = subst (λ (f : CallFault). GoalEnds base (flush_of flushed.ends.0) (Err f) flushed.deed) (sym same)
    flushed.ends.1 in
    record {
      deed = flushed.deed;
      done = flushed.done;
      asks = flushed.asks;
      ends = (
        flushed.ends.0,
        subst (λ (goal : List Outcome). GoalEnds base goal (Err call) flushed.deed) (sym goal) fails,
      );
    }

-- without FUA there is no flush
pub unflushed : (base : Base) (did : Deed → Type 0) (flags : ℕ) → has_fua flags ≡ false → did nothing
    → FlushesWanted base did flags (Ok tt)
unflushed base did flags other done =
    let goal : fua_of flags 0 ≡ [] = ap (λ (t : Bool). if t then flush_of 0 else []) other in
    record {
      deed = nothing;
      done = done;
      asks = record { asked = tt };
      ends = (
        0,
        subst (λ (goal : List Outcome). GoalEnds base goal (Ok tt) nothing) (sym goal)
            (record { met = refl; reached = reaches_if_none base.alone; none_fail = tt }),
      );
    }

-- what asks for no blocks asks for no others
asks_none : (parts : List Part) (xs : List Entry) → AsksOnly [] xs → AsksOnly parts xs
asks_none parts xs asks = record {
  asked = all_wider (IsBlockOf []) (IsBlockOf parts) (λ block h. absurd h) (blocks_asked xs) asks.asked;
}

-- all parts were written, and what is wanted behind them was done or failed
pub writes_flushed : (base : Base) (P Q R : Deed → Type 0) → ((x y : Deed) → P x → Q y → R (followed x y))
    → (parts : List Part) (flags : ℕ) (goal : List Outcome) (result : Result Unit CallFault)
    → WritesRange base P parts goal (Ok tt) → FlushesWanted base Q flags result
    → WritesWanted base R parts flags goal result
writes_flushed base P Q R both parts flags goal (Ok done) first second = record {
  deed = followed first.deed second.deed;
  done = both first.deed second.deed first.done second.done;
  ends = (
    second.ends.0,
    met_both base goal (fua_of flags second.ends.0) first.deed second.deed first.ends second.ends.1,
  );
  asks = asks_join parts first.deed.entries second.deed.entries first.asks
      (asks_none parts second.deed.entries second.asks);
}
writes_flushed base P Q R both parts flags goal (Err fault) first second = record {
  deed = followed first.deed second.deed;
  done = both first.deed second.deed first.done second.done;
  ends = (
    second.ends.0,
    stops_after base goal (fua_of flags second.ends.0) []
        (fua_of flags second.ends.0 ++ goal) first.deed second.deed fault first.ends second.ends.1
        refl,
  );
  asks = asks_join parts first.deed.entries second.deed.entries first.asks
      (asks_none parts second.deed.entries second.asks);
}

-- a part couldn't be written, and no flush was begun
pub writes_failed : (base : Base) (did : Deed → Type 0) (parts : List Part) (flags : ℕ) (goal : List Outcome)
    (fault : CallFault) → WritesRange base did parts goal (Err fault)
    → WritesWanted base did parts flags goal (Err fault)
writes_failed base did parts flags goal fault written =
    let stops = written.ends in
    record {
      deed = written.deed;
      done = written.done;
      asks = written.asks;
      ends = (
        0,
        record {
          missing = fua_of flags 0 ++ stops.missing;
          some = omega (arith, length-append (fua_of flags 0) stops.missing, stops.some);
          met = append_assoc (fua_of flags 0) stops.missing (outcomes_of written.deed.entries)
              ∙ ap (λ os. fua_of flags 0 ++ os) stops.met;
          reached = stops.reached;
          cause = stops.cause;
        },
      );
    }

pub write_answers : (base : Base) (did : Deed → Type 0) (parts : List Part) (flags : ℕ) (goal : List Outcome)
    → WritesWanted base did parts flags goal (Ok tt) → WriteAnswers base did parts flags goal 0
write_answers base did parts flags goal written = record {
  deed = written.deed;
  done = written.done;
  asks = written.asks;
  ends = (written.ends.0, record { result = Ok tt; ends = written.ends.1; reply = (refl, refl) });
}

pub write_fails : (base : Base) (did : Deed → Type 0) (parts : List Part) (flags : ℕ) (goal : List Outcome) (error : ℕ)
    (fault : CallFault) → error ≡ error_of fault → WritesWanted base did parts flags goal (Err fault)
    → WriteAnswers base did parts flags goal error
write_fails base did parts flags goal error fault is written = record {
  deed = written.deed;
  done = written.done;
  asks = written.asks;
  ends = (written.ends.0, record { result = Err fault; ends = written.ends.1; reply = (is, refl) });
}

pub flush_answers : (base : Base) (did : Deed → Type 0) → FlushDoes base did (Ok tt) → FlushAnswers base did 0
flush_answers base did flushed = record {
  deed = flushed.deed;
  done = flushed.done;
  asks = flushed.asks;
  ends = (flushed.ends.0, record { result = Ok tt; ends = flushed.ends.1; reply = (refl, refl) });
}

pub flush_fails : (base : Base) (did : Deed → Type 0) (error : ℕ) (fault : FlushFault)
    → error ≡ error_of (call_fault fault) → FlushDoes base did (Err fault) → FlushAnswers base did error
flush_fails base did error fault is flushed = record {
  deed = flushed.deed;
  done = flushed.done;
  asks = flushed.asks;
  ends = (flushed.ends.0, record { result = Err (call_fault fault); ends = flushed.ends.1; reply = (is, refl) });
}

-- the reply to a request that writes
pub writing_served : (did : Deed → Type 0) (read_only : Bool) (base : Base) (r : Request) (command : Command)
    (goal : List Outcome) (error : ℕ) → verdict read_only base.geometry r.wanted ≡ Ok command
    → ((mark : ℕ) → goal_of base.geometry r mark command ≡ fua_of r.wanted.flags mark ++ goal)
    → ((entries : List Entry) → body_of command entries ≡ [])
    → WriteAnswers base did (parts_wanted base.geometry r.wanted command) r.wanted.flags goal error
    → Answers did read_only base r error []
writing_served did read_only base r command goal error is goal_is none told =
    let mark = told.ends.0 in
    let entries = told.deed.entries in
    let done : Does did (parts_asked (Ok command) base.geometry r) (AnswersBy (Ok command) base r error []) = record {
      deed = told.deed;
      done = told.done;
      asks = told.asks;
      ends = (
        mark,
        subst (λ (outcomes : List Outcome). IsAnswer base outcomes (body_of command entries) told.deed error [])
            (sym (goal_is mark))
            (subst (λ (bytes : List ℕ). IsAnswer base (fua_of r.wanted.flags mark ++ goal) bytes told.deed error [])
            (sym (none entries)) told.ends.1),
      );
    } in
    subst (λ code. Does did (parts_asked code base.geometry r) (AnswersBy code base r error [])) (sym is) done

-- the reply to a WRITE
pub write_served : (did : Deed → Type 0) (read_only : Bool) (base : Base) (r : Request) (payload : List ℕ) (error : ℕ)
    → verdict read_only base.geometry r.wanted ≡ Ok Write → payload ≡ r.payload → length payload ≡ r.wanted.length
    → (let parts = parts_of base.geometry.block_size r.wanted.offset (r.wanted.offset + length payload) in
    WriteAnswers base did parts r.wanted.flags (writes_of parts payload) error) → Answers did read_only base r error []
write_served did read_only base r payload error is same len told =
    let w = r.wanted in
    let wanted = parts_wanted base.geometry w Write in
    let parts : parts_of base.geometry.block_size w.offset (w.offset + length payload) ≡ wanted =
    ap (λ n. parts_of base.geometry.block_size w.offset (w.offset + n)) len in
    writing_served did read_only base r Write (writes_of wanted r.payload) error is (λ mark. refl) (λ entries. refl)
    (subst (λ bytes. WriteAnswers base did wanted w.flags (writes_of wanted bytes) error) same
    (subst (λ ps. WriteAnswers base did ps w.flags (writes_of ps payload) error) parts told))

-- the reply to a FLUSH
pub flush_served : (did : Deed → Type 0) (read_only : Bool) (base : Base) (r : Request) (error : ℕ)
    → verdict read_only base.geometry r.wanted ≡ Ok Flush → FlushAnswers base did error
    → Answers did read_only base r error []
flush_served did read_only base r error is told =
    let flushed : Does did (parts_asked (Ok Flush) base.geometry r) (AnswersBy (Ok Flush) base r error []) = told in
    subst (λ code. Does did (parts_asked code base.geometry r) (AnswersBy code base r error [])) (sym is) flushed

-- the reply to a request that is refused
pub refused_answers : (did : Deed → Type 0) (read_only : Bool) (base : Base) (r : Request) (error : ℕ)
    → verdict read_only base.geometry r.wanted ≡ Err error → did nothing → Answers did read_only base r error []
refused_answers did read_only base r error is done =
    let refused : Does did [] (AnswersBy (Err error) base r error []) = record {
      deed = nothing;
      done = done;
      asks = record { asked = tt };
      ends = record { nothing_done = refl; number = refl; no_bytes = refl };
    } in
    subst (λ code. Does did (parts_asked code base.geometry r) (AnswersBy code base r error [])) (sym is) refused
