-- A handshake, and the session behind it.
use Rattle.std.proofs.Common.{ℕ, ◌≤◌, Bool, List, [], Option, Result, Ok, Err}
use Rattle.std.proofs.Common.{refl, inl, inr, arith}
use Rattle.std.specs.Int.{w32, to_be_bytes}
use Rattle.sb_world.specs.Streams.{Takes, Holds, WriteHolds}
use Rattle.sb_nbd.specs.declared.end.NbdEnd.{NbdEnd}
use Rattle.sb_nbd.specs.declared.end.NbdEnd.TheVariants as nbd
use Rattle.sb_nbd.specs.declared.export.Export.{Export}
use Rattle.sb_nbd.specs.Numbers.{max_flags}
use Rattle.sb_nbd.specs.Greetings.{greeting_bytes, StopsFlags}
use Rattle.sb_world.proofs.Streaming.{takes_nothing}
use Rattle.sb_crew.specs.Bases.{Base}
use Rattle.sb_crew.specs.Scenes.{Deed}
use Rattle.sb_session.specs.Streams.{Streams, Moves, streams_at}
use Rattle.sb_session.specs.declared.end.SessionEnd.{SessionEnd}
use Rattle.sb_session.specs.declared.end.SessionEnd.TheVariants.{Fault}
use Rattle.sb_session.specs.Haggling.{end_of, export_of, NegotiationEnds}
use Rattle.sb_session.specs.Handshakes.{Opened, Unopened, OpeningEnds}
use Rattle.sb_session.specs.Turns.{TurnsEnd}
use Rattle.sb_session.specs.Transcripts.{deed_in}
use Rattle.sb_session.specs.Sessions.{Served}
use Rattle.sb_session.proofs.Inputs.{all_answered}
use Rattle.sb_session.proofs.Joins.{moves_both}

pub greeting_fails : (export : Export) (a ha hb : Option (List ℕ)) (fault : NbdEnd)
    → WriteHolds ha hb (Err fault) greeting_bytes
    → Unopened export (streams_at a ha) (streams_at a hb) (Fault nbd.WriteFault)
greeting_fails export a ha hb fault held = record {
  bytes = [];
  out = held.0;
  moved = record { taken = takes_nothing a; held = held.3 };
  why = inl (record { none = refl; front = (held.1, held.2); fault = refl });
}

pub flags_end : (export : Export) (a b ha hb : Option (List ℕ)) (reading : NbdEnd)
    → Holds ha hb greeting_bytes → ((bytes : List ℕ) × Takes a b bytes × StopsFlags b bytes reading)
    → Unopened export (streams_at a ha) (streams_at b hb) (end_of reading)
flags_end export a b ha hb reading held read = record {
  bytes = read.0;
  out = greeting_bytes;
  moved = record { taken = read.1; held = held };
  why = inr (inl (record { written_is = refl; reading = reading; stops = read.2; end_is = refl }));
}

-- the greeting and the client's flags, and what the options came to
pub negotiated : (export : Export) (a b ha hb : Option (List ℕ)) (after : Streams) (flags : ℕ)
    (result : Result ℕ SessionEnd) → Holds ha hb greeting_bytes → Takes a b (to_be_bytes w32 flags) → flags ≤ max_flags
    → NegotiationEnds export flags (streams_at b hb) after result → OpeningEnds export (streams_at a ha) after result
negotiated export a b ha hb after flags (Ok n) held first known more =
    let front : Moves (streams_at a ha) (streams_at b hb) (to_be_bytes w32 flags) greeting_bytes =
    record { taken = first; held = held } in
    record {
      flags = flags;
      known = known;
      options = more.options;
      last = more.last;
      count = more.count;
      within = more.within;
      haggled = record { answered = more.answered; begins = more.begins };
      moved = moves_both front more.moved;
    }
negotiated export a b ha hb after flags (Err end) held first known more =
    let front : Moves (streams_at a ha) (streams_at b hb) (to_be_bytes w32 flags) greeting_bytes =
    record { taken = first; held = held } in
    record {
      bytes = _;
      out = _;
      moved = moves_both front more.moved;
      why = inr (inr (record {
        flags = flags;
        known = known;
        options = more.options;
        answered = more.answered;
        within = more.within;
        tail = more.tail;
        out = more.out;
        taken_is = refl;
        written_is = refl;
        why = more.why;
      }));
    }

-- a handshake, and the turns behind it
pub served : (read_only : Bool) (base : Base) (n : ℕ) (a b c : Streams) (did : Deed → Type 0) (end : SessionEnd)
    → Opened (export_of base.geometry read_only) a b n → (ends : TurnsEnd read_only base n b c did end)
    → Served read_only base a c end (deed_in ends.stopped.transcript)
served read_only base n a b c did end opened ends =
    let s = ends.stopped in
    record {
      flags = opened.flags;
      known = opened.known;
      options = opened.options;
      last = opened.last;
      haggled = opened.haggled;
      transcript = s.transcript;
      answered = s.answered;
      deed_is = refl;
      tail = s.tail;
      out = s.out;
      moved = moves_both opened.moved s.moved;
      stops = s.stops;
      writes = s.writes;
      within = omega (arith, s.count, opened.count, ends.within);
      spent = λ e. omega (arith, s.count, opened.count, ends.spent e);
      unspent = λ e. ends.unspent (omega (arith, s.count, opened.count, e));
      input = λ rest told.
          let all = all_answered read_only base b c did end ends.n rest told s in
          (all.0, opened.moved.taken.told all.0 all.1, all.2);
    }
