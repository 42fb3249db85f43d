-- What one request comes to.
use Rattle.std.proofs.Common.{ℕ, ◌≡◌, ◌≢◌, List, [], ◌∷◌, Option, Err, Bool, true, false, append-nil, sym, subst, refl}
use Rattle.std.proofs.Common.{arith}
use Rattle.sb_world.specs.Streams.{Takes, Holds, WriteHolds}
use Rattle.sb_nbd.specs.declared.end.NbdEnd.{NbdEnd}
use Rattle.sb_nbd.specs.declared.end.NbdEnd.TheVariants as nbd
use Rattle.sb_nbd.specs.Requests.{Request, IsRequest, request_bytes}
use Rattle.sb_nbd.specs.RequestReading.{StopsRequest}
use Rattle.sb_nbd.specs.Replies.{reply_bytes}
use Rattle.sb_world.proofs.Streaming.{holds_nothing}
use Rattle.sb_crew.specs.Bases.{Base}
use Rattle.sb_crew.specs.Scenes.{Deed, nothing}
use Rattle.sb_session.specs.Streams.{streams_at}
use Rattle.sb_session.proofs.Joins.{followed-nothing}
use Rattle.sb_session.specs.declared.end.SessionEnd.{SessionEnd}
use Rattle.sb_session.specs.declared.end.SessionEnd.TheVariants.{Disconnected, Fault, Spent}
use Rattle.sb_session.specs.Goals.{is_disc}
use Rattle.sb_session.specs.Answers.{Answers}
use Rattle.sb_session.specs.Transcripts.{Exchange}
use Rattle.sb_session.specs.Haggling.{end_of}
use Rattle.sb_session.specs.Turns.{StopsBy, Serves, TurnEnds}

stops_by : (now : Option (List ℕ)) (bytes : List ℕ) (end : NbdEnd)
    → StopsRequest now bytes end → StopsBy now bytes (end_of end)
stops_by now bytes nbd.Ended h = h
stops_by now bytes (nbd.Cut got) h = h
stops_by now bytes (nbd.BadMagic magic) h = h
stops_by now bytes (nbd.BadFlags flags) h = h
stops_by now bytes (nbd.TooBig size) h = h
stops_by now bytes nbd.ReadFault h = h
stops_by now bytes nbd.WriteFault h = absurd h

end_unspent : (end : NbdEnd) → end_of end ≢ Spent
end_unspent nbd.Ended e = cc
end_unspent (nbd.Cut got) e = cc
end_unspent (nbd.BadMagic magic) e = cc
end_unspent (nbd.BadFlags flags) e = cc
end_unspent (nbd.TooBig size) e = cc
end_unspent nbd.ReadFault e = cc
end_unspent nbd.WriteFault e = cc

-- no request, and bytes that end the session
stops_at_once : (read_only : Bool) (base : Base) (a b h : Option (List ℕ)) (did : Deed → Type 0) (tail : List ℕ) (end : SessionEnd)
    → did nothing → Takes a b tail → StopsBy b tail end → end ≢ Spent
    → TurnEnds read_only base (streams_at a h) (streams_at b h) did (Err end)
stops_at_once read_only base a b h did tail end done taken stops unspent = record {
  n = 0;
  within = omega arith;
  one = λ e. absurd (omega (arith, e));
  unspent = unspent;
  stopped = record {
    transcript = [];
    count = refl;
    answered = tt;
    done = done;
    tail = tail;
    out = [];
    moved = record { taken = taken; held = holds_nothing h };
    stops = stops;
    writes = record { missing = []; front = refl; all = λ _. refl };
  };
}

pub reading_stops : (read_only : Bool) (base : Base) (a b h : Option (List ℕ)) (did : Deed → Type 0) (end : NbdEnd) → did nothing
    → ((bytes : List ℕ) × Takes a b bytes × StopsRequest b bytes end)
    → TurnEnds read_only base (streams_at a h) (streams_at b h) did (Err (end_of end))
reading_stops read_only base a b h did end done read =
    stops_at_once read_only base a b h did read.0 (end_of end) done read.1 (stops_by b read.0 end read.2)
    (end_unspent end)

pub disc_stops : (read_only : Bool) (base : Base) (a b h : Option (List ℕ)) (did : Deed → Type 0) (r : Request)
    → did nothing → IsRequest r → is_disc r.wanted ≡ true → Takes a b (request_bytes r)
    → TurnEnds read_only base (streams_at a h) (streams_at b h) did (Err Disconnected)
disc_stops read_only base a b h did r done is disc taken =
    stops_at_once read_only base a b h did (request_bytes r) Disconnected done taken
    (r, record { request = is; disc = disc }, refl) (λ e. cc)

-- the exchange of a request that was done
abbrev exchange : Request → Deed → ℕ → List ℕ → Exchange
exchange r deed error body = record { request = r; deed = deed; error = error; body = body }

pub serves_one : (read_only : Bool) (base : Base) (a b ha hb : Option (List ℕ)) (did : Deed → Type 0)
    (r : Request) (error : ℕ) (body : List ℕ)
    → IsRequest r → is_disc r.wanted ≡ false → Answers did read_only base r error body
    → Takes a b (request_bytes r) → Holds ha hb (reply_bytes error r.wanted.cookie body)
    → Serves read_only base (streams_at a ha) (streams_at b hb) did 1
serves_one read_only base a b ha hb did r error body is goes_on answers taken held = record {
  transcript = exchange r answers.deed error body ∷ [];
  count = refl;
  answered = (record { request = is; goes_on = goes_on; answer = answers.ends; asks = answers.asks }, tt);
  done = subst did (sym (followed-nothing answers.deed)) answers.done;
  moved = record { taken = taken; held = held };
}

pub writing_stops : (read_only : Bool) (base : Base) (a b ha hb : Option (List ℕ)) (did : Deed → Type 0) (r : Request) (error : ℕ)
    (body : List ℕ) (fault : NbdEnd) → IsRequest r → is_disc r.wanted ≡ false → Answers did read_only base r error body
    → Takes a b (request_bytes r) → WriteHolds ha hb (Err fault) (reply_bytes error r.wanted.cookie body)
    → TurnEnds read_only base (streams_at a ha) (streams_at b hb) did (Err (Fault nbd.WriteFault))
writing_stops read_only base a b ha hb did r error body fault is goes_on answers taken held = record {
  n = 1;
  within = omega arith;
  one = λ _. refl;
  unspent = λ e. cc;
  stopped = record {
    transcript = exchange r answers.deed error body ∷ [];
    count = refl;
    answered = (record { request = is; goes_on = goes_on; answer = answers.ends; asks = answers.asks }, tt);
    done = subst did (sym (followed-nothing answers.deed)) answers.done;
    tail = [];
    out = held.0;
    moved = record {
      taken = subst (Takes a b) (sym (append-nil (request_bytes r))) taken;
      held = held.3;
    };
    stops = refl;
    writes = record { missing = held.1; front = held.2; all = λ other. absurd (other refl) };
  };
}
