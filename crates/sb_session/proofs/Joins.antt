-- How runs of requests join.
use Rattle.std.proofs.Common.{ℕ, ◌≡◌, ◌+◌, ◌∙◌, Bool, List, [], ◌∷◌, ◌++◌, append_assoc, append-nil, length-append}
use Rattle.std.proofs.Common.{ap, sym, subst, refl, arith}
use Rattle.sb_base.specs.declared.entry.Entry.{Entry}
use Rattle.sb_world.specs.Streams.{Takes, Holds}
use Rattle.sb_world.specs.declared.clock.Tick.{Tick}
use Rattle.sb_world.specs.declared.link.Call.{Call}
use Rattle.sb_nbd.specs.Requests.{request_bytes}
use Rattle.sb_nbd.specs.Replies.{reply_bytes}
use Rattle.sb_world.proofs.Streaming.{takes_both, takes_nothing, holds_both, holds_nothing}
use Rattle.sb_crew.specs.Bases.{Base}
use Rattle.sb_crew.specs.Scenes.{Deed, deed_of, nothing, followed}
use Rattle.sb_session.specs.declared.end.SessionEnd.{SessionEnd}
use Rattle.sb_session.specs.declared.end.SessionEnd.TheVariants.{Spent}
use Rattle.sb_session.specs.Streams.{Streams, Moves}
use Rattle.sb_session.specs.Transcripts.{Exchange, IsTranscript, deed_in, asking_bytes, replying_bytes}
use Rattle.sb_session.specs.Turns.{Serves, Stopped}

asking_bytes-append : (xs ys : List Exchange) → asking_bytes (ys ++ xs) ≡ asking_bytes xs ++ asking_bytes ys
asking_bytes-append xs [] = sym (append-nil (asking_bytes xs))
asking_bytes-append xs (y ∷ ys) = ap (λ bytes. bytes ++ request_bytes y.request) (asking_bytes-append xs ys)
    ∙ append_assoc (asking_bytes xs) (asking_bytes ys) (request_bytes y.request)

replying_bytes-append : (xs ys : List Exchange) → replying_bytes (ys ++ xs) ≡ replying_bytes xs ++ replying_bytes ys
replying_bytes-append xs [] = sym (append-nil (replying_bytes xs))
replying_bytes-append xs (y ∷ ys) =
    ap (λ bytes. bytes ++ reply_bytes y.error y.request.wanted.cookie y.body) (replying_bytes-append xs ys)
    ∙ append_assoc (replying_bytes xs) (replying_bytes ys) (reply_bytes y.error y.request.wanted.cookie y.body)

-- deeds one after the other, in either grouping
followed-assoc : (x y z : Deed) → followed (followed x y) z ≡ followed x (followed y z)
followed-assoc x y z =
    let es = z.entries ++ (y.entries ++ x.entries) in
    let cs = z.calls ++ (y.calls ++ x.calls) in
    let ts = (z.ticks ++ y.ticks) ++ x.ticks in
    ap (λ (ticks : List Tick). deed_of es cs ticks) (sym (append_assoc z.ticks y.ticks x.ticks))
    ∙ ap (λ (calls : List Call). deed_of es calls ts) (sym (append_assoc z.calls y.calls x.calls))
    ∙ ap (λ (entries : List Entry). deed_of entries ((z.calls ++ y.calls) ++ x.calls) ts)
    (sym (append_assoc z.entries y.entries x.entries))

-- nothing, and then a deed
pub followed-nothing : (x : Deed) → followed nothing x ≡ x
followed-nothing x =
    ap (λ (ticks : List Tick). deed_of (x.entries ++ []) (x.calls ++ []) ticks) (append-nil x.ticks)
    ∙ ap (λ (calls : List Call). deed_of (x.entries ++ []) calls x.ticks) (append-nil x.calls)
    ∙ ap (λ (entries : List Entry). deed_of entries x.calls x.ticks) (append-nil x.entries)

deed_in-append : (xs ys : List Exchange) → deed_in (ys ++ xs) ≡ followed (deed_in xs) (deed_in ys)
deed_in-append xs [] = refl
deed_in-append xs (y ∷ ys) = ap (λ (deed : Deed). followed deed y.deed) (deed_in-append xs ys)
    ∙ followed-assoc (deed_in xs) (deed_in ys) y.deed

-- bytes taken and written, and then more
pub moves_both : {a b c : Streams} {xs ys us vs : List ℕ} → Moves a b xs us → Moves b c ys vs
    → Moves a c (xs ++ ys) (us ++ vs)
moves_both first second = record {
  taken = takes_both first.taken second.taken;
  held = holds_both first.held second.held;
}

pub moves_nothing : (a : Streams) → Moves a a [] []
moves_nothing a = record { taken = takes_nothing a.left; held = holds_nothing a.held }

transcripts_join : (read_only : Bool) (base : Base) (xs ys : List Exchange) → IsTranscript read_only base xs
    → IsTranscript read_only base ys → IsTranscript read_only base (ys ++ xs)
transcripts_join read_only base xs [] first second = first
transcripts_join read_only base xs (y ∷ ys) first second = (second.0, transcripts_join read_only base xs ys first second.1)

-- what two runs of requests did
did_joins : (P Q R : Deed → Type 0) → ((x y : Deed) → P x → Q y → R (followed x y)) → (xs ys : List Exchange)
    → P (deed_in xs) → Q (deed_in ys) → R (deed_in (ys ++ xs))
did_joins P Q R both xs ys first second =
    subst R (sym (deed_in-append xs ys)) (both (deed_in xs) (deed_in ys) first second)

pub serves_nothing : (read_only : Bool) (base : Base) (a : Streams) (did : Deed → Type 0) → did nothing → Serves read_only base a a did 0
serves_nothing read_only base a did done = record {
  transcript = [];
  count = refl;
  answered = tt;
  done = done;
  moved = moves_nothing a;
}

pub serves_both : (read_only : Bool) (base : Base) (a b c : Streams) (P Q R : Deed → Type 0) (m n : ℕ)
    → ((x y : Deed) → P x → Q y → R (followed x y)) → Serves read_only base a b P m → Serves read_only base b c Q n
    → Serves read_only base a c R (m + n)
serves_both read_only base a b c P Q R m n both first second =
    let moved = moves_both first.moved second.moved in
    record {
      transcript = second.transcript ++ first.transcript;
      count = omega (arith, length-append second.transcript first.transcript, first.count, second.count);
      answered = transcripts_join read_only base first.transcript second.transcript first.answered second.answered;
      done = did_joins P Q R both first.transcript second.transcript first.done second.done;
      moved = record {
        taken = subst (Takes a.left c.left) (sym (asking_bytes-append first.transcript second.transcript)) moved.taken;
        held = subst (Holds a.held c.held) (sym (replying_bytes-append first.transcript second.transcript)) moved.held;
      };
    }

pub stopped_after : (read_only : Bool) (base : Base) (a b c : Streams) (P Q R : Deed → Type 0) (end : SessionEnd) (m n : ℕ)
    → ((x y : Deed) → P x → Q y → R (followed x y)) → Serves read_only base a b P m → Stopped read_only base b c Q end n
    → Stopped read_only base a c R end (m + n)
stopped_after read_only base a b c P Q R end m n both first second =
    let moved = moves_both first.moved second.moved in
    record {
      transcript = second.transcript ++ first.transcript;
      count = omega (arith, length-append second.transcript first.transcript, first.count, second.count);
      answered = transcripts_join read_only base first.transcript second.transcript first.answered second.answered;
      done = did_joins P Q R both first.transcript second.transcript first.done second.done;
      tail = second.tail;
      out = replying_bytes first.transcript ++ second.out;
      moved = record {
        taken = subst (Takes a.left c.left)
            (sym (append_assoc (asking_bytes first.transcript) (asking_bytes second.transcript) second.tail)
            ∙ ap (λ bytes. bytes ++ second.tail) (sym (asking_bytes-append first.transcript second.transcript)))
            moved.taken;
        held = moved.held;
      };
      stops = second.stops;
      writes = record {
        missing = second.writes.missing;
        front = replying_bytes-append first.transcript second.transcript
            ∙ ap (λ bytes. replying_bytes first.transcript ++ bytes) second.writes.front
            ∙ sym (append_assoc (replying_bytes first.transcript) second.out second.writes.missing);
        all = second.writes.all;
      };
    }

-- after the last request that may be answered
pub serves_spent : (read_only : Bool) (base : Base) (a b : Streams) (did : Deed → Type 0) (n : ℕ) → Serves read_only base a b did n
    → Stopped read_only base a b did Spent n
serves_spent read_only base a b did n first = record {
  transcript = first.transcript;
  count = first.count;
  answered = first.answered;
  done = first.done;
  tail = [];
  out = replying_bytes first.transcript;
  moved = record {
    taken = subst (Takes a.left b.left) (sym (append-nil (asking_bytes first.transcript))) first.moved.taken;
    held = first.moved.held;
  };
  stops = refl;
  writes = record { missing = []; front = sym (append-nil (replying_bytes first.transcript)); all = λ _. refl };
}
