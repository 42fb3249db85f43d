-- Options, one after the other.
use Rattle.std.proofs.Common.{ℕ, ◌≡◌, ◌<◌, ◌+◌, List, [], ◌∷◌, Option, Result, Ok, Err}
use Rattle.std.proofs.Common.{append-nil, sym, subst, refl, inl, inr, arith}
use Rattle.sb_world.specs.Streams.{Takes, Holds, WriteHolds}
use Rattle.sb_nbd.specs.declared.end.NbdEnd.{NbdEnd}
use Rattle.sb_nbd.specs.declared.end.NbdEnd.TheVariants as nbd
use Rattle.sb_nbd.specs.declared.export.Export.{Export}
use Rattle.sb_nbd.specs.declared.option.Asked.{Asked}
use Rattle.sb_nbd.specs.declared.answer.OptionAnswer.{OptionAnswer}
use Rattle.sb_nbd.specs.Options as options
use Rattle.sb_nbd.specs.OptionReading.{StopsOption, option_in}
use Rattle.sb_nbd.specs.OptionAnswers.{HasAnswer, answer_bytes}
use Rattle.sb_world.proofs.Streaming.{holds_nothing}
use Rattle.sb_session.specs.Streams.{Streams, streams_at}
use Rattle.sb_session.specs.declared.haggling.Next.{Next}
use Rattle.sb_session.specs.declared.haggling.Next.TheVariants as next
use Rattle.sb_session.specs.declared.end.SessionEnd.{SessionEnd}
use Rattle.sb_session.specs.declared.end.SessionEnd.TheVariants.{Fault, Spent}
use Rattle.sb_session.specs.Haggling.{end_of, most_answers, Haggle, next_of, asked_bytes, answered_bytes}
use Rattle.sb_session.specs.Haggling.{Haggles, HaggleStops, HaggleEnds, Negotiates, Begins, NegotiationStops}
use Rattle.sb_session.proofs.Joins.{moves_both, moves_nothing}

-- an option as it stands in a buffer, and how it is answered
abbrev pub haggle_in : Asked → List ℕ → OptionAnswer → Haggle
haggle_in asked room answer = record { option = option_in asked room; answer = answer }

-- no option came
pub no_option : (export : Export) (flags : ℕ) (a b h : Option (List ℕ)) (reading : NbdEnd)
    → ((bytes : List ℕ) × Takes a b bytes × StopsOption b bytes reading)
    → HaggleStops export flags (streams_at a h) (streams_at b h) (end_of reading)
no_option export flags a b h reading read = record {
  tail = read.0;
  out = [];
  moved = record { taken = read.1; held = holds_nothing h };
  stops = inl (record { reading = reading; stops = read.2; end_is = refl; nothing_written = refl });
}

-- an option was answered
pub answered : (export : Export) (flags : ℕ) (a b ha hb : Option (List ℕ)) (asked : Asked) (room : List ℕ)
    (answer : OptionAnswer) (result : Result Next SessionEnd) → options.IsOption (option_in asked room)
    → HasAnswer (option_in asked room) answer → result ≡ next_of asked answer
    → Takes a b (options.option_bytes (option_in asked room))
    → Holds ha hb (answer_bytes export flags asked.option answer)
    → HaggleEnds export flags (streams_at a ha) (streams_at b hb) result
answered export flags a b ha hb asked room answer (Ok to) is has leads taken held = record {
  option = haggle_in asked room answer;
  leads = record { haggle = record { option = is; answer = has }; to = sym leads };
  moved = record { taken = taken; held = held };
}
answered export flags a b ha hb asked room answer (Err end) is has leads taken held = record {
  tail = options.option_bytes (option_in asked room);
  out = answer_bytes export flags asked.option answer;
  moved = record { taken = taken; held = held };
  stops = inr (inl (record {
    last = haggle_in asked room answer;
    leads = record { haggle = record { option = is; answer = has }; to = sym leads };
    tail_is = refl;
    out_is = refl;
  }));
}

-- an option's answer couldn't be written
pub answer_fails : (export : Export) (flags : ℕ) (a b ha hb : Option (List ℕ)) (asked : Asked) (room : List ℕ)
    (answer : OptionAnswer) (fault : NbdEnd) → options.IsOption (option_in asked room)
    → HasAnswer (option_in asked room) answer → Takes a b (options.option_bytes (option_in asked room))
    → WriteHolds ha hb (Err fault) (answer_bytes export flags asked.option answer)
    → HaggleStops export flags (streams_at a ha) (streams_at b hb) (Fault nbd.WriteFault)
answer_fails export flags a b ha hb asked room answer fault is has taken held = record {
  tail = options.option_bytes (option_in asked room);
  out = held.0;
  moved = record { taken = taken; held = held.3 };
  stops = inr (inr (record {
    last = haggle_in asked room answer;
    haggle = record { option = is; answer = has };
    tail_is = refl;
    front = (held.1, held.2);
    fault = refl;
  }));
}

pub negotiates_nothing : (export : Export) (flags : ℕ) (a : Streams) → Negotiates export flags a a 0
negotiates_nothing export flags a =
    record { options = []; count = refl; answered = tt; moved = moves_nothing a }

-- some options, and one more
pub one_more : (export : Export) (flags : ℕ) (a b c : Streams) (n : ℕ) → Negotiates export flags a b n
    → Haggles export flags b c next.Option → Negotiates export flags a c (n + 1)
one_more export flags a b c n first second = record {
  options = second.option ∷ first.options;
  count = omega (arith, first.count);
  answered = (second.leads, first.answered);
  moved = moves_both first.moved second.moved;
}

-- some options, and the one that begins the transmission
pub begun : (export : Export) (flags : ℕ) (a b c : Streams) (n : ℕ) → n < most_answers
    → Negotiates export flags a b n → Haggles export flags b c next.Transmission → Begins export flags a c (n + 1)
begun export flags a b c n within first second = record {
  options = first.options;
  last = second.option;
  count = omega (arith, first.count);
  within = omega (arith, within);
  answered = first.answered;
  begins = second.leads;
  moved = moves_both first.moved second.moved;
}

-- some options, and the end of the session
pub stopped : (export : Export) (flags : ℕ) (a b c : Streams) (end : SessionEnd) (n : ℕ) → n < most_answers
    → Negotiates export flags a b n → HaggleStops export flags b c end → NegotiationStops export flags a c end
stopped export flags a b c end n within first second = record {
  options = first.options;
  answered = first.answered;
  within = omega (arith, within, first.count);
  tail = second.tail;
  out = second.out;
  moved = moves_both first.moved second.moved;
  why = inl (second.stops, omega (arith, within, first.count));
}

-- as many options as are answered
pub spent : (export : Export) (flags : ℕ) (a b : Streams) (n : ℕ) → n ≡ most_answers
    → Negotiates export flags a b n → NegotiationStops export flags a b Spent
spent export flags a b n all first = record {
  options = first.options;
  answered = first.answered;
  within = omega (arith, all, first.count);
  tail = [];
  out = [];
  moved = record {
    taken = subst (Takes a.left b.left) (sym (append-nil (asked_bytes first.options))) first.moved.taken;
    held = subst (Holds a.held b.held) (sym (append-nil (answered_bytes export flags first.options))) first.moved.held;
  };
  why = inr (refl, omega (arith, all, first.count), refl, refl);
}
