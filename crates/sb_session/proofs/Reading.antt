-- Reading ranges, part by part, and the replies; how runs over parts join.
use Rattle.std.proofs.Common.{ℕ, ◌≡◌, ◌≤◌, ◌+◌, ◌-◌, ◌∙◌, List, [], ◌∷◌, ◌++◌, length, take, drop, Ok, Err, sum_by}
use Rattle.std.proofs.Common.{length-take, length-drop, append_assoc, append-nil, ap, sym, subst, refl, arith}
use Rattle.std.proofs.Common.{inl, inr}
use Rattle.std.specs.List.{AllByRecursion}
use Rattle.std.proofs.lemmas.List.{length-append}
use Rattle.std.proofs.lemmas.List.Sums.{sum_by-append, sum_by-cons}
use Rattle.std.proofs.lemmas.Slice.{take-put_mid}
use borrow.Rule.Slice.PartMut.{put_mid}
use Rattle.sb_base.specs.declared.part.Part.{Part}
use Rattle.sb_base.specs.declared.entry.Entry.{Entry}
use Rattle.sb_crew.specs.Bases.{Base}
use Rattle.sb_crew.specs.Scenes.{Deed, nothing, followed}
use Rattle.sb_crew.specs.declared.calls.CallFault.{CallFault}
use Rattle.sb_crew.specs.Outcomes.{Outcome, ReadDone, outcomes_of, bytes_read, blocks_asked, IsBlockOf}
use Rattle.sb_crew.specs.Outcomes.{AsksOnly, Meets, Stops, ReadDoes}
use Rattle.sb_crew.proofs.OutcomeLemmas.{outcomes_join, bytes_join, asks_join, none_fail_join, cause_stays}
use Rattle.sb_crew.proofs.OutcomeLemmas.{reaches_if_none, reaches_if_join, reaches_but_if_join}
use Rattle.sb_session.specs.Goals.{reads_of}
use Rattle.sb_session.specs.Answers.{ReadsRange, ReadAnswers}
use Rattle.sb_session.specs.Answers.{error_of}

pub reads_of-append : (ps qs : List Part) → reads_of (ps ++ qs) ≡ reads_of qs ++ reads_of ps
reads_of-append [] qs = sym (append-nil (reads_of qs))
reads_of-append (p ∷ ps) qs = ap (λ outcomes. outcomes ++ ReadDone p ∷ []) (reads_of-append ps qs)
    ∙ append_assoc (reads_of qs) (reads_of ps) (ReadDone p ∷ [])

block_before : (ps qs : List Part) (block : ℕ) → IsBlockOf ps block → IsBlockOf (ps ++ qs) block
block_before [] qs block h = absurd h
block_before (p ∷ ps) qs block (inl here) = inl here
block_before (p ∷ ps) qs block (inr later) = inr (block_before ps qs block later)

block_after : (ps qs : List Part) (block : ℕ) → IsBlockOf qs block → IsBlockOf (ps ++ qs) block
block_after [] qs block h = h
block_after (p ∷ ps) qs block h = inr (block_after ps qs block h)

pub all_wider : (P Q : ℕ → Type 0) → ((n : ℕ) → P n → Q n) → (ns : List ℕ) → AllByRecursion P ns → AllByRecursion Q ns
all_wider P Q step [] h = tt
all_wider P Q step (n ∷ ns) h = (step n h.0, all_wider P Q step ns h.1)

pub asks_wider : (ps qs : List Part) (xs : List Entry) → AsksOnly ps xs → AsksOnly (ps ++ qs) xs
asks_wider ps qs xs asks = record {
  asked =
      all_wider (IsBlockOf ps) (IsBlockOf (ps ++ qs)) (block_before ps qs) (blocks_asked xs) asks.asked;
}

pub asks_more : (ps qs : List Part) (xs ys : List Entry) → AsksOnly ps xs → AsksOnly qs ys
    → AsksOnly (ps ++ qs) (ys ++ xs)
asks_more ps qs xs ys first second =
    asks_join (ps ++ qs) xs ys (asks_wider ps qs xs first) (record {
      asked =
          all_wider (IsBlockOf qs) (IsBlockOf (ps ++ qs)) (block_after ps qs) (blocks_asked ys) second.asked;
    })

pub asks_failed : (ps qs : List Part) (p : Part) (xs ys : List Entry) → AsksOnly ps xs
    → AsksOnly (p ∷ []) ys → AsksOnly (ps ++ p ∷ qs) (ys ++ xs)
asks_failed ps qs p xs ys first second =
    subst (λ all. AsksOnly all (ys ++ xs)) (append_assoc ps (p ∷ []) qs)
    (asks_wider (ps ++ p ∷ []) qs (ys ++ xs) (asks_more ps (p ∷ []) xs ys first second))

-- a goal was met, and another one behind it
pub met_both : (base : Base) (first second : List Outcome) (x y : Deed) → Meets base first x → Meets base second y
    → Meets base (second ++ first) (followed x y)
met_both base first second x y before more = record {
  met = outcomes_join y.entries x.entries ∙ ap (λ os. os ++ outcomes_of x.entries) more.met
      ∙ ap (λ os. second ++ os) before.met;
  reached = reaches_if_join base.alone x.ticks y.ticks before.reached more.reached;
  none_fail = none_fail_join y.entries x.entries more.none_fail before.none_fail;
}

-- a goal was met, and then a call failed on the next one, before others
pub stops_after : (base : Base) (first next behind goal : List Outcome) (x y : Deed) (fault : CallFault)
    → Meets base first x → Stops base next y fault → behind ++ (next ++ first) ≡ goal → Stops base goal (followed x y) fault
stops_after base first next behind goal x y fault before stops whole = record {
  missing = behind ++ stops.missing;
  some = omega (arith, length-append behind stops.missing, stops.some);
  met = ap (λ os. (behind ++ stops.missing) ++ os)
      (outcomes_join y.entries x.entries ∙ ap (λ os. outcomes_of y.entries ++ os) before.met)
      ∙ append_assoc behind stops.missing (outcomes_of y.entries ++ first)
      ∙ ap (λ os. behind ++ os) (sym (append_assoc stops.missing (outcomes_of y.entries) first)
      ∙ ap (λ os. os ++ first) stops.met) ∙ whole;
  reached = reaches_but_if_join base.alone fault x.ticks y.ticks before.reached stops.reached;
  cause = cause_stays base fault x y before.none_fail stops.cause;
}

-- how many bytes a part has
abbrev pub length_of : Part → ℕ
length_of part = part.length

-- a part lies within what all parts have
pub part_within : (ps qs all : List Part) (p : Part) (at count : ℕ) → ps ++ (p ∷ qs) ≡ all
    → sum_by (λ (part : Part). part.length) all ≡ count → at ≡ sum_by (λ (part : Part). part.length) ps
    → at + p.length ≤ count
part_within ps qs all p at count split whole before =
    let total = sum_by-append length_of ps (p ∷ qs) in
    let first = sum_by-cons length_of p qs in
    let same : sum_by length_of (ps ++ (p ∷ qs)) ≡ count = ap (sum_by length_of) split ∙ whole in
    omega (arith, total, first, same, before)

pub length_more : (ps : List Part) (p : Part) (at : ℕ) → at ≡ sum_by (λ (part : Part). part.length) ps
    → at + p.length ≡ sum_by (λ (part : Part). part.length) (ps ++ p ∷ [])
length_more ps p at before = omega (arith, before, sum_by-append length_of ps (p ∷ []), sum_by-cons length_of p [])

pub length_piece : (at n : ℕ) (room : List ℕ) → at + n ≤ length room → length (take (at + n - at) (drop at room)) ≡ n
length_piece at n room h = omega (arith, length-take (at + n - at) (drop at room), length-drop at room, h)

-- what came so far with what came for one part
bytes_more : (at : ℕ) (room out : List ℕ) (n m : ℕ) → length out ≡ n → at + n ≤ length room
    → take at room ++ out ≡ take (at + n) (put_mid at m room out)
bytes_more at room out n m len within = sym
    (take-put_mid at m room out (at + n) (omega (arith, len)) (omega (arith, len, within)))

-- nothing was read yet
pub reads_none : (base : Base) (did : Deed → Type 0) (room : List ℕ) → did nothing
    → ReadsRange base did [] 0 room (Ok tt)
reads_none base did room done = record {
  deed = nothing;
  done = done;
  ends = (record { met = refl; reached = reaches_if_none base.alone; none_fail = tt }, refl);
  asks = record { asked = tt };
}

-- some parts were read, and one more
pub reads_more : (base : Base) (P Q R : Deed → Type 0) → ((x y : Deed) → P x → Q y → R (followed x y))
    → (ps : List Part) (p : Part) (at m : ℕ) (room out : List ℕ) → length out ≡ p.length → at + p.length ≤ length room
    → ReadsRange base P ps at room (Ok tt) → ReadDoes base Q p out (Ok tt)
    → ReadsRange base R (ps ++ p ∷ []) (at + p.length) (put_mid at m room out) (Ok tt)
reads_more base P Q R both ps p at m room out len within first second = record {
  deed = followed first.deed second.deed;
  done = both first.deed second.deed first.done second.done;
  ends = (
    subst (λ (goal : List Outcome). Meets base goal (followed first.deed second.deed)) (sym (reads_of-append ps (p ∷ [])))
        (met_both base (reads_of ps) (ReadDone p ∷ []) first.deed second.deed first.ends.0 second.ends.0),
    bytes_join second.deed.entries first.deed.entries
        ∙ ap (λ bytes. bytes ++ bytes_read second.deed.entries) first.ends.1
        ∙ ap (λ bytes. take at room ++ bytes) second.ends.1 ∙ bytes_more at room out p.length m len within,
  );
  asks = asks_more ps (p ∷ []) first.deed.entries second.deed.entries first.asks second.asks;
}

-- some parts were read, and then a call failed
pub reads_stop : (base : Base) (P Q R : Deed → Type 0) → ((x y : Deed) → P x → Q y → R (followed x y))
    → (ps qs : List Part) (p : Part) (at count : ℕ) (room now out : List ℕ) (fault : CallFault)
    → ReadsRange base P ps at room (Ok tt) → ReadDoes base Q p out (Err fault)
    → ReadsRange base R (ps ++ p ∷ qs) count now (Err fault)
reads_stop base P Q R both ps qs p at count room now out fault first second = record {
  deed = followed first.deed second.deed;
  done = both first.deed second.deed first.done second.done;
  ends = (
    stops_after base (reads_of ps) (ReadDone p ∷ []) (reads_of qs) (reads_of (ps ++ p ∷ qs)) first.deed second.deed
        fault first.ends.0 second.ends.0
        (sym (append_assoc (reads_of qs) (ReadDone p ∷ []) (reads_of ps)) ∙ sym (reads_of-append ps (p ∷ qs))),
    tt,
  );
  asks = asks_failed ps qs p first.deed.entries second.deed.entries first.asks second.asks;
}

pub read_answers : (base : Base) (did : Deed → Type 0) (parts : List Part) (count : ℕ) (room : List ℕ)
    → ReadsRange base did parts count room (Ok tt) → ReadAnswers base did parts 0 (take count room)
read_answers base did parts count room read = record {
  deed = read.deed;
  done = read.done;
  asks = read.asks;
  ends = record { result = Ok tt; ends = read.ends.0; reply = (refl, sym read.ends.1) };
}

pub read_fails : (base : Base) (did : Deed → Type 0) (parts : List Part) (count error : ℕ) (room : List ℕ)
    (fault : CallFault) → error ≡ error_of fault
    → ReadsRange base did parts count room (Err fault) → ReadAnswers base did parts error []
read_fails base did parts count error room fault is read = record {
  deed = read.deed;
  done = read.done;
  asks = read.asks;
  ends = record { result = Err fault; ends = read.ends.0; reply = (is, refl) };
}
