-- That a window goes with the puts that began and ended.
use Rattle.std.proofs.Common.{◌≡◌, ◌≢◌, ℕ, ◌≤◌, ◌+◌, ◌⊎◌, inl, inr, Bool, true, false, cond, eqb, List, [], ◌∷◌, Option}
use Rattle.std.proofs.Common.{Some, None, IsTrue, refl, sym, ap, subst, ◌∙◌, arith}
use Rattle.std.specs.Ordering.{nat_cmp}
use Rattle.std.specs.Cmp.{nat_cmp_total}
use Rattle.std.specs.FinMap.{get, insert, entries, get-insert, get-empty}
use Rattle.std.specs.List.{filter}
use Rattle.std.specs.Prelude.{nat_lt, ◌&&◌}
use Rattle.std.specs.Ordering.{eq_by_cmp}
use Rattle.std.proofs.lemmas.Bool.Decides.{nat_tests}
use Rattle.sb_base.specs.declared.line.Expect.{Expect}
use Rattle.sb_window.specs.declared.last_put.Ending.{Ending}
use Rattle.sb_window.specs.declared.last_put.LastPut.{LastPut}
use Rattle.sb_window.specs.LastPuts.{LastPuts, end_of, is_end_kept, is_kept, if_kept, kept_puts, earliest_end}
use Rattle.sb_window.specs.declared.window.PutWhen.TheVariants.{Now, At}
use Rattle.sb_window.specs.Windows.{WindowState, when_by, when_after, when_full, is_open, expected_by, expected_after}
use Rattle.sb_window.specs.Events.{PutEvent, End, end_put, last_put_of, NewRepresents, BeginRepresents, EndRepresents}
use Rattle.sb_window.specs.Events.{PurgeRepresents, ExpectsTheLastPut, ExpectationStays, IsOver, IsSpaced}
use Rattle.sb_window.specs.Events.{PutsAreSpaced, LiesAhead}
use Rattle.sb_window.specs.Events.{WaitsLieAhead}
use Rattle.sb_window.proofs.KeptLemmas.{kept_earlier}
use Rattle.sb_window.proofs.WindowLemmas.{get_kept, entries_kept}

-- what is kept was kept before
kept_before : (time before now : ℕ) (end : Option ℕ) → before ≤ now → is_end_kept time now end ≡ true
    → is_end_kept time before end ≡ true
kept_before time before now None le kept = refl
kept_before time before now (Some end) le kept = grind (arith, nat_tests)

kept_twice : (time before now : ℕ) (put : LastPut) (b c : Bool) → is_kept time before put ≡ b
    → is_kept time now put ≡ c → before ≤ now → if_kept time now (cond b (Some put) None) ≡ cond c (Some put) None
kept_twice time before now put true c was is le = ap (λ x. cond x (Some put) None) is
kept_twice time before now put false true was is le =
    absurd (grind (arith, nat_tests, kept_before time before now (end_of put.ending) le is))
kept_twice time before now put false false was is le = refl

-- to leave out what is past takes nothing that is kept later
kept_later : (time before now : ℕ) (last : Option LastPut) → before ≤ now
    → if_kept time now (if_kept time before last) ≡ if_kept time now last
kept_later time before now None le = refl
kept_later time before now (Some put) le = kept_twice time before now put _ _ refl refl le

one_of : (time now : ℕ) (last : Option LastPut) → (if_kept time now last ≡ None) ⊎ (if_kept time now last ≡ last)
one_of time now None = inl refl
one_of time now (Some put) =
    elim (is_kept time now put) as
    (λ b. (cond b (Some put) None ≡ None) ⊎ (cond b (Some put) None ≡ Some put)) [ true ↦ inr refl | false ↦ inl refl ]

pub new_represents : NewRepresents
new_represents settings = record {
  kept = λ block now le. ap (if_kept settings.md5_time now) (get-empty nat_cmp block);
  own = λ block. inl (get-empty nat_cmp block);
}

purge_own : (time now : ℕ) (held kept last : Option LastPut) → kept ≡ if_kept time now held
    → (held ≡ None) ⊎ (held ≡ last) → (kept ≡ None) ⊎ (kept ≡ last)
purge_own time now held kept last is (inl none) = inl (is ∙ ap (if_kept time now) none)
purge_own time now held kept last is (inr same) = elim (one_of time now held) [
  | inl none ↦ inl (is ∙ none)
  | inr whole ↦ inr (is ∙ whole ∙ same)
]

pub purge_represents : PurgeRepresents
purge_represents window past before le stands = record {
  kept = λ block now later.
      ap (if_kept window.md5_time now) (get_kept window.md5_time before block window.puts)
      ∙ kept_later window.md5_time before now (get window.puts block) later ∙ stands.kept block now (omega arith);
  own = λ block. purge_own window.md5_time before (get window.puts block) _ (last_put_of past block)
      (get_kept window.md5_time before block window.puts) (stands.own block);
}

pub same_key : (b block : ℕ) → eq_by_cmp nat_cmp b block ≡ eqb block b
same_key b block = grind (arith, nat_tests)

-- what is found after a put was set, beside a history's last puts after the same
pub at_key : (puts : LastPuts) (block b : ℕ) (put : LastPut) (last : Option LastPut)
    (P : Option LastPut → Option LastPut → Type 0) → P (Some put) (Some put) → P (get puts b) last
    → P (get (insert puts block put) b) (cond (eqb block b) (Some put) last)
at_key puts block b put last P here there =
    subst (λ x. P x (cond (eqb block b) (Some put) last))
    (sym (get-insert nat_cmp_total puts block put b ∙ ap (λ t. cond t (Some put) (get puts b)) (same_key b block)))
    (elim (eqb block b) as
    (λ t. P (cond t (Some put) (get puts b)) (cond t (Some put) last)) [ true ↦ here | false ↦ there ])

pub begin_represents : BeginRepresents
begin_represents window past block before on le stands =
    let put : LastPut = record { ending = None } in
    let puts = kept_puts window.md5_time before window.puts in
    let left = purge_represents window past before le stands in
    let off : eqb window.md5_size 0 ≡ false = grind (arith, nat_tests) in
    rw off
    (record {
      kept = λ b now later. at_key puts block b put (last_put_of past b)
          (λ x y. if_kept window.md5_time now x ≡ if_kept window.md5_time now y) refl (left.kept b now later);
      own = λ b. at_key puts block b put (last_put_of past b) (λ x y. (x ≡ None) ⊎ (x ≡ y)) (inr refl) (left.own b);
    })

some_open : (held : Option LastPut) → IsTrue (is_open held) → (old : LastPut) × (held ≡ Some old)
some_open None h = absurd (cc)
some_open (Some old) h = (old, refl)

own_some : (held last : Option LastPut) (old : LastPut) → held ≡ Some old → (held ≡ None) ⊎ (held ≡ last)
    → last ≡ Some old
own_some held last old is (inl none) = absurd (cc)
own_some held last old is (inr same) = sym same ∙ is

-- the last put of any block after that of one ended
ended_key : (block b : ℕ) (past : List PutEvent) (old : LastPut) (ending : Ending) → last_put_of past block ≡ Some old
    → cond (eqb block b) (Some (record { ending = Some ending })) (last_put_of past b)
    ≡ last_put_of (End block ending ∷ past) b
ended_key block b past old ending is =
    let put : LastPut = record { ending = Some ending } in
    let last = last_put_of past b in
    elim (eqb block b) as (λ t. eqb block b ≡ t → cond t (Some put) last ≡ cond t (end_put ending last) last) [
      | true ↦ λ t.
          let same : block ≡ b = grind (arith, nat_tests) in
          sym (ap (end_put ending) (ap (last_put_of past) (sym same) ∙ is))
      | false ↦ λ t. refl
    ] refl

pub end_represents : EndRepresents
end_represents window past block before ok digest le begun_open stands =
    let found = some_open (get window.puts block) begun_open in
    let last = own_some _ _ found.0 found.1 (stands.own block) in
    let ending : Ending = record { reading = before; ok = ok; digest = digest } in
    let put : LastPut = record { ending = Some ending } in
    rw found.1
    (record {
      kept = λ b now later. subst
          (λ y. if_kept window.md5_time now (get (insert window.puts block put) b) ≡ if_kept window.md5_time now y)
          (ended_key block b past found.0 ending last)
          (at_key window.puts block b put (last_put_of past b)
          (λ x y. if_kept window.md5_time now x ≡ if_kept window.md5_time now y) refl
          (stands.kept b now (omega arith)));
      own = λ b. subst
          (λ y. (get (insert window.puts block put) b ≡ None) ⊎ (get (insert window.puts block put) b ≡ y))
          (ended_key block b past found.0 ending last)
          (at_key window.puts block b put (last_put_of past b) (λ x y. (x ≡ None) ⊎ (x ≡ y)) (inr refl) (stands.own b));
    })

-- nothing is expected of a put that is past its time
past_expects : (time now : ℕ) (ending : Option Ending) → is_end_kept time now (end_of ending) ≡ false
    → expected_after time now ending ≡ None
past_expects time now None gone = absurd (cc)
past_expects time now (Some ending) gone =
    let expect : Expect = record { digest = ending.digest; since = ending.reading } in
    ap (λ t. cond (ending.ok && t) (Some expect) None) gone
    ∙ elim ending.ok as (λ ok. cond (ok && false) (Some expect) None ≡ None) [ true ↦ refl | false ↦ refl ]

kept_expects : (time now : ℕ) (put : LastPut) (b : Bool) → is_kept time now put ≡ b
    → expected_by time now (cond b (Some put) None) ≡ expected_by time now (Some put)
kept_expects time now put true is = refl
kept_expects time now put false is = sym (past_expects time now put.ending is)

kept_expected : (time now : ℕ) (last : Option LastPut)
    → expected_by time now (if_kept time now last) ≡ expected_by time now last
kept_expected time now None = refl
kept_expected time now (Some put) = kept_expects time now put _ refl

pub expects_the_last_put : ExpectsTheLastPut
expects_the_last_put window past block now le stands =
    sym (kept_expected window.md5_time now (get window.puts block))
    ∙ ap (expected_by window.md5_time now) (stands.kept block now le)
    ∙ kept_expected window.md5_time now (last_put_of past block)

-- what is expected later was expected before
stays_by : (time now later : ℕ) (expect : Expect) (ending : Ending) → now ≤ later → (ok kept : Bool)
    → is_end_kept time later (Some ending.reading) ≡ kept
    → (cond (ok && kept) (Some expect) None ≡ None)
    ⊎ (cond (ok && kept) (Some expect) None
    ≡ cond (ok && is_end_kept time now (Some ending.reading)) (Some expect) None)
stays_by time now later expect ending le false kept is = inl refl
stays_by time now later expect ending le true false is = inl refl
stays_by time now later expect ending le true true is =
    inr (rw (kept_before time now later (Some ending.reading) le is) refl)

stays_after : (time now later : ℕ) (ending : Option Ending) → now ≤ later
    → (expected_after time later ending ≡ None)
    ⊎ (expected_after time later ending ≡ expected_after time now ending)
stays_after time now later None le = inl refl
stays_after time now later (Some ending) le =
    stays_by time now later (record { digest = ending.digest; since = ending.reading }) ending le ending.ok
    (is_end_kept time later (Some ending.reading)) refl

pub expectation_stays : ExpectationStays
expectation_stays window block now later le = by (get window.puts block) where
  by : (held : Option LastPut) → (expected_by window.md5_time later held ≡ None)
      ⊎ (expected_by window.md5_time later held ≡ expected_by window.md5_time now held)
  by None = inl refl
  by (Some put) = stays_after window.md5_time now later put.ending le

spaced_end : (window : WindowState) (now : ℕ) (ending : Option Ending) → when_after window now ending ≡ Now
    → IsOver window.min_write_delay now ending
spaced_end window now None ready = cc
spaced_end window now (Some ending) ready = grind (arith, nat_tests)

spaced_held : (window : WindowState) (now : ℕ) (last : Option LastPut) → when_by window now last ≡ Now
    → IsSpaced window.min_write_delay now last
spaced_held window now None ready = tt
spaced_held window now (Some put) ready = spaced_end window now put.ending ready

past_end : (delay time now : ℕ) (ending : Option Ending) → (time ≢ 0 → delay ≤ time)
    → is_end_kept time now (end_of ending) ≡ false → IsOver delay now ending
past_end delay time now None long gone = cc
past_end delay time now (Some ending) long gone = grind (arith, nat_tests)

spaced_past : (delay time now : ℕ) (last : Option LastPut) → (time ≢ 0 → delay ≤ time) → if_kept time now last ≡ None
    → IsSpaced delay now last
spaced_past delay time now None long gone = tt
spaced_past delay time now (Some put) long gone =
    elim (is_kept time now put) as
    (λ b. is_kept time now put ≡ b → cond b (Some put) None ≡ None → IsOver delay now put.ending) [
      | true ↦ λ is none. absurd (cc)
      | false ↦ λ is none. past_end delay time now put.ending long is
    ] refl gone

spaced_by : (window : WindowState) (now : ℕ) (held last : Option LastPut)
    → (window.md5_time ≢ 0 → window.min_write_delay ≤ window.md5_time)
    → if_kept window.md5_time now held ≡ if_kept window.md5_time now last → (held ≡ None) ⊎ (held ≡ last)
    → when_by window now held ≡ Now → IsSpaced window.min_write_delay now last
spaced_by window now held last long kept (inl none) ready =
    spaced_past window.min_write_delay window.md5_time now last long (sym kept ∙ ap (if_kept window.md5_time now) none)
spaced_by window now held last long kept (inr same) ready =
    spaced_held window now last (ap (when_by window now) (sym same) ∙ ready)

pub puts_are_spaced : PutsAreSpaced
puts_are_spaced window past block now on le long stands ready =
    let off : eqb window.md5_size 0 ≡ false = grind (arith, nat_tests) in
    spaced_by window now (get window.puts block) (last_put_of past block) long (stands.kept block now le)
    (stands.own block) (rw off at ready)

-- the earliest end of those that are kept is kept
pub kept_earliest : (time now : ℕ) (es : List (ℕ × LastPut))
    → is_end_kept time now (earliest_end (filter (λ e. is_kept time now e.1) es)) ≡ true
kept_earliest time now [] = refl
kept_earliest time now (e ∷ es) =
    let kept = λ (e : ℕ × LastPut). is_kept time now e.1 in
    let tail = kept_earliest time now es in
    elim (kept e) as
    (λ b. kept e ≡ b → is_end_kept time now (earliest_end (cond b (e ∷ filter kept es) (filter kept es))) ≡ true) [
      | true ↦ λ is. kept_earlier time now (end_of e.1.ending) (earliest_end (filter kept es))
          ∙ grind (arith, nat_tests)
      | false ↦ λ is. tail
    ] refl

full_ahead : (time now : ℕ) (end : Option ℕ) → time ≢ 0 → is_end_kept time now end ≡ true
    → LiesAhead now (when_full time end)
full_ahead time now None on kept = tt
full_ahead time now (Some end) on kept = grind (arith, nat_tests)

new_ahead : (window : WindowState) (now : ℕ) (b : Bool) (end : Option ℕ)
    → LiesAhead now (when_full window.md5_time end) → LiesAhead now (cond b Now (when_full window.md5_time end))
new_ahead window now true end ahead = tt
new_ahead window now false end ahead = ahead

spaced_ahead : (until now : ℕ) (b : Bool) → nat_lt now until ≡ b → LiesAhead now (cond b (At until) Now)
spaced_ahead until now true is = grind (arith, nat_tests)
spaced_ahead until now false is = tt

after_ahead : (window : WindowState) (now : ℕ) (ending : Option Ending) → LiesAhead now (when_after window now ending)
after_ahead window now None = tt
after_ahead window now (Some ending) = spaced_ahead (ending.reading + window.min_write_delay) now _ refl

by_ahead : (window : WindowState) (now : ℕ) (last : Option LastPut) → window.md5_time ≢ 0
    → LiesAhead now (when_by window now last)
by_ahead window now None on =
    new_ahead window now _ _
    (full_ahead window.md5_time now _ on
    (ap (λ es. is_end_kept window.md5_time now (earliest_end es)) (entries_kept window.md5_time now window.puts)
    ∙ kept_earliest window.md5_time now (entries window.puts)))
by_ahead window now (Some put) on = after_ahead window now put.ending

pub waits_lie_ahead : WaitsLieAhead
waits_lie_ahead window block now on =
    elim (eqb window.md5_size 0) as (λ b. LiesAhead now (cond b Now (when_by window now (get window.puts block)))) [
      | true ↦ tt
      | false ↦ by_ahead window now (get window.puts block) on
    ]
