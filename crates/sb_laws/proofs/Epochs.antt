-- A write stands before a flush began exactly where the epoch at the write is at most the flush's mark.
use Rattle.std.proofs.Common.{ℕ, suc, ◌≡◌, ◌≢◌, ◌<◌, ◌≤◌, ◌⊎◌, Bool, true, false, not, if◌then◌else◌, nat_eq, nat_le}
use Rattle.std.proofs.Common.{min, List, [], ◌∷◌, length, Option, Some, None, refl, ◌∙◌, subst, inl, inr, arith, rules}
use Rattle.std.proofs.lemmas.Bool.{eqb-true, eqb-false, le-leb, lt-leb}
use Rattle.std.proofs.lemmas.Bool.Decides.{leb_tells}
use Rattle.sb_base.specs.declared.geometry.Geometry.{Geometry}
use Rattle.sb_base.specs.declared.settings.Settings.{Settings}
use Rattle.sb_base.specs.declared.entry.EntryKind.{EntryKind}
use Rattle.sb_base.specs.declared.entry.EntryKind.TheVariants as kind
use Rattle.sb_base.specs.declared.entry.Entry.{Entry}
use Rattle.sb_history.specs.Flushes.{flush_place, flush_place_after, last_number, flushes_after, flushes_begun}
use Rattle.sb_history.specs.Flushes.{epoch_at}
use Rattle.sb_history.specs.Cache.{Found}
use Rattle.sb_history.specs.AccessRules.{MayFollow, FollowsAccessRules}
use Rattle.sb_history.specs.Laws.{StampsAreEpochs}

-- before, or from there on
abbrev Splits : ℕ → ℕ → ℕ → ℕ → Type 0
Splits place write epoch mark = ((place ≤ write) × (mark < epoch)) ⊎ ((write < place) × (epoch ≤ mark))

-- a flush that was found began at a place of the history, after so many as its mark says
abbrev Began : ℕ → ℕ → ℕ → Option ℕ → Type 0
Began n begun mark None = Unit {0}
Began n begun mark (Some place) = (place < n) × (mark < begun)

grows : (e : EntryKind) (n : ℕ) → n ≤ flushes_after e n
grows (kind.FlushBegin mark) n = omega arith
grows e n = omega arith

began_later : (n m a b mark : ℕ) (place : Option ℕ) → n ≤ m → a ≤ b → Began n a mark place → Began m b mark place
began_later n m a b mark None le more began = tt
began_later n m a b mark (Some place) le more began = (omega (arith, began.0, le), omega (arith, began.1, more))

module _ (geometry : Geometry) (settings : Settings) (found : Found) where
  mark_is : (of n mark : ℕ) → of ≡ min n last_number → nat_eq of mark ≡ true → mark < last_number → n ≡ mark
  mark_is of n mark is same below = let here = eqb-true of mark same in omega (arith, is, here, below)

  began_after : (past : List Entry) (pass now : ℕ) (e : EntryKind) (mark : ℕ) → mark < last_number
      → MayFollow geometry settings found past pass now e
      → Began (length past) (flushes_begun past) mark (flush_place past mark)
      → Began (suc (length past)) (flushes_after e (flushes_begun past)) mark
      (flush_place_after mark (length past) e (flush_place past mark))
  began_after past pass now (kind.FlushBegin of) mark below may began = by (nat_eq of mark) refl where
    by : (t : Bool) → nat_eq of mark ≡ t → Began (suc (length past)) (suc (flushes_begun past)) mark
        (if t then Some (length past) else flush_place past mark)
    by true same = let is = mark_is of (flushes_begun past) mark may same below in (omega arith, omega (arith, is))
    by false other = began_later (length past) (suc (length past)) (flushes_begun past) (suc (flushes_begun past)) mark
        (flush_place past mark) (omega arith) (omega arith) began
  began_after past pass now e mark below may began =
      began_later (length past) (suc (length past)) (flushes_begun past) (flushes_after e (flushes_begun past)) mark
      (flush_place past mark) (omega arith) (grows e (flushes_begun past)) began

  began : (past : List Entry) (mark : ℕ) → mark < last_number → FollowsAccessRules geometry settings found past
      → Began (length past) (flushes_begun past) mark (flush_place past mark)
  began [] mark below rules = tt
  began (entry ∷ past) mark below rules =
      began_after past entry.pass entry.reading entry.kind mark below rules.0 (began past mark below rules.2)

  below_of : (n write : ℕ) → write < suc n → nat_eq write n ≡ false → write < n
  below_of n write below other = by (leb_tells n write) where
    by : ((nat_le n write ≡ true) × (n ≤ write)) ⊎ ((nat_le n write ≡ false) × (write < n)) → write < n
    by (inl above) = absurd (eqb-false write n other (omega (arith, above.1, below)))
    by (inr less) = less.1

  -- epochs only grow
  epoch_step : (past : List Entry) (e : EntryKind) (write : ℕ) (t : Bool)
      → (t ≡ false → epoch_at past write ≤ flushes_begun past)
      → (if t then flushes_begun past else epoch_at past write) ≤ flushes_after e (flushes_begun past)
  epoch_step past e write true before = grows e (flushes_begun past)
  epoch_step past e write false before = let more = grows e (flushes_begun past) in omega (arith, more, before refl)

  epoch_below : (past : List Entry) (write : ℕ) → write < length past → epoch_at past write ≤ flushes_begun past
  epoch_below [] write below = absurd (omega (arith, below))
  epoch_below (entry ∷ past) write below =
      epoch_step past entry.kind write (nat_eq write (length past))
      (λ other. epoch_below past write (below_of (length past) write below other))

  -- where the flush stands before the entry
  older : (past : List Entry) (mark place write : ℕ) → Began (length past) (flushes_begun past) mark (Some place)
      → (t : Bool) → nat_eq write (length past) ≡ t → (t ≡ false → Splits place write (epoch_at past write) mark)
      → Splits place write (if t then flushes_begun past else epoch_at past write) mark
  older past mark place write began true same before =
      let is = eqb-true write (length past) same in inl (omega (arith, began.0, is), began.1)
  older past mark place write began false other before = before refl

  split_after : (past : List Entry) (pass now : ℕ) (e : EntryKind) (mark place write : ℕ) → mark < last_number
      → MayFollow geometry settings found past pass now e → FollowsAccessRules geometry settings found past
      → flush_place_after mark (length past) e (flush_place past mark) ≡ Some place
      → write < suc (length past) → write ≢ place
      → (flush_place past mark ≡ Some place → write < length past → Splits place write (epoch_at past write) mark)
      → Splits place write (if nat_eq write (length past) then flushes_begun past else epoch_at past write) mark
  split_after past pass now (kind.FlushBegin of) mark place write below may rules is here apart before =
      by (nat_eq of mark) refl is where
        by : (t : Bool) → nat_eq of mark ≡ t → (if t then Some (length past) else flush_place past mark) ≡ Some place
            → Splits place write (if nat_eq write (length past) then flushes_begun past else epoch_at past write) mark
        by true same is =
            let at : length past ≡ place = cc in
            let marks = mark_is of (flushes_begun past) mark may same below in
            now_begun (nat_eq write (length past)) refl at marks where
              now_begun : (t : Bool) → nat_eq write (length past) ≡ t → length past ≡ place → flushes_begun past ≡ mark
                  → Splits place write (if t then flushes_begun past else epoch_at past write) mark
              now_begun true same at marks = absurd (apart (eqb-true write (length past) same ∙ at))
              now_begun false other at marks =
                  let less = below_of (length past) write here other in
                  let more = epoch_below past write less in
                  inr (omega (arith, less, at), omega (arith, more, marks))
        by false other is =
            older past mark place write
            (subst (λ p. Began (length past) (flushes_begun past) mark p) is (began past mark below rules))
            (nat_eq write (length past)) refl (λ t. before is (below_of (length past) write here t))
  split_after past pass now e mark place write below may rules is here apart before =
      older past mark place write
      (subst (λ p. Began (length past) (flushes_begun past) mark p) is (began past mark below rules))
      (nat_eq write (length past)) refl (λ t. before is (below_of (length past) write here t))

  splits : (past : List Entry) → FollowsAccessRules geometry settings found past → (mark place write : ℕ)
      → mark < last_number → flush_place past mark ≡ Some place → write < length past → write ≢ place
      → Splits place write (epoch_at past write) mark
  splits [] rules mark place write below is here apart = absurd (omega (arith, here))
  splits (entry ∷ past) rules mark place write below is here apart =
      split_after past entry.pass entry.reading entry.kind mark place write below rules.0 rules.2 is here apart
      (λ was less. splits past rules.2 mark place write below was less apart)

split_tells :
    (place write epoch mark : ℕ) → Splits place write epoch mark → nat_le place write ≡ not (nat_le epoch mark)
split_tells place write epoch mark (inl since) =
    let a = le-leb place write since.0 in
    let b = lt-leb epoch mark since.1 in
    rw (a, b) refl
split_tells place write epoch mark (inr before) =
    let a = lt-leb place write before.0 in
    let b = le-leb epoch mark before.1 in
    rw (a, b) refl

pub stamps_are_epochs : StampsAreEpochs
stamps_are_epochs geometry settings found past rules mark place write below is here apart =
    split_tells place write (epoch_at past write) mark
    (splits geometry settings found past rules mark place write below is here apart)
