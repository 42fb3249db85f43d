-- What a GET that is taken showed is the content of its block.
use Rattle.std.proofs.Common.{ℕ, suc, ◌≡◌, ◌+◌, ◌<◌, ◌≤◌, ◌⊎◌, Bool, true, false, not, ◌&&◌, if◌then◌else◌, nat_eq}
use Rattle.std.proofs.Common.{nat_lt, nat_le, List, [], ◌∷◌, ◌++◌, length, filter, map, unwrap_or, Option, Some, None}
use Rattle.std.proofs.Common.{zero, cond, slice_index_or, refl, sym, ◌∙◌, ap, subst, inl, inr, arith}
use Rattle.std.proofs.lemmas.Bool.{eqb-true, eqb-false, le-leb}
use Rattle.std.proofs.lemmas.Bool.Decides.{leb_tells}
use Rattle.md5.specs.Md5.{md5}
use Rattle.sb_base.specs.declared.settings.Settings.{Settings}
use Rattle.sb_base.specs.declared.line.Expect.{Expect}
use Rattle.sb_base.specs.declared.entry.Shown.{Shown}
use Rattle.sb_base.specs.declared.entry.Shown.TheVariants as shown
use Rattle.sb_history.specs.Contents.{zeros}
use Rattle.sb_history.specs.Puts.{Put, Ending}
use Rattle.sb_history.specs.Visibility.{Delays, is_settled, is_superseded, visible_contents, ShowsOneOf}
use Rattle.sb_history.specs.Durability.{possible_of}
use Rattle.sb_history.specs.Cache.{answer_content}
use Rattle.sb_history.specs.Window.{is_in_time, expected, expected_ending, answer_digest, CoversDelays}
use Rattle.sb_history.specs.AccessRules.{Matches}
use Rattle.sb_history.specs.Laws.{CheckedSettingsCover}
use Rattle.sb_laws.proofs.Held.{Each}
use Rattle.sb_laws.proofs.Order.{AllSuperseded, EndedBy, EndingBy, Ordered}
use Rattle.sb_laws.proofs.Phases.{EndedOk, NewestOk, Verifies}

pub contained : (Q : List ℕ → Type 0) (x : List ℕ) (xs : List (List ℕ)) (k : ℕ) → Each Q xs → k < length xs
    → slice_index_or xs k x ≡ x → Q x
contained Q x [] k all below is = absurd (omega (arith, below))
contained Q x (y ∷ ys) zero all below is = subst Q is all.0
contained Q x (y ∷ ys) (suc k) all below is = contained Q x ys k all.1 (omega (arith, below)) is

none_left : (delay : Delays) (n r : ℕ) (put : Put) (puts others : List Put) → is_settled delay.show n r put ≡ true
    → AllSuperseded delay put others → filter (λ q. not (is_superseded delay n r (put ∷ puts) q)) others ≡ []
none_left delay n r put puts [] settled all = refl
none_left delay n r put puts (other ∷ others) settled all =
    rw (settled, all.0) (none_left delay n r put puts others settled all.1)

one_or_none :
    (content : List ℕ) (b : Bool) (put : Put) (others : List Put) (tail : List (List ℕ)) → others ≡ [] → tail ≡ []
    → put.content ≡ content → Each (λ c. c ≡ content) (map (λ q. q.content) (cond b (put ∷ others) others) ++ tail)
one_or_none content true put others tail none empty is = rw (none, empty) (is, tt)
one_or_none content false put others tail none empty is = rw (none, empty) tt

-- the newest put has settled: only its content may be shown
settled_shows : (delay : Delays) (n r : ℕ) (start content : List ℕ) (put : Put) (puts : List Put)
    → is_settled delay.show n r put ≡ true → AllSuperseded delay put puts → put.content ≡ content
    → Each (λ c. c ≡ content) (visible_contents delay n r start (put ∷ puts))
settled_shows delay n r start content put puts settled all is =
    one_or_none content (not (is_superseded delay n r (put ∷ puts) put)) put
    (filter (λ q. not (is_superseded delay n r (put ∷ puts) q)) puts) _
    (none_left delay n r put puts puts settled all) (rw settled) is

some_size : (n : ℕ) → (n ≡ 0 → ⊥) → 1 ≤ n
some_size zero not_zero = absurd (not_zero refl)
some_size (suc n) not_zero = omega arith

-- a put that ended ok and hasn't settled counts in the window
in_window :
    (settings : Settings) (delay : Delays) (r : ℕ) (ending : Ending) → CoversDelays settings delay → ending.ok ≡ true
    → ending.reading ≤ r → r < ending.reading + delay.show
    → ((nat_lt 0 settings.md5_size && ending.ok) && is_in_time settings r ending.reading) ≡ true
in_window settings delay r ending covers ok after young = by_size (nat_eq settings.md5_size 0) refl where
  in_time_yes : (b : Bool) → nat_eq settings.md5_time 0 ≡ b → (settings.md5_time ≡ 0) ⊎ (delay.show ≤ settings.md5_time)
      → is_in_time settings r ending.reading ≡ true
  in_time_yes true is long = rw is
  in_time_yes false is (inl none) = absurd (eqb-false settings.md5_time 0 is none)
  in_time_yes false is (inr long) =
      let below = le-leb (suc r) (ending.reading + settings.md5_time) (omega (arith, long, young)) in rw (is, below)

  by_size : (a : Bool) → nat_eq settings.md5_size 0 ≡ a
      → ((nat_lt 0 settings.md5_size && ending.ok) && is_in_time settings r ending.reading) ≡ true
  by_size true is = let off = covers.off (eqb-true settings.md5_size 0 is) in absurd (omega (arith, off, after, young))
  by_size false is =
      let on = le-leb 1 settings.md5_size (some_size settings.md5_size (eqb-false settings.md5_size 0 is)) in
      rw (on, ok) (in_time_yes (nat_eq settings.md5_time 0) refl covers.window)

-- either only the content may be shown, or its digest is expected
abbrev OnlyOrExpected : Delays → Settings → ℕ → ℕ → List ℕ → List ℕ → List Put → Type 0
OnlyOrExpected delay settings n r start content puts =
    Each (λ c. c ≡ content) (visible_contents delay n r start puts)
    ⊎ ((since : ℕ) × (expected settings r puts ≡ Some (record { digest = md5 content; since = since })))

only_or_expected_ending :
    (delay : Delays) (settings : Settings) (n r : ℕ) (start content : List ℕ) (put : Put) (puts : List Put)
    (ending : Option Ending) → CoversDelays settings delay → put.ending ≡ ending → EndingBy n r ending → EndedOk
    ending → AllSuperseded delay put puts → put.content ≡ content
    → OnlyOrExpected delay settings n r start content (put ∷ puts)
only_or_expected_ending delay settings n r start content put puts None covers is by ok all same = absurd by
only_or_expected_ending delay settings n r start content put puts (Some ending) covers is by ok all same =
    by_age (leb_tells (ending.reading + delay.show) r) where
      by_age : ((nat_le (ending.reading + delay.show) r ≡ true) × (ending.reading + delay.show ≤ r)) ⊎
          ((nat_le (ending.reading + delay.show) r ≡ false) × (r < ending.reading + delay.show)) → OnlyOrExpected delay
          settings n r start content (put ∷ puts)
      by_age (inl old) =
          let place = le-leb (suc ending.place) n (omega (arith, by.0)) in
          inl (settled_shows delay n r start content put puts (rw (is, ok, place, old.0)) all same)
      by_age (inr young) =
          let window = in_window settings delay r ending covers ok by.1 young.1 in
          inr (ending.reading, rw (is, window, same))

pub only_or_expected : (delay : Delays) (settings : Settings) (n r : ℕ) (start content : List ℕ) (puts : List Put)
    → CoversDelays settings delay → EndedBy n r puts → Ordered delay puts
    → Each (λ c. c ≡ content) (possible_of start puts) → NewestOk puts
    → OnlyOrExpected delay settings n r start content puts
only_or_expected delay settings n r start content [] covers by order has ok = inl (has.0, tt)
only_or_expected delay settings n r start content (put ∷ puts) covers by order has ok =
    only_or_expected_ending delay settings n r start content put puts put.ending covers refl by.0 ok order.1 has.0

-- where a digest is expected, either the GET began within the delay, or only the content may be shown
abbrev pub YoungOrOnly : Delays → ℕ → ℕ → List ℕ → List ℕ → List Put → Expect → Type 0
YoungOrOnly delay n r start content puts expect =
    (r < expect.since + delay.show)
    ⊎ (Each (λ c. c ≡ content) (visible_contents delay n r start puts) × (expect.digest ≡ md5 content))

young_or_only_ending :
    (delay : Delays) (settings : Settings) (n r : ℕ) (start content : List ℕ) (put : Put) (puts : List Put)
    (expect : Expect) (ending : Option Ending) → put.ending ≡ ending → EndingBy n r ending → EndedOk ending →
    AllSuperseded delay put puts → put.content ≡ content
    → expected_ending settings r put.content ending ≡ Some expect
    → YoungOrOnly delay n r start content (put ∷ puts) expect
young_or_only_ending delay settings n r start content put puts expect None is by ok all same expects = absurd by
young_or_only_ending delay settings n r start content put puts expect (Some ending) is by ok all same expects =
    by_window ((nat_lt 0 settings.md5_size && ending.ok) && is_in_time settings r ending.reading) expects
    (leb_tells (ending.reading + delay.show) r) where
      by_window : (b : Bool)
          → (if b then Some (record { digest = md5 put.content; since = ending.reading }) else None) ≡ Some expect
          → ((nat_le (ending.reading + delay.show) r ≡ true) × (ending.reading + delay.show ≤ r)) ⊎
          ((nat_le (ending.reading + delay.show) r ≡ false) × (r < ending.reading + delay.show)) → YoungOrOnly delay n
          r start content (put ∷ puts) expect
      by_window false expects age = absurd (cc)
      by_window true expects (inr young) =
          let is_expect : record { digest = md5 put.content; since = ending.reading } ≡ expect = cc in
          inl (subst (λ (e : Expect). r < e.since + delay.show) is_expect young.1)
      by_window true expects (inl old) =
          let is_expect : record { digest = md5 put.content; since = ending.reading } ≡ expect = cc in
          let place = le-leb (suc ending.place) n (omega (arith, by.0)) in
          inr (
            settled_shows delay n r start content put puts (rw (is, ok, place, old.0)) all same,
            subst (λ (e : Expect). e.digest ≡ md5 content) is_expect (ap md5 same),
          )

pub young_or_only :
    (delay : Delays) (settings : Settings) (n r : ℕ) (start content : List ℕ) (puts : List Put) (expect : Expect)
    → EndedBy n r puts → Ordered delay puts → Each (λ c. c ≡ content) (possible_of start puts) → NewestOk puts
    → expected settings r puts ≡ Some expect
    → YoungOrOnly delay n r start content puts expect
young_or_only delay settings n r start content [] expect by order has ok expects = absurd (cc)
young_or_only delay settings n r start content (put ∷ puts) expect by order has ok expects =
    young_or_only_ending delay settings n r start content put puts expect put.ending refl by.0 ok order.1 has.0 expects

-- an answer that shows the content has its digest
pub shown_digest :
    (block_size : ℕ) (contents : List (List ℕ)) (content digest : List ℕ) (verify : Option (List ℕ)) (answer : Shown)
    → Each (λ c. c ≡ content) contents → ShowsOneOf block_size contents verify answer
    → answer_digest block_size verify answer ≡ Some digest → digest ≡ md5 content
shown_digest block_size contents content digest verify shown.Failed only answers is = absurd (cc)
shown_digest block_size contents content digest verify shown.Absent only answers is =
    let same = contained (λ c. c ≡ content) (zeros block_size) contents answers.0 only answers.1 answers.2 in
    let digests : md5 (zeros block_size) ≡ digest = cc in
    sym digests ∙ ap md5 same
shown_digest block_size contents content digest verify (shown.Bytes bytes) only answers is =
    let same = contained (λ c. c ≡ content) bytes contents answers.0 only answers.1 answers.2 in
    let digests : md5 bytes ≡ digest = cc in
    sym digests ∙ ap md5 same
shown_digest block_size contents content digest None shown.Same only answers is = absurd answers
shown_digest block_size contents content digest (Some known) shown.Same only answers is =
    let same = contained (λ c. c ≡ content) answers.0 contents answers.1.0 only answers.1.1 answers.1.2 in
    let digests : known ≡ digest = cc in
    sym digests ∙ sym answers.2 ∙ ap md5 same

-- without a window no digest is expected
pub nothing_expected :
    (settings : Settings) (r : ℕ) (puts : List Put) → settings.md5_size ≡ 0 → expected settings r puts ≡ None
nothing_expected settings r [] off = refl
nothing_expected settings r (put ∷ puts) off = by put.ending where
  by : (ending : Option Ending) → expected_ending settings r put.content ending ≡ None
  by None = refl
  by (Some ending) = rw off refl

-- no window, and nothing found: no digest decides what is taken
abbrev pub IsPlain : Settings → Option (List ℕ) → Type 0
IsPlain settings found = (settings.md5_size ≡ 0) × (found ≡ None)

abbrev IsFree : (List ℕ → Type 0) → Type 0
IsFree In = (a b : List ℕ) → In a → In b → md5 a ≡ md5 b → a ≡ b

module _ (block_size : ℕ) (delay : Delays) (settings : Settings) (n r : ℕ) (start content : List ℕ) (puts : List Put)
    (found : Option (List ℕ)) where
  shown_plain : IsPlain settings found → (expect : Option Expect) (verify : Option (List ℕ)) (answer : Shown)
      → OnlyOrExpected delay settings n r start content puts → Verifies found verify
      → Matches expect (answer_digest block_size verify answer)
      → ShowsOneOf block_size (visible_contents delay n r start puts) verify answer
      → answer_content block_size found answer ≡ content
  shown_plain plain expect verify answer (inr window) verifies may answers =
      let none = nothing_expected settings r puts plain.0 in let some = window.1 in absurd (cc)
  shown_plain plain expect verify shown.Failed (inl only) verifies may answers = absurd may
  shown_plain plain expect verify shown.Absent (inl only) verifies may answers =
      contained (λ c. c ≡ content) (zeros block_size) (visible_contents delay n r start puts) answers.0 only answers.1
      answers.2
  shown_plain plain expect verify (shown.Bytes bytes) (inl only) verifies may answers =
      contained (λ c. c ≡ content) bytes (visible_contents delay n r start puts) answers.0 only answers.1 answers.2
  shown_plain plain expect None shown.Same (inl only) verifies may answers = absurd answers
  shown_plain plain expect (Some digest) shown.Same (inl only) verifies may answers =
      let none = plain.1 in let some = verifies.1 in absurd (cc)

module _ (block_size : ℕ) (delay : Delays) (settings : Settings) (n r : ℕ) (start content : List ℕ) (puts : List Put)
    (found : Option (List ℕ)) (In : List ℕ → Type 0) (content_in : In content) where
  shown_free : IsFree In → (expect : Option Expect) (verify : Option (List ℕ)) (answer : Shown)
      → OnlyOrExpected delay settings n r start content puts → expect ≡ expected settings r puts → Verifies found verify
      → Matches expect (answer_digest block_size verify answer)
      → In (answer_content block_size found answer)
      → ShowsOneOf block_size (visible_contents delay n r start puts) verify answer
      → answer_content block_size found answer ≡ content
  shown_free free expect verify shown.Failed either is verifies may answer_in answers = absurd may
  shown_free free expect verify shown.Absent (inl only) is verifies may answer_in answers =
      contained (λ c. c ≡ content) (zeros block_size) (visible_contents delay n r start puts) answers.0 only answers.1
      answers.2
  shown_free free expect verify (shown.Bytes bytes) (inl only) is verifies may answer_in answers =
      contained (λ c. c ≡ content) bytes (visible_contents delay n r start puts) answers.0 only answers.1 answers.2
  shown_free free expect None shown.Same (inl only) is verifies may answer_in answers = absurd answers
  shown_free free expect (Some digest) shown.Same (inl only) is verifies may answer_in answers =
      let same = contained (λ c. c ≡ content) answers.0 (visible_contents delay n r start puts) answers.1.0 only
      answers.1.1 answers.1.2 in
      let body : unwrap_or found (zeros block_size) ≡ verifies.0 = rw (verifies.1) refl in
      free (unwrap_or found (zeros block_size)) content answer_in content_in
      (ap md5 body ∙ verifies.2 ∙ sym answers.2 ∙ ap md5 same)
  shown_free free expect verify shown.Absent (inr window) is verifies may answer_in answers =
      let matches = subst (λ e. Matches e (Some (md5 (zeros block_size)))) (is ∙ window.1) may in
      free (zeros block_size) content answer_in content_in matches
  shown_free free expect verify (shown.Bytes bytes) (inr window) is verifies may answer_in answers =
      let matches = subst (λ e. Matches e (Some (md5 bytes))) (is ∙ window.1) may in
      free bytes content answer_in content_in matches
  shown_free free expect None shown.Same (inr window) is verifies may answer_in answers = absurd answers
  shown_free free expect (Some digest) shown.Same (inr window) is verifies may answer_in answers =
      let matches = subst (λ e. Matches e (Some digest)) (is ∙ window.1) may in
      let body : unwrap_or found (zeros block_size) ≡ verifies.0 = rw (verifies.1) refl in
      free (unwrap_or found (zeros block_size)) content answer_in content_in (ap md5 body ∙ verifies.2 ∙ matches)

  -- an answer that is taken is the content
  pub shown_is :
      IsFree In ⊎ IsPlain settings found → (expect : Option Expect) (verify : Option (List ℕ)) (answer : Shown)
      → OnlyOrExpected delay settings n r start content puts → expect ≡ expected settings r puts → Verifies found verify
      → Matches expect (answer_digest block_size verify answer)
      → In (answer_content block_size found answer)
      → ShowsOneOf block_size (visible_contents delay n r start puts) verify answer
      → answer_content block_size found answer ≡ content
  shown_is (inl free) expect verify answer either is verifies may answer_in answers =
      shown_free free expect verify answer either is verifies may answer_in answers
  shown_is (inr plain) expect verify answer either is verifies may answer_in answers =
      shown_plain block_size delay settings n r start content puts found plain expect verify answer either verifies may
      answers

pub checked_settings_cover : CheckedSettingsCover
checked_settings_cover settings blocks delay checked covers =
    record {
      spacing = covers;
      window = window (nat_eq settings.md5_time 0) refl;
      off = λ none. let zero_spacing = (checked.times none).0 in omega (arith, zero_spacing, covers);
    } where
      window : (b : Bool) → nat_eq settings.md5_time 0 ≡ b → (settings.md5_time ≡ 0) ⊎ (delay ≤ settings.md5_time)
      window true is = inl (eqb-true settings.md5_time 0 is)
      window false is =
          inr (let long = checked.window_long (eqb-false settings.md5_time 0 is) in omega (arith, long, covers))
