-- What each kind of entry makes of the phase of a block.
use Rattle.std.proofs.Common.{ℕ, suc, ◌≡◌, ◌≤◌, ◌⊎◌, Bool, true, false, not, ◌&&◌, if◌then◌else◌, nat_eq, nat_le, List}
use Rattle.std.proofs.Common.{[], ◌∷◌, length, filter, Option, Some, None, refl, sym, ◌∙◌, ap, subst, inl, inr, arith}
use Rattle.std.proofs.lemmas.Bool.{eqb-true, le-leb}
use Rattle.sb_base.specs.declared.settings.Settings.{Settings}
use Rattle.sb_history.specs.Contents.{zeros, is_zeros}
use Rattle.sb_history.specs.Puts.{Put, Ending, ended, newest_is_open, newest_is_zeros, newest_place}
use Rattle.sb_history.specs.Gets.{Fetch}
use Rattle.sb_history.specs.Visibility.{Delays}
use Rattle.sb_history.specs.Durability.{possible_of}
use Rattle.sb_history.specs.Cache.{cached_unless_zeros}
use Rattle.sb_history.specs.Writes.{is_nil}
use Rattle.sb_history.specs.Window.{expected, SpacedFrom}
use Rattle.sb_laws.proofs.Held.{Each, Each-map, Had, Since, had_is, had_now, had_same, had_write}
use Rattle.sb_laws.proofs.Order.{EndedBy, EndedBy-later, Ordered, new_ordered, shut, still}
use Rattle.sb_laws.proofs.Phases.{Holds, NewestOk, OpenPut, Phase, Verifies, getting, held, idle, some_remains, writing}

if_true : (b z : Bool) → (if b then z else false) ≡ true → (b ≡ true) × (z ≡ true)
if_true true z is = (refl, is)
if_true false z is = absurd (cc)

-- a list of zeros
zeros_cons : (x : ℕ) (xs : List ℕ) (b : Bool) → nat_eq x 0 ≡ b → (is_zeros xs ≡ true → xs ≡ zeros (length xs))
    → (b && is_zeros xs) ≡ true → x ∷ xs ≡ zeros (suc (length xs))
zeros_cons x xs true known_zero are is = rw (eqb-true x 0 known_zero) (ap (λ ys. 0 ∷ ys) (are is))
zeros_cons x xs false known_zero are is = absurd (cc)

pub zeros_are : (content : List ℕ) → is_zeros content ≡ true → content ≡ zeros (length content)
zeros_are [] is = refl
zeros_are (x ∷ xs) is = zeros_cons x xs (nat_eq x 0) refl (zeros_are xs) is

pub zeros_sized : (n : ℕ) (content : List ℕ) → length content ≡ n → is_zeros content ≡ true → content ≡ zeros n
zeros_sized n content sized is = subst (λ m. content ≡ zeros m) sized (zeros_are content is)

not_open : (content : List ℕ) (block_size : ℕ) (delay : Delays) (n r : ℕ) (H : ℕ → List ℕ → Type 0) (owed : List ℕ)
    (puts : List Put) → OpenPut block_size delay n r H owed puts → newest_is_open puts ≡ false → ⊥
not_open content block_size delay n r H owed [] p shut = p
not_open content block_size delay n r H owed (put ∷ puts) p shut = let wrong = rw p.0 at shut in cc

failed_remains :
    (Q : List ℕ → Type 0) (start : List ℕ) (put : Put) (puts : List Put) (ending : Ending) → put.ending ≡ None
    → ending.ok ≡ false → Each Q (possible_of start (put ∷ puts))
    → Each Q (possible_of start (record put { ending = Some ending } ∷ puts))
failed_remains Q start put puts ending none failed all = let others = rw none at all.1 in (all.0, rw failed others)

pub all_three : (a b c : Bool) → ((a && not b) && c) ≡ true → (a ≡ true) × (b ≡ false) × (c ≡ true)
all_three true false true is = (refl, refl, refl)
all_three true false false is = absurd (cc)
all_three true true c is = absurd (cc)
all_three false b c is = absurd (cc)

pub not_both : (a b c : Bool) → b ≡ false → ((a && not b) && c) ≡ false → (a && c) ≡ false
not_both true false c shut is = is
not_both true true c shut is = absurd (cc)
not_both false b c shut is = refl

pub known_written : (absent : Bool) (known : Option (List ℕ)) (out content : List ℕ) → known ≡ Some content
    → cached_unless_zeros absent known out ≡ Some out
known_written absent known out content is = rw is refl

pub unknown_written :
    (absent : Bool) (known : Option (List ℕ)) (out : List ℕ) → known ≡ None → (absent && is_zeros out) ≡ false
    → cached_unless_zeros absent known out ≡ Some out
unknown_written absent known out none is = rw (none, is) refl

pub unknown_zeros :
    (absent : Bool) (known : Option (List ℕ)) (out : List ℕ) → known ≡ None → absent ≡ true → is_zeros out ≡ true
    → cached_unless_zeros absent known out ≡ None
unknown_zeros absent known out none is known_zero = rw (none, is, known_zero) refl

module _ (block_size : ℕ) (settings : Settings) (delay : Delays) (found : Option (List ℕ)) (start : List ℕ) (n r s : ℕ)
    (later : r ≤ s) (get : Option Fetch) (puts : List Put) (owed content : List ℕ) (H : ℕ → List ℕ → Type 0)
    (now : (x : List ℕ) → H n x → x ≡ content) where
  open_later : (puts : List Put) → OpenPut block_size delay n r H owed puts
      → OpenPut block_size delay (suc n) s (Since n content H) owed puts
  open_later [] p = p
  open_later (put ∷ puts) p = (
    p.0,
    omega (arith, p.1),
    omega (arith, p.2, later),
    p.3,
    p.4,
    had_same H n content now (filter (λ write. nat_le put.place write) owed) put.content p.5,
  )

  phase_same : (known : Option (List ℕ)) (absent : Bool)
      → Phase block_size settings delay found n r known absent get puts owed content H
      → Phase block_size settings delay found (suc n) s known absent get puts owed content (Since n content H)
  phase_same known absent (idle k g e o d) = idle k g (EndedBy-later n (suc n) r s puts (omega arith) later e) o d
  phase_same known absent (getting fetch k g z a b e o d x v) =
      getting fetch k g z (omega (arith, a)) (omega (arith, b, later)) e o d x v
  phase_same known absent (held k g e o) = held k g (EndedBy-later n (suc n) r s puts (omega arith) later e) o
  phase_same known absent (writing k g d o) = writing k g d (open_later puts o)

  pub kept : Each (Had H n owed) (possible_of start puts)
      → Each (Had (Since n content H) (suc n) owed) (possible_of start puts)
  kept all =
      Each-map (Had H n owed) (Had (Since n content H) (suc n) owed) (possible_of start puts)
      (had_same H n content now owed) all

  pub step_same : (known : Option (List ℕ)) (absent : Bool)
      → Holds block_size settings delay found start n r known absent get puts owed content H
      → Holds block_size settings delay found start (suc n) s known absent get puts owed content (Since n content H)
  step_same known absent p = (phase_same known absent p.0, kept p.1, p.2, p.3)

  -- the content of a block that owes nothing is in the store, and nothing else
  pub remains : is_nil owed ≡ true → Each (Had H n owed) (possible_of start puts)
      → Each (λ c. c ≡ content) (possible_of start puts)
  remains nil all =
      Each-map (Had H n owed) (λ c. c ≡ content) (possible_of start puts)
      (λ c had. had_is H n content now owed c nil had) all

  pub is_zero_content : is_nil owed ≡ true → Each (Had H n owed) (possible_of start puts)
      → Each (λ c. c ≡ zeros block_size) (possible_of start puts) → content ≡ zeros block_size
  is_zero_content nil all absent =
      let some = some_remains start puts (λ c. c ≡ content) (λ c. c ≡ zeros block_size) (remains nil all) absent in
      sym some.1 ∙ some.2

  -- what a block that is known to be zeros holds
  pub step_known_zero : (known : Option (List ℕ)) (absent : Bool) (t : Bool)
      → (t ≡ true → (get ≡ None) × (puts ≡ []) × (start ≡ zeros block_size))
      → Holds block_size settings delay found start n r known absent get puts owed content H → Holds block_size settings
      delay found start (suc n) s known (if t then true else absent) get puts owed content (Since n content H)
  step_known_zero known absent false may p = step_same known absent p
  step_known_zero known absent true may p =
      (marked p.0, kept p.1, (λ is. rw ((may refl).1) ((may refl).2, tt)), (λ is nil. rw ((may refl).1) tt)) where
        marked : Phase block_size settings delay found n r known absent get puts owed content H
            → Phase block_size settings delay found (suc n) s known true get puts owed content (Since n content H)
        marked (idle k g e o d) = idle k g (EndedBy-later n (suc n) r s puts (omega arith) later e) o d
        marked (getting fetch k g z a b e o d x v) = let none = (may refl).0 in absurd (cc)
        marked (held k g e o) = held k g (EndedBy-later n (suc n) r s puts (omega arith) later e) o
        marked (writing k g d o) = writing k g d (open_later puts o)

  pub step_drop : (known : Option (List ℕ)) (absent : Bool) (t : Bool)
      → (t ≡ true → (known ≡ None) ⊎ ((newest_is_open puts ≡ false) × (is_nil owed ≡ true)))
      → Holds block_size settings delay found start n r known absent get puts owed content H → Holds block_size settings
      delay found start (suc n) s (if t then None else known) absent get puts owed content (Since n content H)
  step_drop known absent false may p = step_same known absent p
  step_drop known absent true may p = (dropped p.0 (may refl), kept p.1, p.2, p.3) where
    dropped : Phase block_size settings delay found n r known absent get puts owed content H
        → (known ≡ None) ⊎ ((newest_is_open puts ≡ false) × (is_nil owed ≡ true))
        → Phase block_size settings delay found (suc n) s None absent get puts owed content (Since n content H)
    dropped (idle k g e o d) why = idle refl g (EndedBy-later n (suc n) r s puts (omega arith) later e) o d
    dropped (getting fetch k g z a b e o d x v) why = getting fetch refl g z (omega (arith, a))
        (omega (arith, b, later)) e o d x v
    dropped (held k g e o) (inr why) = idle refl g (EndedBy-later n (suc n) r s puts (omega arith) later e) o why.1
    dropped (held k g e o) (inl none) = absurd (cc)
    dropped (writing k g d o) (inr why) = absurd (not_open content block_size delay n r H owed puts o why.0)
    dropped (writing k g d o) (inl none) = absurd (cc)

  pub step_get_begin :
      (known : Option (List ℕ)) (absent : Bool) (fetch : Fetch) → fetch.place ≡ n → fetch.reading ≡ s → (t : Bool)
      → (t ≡ true → (known ≡ None) × (absent ≡ false) × (get ≡ None) × (newest_is_open puts ≡ false)
      × (fetch.expect ≡ expected settings fetch.reading puts) × Verifies found fetch.verify)
      → Holds block_size settings delay found start n r known absent get puts owed content H → Holds block_size settings
      delay found start (suc n) s known absent (if t then Some fetch else get) puts owed content (Since n content H)
  step_get_begin known absent fetch place reading false may p = step_same known absent p
  step_get_begin known absent fetch place reading true may p = (begun p.0, kept p.1, p.2, p.3) where
    begun :
        Phase block_size settings delay found n r known absent get puts owed content H → Phase block_size settings delay
        found (suc n) s known absent (Some fetch) puts owed content (Since n content H)
    begun (idle k g e o d) =
        let m = may refl in
        getting fetch k refl m.1 (omega (arith, place)) (omega (arith, reading))
        (EndedBy-later n fetch.place r fetch.reading puts (omega (arith, place)) (omega (arith, reading, later)) e) o
        d m.4 m.5
    begun (getting other k g z a b e o d x v) = let none = (may refl).2 in absurd (cc)
    begun (held k g e o) = let none = (may refl).0 in absurd (cc)
    begun (writing k g d o) = absurd (not_open content block_size delay n r H owed puts o (may refl).3)

  pub step_get_end :
      (known : Option (List ℕ)) (absent absent' : Bool) (given : List ℕ) (t taken : Bool) → (t ≡ true → get ≡ None → ⊥)
      → (t ≡ true → taken ≡ true → (fetch : Fetch) → get ≡ Some fetch → absent ≡ false
      → EndedBy fetch.place fetch.reading puts → Ordered delay puts
      → fetch.expect ≡ expected settings fetch.reading puts → Verifies found fetch.verify
      → Each (λ c. c ≡ content) (possible_of start puts) → NewestOk puts
      → (given ≡ content) × (absent' ≡ true → given ≡ zeros block_size))
      → Holds block_size settings delay found start n r known absent get puts owed content H
      → Holds block_size settings delay found start (suc n) s
      (if t then (if taken then Some given else known) else known)
      (if t then (if taken then absent' else absent) else absent) (if t then None else get) puts owed content
      (Since n content H)
  step_get_end known absent absent' given false taken is_open gives p = step_same known absent p
  step_get_end known absent absent' given true taken is_open gives p = ends taken refl p.0 where
    GetEnds : Bool → Type 0
    GetEnds taken = Holds block_size settings delay found start (suc n) s (if taken then Some given else known)
        (if taken then absent' else absent) None puts owed content (Since n content H)

    ends : (b : Bool) → taken ≡ b → Phase block_size settings delay found n r known absent get puts owed content H
        → Holds block_size settings delay found start (suc n) s (if b then Some given else known)
        (if b then absent' else absent) None puts owed content (Since n content H)
    ends b is (idle k g e o d) = absurd (is_open refl g)
    ends b is (held k g e o) = absurd (is_open refl g)
    ends b is (writing k g d o) = absurd (is_open refl g)
    ends false is (getting fetch k g z a b e o d x v) = (
      idle k refl (EndedBy-later fetch.place (suc n) fetch.reading s puts (omega (arith, a))
          (omega (arith, b, later)) e) o d,
      kept p.1,
      p.2,
      p.3,
    )
    ends true is (getting fetch k g z a b e o d x v) =
        let has = remains d p.1 in
        let gave = gives refl is fetch g z e o x v has (p.3 z d) in (
          held (ap Some gave.0) refl
              (EndedBy-later fetch.place (suc n) fetch.reading s puts (omega (arith, a)) (omega (arith, b, later)) e) o,
          kept p.1,
          λ known_zero. Each-map (λ c. c ≡ content) (λ c. c ≡ zeros block_size) (possible_of start puts)
              (λ c same. same ∙ sym gave.0 ∙ gave.1 known_zero) has,
          λ known_zero nil. p.3 z nil,
        )

  pub step_put_begin : (known : Option (List ℕ)) (absent : Bool) (put : List ℕ) (pass : ℕ) (t : Bool)
      → delay.order ≤ settings.min_write_delay → length content ≡ block_size
      → (t ≡ true → (known ≡ Some put) × (newest_is_open puts ≡ false) × (is_nil owed ≡ false)
      × SpacedFrom settings.min_write_delay s puts)
      → Holds block_size settings delay found start n r known absent get puts owed content H
      → Holds block_size settings delay found start (suc n) s known
      (if t then (if is_zeros put then absent else false) else absent) get
      (if t then record { content = put; pass = pass; place = n; reading = s; ending = None } ∷ puts else puts) owed
      content (Since n content H)
  step_put_begin known absent put pass false cover sized may p = step_same known absent p
  step_put_begin known absent put pass true cover sized may p = begins p.0 where
    begins : Phase block_size settings delay found n r known absent get puts owed content H
        → Holds block_size settings delay found start (suc n) s known (if is_zeros put then absent else false) get
        (record { content = put; pass = pass; place = n; reading = s; ending = None } ∷ puts) owed content
        (Since n content H)
    begins (idle k g e o d) = let none = (may refl).0 in absurd (cc)
    begins (getting fetch k g z a b e o d x v) = let none = (may refl).0 in absurd (cc)
    begins (writing k g d o) = absurd (not_open content block_size delay n r H owed puts o (may refl).1)
    begins (held k g e o) =
        let here = (may refl).0 in
        let is : put ≡ content = cc in
        let new : Put = record { content = put; pass = pass; place = n; reading = s; ending = None } in (
          writing k g (may refl).2 (
            refl,
            omega arith,
            omega arith,
            new_ordered delay settings.min_write_delay n r s new puts cover later refl refl refl e o (may refl).3,
            ap length is ∙ sized,
            had_now H n content (filter (λ write. nat_le n write) owed) put is,
          ),
          (had_now H n content owed put is, kept p.1),
          λ known_zero. let both = if_true (is_zeros put) absent known_zero in
              (zeros_sized block_size put (ap length is ∙ sized) both.0, p.2 both.1),
          λ known_zero nil. tt,
        )

  pub step_put_end :
      (known : Option (List ℕ)) (absent : Bool) (t ok : Bool) → (t ≡ true → newest_is_open puts ≡ true)
      → Holds block_size settings delay found start n r known absent get puts owed content H
      → Holds block_size settings delay found start (suc n) s known
      (if t then (if ok then (if newest_is_zeros puts then true else absent) else absent) else absent) get
      (if t then ended (record { place = n; reading = s; ok = ok }) puts else puts)
      (if t then (if ok then filter (λ write. nat_le (newest_place puts) write) owed else owed) else owed) content
      (Since n content H)
  step_put_end known absent false ok may p = step_same known absent p
  step_put_end known absent true ok may p = ends ok p.0 where
    ended_ok : (ps : List Put) → known ≡ Some content → get ≡ None → OpenPut block_size delay n r H owed ps
        → (absent ≡ true → Each (λ c. c ≡ zeros block_size) (possible_of start ps))
        → Holds block_size settings delay found start (suc n) s known (if newest_is_zeros ps then true else absent) get
        (ended (record { place = n; reading = s; ok = true }) ps)
        (filter (λ write. nat_le (newest_place ps) write) owed) content (Since n content H)
    ended_ok [] k g o z = absurd o
    ended_ok (put ∷ ps) k g o z = (
      held k g (
        (omega arith, omega arith),
        EndedBy-later put.place (suc n) put.reading s ps (omega (arith, o.1))
            (omega (arith, o.2, later)) o.3.0,
      ) (
        o.3.0,
        still delay put (record put { ending = Some (record { place = n; reading = s; ok = true }) }) ps
            refl refl o.3.1,
        omega (arith, o.2, later),
      ),
      (had_same H n content now (filter (λ write. nat_le put.place write) owed) put.content o.5, tt),
      λ known_zero. (zero_now (is_zeros put.content) refl known_zero, tt),
      λ known_zero nil. refl,
    ) where
      zero_now :
          (b : Bool) → is_zeros put.content ≡ b → (if b then true else absent) ≡ true → put.content ≡ zeros block_size
      zero_now true is known_zero = zeros_sized block_size put.content o.4 is
      zero_now false is known_zero = (z known_zero).0

    ended_failed : (ps : List Put) → known ≡ Some content → get ≡ None → is_nil owed ≡ false
        → OpenPut block_size delay n r H owed ps → Each (Had (Since n content H) (suc n) owed) (possible_of start ps)
        → (absent ≡ true → Each (λ c. c ≡ zeros block_size) (possible_of start ps))
        → Holds block_size settings delay found start (suc n) s known absent get
        (ended (record { place = n; reading = s; ok = false }) ps) owed content (Since n content H)
    ended_failed [] k g d o has z = absurd o
    ended_failed (put ∷ ps) k g d o has z = (
      held k g (
        (omega arith, omega arith),
        EndedBy-later put.place (suc n) put.reading s ps (omega (arith, o.1))
            (omega (arith, o.2, later)) o.3.0,
      ) (
        o.3.0,
        still delay put (record put { ending = Some (record { place = n; reading = s; ok = false }) }) ps
            refl refl o.3.1,
        omega (arith, o.2, later),
      ),
      failed_remains (Had (Since n content H) (suc n) owed) start put ps (record { place = n; reading = s; ok = false })
          o.0 refl has,
      λ known_zero. failed_remains (λ c. c ≡ zeros block_size) start put ps
          (record { place = n; reading = s; ok = false }) o.0 refl (z known_zero),
      λ known_zero nil. absurd (cc),
    )

    ends : (ok : Bool) → Phase block_size settings delay found n r known absent get puts owed content H
        → Holds block_size settings delay found start (suc n) s known
        (if ok then (if newest_is_zeros puts then true else absent) else absent) get
        (ended (record { place = n; reading = s; ok = ok }) puts)
        (if ok then filter (λ write. nat_le (newest_place puts) write) owed else owed) content (Since n content H)
    ends ok (idle k g e o d) = let closed = shut n r puts e in let is = may refl in absurd (cc)
    ends ok (getting fetch k g z a b e o d x v) = let closed = shut fetch.place fetch.reading puts e in let is = may
        refl in absurd (cc)
    ends ok (held k g e o) = let closed = shut n r puts e in let is = may refl in absurd (cc)
    ends true (writing k g d o) = ended_ok puts k g o p.2
    ends false (writing k g d o) = ended_failed puts k g d o (kept p.1) p.2

  -- what is known is the content; where nothing is known and the block is known to be zeros, it is zeros
  pub known_cases : (known : Option (List ℕ)) (absent : Bool)
      → Holds block_size settings delay found start n r known absent get puts owed content H
      → (known ≡ Some content) ⊎ ((known ≡ None) × (absent ≡ true → content ≡ zeros block_size))
  known_cases known absent p = cases p.0 where
    cases : Phase block_size settings delay found n r known absent get puts owed content H
        → (known ≡ Some content) ⊎ ((known ≡ None) × (absent ≡ true → content ≡ zeros block_size))
    cases (idle k g e o d) = inr (k, λ known_zero. is_zero_content d p.1 (p.2 known_zero))
    cases (getting fetch k g z a b e o d x v) = inr (k, λ known_zero. absurd (cc))
    cases (held k g e o) = inl k
    cases (writing k g d o) = inl k

  -- a write, after which the block holds what is known
  module _ (out : List ℕ) (sized : length out ≡ block_size) where
    open_written : (puts : List Put) → OpenPut block_size delay n r H owed puts
        → OpenPut block_size delay (suc n) s (Since n out H) (n ∷ owed) puts
    open_written [] o = o
    open_written (put ∷ puts) o =
        let here = le-leb put.place n (omega (arith, o.1)) in (
          o.0,
          omega (arith, o.1),
          omega (arith, o.2, later),
          o.3,
          o.4,
          rw here (had_write H n content now out (filter (λ write. nat_le put.place write) owed) put.content o.5),
        )

    written : Each (Had H n owed) (possible_of start puts)
        → Each (Had (Since n out H) (suc n) (n ∷ owed)) (possible_of start puts)
    written all = Each-map (Had H n owed) (Had (Since n out H) (suc n) (n ∷ owed)) (possible_of start puts)
        (had_write H n content now out owed) all

    cleared : Each (λ c. c ≡ zeros block_size) (possible_of start puts) → out ≡ zeros block_size
        → Each (Had (Since n out H) (suc n) []) (possible_of start puts)
    cleared all known_zero = Each-map (λ c. c ≡ zeros block_size) (Had (Since n out H) (suc n) [])
        (possible_of start puts) (λ c is. had_now H n out [] c (is ∙ sym known_zero)) all

    pub writes : (known : Option (List ℕ)) (absent : Bool) → get ≡ None
        → Holds block_size settings delay found start n r known absent get puts owed content H
        → (c : Bool) → ((absent && not (newest_is_open puts)) && is_zeros out) ≡ c
        → Holds block_size settings delay found start (suc n) s (cached_unless_zeros absent known out) absent get puts
        (if c then [] else n ∷ owed) out (Since n out H)
    writes known absent none p c is = by p.0 c is where
      by : Phase block_size settings delay found n r known absent get puts owed content H → (c : Bool)
          → ((absent && not (newest_is_open puts)) && is_zeros out) ≡ c
          → Holds block_size settings delay found start (suc n) s (cached_unless_zeros absent known out) absent get puts
          (if c then [] else n ∷ owed) out (Since n out H)
      by (idle k g e o d) true is =
          let three = all_three absent (newest_is_open puts) (is_zeros out) is in (
            idle (unknown_zeros absent known out k three.0 three.2) g
                (EndedBy-later n (suc n) r s puts (omega arith) later e) o refl,
            cleared (p.2 three.0) (zeros_sized block_size out sized three.2),
            p.2,
            λ not_null nil. absurd (cc),
          )
      by (idle k g e o d) false is = (
        held (unknown_written absent known out k (not_both absent (newest_is_open puts) (is_zeros out)
            (shut n r puts e) is)) g (EndedBy-later n (suc n) r s puts (omega arith) later e) o,
        written p.1,
        p.2,
        λ not_null nil. absurd (cc),
      )
      by (getting fetch k g z a b e o d x v) c is = absurd (cc)
      by (held k g e o) true is =
          let three = all_three absent (newest_is_open puts) (is_zeros out) is in (
            held (known_written absent known out content k) g (EndedBy-later n (suc n) r s puts (omega arith) later e)
                o,
            cleared (p.2 three.0) (zeros_sized block_size out sized three.2),
            p.2,
            λ not_null nil. absurd (cc),
          )
      by (held k g e o) false is = (
        held (known_written absent known out content k) g (EndedBy-later n (suc n) r s puts (omega arith) later e) o,
        written p.1,
        p.2,
        λ not_null nil. absurd (cc),
      )
      by (writing k g d o) true is = absurd (not_open content block_size delay n r H owed puts o
          (all_three absent (newest_is_open puts) (is_zeros out) is).1)
      by (writing k g d o) false is = (
        writing (known_written absent known out content k) g refl (open_written puts o),
        written p.1,
        p.2,
        λ not_null nil. absurd (cc),
      )

  pub step_write : (known : Option (List ℕ)) (absent : Bool) (out next : List ℕ) (t : Bool)
      → (t ≡ true → (get ≡ None) × (out ≡ next) × (length out ≡ block_size))
      → Holds block_size settings delay found start n r known absent get puts owed content H
      → Holds block_size settings delay found start (suc n) s
      (if t then cached_unless_zeros absent known out else known) absent get puts
      (if t then (if (absent && not (newest_is_open puts)) && is_zeros out then [] else n ∷ owed) else owed)
      (if t then next else content) (Since n (if t then next else content) H)
  step_write known absent out next false may p = step_same known absent p
  step_write known absent out next true may p =
      let m = may refl in
      subst (λ x. Holds block_size settings delay found start (suc n) s
      (cached_unless_zeros absent known out) absent get puts
      (if (absent && not (newest_is_open puts)) && is_zeros out then [] else n ∷ owed) x (Since n x H)) m.1
      (writes out m.2 known absent m.0 p ((absent && not (newest_is_open puts)) && is_zeros out) refl)
