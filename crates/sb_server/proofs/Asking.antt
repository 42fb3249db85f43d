-- What a world was asked for, one after the other.
use Rattle.std.proofs.Common.{ℕ, zero, suc, ◌≡◌, ◌<◌, ◌+◌, ◌-◌, List, [], ◌∷◌, ◌++◌, Bool, true, false, Option, IfErr, Result, Ok, Err, refl, sym, ◌∙◌, ap, subst, append_assoc, arith}
use Rattle.sb_base.specs.declared.access.StorePlan.{StorePlan}
use Rattle.sb_base.specs.declared.geometry.Geometry.{Geometry}
use Rattle.sb_base.specs.declared.text.Text.{Text}
use Rattle.sb_world.specs.Told.{CountsJust}
use Rattle.sb_world.specs.Worlds.{WorldView, IsOfStore, IsOfAddress, Makes, make_failed}
use Rattle.sb_world.specs.declared.world.Ask.{Ask}
use Rattle.sb_world.specs.declared.world.Ask.TheVariants as ask
use Rattle.sb_world.specs.declared.world.MakeFault.{MakeFault}
use Rattle.sb_world.specs.declared.world.MakeFault.TheVariants as fault
use Rattle.sb_crew.specs.Joins.{gains_join, gains_nothing}
use Rattle.sb_server.specs.declared.caller.Caller.{Caller}
use Rattle.sb_server.specs.declared.client.Client.{Client}
use Rattle.sb_server.specs.declared.worker.Worker.{Worker}
use Rattle.sb_world.specs.declared.link.Link as link
use Rattle.sb_world.specs.declared.listener.Listener as listener
use Rattle.sb_server.specs.Gatherings.{client_asks, worker_asks, IsOfNewest, AsksFor, IsDeskAnew, IsClientAnew, AreClientsAnew, AreWorkersAnew}

pub same_failed : (T U : Type 0) (f : MakeFault) → make_failed {T = T} (Err f) ≡ make_failed {T = U} (Err f)
same_failed T U fault.Store = refl
same_failed T U fault.Listen = refl
same_failed T U fault.Memory = refl

abbrev IsFalse : Bool → Type 0
IsFalse true = ⊥
IsFalse false = Unit {0}

never_true : false ≡ true → ⊥
never_true is = subst IsFalse is tt

of_newest : (newer older : List Ask) (f : MakeFault) → IsOfNewest newer f → IsOfNewest (newer ++ older) f
of_newest [] older fault.Memory is = tt
of_newest [] older fault.Store is = absurd is
of_newest [] older fault.Listen is = absurd is
of_newest (ask.Bench store links ∷ newer) older fault.Memory is = tt
of_newest (ask.Bench store links ∷ newer) older fault.Store is = tt
of_newest (ask.Bench store links ∷ newer) older fault.Listen is = absurd is
of_newest (ask.Desk store ∷ newer) older fault.Memory is = tt
of_newest (ask.Desk store ∷ newer) older fault.Store is = tt
of_newest (ask.Desk store ∷ newer) older fault.Listen is = absurd is
of_newest (ask.Listener address limit ∷ newer) older fault.Memory is = tt
of_newest (ask.Listener address limit ∷ newer) older fault.Store is = absurd is
of_newest (ask.Listener address limit ∷ newer) older fault.Listen is = tt

failed_then : {T : Type 0} (newer older : List Ask) (result : Result T MakeFault) → IfErr result (IsOfNewest newer)
    → IfErr result (IsOfNewest (newer ++ older))
failed_then newer older (Ok x) is = tt
failed_then newer older (Err f) is = of_newest newer older f is

pub bench_failed : (store : Option StorePlan) (links : ℕ) (f : MakeFault) → IsOfStore f
    → IsOfNewest (ask.Bench store links ∷ []) f
bench_failed store links fault.Store is = tt
bench_failed store links fault.Listen is = absurd is
bench_failed store links fault.Memory is = tt

pub desk_failed : (store : StorePlan) (f : MakeFault) → IsOfStore f → IsOfNewest (ask.Desk store ∷ []) f
desk_failed store fault.Store is = tt
desk_failed store fault.Listen is = absurd is
desk_failed store fault.Memory is = tt

pub listener_failed : (address : Text) (limit : ℕ) (f : MakeFault) → IsOfAddress f
    → IsOfNewest (ask.Listener address limit ∷ []) f
listener_failed address limit fault.Store is = absurd is
listener_failed address limit fault.Listen is = tt
listener_failed address limit fault.Memory is = tt

module _ {N L C R S : Type 0} where
  pub asks_nothing : {T : Type 0} (a : WorldView N L C R S) (x : T) → AsksFor [] a a (Ok x)
  asks_nothing a x = record {
    asks = [];
    left_out = [];
    in_order = refl;
    whole = refl;
    failed = tt;
    asked = gains_nothing a.asks;
    counted = record { later = omega (arith); rises = λ never. absurd (never_true never); stays = λ is. refl };
    same_tells = refl;
    same_last = refl;
    same_said = refl;
    same_heard = refl;
  }

  pub asks_one : (T U : Type 0) (a b : WorldView N L C R S) (wanted : Ask) (x : T) (y : U)
      → Makes {T = T} a b wanted (Ok x) → AsksFor {T = U} (wanted ∷ []) a b (Ok y)
  asks_one T U a b wanted x y made = record {
    asks = wanted ∷ [];
    left_out = [];
    in_order = refl;
    whole = refl;
    failed = tt;
    asked = made.asked;
    counted = made.counted;
    same_tells = made.same_tells;
    same_last = made.same_last;
    same_said = made.same_said;
    same_heard = made.same_heard;
  }

  pub one_failed : (T U : Type 0) (a b : WorldView N L C R S) (wanted : Ask) (f : MakeFault)
      → IsOfNewest (wanted ∷ []) f → Makes {T = T} a b wanted (Err f) → AsksFor {T = U} (wanted ∷ []) a b (Err f)
  one_failed T U a b wanted f is made = record {
    asks = wanted ∷ [];
    left_out = [];
    in_order = refl;
    whole = tt;
    failed = is;
    asked = made.asked;
    counted = subst (λ (failed : Bool). CountsJust a.faults b.faults failed) (same_failed T U f) made.counted;
    same_tells = made.same_tells;
    same_last = made.same_last;
    same_said = made.same_said;
    same_heard = made.same_heard;
  }

  -- some were asked for, and then others
  pub asks_then : {T U : Type 0} (a b c : WorldView N L C R S) (xs ys : List Ask) (x : T) (result : Result U MakeFault)
      → AsksFor xs a b (Ok x) → AsksFor ys b c result → AsksFor (ys ++ xs) a c result
  asks_then a b c xs ys x result first second = record {
    asks = second.asks ++ first.asks;
    left_out = second.left_out;
    in_order = ap (λ (l : List Ask). l ++ xs) second.in_order
        ∙ ap (λ (l : List Ask). (second.left_out ++ second.asks) ++ l)
        (first.in_order ∙ ap (λ (l : List Ask). l ++ first.asks) first.whole)
        ∙ append_assoc second.left_out second.asks first.asks;
    whole = second.whole;
    failed = failed_then second.asks first.asks result second.failed;
    asked = gains_join a.asks b.asks c.asks first.asks second.asks first.asked second.asked;
    counted = subst (λ (n : ℕ). CountsJust n c.faults (make_failed result)) (first.counted.stays refl) second.counted;
    same_tells = second.same_tells ∙ first.same_tells;
    same_last = second.same_last ∙ first.same_last;
    same_said = second.same_said ∙ first.same_said;
    same_heard = second.same_heard ∙ first.same_heard;
  }

  -- some weren't made, and others were left out then
  pub asks_failed : (T U : Type 0) (a b : WorldView N L C R S) (xs ys : List Ask) (f : MakeFault)
      → AsksFor {T = T} xs a b (Err f) → AsksFor {T = U} (ys ++ xs) a b (Err f)
  asks_failed T U a b xs ys f first = record {
    asks = first.asks;
    left_out = ys ++ first.left_out;
    in_order = ap (λ (l : List Ask). ys ++ l) first.in_order ∙ sym (append_assoc ys first.left_out first.asks);
    whole = tt;
    failed = first.failed;
    asked = first.asked;
    counted = subst (λ (failed : Bool). CountsJust a.faults b.faults failed) (same_failed T U f) first.counted;
    same_tells = first.same_tells;
    same_last = first.same_last;
    same_said = first.same_said;
    same_heard = first.same_heard;
  }

  -- another was made of them
  pub asks_made : (T U : Type 0) (a b : WorldView N L C R S) (xs : List Ask) (x : T) (y : U)
      → AsksFor {T = T} xs a b (Ok x) → AsksFor {T = U} xs a b (Ok y)
  asks_made T U a b xs x y first = record {
    asks = first.asks;
    left_out = first.left_out;
    in_order = first.in_order;
    whole = first.whole;
    failed = tt;
    asked = first.asked;
    counted = first.counted;
    same_tells = first.same_tells;
    same_last = first.same_last;
    same_said = first.same_said;
    same_heard = first.same_heard;
  }

  -- all were made, and there was no memory then
  pub asks_in_vain : (T U : Type 0) (a b : WorldView N L C R S) (xs : List Ask) (x : T)
      → AsksFor {T = T} xs a b (Ok x) → AsksFor {T = U} xs a b (Err fault.Memory)
  asks_in_vain T U a b xs x first = record {
    asks = first.asks;
    left_out = first.left_out;
    in_order = first.in_order;
    whole = tt;
    failed = tt;
    asked = first.asked;
    counted = first.counted;
    same_tells = first.same_tells;
    same_last = first.same_last;
    same_said = first.same_said;
    same_heard = first.same_heard;
  }

pub one_more : (n : ℕ) → suc n ≡ n + 1
one_more n = omega (arith)

-- the asks for some stand in those for more
client_asks_in : (store : StorePlan) (address : Text) (limit d n count : ℕ) → count ≡ d + n
    → (later : List Ask) × (client_asks store address limit count ≡ later ++ client_asks store address limit n)
client_asks_in store address limit zero n count is =
    let same : count ≡ n = omega (arith, is) in ([], ap (λ (k : ℕ). client_asks store address limit k) same)
client_asks_in store address limit (suc d) n zero is = absurd (omega (arith, is))
client_asks_in store address limit (suc d) n (suc count) is =
    let others = client_asks_in store address limit d n count (omega (arith, is)) in (
      ask.Desk store ∷ ask.Listener address limit ∷ others.0,
      ap (λ (l : List Ask). ask.Desk store ∷ ask.Listener address limit ∷ l) others.1,
    )

worker_asks_in : (store : StorePlan) (d n count : ℕ) → count ≡ d + n
    → (later : List Ask) × (worker_asks store count ≡ later ++ worker_asks store n)
worker_asks_in store zero n count is =
    let same : count ≡ n = omega (arith, is) in ([], ap (λ (k : ℕ). worker_asks store k) same)
worker_asks_in store (suc d) n zero is = absurd (omega (arith, is))
worker_asks_in store (suc d) n (suc count) is =
    let others = worker_asks_in store d n count (omega (arith, is)) in (
      ask.Desk store ∷ others.0,
      ap (λ (l : List Ask). ask.Desk store ∷ l) others.1,
    )

module _ {N L C R S : Type 0} where
  -- one more was made
  pub more_clients : (T : Type 0) (a b c : WorldView N L C R S) (store : StorePlan) (address : Text) (limit made : ℕ)
      (x : T) → AsksFor {T = Unit {0}} (client_asks store address limit made) a b (Ok (tt {0}))
      → AsksFor {T = T} (ask.Desk store ∷ ask.Listener address limit ∷ []) b c (Ok x)
      → AsksFor {T = Unit {0}} (client_asks store address limit (made + 1)) a c (Ok (tt {0}))
  more_clients T a b c store address limit made x first second =
      let both = asks_made T (Unit {0}) a c (client_asks store address limit (suc made)) x (tt {0})
      (asks_then a b c (client_asks store address limit made) (ask.Desk store ∷ ask.Listener address limit ∷ [])
      (tt {0}) (Ok x) first second) in
      subst (λ (n : ℕ). AsksFor {T = Unit {0}} (client_asks store address limit n) a c (Ok (tt {0}))) (one_more made) both

  pub more_workers : (T : Type 0) (a b c : WorldView N L C R S) (store : StorePlan) (made : ℕ)
      (x : T) → AsksFor {T = Unit {0}} (worker_asks store made) a b (Ok (tt {0}))
      → AsksFor {T = T} (ask.Desk store ∷ []) b c (Ok x)
      → AsksFor {T = Unit {0}} (worker_asks store (made + 1)) a c (Ok (tt {0}))
  more_workers T a b c store made x first second =
      let both = asks_made T (Unit {0}) a c (worker_asks store (suc made)) x (tt {0})
      (asks_then a b c (worker_asks store made) (ask.Desk store ∷ []) (tt {0}) (Ok x) first second) in
      subst (λ (n : ℕ). AsksFor {T = Unit {0}} (worker_asks store n) a c (Ok (tt {0}))) (one_more made) both

  -- one was not, and the others were left out
  pub clients_failed : (T U : Type 0) (a b c : WorldView N L C R S) (store : StorePlan) (address : Text)
      (limit made count : ℕ) (f : MakeFault) → made < count
      → AsksFor {T = Unit {0}} (client_asks store address limit made) a b (Ok (tt {0}))
      → AsksFor {T = T} (ask.Desk store ∷ ask.Listener address limit ∷ []) b c (Err f)
      → AsksFor {T = U} (client_asks store address limit count) a c (Err f)
  clients_failed T U a b c store address limit made count f below first second =
      let both = asks_then a b c (client_asks store address limit made)
      (ask.Desk store ∷ ask.Listener address limit ∷ []) (tt {0}) (Err f) first second in
      let all = client_asks_in store address limit (count - (made + 1)) (suc made) count (omega (arith, below)) in
      subst (λ (wanted : List Ask). AsksFor {T = U} wanted a c (Err f)) (sym all.1)
      (asks_failed T U a c (client_asks store address limit (suc made)) all.0 f both)

  pub workers_failed : (T U : Type 0) (a b c : WorldView N L C R S) (store : StorePlan)
      (made count : ℕ) (f : MakeFault) → made < count
      → AsksFor {T = Unit {0}} (worker_asks store made) a b (Ok (tt {0}))
      → AsksFor {T = T} (ask.Desk store ∷ []) b c (Err f)
      → AsksFor {T = U} (worker_asks store count) a c (Err f)
  workers_failed T U a b c store made count f below first second =
      let both = asks_then a b c (worker_asks store made) (ask.Desk store ∷ []) (tt {0}) (Err f) first second in
      let all = worker_asks_in store (count - (made + 1)) (suc made) count (omega (arith, below)) in
      subst (λ (wanted : List Ask). AsksFor {T = U} wanted a c (Err f)) (sym all.1)
      (asks_failed T U a c (worker_asks store (suc made)) all.0 f both)

clients_behind : {N L C R S : Type 0} (listeners : listener.Ghosts N R S) (links : link.Ghosts L)
    (geometry : Geometry) (count : ℕ) (clients : List (Caller (Client N L C))) (client : Caller (Client N L C))
    → AreClientsAnew listeners links geometry count clients → IsClientAnew listeners links geometry client.tools
    → AreClientsAnew listeners links geometry (suc count) (clients ++ client ∷ [])
clients_behind listeners links geometry zero [] client are is = (is, tt)
clients_behind listeners links geometry (suc count) (x ∷ xs) client are is =
    (are.0, clients_behind listeners links geometry count xs client are.1 is)
clients_behind listeners links geometry (suc count) [] client are is = absurd are
clients_behind listeners links geometry zero (x ∷ xs) client are is = absurd are

workers_behind : {L C : Type 0} (links : link.Ghosts L) (geometry : Geometry) (first count : ℕ)
    (workers : List (Caller (Worker L C))) (worker : Caller (Worker L C))
    → AreWorkersAnew links geometry first count workers → IsDeskAnew links geometry worker.tools.desk
    → worker.tools.number ≡ count + first
    → AreWorkersAnew links geometry first (suc count) (workers ++ worker ∷ [])
workers_behind links geometry first zero [] worker are is number = (is, omega (arith, number), tt)
workers_behind links geometry first (suc count) (x ∷ xs) worker are is number =
    (are.0, are.1, workers_behind links geometry (suc first) count xs worker are.2 is (omega (arith, number)))
workers_behind links geometry first (suc count) [] worker are is number = absurd are
workers_behind links geometry first zero (x ∷ xs) worker are is number = absurd are

none_less : (n : ℕ) → n ≡ n + 0
none_less n = omega (arith)

pub clients_more : {N L C R S : Type 0} (listeners : listener.Ghosts N R S) (links : link.Ghosts L)
    (geometry : Geometry) (count : ℕ) (clients news : List (Caller (Client N L C))) (client : Caller (Client N L C))
    (tools : Client N L C) → AreClientsAnew listeners links geometry count clients
    → IsClientAnew listeners links geometry tools → client.tools ≡ tools → news ≡ clients ++ client ∷ []
    → AreClientsAnew listeners links geometry (count + 1) news
clients_more {N} {L} {C} listeners links geometry count clients news client tools are is same all =
    let one = subst (λ (t : Client N L C). IsClientAnew listeners links geometry t) (sym same) is in
    let more = clients_behind listeners links geometry count clients client are one in
    subst (λ (n : ℕ). AreClientsAnew listeners links geometry n news) (one_more count)
    (subst (λ (l : List (Caller (Client N L C))). AreClientsAnew listeners links geometry (suc count) l) (sym all) more)

pub workers_more : {L C : Type 0} (links : link.Ghosts L) (geometry : Geometry) (count : ℕ)
    (workers news : List (Caller (Worker L C))) (worker : Caller (Worker L C)) (tools : Worker L C)
    → AreWorkersAnew links geometry 0 count workers → IsDeskAnew links geometry tools.desk → tools.number ≡ count
    → worker.tools ≡ tools → news ≡ workers ++ worker ∷ [] → AreWorkersAnew links geometry 0 (count + 1) news
workers_more {L} {C} links geometry count workers news worker tools are is number same all =
    let one = subst (λ (t : Worker L C). IsDeskAnew links geometry t.desk) (sym same) is in
    let more = workers_behind links geometry 0 count workers worker are one
    (ap (λ (t : Worker L C). t.number) same ∙ number ∙ none_less count) in
    subst (λ (n : ℕ). AreWorkersAnew links geometry 0 n news) (one_more count)
    (subst (λ (l : List (Caller (Worker L C))). AreWorkersAnew links geometry 0 (suc count) l) (sym all) more)
