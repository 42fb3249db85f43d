-- Passes that callers get, and give back.
use Rattle.std.proofs.Common.{ℕ, ◌≡◌, ◌<◌, zero, suc, length, take, get_or, arith, List, [], ◌∷◌, ◌++◌, Option, Some, None, refl, sym, ◌∙◌, ap, subst}
use Rattle.sb_turn.specs.Views.{Account}
use Rattle.sb_turn.specs.Passes.{mine, joined, number, HasSplit, IsNewFrom, HasJoined}
use Rattle.sb_core.specs.declared.standing.Timed.{Timed}
use Rattle.sb_crew.specs.declared.disk.Disk.{Disk}
use Rattle.sb_crew.specs.SharedDisks.{MayUse}
use Rattle.sb_server.specs.declared.caller.Caller.{Caller}
use Rattle.std.proofs.Math.Seq.{take-append_seam}
use Rattle.std.specs.List.{AllByRecursion, All}
use Rattle.sb_server.specs.Accounts.{Gathers, gathered}
use Rattle.sb_server.specs.Callers.{CorePass, HasPass, HavePasses, IsNew, SameTools, AllCame, joined_all, GotPasses, PassGathered, TookPasses}
use Rattle.sb_server.proofs.Gathering.{gathers_none, gathers_after}

abbrev held_or : {X : Type 0} → Option X → X → X
held_or None x = x
held_or (Some y) x = y

pub some_same : {X : Type 0} (held : Option X) (x y : X) → held ≡ Some x → held ≡ Some y → x ≡ y
some_same held x y is so = ap (λ o. held_or o x) (sym is ∙ so)

module _ {T : Type 0} {disk : Disk} where
  pub got_one : (p split new q : CorePass) (old : Caller T) (olds news : List (Caller T))
      → HasSplit p (number new) split → number p < number new → MayUse disk new → IsNewFrom p new → GotPasses disk split q olds news
      → GotPasses disk p q (old ∷ olds) (record { tools = old.tools; pass = Some new } ∷ news)
  got_one p split new q old olds news has above may fresh others = record {
    passes = new ∷ others.passes;
    have = (refl, may, others.have);
    new = (record { positive = omega (arith, above); none_made = fresh.mine; none_joined = fresh.joined }, others.new);
    same = (refl, others.same);
    from = record {
      may = others.from.may;
      same_number = others.from.same_number ∙ has.number;
      same_own = others.from.same_own ∙ has.mine;
      same_joined = others.from.same_joined ∙ has.joined;
    };
  }

  pub took_one : (p other mid q : CorePass) (old new : Caller T) (olds news : List (Caller T))
      → HasPass disk old → old.pass ≡ Some other → new.tools ≡ old.tools → HasJoined p other mid
      → TookPasses disk mid q olds news → TookPasses disk p q (old ∷ olds) (new ∷ news)
  took_one p other mid q old new olds news had is same has others = record {
    passes = other ∷ others.passes;
    had = (is, subst (MayUse disk) (some_same old.pass had.0 other had.1 is) had.2, others.had);
    same = (same, others.same);
    joins = record {
      may = others.joins.may;
      same_number = others.joins.same_number ∙ has.number;
      same_own = others.joins.same_own ∙ has.mine;
      joined_are = others.joins.joined_are
          ∙ ap (λ (all : List (Account Timed)). joined_all others.passes all) has.joined;
    };
  }

-- of two lists, element by element
abbrev pub AllPairs : {X : Type 0} → (X → X → Type 0) → List X → List X → Type 0
AllPairs P [] [] = Unit {0}
AllPairs P (x ∷ xs) (y ∷ ys) = P x y × AllPairs P xs ys
AllPairs P xs ys = ⊥

pub paired : {X : Type 0} (P : X → X → Type 0) (xs ys : List X) → length ys ≡ length xs
    → ((i : ℕ) (d : X) → i < length xs → P (get_or xs i d) (get_or ys i d)) → AllPairs P xs ys
paired P [] [] same each = tt
paired P (x ∷ xs) (y ∷ ys) same each =
    (each zero x (omega (arith)), paired P xs ys (omega (arith, same)) (λ i d below. each (suc i) d (omega (arith, below))))
paired P [] (y ∷ ys) same each = absurd (omega (arith, same))
paired P (x ∷ xs) [] same each = absurd (omega (arith, same))

-- a slice written back whole
pub slice_back : {X : Type 0} (new rest : List X) (len : ℕ) → length new ≡ len → take len (new ++ rest) ≡ new
slice_back new rest len is = ap (λ (n : ℕ). take n (new ++ rest)) (sym is) ∙ take-append_seam new rest

-- callers that got passes have them, and what was true of their tools is
pub have_each : {T : Type 0} (disk : Disk) (P : T → Type 0) (olds mids : List (Caller T)) (ps : List CorePass)
    → SameTools olds mids → HavePasses disk mids ps → AllByRecursion (λ (x : Caller T). P x.tools) olds
    → All (λ (x : Caller T). HasPass disk x × P x.tools) mids
have_each disk P [] [] [] same have its k d below = absurd (omega (arith, below))
have_each disk P (x ∷ xs) (m ∷ ms) (p ∷ ps) same have its zero d below =
    ((p, have.0, have.1), subst P (sym same.0) its.0)
have_each disk P (x ∷ xs) (m ∷ ms) (p ∷ ps) same have its (suc k) d below =
    have_each disk P xs ms ps same.1 have.2 its.1 k d (omega (arith, below))
have_each disk P [] (m ∷ ms) ps same have its k d below = absurd same
have_each disk P (x ∷ xs) [] ps same have its k d below = absurd same
have_each disk P [] [] (p ∷ ps) same have its k d below = absurd have
have_each disk P (x ∷ xs) (m ∷ ms) [] same have its k d below = absurd have

-- callers that worked still have their passes
pub still_have : {T : Type 0} (disk : Disk) (P : Caller T → Caller T → Type 0)
    → ((m e : Caller T) → P m e → HasPass disk e) → (mids ends : List (Caller T)) → AllPairs P mids ends
    → AllByRecursion (HasPass disk) ends
still_have disk P has [] [] worked = tt
still_have disk P has (m ∷ ms) (e ∷ es) worked = (has m e worked.0, still_have disk P has ms es worked.1)
still_have disk P has [] (e ∷ es) worked = absurd worked
still_have disk P has (m ∷ ms) [] worked = absurd worked

-- what one caller with a new pass came to, and what its pass gathered
abbrev pub Comes : {T A : Type 0} → (Caller T → Caller T → Type 0) → (T → T → A → Type 0) → (A → List (Account Timed))
    → Type 0
Comes {T} {A} P Came accounts = (m e : Caller T) (p q : CorePass) → m.pass ≡ Some p → IsNew p → e.pass ≡ Some q → P m e
    → (a : A) × Came m.tools e.tools a
    × ((base : List (Account Timed)) → Gathers base ((number q, mine q) ∷ (joined q ++ base)) (accounts a))

-- callers that got passes, worked, and gave them back
each_came : {T A : Type 0} (disk : Disk) (P : Caller T → Caller T → Type 0) (Came : T → T → A → Type 0)
    (accounts : A → List (Account Timed)) → Comes P Came accounts → (olds mids ends news : List (Caller T))
    (ps qs : List CorePass) → SameTools olds mids → HavePasses disk mids ps → AllByRecursion IsNew ps
    → AllPairs P mids ends → HavePasses disk ends qs → SameTools ends news
    → (all : List A) × AllCame Came olds news all
    × ((base : List (Account Timed)) → Gathers base (joined_all qs base) (gathered accounts all))
each_came disk P Came accounts one [] [] [] [] [] [] before have new worked had after = ([], tt, gathers_none)
each_came {T} {A} disk P Came accounts one (x ∷ xs) (m ∷ ms) (e ∷ es) (y ∷ ys) (p ∷ ps) (q ∷ qs) before have new worked had
    after =
    let others = each_came disk P Came accounts one xs ms es ys ps qs before.1 have.2 new.1 worked.1 had.2 after.1 in
    let this = one m e p q have.0 new.0 had.0 worked.0 in (
      this.0 ∷ others.0,
      (
        subst (λ (t : T). Came x.tools t this.0) (sym after.0)
            (subst (λ (t : T). Came t e.tools this.0) before.0 this.1),
        others.1,
      ),
      λ base.
          let mid = (number q, mine q) ∷ (joined q ++ base) in
          gathers_after base mid (joined_all qs mid) (accounts this.0) (gathered accounts others.0) (this.2 base)
          (others.2 mid),
    )
each_came disk P Came accounts one [] (m ∷ ms) es ys ps qs before have new worked had after = absurd before
each_came disk P Came accounts one (x ∷ xs) [] es ys ps qs before have new worked had after = absurd before
each_came disk P Came accounts one [] [] (e ∷ es) ys ps qs before have new worked had after = absurd worked
each_came disk P Came accounts one (x ∷ xs) (m ∷ ms) [] ys ps qs before have new worked had after = absurd worked
each_came disk P Came accounts one [] [] [] (y ∷ ys) ps qs before have new worked had after = absurd after
each_came disk P Came accounts one (x ∷ xs) (m ∷ ms) (e ∷ es) [] ps qs before have new worked had after = absurd after
each_came disk P Came accounts one [] [] [] [] (p ∷ ps) qs before have new worked had after = absurd have
each_came disk P Came accounts one (x ∷ xs) (m ∷ ms) (e ∷ es) (y ∷ ys) [] qs before have new worked had after = absurd have
each_came disk P Came accounts one [] [] [] [] [] (q ∷ qs) before have new worked had after = absurd had
each_came disk P Came accounts one (x ∷ xs) (m ∷ ms) (e ∷ es) (y ∷ ys) (p ∷ ps) [] before have new worked had after =
    absurd had

pub all_came : {T A : Type 0} (disk : Disk) (P : Caller T → Caller T → Type 0) (Came : T → T → A → Type 0)
    (accounts : A → List (Account Timed)) → Comes P Came accounts → (p split q : CorePass)
    (olds mids ends news : List (Caller T)) → GotPasses disk p split olds mids → AllPairs P mids ends
    → TookPasses disk split q ends news
    → (all : List A) × AllCame Came olds news all × PassGathered disk p q (gathered accounts all)
all_came disk P Came accounts one p split q olds mids ends news got worked took =
    let each = each_came disk P Came accounts one olds mids ends news got.passes took.passes got.same got.have got.new
    worked took.had took.same in (
      each.0,
      each.1,
      record {
        may = took.joins.may;
        same_number = took.joins.same_number ∙ got.from.same_number;
        same_own = took.joins.same_own ∙ got.from.same_own;
        gathers = subst (λ (base : List (Account Timed)). Gathers base (joined q) (gathered accounts each.0))
            got.from.same_joined
            (subst (λ (now : List (Account Timed)). Gathers (joined split) now (gathered accounts each.0))
            (sym took.joins.joined_are) (each.2 (joined split)));
      },
    )
