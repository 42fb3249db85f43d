-- What the turns of a pass come to, where other passes take turns between them.
use Rattle.std.proofs.Common.{ℕ, ◌≡◌, ◌≢◌, ◌<◌, Bool, true, false, nat_eq, if◌then◌else◌, max, List, [], ◌∷◌, ◌++◌}
use Rattle.std.proofs.Common.{Option, Some, None, length, is_none, refl, sym, ◌∙◌, ap, subst, arith}
use Rattle.std.proofs.Common.{eqb, length-append}
use Rattle.std.proofs.lemmas.Bool.{eqb-true, eq-eqb}
use Rattle.sb_turn.specs.declared.stands.Stands.{Ghosts}
use Rattle.sb_turn.specs.declared.pass.Pass.{Pass}
use Rattle.sb_turn.specs.declared.turn.Turn.{Turn}
use Rattle.sb_turn.specs.Histories.{entries_of_pass, IsPast}
use Rattle.sb_turn.specs.Passes.{seen, mine, number, base_of, IsFree, HoldsTurn, IsSamePass}
use Rattle.sb_turn.proofs.Histories.{entries-append}
use Rattle.sb_base.specs.declared.geometry.Geometry.{Geometry}
use Rattle.sb_base.specs.declared.settings.Settings.{Settings}
use Rattle.sb_base.specs.declared.entry.Entry.{Entry}
use Rattle.sb_base.specs.declared.entry.EntryKind.{EntryKind}
use Rattle.sb_base.specs.declared.entry.EntryKind.TheVariants as kind
use Rattle.sb_history.specs.Contents.{is_zeros}
use Rattle.sb_history.specs.Gets.{Fetch, fetch_of, fetch_after}
use Rattle.sb_history.specs.Puts.{Put, puts_of, puts_after, ended}
use Rattle.sb_history.specs.ClockTrace.{ClockTrace}
use Rattle.sb_history.specs.AccessRules.{last_reading, MayFollow, EndsFetch, EndsPut, FollowsAccessRules}
use Rattle.sb_history.specs.AccessRules as rules
use Rattle.sb_history.specs.CachePolicy.{FollowsCachePolicy}
use Rattle.sb_laws.proofs.Joins.{other_pass_is_unticked}
use Rattle.sb_core.specs.declared.machine.Core.{Core}
use Rattle.sb_core.specs.declared.standing.Timed.{Timed}
use Rattle.sb_core.specs.declared.standing.Fixed.{Fixed}
use Rattle.sb_core.specs.declared.job.GetJob.{GetJob}
use Rattle.sb_blocks.specs.declared.cached.OpenGet.{OpenGet}
use Rattle.sb_blocks.specs.declared.cached.OpenPut.{OpenPut}
use Rattle.sb_core.specs.Represents.{nothing_found, open_get, open_put}
use Rattle.sb_core.specs.Requests.{SameBase, FlushOpens}
use Rattle.sb_core.specs.Leads.{ReadLeads, WriteLeads, LeadsToGet}
use Rattle.sb_core.specs.declared.job.PutJob.{PutJob}
use Rattle.sb_core.specs.Steps.{CopiesRead, HasGet, HasPut, read_kind}
use Rattle.sb_core.specs.Writing.{CopiesWrite, write_kind}
use Rattle.sb_core.specs.Flushing.{CopiesFlush, flush_kind}
use Rattle.sb_crew.specs.Runs.{HasBegun, IsPutOf}
use Rattle.sb_crew.proofs.Turning.{begun_lasts, put_newest}
use Rattle.sb_crew.specs.SharedJoins.{entries_in-append, same_pass}
use Rattle.sb_core.specs.Standing.{entries_in, timed, fixed_of, StandsFor}
use Rattle.sb_base.specs.declared.part.Part.{Part}
use Rattle.sb_core.specs.declared.step.ReadStep.{ReadStep}
use Rattle.sb_core.specs.declared.step.ReadStep.TheVariants as read
use Rattle.sb_core.specs.declared.step.WriteStep.{WriteStep}
use Rattle.sb_core.specs.declared.step.WriteStep.TheVariants as write
use Rattle.sb_core.specs.declared.step.FlushStep.{FlushStep}
use Rattle.sb_core.specs.declared.step.FlushStep.TheVariants as flush
use Rattle.sb_crew.specs.Sharing.{caller, IsOpenGet, IsOpenPut, BeginsGet, ReadBegins, WriteBegins, FlushBegins}
use Rattle.sb_crew.specs.Sharing.{began_get, seen_by, MayCall, PassTurn}

-- entries of other passes than this one
abbrev pub AreOfOthers : ℕ → List Entry → Type 0
AreOfOthers n [] = Unit {0}
AreOfOthers n (entry ∷ entries) = (entry.pass ≢ n) × AreOfOthers n entries

pub of_others : (n : ℕ) (xs : List (ℕ × Timed)) → entries_of_pass n xs ≡ [] → AreOfOthers n (entries_in xs)
of_others n [] none = tt
of_others n (x ∷ xs) none = by (eqb x.0 n) refl none (of_others n xs) where
  by : (b : Bool) → eqb x.0 n ≡ b → (if b then x ∷ entries_of_pass n xs else entries_of_pass n xs) ≡ []
      → (entries_of_pass n xs ≡ [] → AreOfOthers n (entries_in xs)) → AreOfOthers n (entries_in (x ∷ xs))
  by true is none more = absurd (cc)
  by false is none more = ((λ same. let yes = eq-eqb x.0 n same in cc), more none)

-- others add nothing to the ticks of a pass
pub unticked : (geometry : Geometry) (settings : Settings) (n : ℕ) (before others : List Entry) (next : Option ℕ)
    → AreOfOthers n others → ClockTrace geometry settings (caller n) before others next []
unticked geometry settings n before [] next are = refl
unticked geometry settings n before (entry ∷ others) next are =
    other_pass_is_unticked geometry settings (caller n) before others entry next [] are.0
    (unticked geometry settings n before others next are.1)

-- an entry of another pass leaves the GET of a pass open
get_stays_one : (geometry : Geometry) (settings : Settings) (past : List Entry)
    (n block pass place reading : ℕ) (of : EntryKind) (get : OpenGet) → get.pass ≡ n → pass ≢ n
    → MayFollow geometry settings nothing_found past pass reading of → open_get (fetch_of past block) ≡ Some get
    → open_get (fetch_after block pass place reading of (fetch_of past block)) ≡ Some get
get_stays_one geometry settings past n block pass place reading (kind.GetBegin asked expect verify) get mine other may
    is = by (nat_eq asked block) refl where
      new : Fetch
      new = record { pass = pass; place = place; reading = reading; expect = expect; verify = verify }

      by : (b : Bool) → nat_eq asked block ≡ b
          → open_get (if b then Some new else fetch_of past block) ≡ Some get
      by true same =
          let at : asked ≡ block = eqb-true asked block same in
          let idle : fetch_of past block ≡ None = subst (λ (k : ℕ). fetch_of past k ≡ None) at may.idle_block.0 in
          let none : None ≡ Some get = sym (ap open_get idle) ∙ is in absurd (cc)
      by false same = is
get_stays_one geometry settings past n block pass place reading (kind.GetEnd asked answer verify taken) get mine other
    may is = by (nat_eq asked block) refl where
      own : (fetch : Option Fetch) → EndsFetch geometry.block_size fetch pass answer verify taken
          → open_get fetch ≡ Some get → ⊥
      own None ends is = ends
      own (Some fetch) ends is =
          let same : fetch.pass ≡ get.pass = cc in other (ends.1 ∙ (same ∙ mine))

      by : (b : Bool) → nat_eq asked block ≡ b → open_get (if b then None else fetch_of past block) ≡ Some get
      by true same =
          let at : asked ≡ block = eqb-true asked block same in
          absurd (own (fetch_of past block)
          (subst (λ (k : ℕ). EndsFetch geometry.block_size (fetch_of past k) pass answer verify taken) at may) is)
      by false same = is
get_stays_one geometry settings past n block pass place reading of get mine other may is = is

pub get_stays : (geometry : Geometry) (settings : Settings) (n : ℕ) (job : GetJob) (others past : List Entry)
    → AreOfOthers n others → FollowsAccessRules geometry settings nothing_found (others ++ past)
    → IsOpenGet past n job → IsOpenGet (others ++ past) n job
get_stays geometry settings n job [] past are follows is = is
get_stays geometry settings n job (entry ∷ others) past are follows is =
    get_stays_one geometry settings (others ++ past) n job.block entry.pass (length (others ++ past)) entry.reading
    entry.kind _ refl are.0 follows.0 (get_stays geometry settings n job others past are.1 follows.2 is)

-- the same of a PUT
abbrev pass_in : Option OpenPut → ℕ
pass_in None = 0
pass_in (Some put) = put.pass

-- a block is not idle while a put of it is open
pub none_open : (past : List Entry) (block : ℕ) (open_is : OpenPut) (puts : List Put) → rules.IsIdle past block
    → puts_of past block ≡ puts → open_put puts ≡ Some open_is → ⊥
none_open past block open_is [] idle at is = absurd (cc)
none_open past block open_is (put ∷ puts) idle at is =
    let shut : is_none put.ending ≡ false = cc in
    let none : None ≡ Some open_is = sym (ap (λ (b : Bool).
    if b then Some (record { pass = put.pass; zeros = is_zeros put.content }) else None) shut) ∙ is in absurd (cc)

put_stays_one : (geometry : Geometry) (settings : Settings) (past : List Entry)
    (n block pass place reading : ℕ) (of : EntryKind) (open_is : OpenPut) → open_is.pass ≡ n → pass ≢ n
    → MayFollow geometry settings nothing_found past pass reading of → open_put (puts_of past block) ≡ Some open_is
    → open_put (puts_after block pass place reading of (puts_of past block)) ≡ Some open_is
put_stays_one geometry settings past n block pass place reading (kind.PutBegin asked content) open_is mine other may is =
    by (nat_eq asked block) refl where
      new : Put
      new = record { content = content; pass = pass; place = place; reading = reading; ending = None }

      by : (b : Bool) → nat_eq asked block ≡ b
          → open_put (if b then new ∷ puts_of past block else puts_of past block) ≡ Some open_is
      by true same =
          let at : asked ≡ block = eqb-true asked block same in
          absurd (none_open past block open_is (puts_of past block) (subst (rules.IsIdle past) at may.idle_block) refl is)
      by false same = is
put_stays_one geometry settings past n block pass place reading (kind.PutEnd asked ok) open_is mine other may is =
    by (nat_eq asked block) refl where
      own : (puts : List Put) → EndsPut puts pass → open_put puts ≡ Some open_is → ⊥
      own [] ends is = ends
      own (put ∷ puts) ends is =
          let still : is_none put.ending ≡ true = ap is_none ends.0 in
          let held : Some (record { pass = put.pass; zeros = is_zeros put.content }) ≡ Some open_is =
          sym (ap (λ (b : Bool). if b then Some (record { pass = put.pass; zeros = is_zeros put.content }) else None) still)
          ∙ is in
          other (ends.1 ∙ ap pass_in held ∙ mine)

      by : (b : Bool) → nat_eq asked block ≡ b
          → open_put (if b then ended (record { place = place; reading = reading; ok = ok }) (puts_of past block)
          else puts_of past block) ≡ Some open_is
      by true same =
          let at : asked ≡ block = eqb-true asked block same in
          absurd (own (puts_of past block) (subst (λ (k : ℕ). EndsPut (puts_of past k) pass) at may) is)
      by false same = is
put_stays_one geometry settings past n block pass place reading of open_is mine other may is = is

pub put_stays : (geometry : Geometry) (settings : Settings) (n : ℕ) (job : PutJob) (others past : List Entry)
    → AreOfOthers n others → FollowsAccessRules geometry settings nothing_found (others ++ past)
    → IsOpenPut past n job → IsOpenPut (others ++ past) n job
put_stays geometry settings n job [] past are follows is = is
put_stays geometry settings n job (entry ∷ others) past are follows is =
    put_stays_one geometry settings (others ++ past) n job.block entry.pass (length (others ++ past)) entry.reading
    entry.kind (record { pass = n; zeros = job.zeros }) refl are.0 follows.0
    (put_stays geometry settings n job others past are.1 follows.2 is)

-- a list that adds nothing is empty
nothing_added : {X : Type 0} (xs ys : List X) → xs ++ ys ≡ ys → xs ≡ []
nothing_added [] ys is = refl
nothing_added (x ∷ xs) ys is =
    let more : length (x ∷ (xs ++ ys)) ≡ length ys = ap length is in
    absurd (omega (arith, more, length-append xs ys))

module _ {g : Ghosts Core Timed Fixed} where
  -- what came since a pass was outside a turn is of others, up to its own entry
  pub none_own : (p mid : Pass Core Timed Fixed g) (others : List (ℕ × Timed)) → 0 < number p → IsFree p
      → HoldsTurn mid → number mid ≡ number p → mine mid ≡ mine p → seen mid ≡ others ++ seen p
      → entries_of_pass (number p) others ≡ []
  none_own p mid others some free holds same kept is =
      let n = number p in
      let before : entries_of_pass n (seen p) ≡ mine p = (free.3.exact.0 some).0 in
      let inside : entries_of_pass n (seen mid) ≡ mine mid =
      (subst (λ (k : ℕ). 0 < k → (entries_of_pass k (seen mid) ≡ mine mid) × (entries_of_pass k (seen mid) ≡ mine mid))
      same holds.3.exact.0 some).0 in
      nothing_added (entries_of_pass n others) (entries_of_pass n (seen p))
      (sym (entries-append n others (seen p)) ∙ ap (entries_of_pass n) (sym is) ∙ inside ∙ kept ∙ sym before)

  -- the base of a pass is that of the core in its turn
  pub same_fixed : (p mid : Pass Core Timed Fixed g) (fixed : Fixed) (core : Core) → base_of p ≡ Some fixed
      → IsSamePass p mid → base_of mid ≡ Some (fixed_of core) → fixed_of core ≡ fixed
  same_fixed p mid fixed core is same held =
      let both : Some (fixed_of core) ≡ Some fixed = sym held ∙ same.base ∙ is in cc

  -- a turn that made an entry: what the pass did, and that it may go on
  pub turn_made : (p mid q : Pass Core Timed Fixed g) (turn : Turn Core Timed Fixed) (fixed : Fixed) (old new : Core)
      (now : ℕ) (of told : EntryKind) → told ≡ of → 0 < number p → MayCall turn fixed p
      → IsSamePass p mid → IsPast (seen p) (seen mid) → mine mid ≡ mine p → HoldsTurn mid
      → StandsFor old (seen_by mid) → base_of mid ≡ Some (fixed_of old)
      → StandsFor new (record { pass = number mid; reading = new.reading; kind = told } ∷ seen_by mid)
      → SameBase old new → new.reading ≡ max now old.reading
      → IsSamePass mid q → IsFree q → seen q ≡ (number mid, timed new.reading told) ∷ seen mid
      → mine q ≡ (number mid, timed new.reading told) ∷ mine mid
      → PassTurn p q now (record { pass = number p; reading = new.reading; kind = of }) × MayCall turn fixed q
  turn_made p mid q turn fixed old new now of told told_is some may entered past kept holds stood held stood_then base
      reading left free seen_then mine_then =
      let at : ℕ → EntryKind → Entry = λ n k. record { pass = n; reading = new.reading; kind = k } in
      let stands : StandsFor new (at (number p) of ∷ seen_by mid) =
      subst (λ (n : ℕ). StandsFor new (at n of ∷ seen_by mid)) entered.number
      (subst (λ (k : EntryKind). StandsFor new (at (number mid) k ∷ seen_by mid)) told_is stood_then) in
      let same_event : (number mid, timed new.reading told) ≡ (number p, timed new.reading of) =
      ap (λ (k : EntryKind). (number mid, timed new.reading k)) told_is
      ∙ ap (λ (n : ℕ). (n, timed new.reading of)) entered.number in
      let seen_is : seen q ≡ (number p, timed new.reading of) ∷ seen mid =
      seen_then ∙ ap (λ (x : ℕ × Timed). x ∷ seen mid) same_event in
      let mine_is : mine q ≡ (number p, timed new.reading of) ∷ mine mid =
      mine_then ∙ ap (λ (x : ℕ × Timed). x ∷ mine mid) same_event in
      let others = past.0 in
      let is_fixed : fixed_of old ≡ fixed = same_fixed p mid fixed old may.base entered held in
      let geometry : new.geometry ≡ fixed.geometry = base.geometry ∙ ap (λ (f : Fixed). f.geometry) is_fixed in
      let settings : new.settings ≡ fixed.settings = base.settings ∙ ap (λ (f : Fixed). f.settings) is_fixed in
      let here : StandsFor new (seen_by q) =
      subst (StandsFor new) (sym (ap entries_in seen_is)) stands in (
        record {
          same = same_pass entered left;
          others = others;
          of_others = none_own p mid others some may.free holds entered.number kept past.1;
          event = timed new.reading of;
          entry_is = refl;
          seen_is = seen_is ∙ ap (λ (xs : List (ℕ × Timed)). (number p, timed new.reading of) ∷ xs) past.1;
          mine_is = mine_is ∙ ap (λ (xs : List (ℕ × Timed)). (number p, timed new.reading of) ∷ xs) kept;
          reading = reading ∙ ap (λ (n : ℕ). max now n)
              (stood.represents.last ∙ ap (λ (xs : List (ℕ × Timed)). last_reading (entries_in xs)) past.1);
        },
        record {
          of_lock = left.lock ∙ entered.lock ∙ may.of_lock;
          free = free;
          base = left.base ∙ entered.base ∙ may.base;
          rules = subst (λ (s : Settings). FollowsAccessRules fixed.geometry s nothing_found (seen_by q)) settings
              (subst (λ (g : Geometry). FollowsAccessRules g new.settings nothing_found (seen_by q)) geometry
              here.represents.rules);
          policy = subst (λ (s : Settings). FollowsCachePolicy fixed.geometry s nothing_found (seen_by q)) settings
              (subst (λ (g : Geometry). FollowsCachePolicy g new.settings nothing_found (seen_by q)) geometry
              here.represents.policy);
        },
      )

-- the core that is given back stands for the history with its entry, as the entry is told
pub given_back : (core : Core) (past : List Entry) (n m reading : ℕ) (of told : EntryKind) → n ≡ m
    → reading ≡ core.reading → of ≡ told → StandsFor core (record { pass = n; reading = reading; kind = of } ∷ past)
    → StandsFor core (record { pass = m; reading = core.reading; kind = told } ∷ past)
given_back core past n m reading of told same at is stands =
    subst (λ (k : EntryKind). StandsFor core (record { pass = m; reading = core.reading; kind = k } ∷ past)) is
    (subst (λ (r : ℕ). StandsFor core (record { pass = m; reading = r; kind = of } ∷ past)) at
    (subst (λ (k : ℕ). StandsFor core (record { pass = k; reading = reading; kind = of } ∷ past)) same stands))

-- a flush that has begun has done so in each later history
pub begun_stays : (mark : ℕ) (past history : List (ℕ × Timed)) → IsPast past history
    → HasBegun mark (entries_in past) → HasBegun mark (entries_in history)
begun_stays mark past history later begun =
    subst (HasBegun mark) (sym (ap entries_in later.1 ∙ entries_in-append later.0 past))
    (begun_lasts mark (entries_in later.0) (entries_in past) begun)

-- a job of a pass is open in the core that has the turn
module _ {g : Ghosts Core Timed Fixed} where
  pub has_get : (p mid : Pass Core Timed Fixed g) (core : Core) (job : GetJob) → 0 < number p → IsFree p
      → IsSamePass p mid → IsPast (seen p) (seen mid) → mine mid ≡ mine p → HoldsTurn mid
      → StandsFor core (seen_by mid) → IsOpenGet (seen_by p) (number p) job → HasGet core (number mid) job
  has_get p mid core job some free entered past kept holds stood is_open =
      let others = past.0 in
      let inside : seen_by mid ≡ entries_in others ++ seen_by p =
      ap entries_in past.1 ∙ entries_in-append others (seen p) in
      let are = of_others (number p) others (none_own p mid others some free holds entered.number kept past.1) in
      let still : IsOpenGet (seen_by mid) (number p) job =
      subst (λ (h : List Entry). IsOpenGet h (number p) job) (sym inside)
      (get_stays core.geometry core.settings (number p) job (entries_in others) (seen_by p) are
      (subst (FollowsAccessRules core.geometry core.settings nothing_found) inside stood.represents.rules) is_open) in
      subst (λ (n : ℕ). HasGet core n job) (sym entered.number) (sym (stood.represents.blocks job.block).asks ∙ still)

  pub has_put : (p mid : Pass Core Timed Fixed g) (core : Core) (job : PutJob) → 0 < number p → IsFree p
      → IsSamePass p mid → IsPast (seen p) (seen mid) → mine mid ≡ mine p → HoldsTurn mid
      → StandsFor core (seen_by mid) → IsOpenPut (seen_by p) (number p) job → HasPut core (number mid) job
  has_put p mid core job some free entered past kept holds stood is_open =
      let others = past.0 in
      let inside : seen_by mid ≡ entries_in others ++ seen_by p =
      ap entries_in past.1 ∙ entries_in-append others (seen p) in
      let are = of_others (number p) others (none_own p mid others some free holds entered.number kept past.1) in
      let still : IsOpenPut (seen_by mid) (number p) job =
      subst (λ (h : List Entry). IsOpenPut h (number p) job) (sym inside)
      (put_stays core.geometry core.settings (number p) job (entries_in others) (seen_by p) are
      (subst (FollowsAccessRules core.geometry core.settings nothing_found) inside stood.represents.rules) is_open) in
      subst (λ (n : ℕ). HasPut core n job) (sym entered.number) (sym (stood.represents.blocks job.block).puts ∙ still)

  pub begun_behind : {p q : Pass Core Timed Fixed g} {now : ℕ} {entry : Entry} (mark : ℕ) → PassTurn p q now entry
      → HasBegun mark (seen_by p) → HasBegun mark (seen_by q)
  begun_behind {p} {q} mark turn begun =
      begun_stays mark (seen p) (seen q) ((number p, turn.event) ∷ turn.others, turn.seen_is) begun

  -- a GET that was open before a turn is open up to the turn's own entry
  pub open_before : {p q : Pass Core Timed Fixed g} {now : ℕ} {entry : Entry} {turn : Turn Core Timed Fixed}
      {fixed : Fixed} (job : GetJob) (took : PassTurn p q now entry) → MayCall turn fixed q
      → IsOpenGet (seen_by p) (number p) job → IsOpenGet (entries_in (took.others ++ seen p)) (number p) job
  open_before {p} {q} {fixed = fixed} job took may is_open =
      let inside = entries_in-append took.others (seen p) in
      let R : List Entry → Type 0 = FollowsAccessRules fixed.geometry fixed.settings nothing_found in
      let rules = subst R (ap entries_in took.seen_is) may.rules in
      subst (λ (h : List Entry). IsOpenGet h (number p) job) (sym inside)
      (get_stays fixed.geometry fixed.settings (number p) job (entries_in took.others) (seen_by p)
      (of_others (number p) took.others took.of_others) (subst R inside rules.2) is_open)

-- the entry of the begin of a GET, by the reading of its job
pub began_by : {g : Ghosts Core Timed Fixed} {p q : Pass Core Timed Fixed g} {now : ℕ} (n reading : ℕ) (job : GetJob)
    → PassTurn p q now (record { pass = n; reading = reading; kind = kind.GetBegin job.block job.expect job.verify })
    → job.begun ≡ last_reading (seen_by q)
    → ◌≡◌ {A = Entry}
    (record { pass = n; reading = reading; kind = kind.GetBegin job.block job.expect job.verify }) (began_get n job)
began_by n reading job turn begun =
    let at : job.begun ≡ reading =
    begun ∙ ap (λ (xs : List (ℕ × Timed)). last_reading (entries_in xs)) turn.seen_is
    ∙ sym (ap (λ (e : Entry). e.reading) turn.entry_is) in
    ap (λ (r : ℕ). record { pass = n; reading = r; kind = kind.GetBegin job.block job.expect job.verify }) (sym at)

-- what a core that stands for a history has open is open there
get_opened : {core : Core} {past : List Entry} (n : ℕ) (job : GetJob) → StandsFor core past → HasGet core n job
    → IsOpenGet past n job
get_opened n job stands has = (stands.represents.blocks job.block).asks ∙ has

pub put_opened : {core : Core} {past : List Entry} (n : ℕ) (job : PutJob) → StandsFor core past → HasPut core n job
    → IsOpenPut past n job
put_opened n job stands has = (stands.represents.blocks job.block).puts ∙ has

get_begins : {old core : Core} {past : List Entry} (n block : ℕ) (job : GetJob) → StandsFor core past
    → LeadsToGet old core n block job → BeginsGet past n block job
get_begins n block job stands leads = record {
  open_is = get_opened n job stands leads.begun;
  same_block = leads.same_block;
  begun = leads.reading ∙ stands.represents.last;
  verify = leads.verify;
}

-- what has begun with an answer, in the history that the core stands for then
pub read_begins : {core : Core} {past : List Entry} (old : Core) (n : ℕ) (part : Part) (out room : List ℕ) (step : ReadStep)
    (of reading : ℕ) (before : List Entry)
    → past ≡ record { pass = of; reading = reading; kind = read_kind part out room step } ∷ before
    → StandsFor core past → ReadLeads old core n part.block room step → CopiesRead old part out room step
    → ReadBegins past n part.block room step
read_begins old n part out room read.Done of reading before heads stands leads copies = tt
read_begins old n part out room (read.Wait why) of reading before heads stands leads copies = tt
read_begins old n part out room (read.Get job) of reading before heads stands leads copies = get_begins n part.block job stands leads
read_begins old n part out room (read.Dropped block) of reading before heads stands leads copies = tt
read_begins old n part out room (read.Put job) of reading before heads stands leads copies = (
  put_opened n job stands leads.begun,
  copies.zeros,
  subst (IsPutOf job.block room) (sym heads) (put_newest of reading job.block room before),
)

pub write_begins : {core : Core} {past : List Entry} (old : Core) (n block : ℕ) (room : List ℕ) (step : WriteStep)
    (part : Part) (bytes : List ℕ) (of reading : ℕ) (before : List Entry)
    → past ≡ record { pass = of; reading = reading; kind = write_kind part bytes room step } ∷ before
    → StandsFor core past → WriteLeads old core n block room step → CopiesWrite old room step
    → WriteBegins past n block room step
write_begins old n block room (write.Done dirtied) part bytes of reading before heads stands leads copies = tt
write_begins old n block room (write.Wait why) part bytes of reading before heads stands leads copies = tt
write_begins old n block room (write.Get job) part bytes of reading before heads stands leads copies = get_begins n block job stands leads
write_begins old n block room (write.Dropped dropped) part bytes of reading before heads stands leads copies = tt
write_begins old n block room (write.Put job) part bytes of reading before heads stands leads copies = (
  put_opened n job stands leads.begun,
  copies.zeros,
  subst (IsPutOf job.block room) (sym heads) (put_newest of reading job.block room before),
)

pub flush_begins : {core : Core} {past : List Entry} (old : Core) (n : ℕ) (room : List ℕ) (step : FlushStep)
    (mark of reading : ℕ) (before : List Entry)
    → past ≡ record { pass = of; reading = reading; kind = flush_kind mark room step } ∷ before
    → StandsFor core past → FlushOpens core n step → CopiesFlush old room step → FlushBegins past n room step
flush_begins old n room flush.Done mark of reading before heads stands opens copies = tt
flush_begins old n room (flush.Wait why) mark of reading before heads stands opens copies = tt
flush_begins old n room (flush.Put job) mark of reading before heads stands opens copies = (
  put_opened n job stands opens,
  copies.zeros,
  subst (IsPutOf job.block room) (sym heads) (put_newest of reading job.block room before),
)
