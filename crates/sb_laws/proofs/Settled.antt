-- A store that has settled shows what it may come to hold.
use Rattle.std.proofs.Common.{ℕ, suc, ◌≡◌, ◌+◌, ◌<◌, ◌≤◌, Bool, true, false, not, ◌&&◌, ◌||◌, if◌then◌else◌, nat_eq}
use Rattle.std.proofs.Common.{List, [], ◌∷◌, ◌++◌, length, filter, map, Contains, Option, Some, None, cond, refl, arith}
use Rattle.std.specs.List.{list_any}
use Rattle.std.proofs.lemmas.Bool.{le-leb}
use Rattle.sb_base.specs.declared.geometry.Geometry.{Geometry}
use Rattle.sb_base.specs.declared.settings.Settings.{Settings}
use Rattle.sb_base.specs.declared.entry.EntryKind.{EntryKind}
use Rattle.sb_base.specs.declared.entry.EntryKind.TheVariants as kind
use Rattle.sb_base.specs.declared.entry.Entry.{Entry}
use Rattle.sb_history.specs.Contents.{Start}
use Rattle.sb_history.specs.Puts.{Put, Ending, puts_of, puts_after, ended, is_acknowledged}
use Rattle.sb_history.specs.Visibility.{Delays, supersedes, is_settled, is_settled_ending, is_superseded}
use Rattle.sb_history.specs.Visibility.{visible_contents}
use Rattle.sb_history.specs.Durability.{possible_of}
use Rattle.sb_history.specs.Cache.{Found}
use Rattle.sb_history.specs.AccessRules.{last_reading}
use Rattle.sb_history.specs.Laws.{SettledIsPossible}
use Rattle.sb_laws.proofs.Blocks.{IsSteady, blocks_hold, sound_is_steady, steady_before}
use Rattle.sb_laws.proofs.Held.{Each, Each-map}
use Rattle.sb_laws.proofs.Order.{AllSuperseded, EndedBy, EndedBy-later, EndingBy, Ordered}
use Rattle.sb_laws.proofs.Phases.{OpenPut, Phase, getting, held, idle, writing}
use Rattle.sb_laws.proofs.Shown.{contained}

-- each put overtakes those before it, and all that ended did so by now
abbrev EndedNow : ℕ → ℕ → Option Ending → Type 0
EndedNow n r None = Unit {0}
EndedNow n r (Some ending) = (ending.place < n) × (ending.reading ≤ r)

abbrev Chain : Delays → ℕ → ℕ → List Put → Type 0
Chain delay n r [] = Unit {0}
Chain delay n r (put ∷ puts) = AllSuperseded delay put puts × EndedNow n r put.ending × Chain delay n r puts

EndedNow-later : (n m r s : ℕ) (ending : Option Ending) → n ≤ m → r ≤ s → EndedNow n r ending → EndedNow m s ending
EndedNow-later n m r s None a b by = tt
EndedNow-later n m r s (Some ending) a b by = (omega (arith, by.0, a), omega (arith, by.1, b))

Chain-later :
    (delay : Delays) (n m r s : ℕ) (puts : List Put) → n ≤ m → r ≤ s → Chain delay n r puts → Chain delay m s puts
Chain-later delay n m r s [] a b chain = tt
Chain-later delay n m r s (put ∷ puts) a b chain =
    (chain.0, EndedNow-later n m r s put.ending a b chain.1, Chain-later delay n m r s puts a b chain.2)

-- the newest put, as each phase has it
abbrev NewestChains : Delays → ℕ → ℕ → List Put → Type 0
NewestChains delay n r [] = Unit {0}
NewestChains delay n r (put ∷ puts) = AllSuperseded delay put puts × EndedNow n r put.ending

by_now : (n r : ℕ) (ending : Option Ending) → EndingBy n r ending → EndedNow n r ending
by_now n r None by = tt
by_now n r (Some ending) by = by

closed_chains :
    (delay : Delays) (n r : ℕ) (puts : List Put) → EndedBy n r puts → Ordered delay puts → NewestChains delay n r puts
closed_chains delay n r [] by order = tt
closed_chains delay n r (put ∷ puts) by order = (order.1, by_now n r put.ending by.0)

open_chains : (block_size : ℕ) (delay : Delays) (n r : ℕ) (H : ℕ → List ℕ → Type 0) (owed : List ℕ) (puts : List Put)
    → OpenPut block_size delay n r H owed puts → NewestChains delay n r puts
open_chains block_size delay n r H owed [] o = tt
open_chains block_size delay n r H owed (put ∷ puts) o = (o.3.1, rw o.0 tt)

newest_chains : (block_size : ℕ) (settings : Settings) (delay : Delays) (found : Option (List ℕ)) (n r : ℕ)
    (known : Option (List ℕ)) (absent : Bool) (get : _) (puts : List Put) (owed content : List ℕ)
    (H : ℕ → List ℕ → Type 0)
    → Phase block_size settings delay found n r known absent get puts owed content H → NewestChains delay n r puts
newest_chains block_size settings delay found n r known absent get puts owed content H (idle k g e o d) =
    closed_chains delay n r puts e o
newest_chains block_size settings delay found n r known absent get puts owed content H
    (getting fetch k g z a b e o d x v) =
    closed_chains delay n r puts (EndedBy-later fetch.place n fetch.reading r puts a b e) o
newest_chains block_size settings delay found n r known absent get puts owed content H (held k g e o) =
    closed_chains delay n r puts e o
newest_chains block_size settings delay found n r known absent get puts owed content H (writing k g d o) =
    open_chains block_size delay n r H owed puts o

-- the puts after the newest one
abbrev Older : Delays → ℕ → ℕ → List Put → Type 0
Older delay n r [] = Unit {0}
Older delay n r (put ∷ puts) = Chain delay n r puts

older_if : (delay : Delays) (n r : ℕ) (t : Bool) (a b : List Put) → Older delay n r a → Older delay n r b
    → Older delay n r (if t then a else b)
older_if delay n r true a b x y = x
older_if delay n r false a b x y = y

older_of : (delay : Delays) (n r : ℕ) (puts : List Put) → Chain delay n r puts → Older delay n r puts
older_of delay n r [] chain = tt
older_of delay n r (put ∷ puts) chain = chain.2

older_ended : (delay : Delays) (n r : ℕ) (ending : Ending) (puts : List Put) → Older delay n r puts
    → Older delay n r (ended ending puts)
older_ended delay n r ending [] older = tt
older_ended delay n r ending (put ∷ puts) older = older

older_after : (delay : Delays) (n r block m k s : ℕ) (e : EntryKind) (puts : List Put) → Chain delay n r puts
    → Older delay n r (puts_after block m k s e puts)
older_after delay n r block m k s (kind.PutBegin of content) puts chain =
    older_if delay n r (nat_eq of block)
    (record { content = content; pass = m; place = k; reading = s; ending = None } ∷ puts) puts chain
    (older_of delay n r puts chain)
older_after delay n r block m k s (kind.PutEnd of ok) puts chain =
    older_if delay n r (nat_eq of block) (ended (record { place = k; reading = s; ok = ok }) puts) puts
    (older_ended delay n r (record { place = k; reading = s; ok = ok }) puts (older_of delay n r puts chain))
    (older_of delay n r puts chain)
older_after delay n r block m k s e puts chain = older_of delay n r puts chain

chain_of : (delay : Delays) (n r : ℕ) (puts : List Put) → NewestChains delay n r puts → Older delay n r puts
    → Chain delay n r puts
chain_of delay n r [] newest older = tt
chain_of delay n r (put ∷ puts) newest older = (newest.0, newest.1, older)

chains :
    (geometry : Geometry) (settings : Settings) (found : Found) (start : Start) (delay : Delays) (past : List Entry)
    → IsSteady geometry settings found start delay past → (block : ℕ)
    → Chain delay (length past) (last_reading past) (puts_of past block)
chains geometry settings found start delay [] steady block = tt
chains geometry settings found start delay (entry ∷ past) steady block =
    let before = chains geometry settings found start delay past
    (steady_before geometry settings found start delay entry past steady) block in
    let now = Chain-later delay (length past) (suc (length past)) (last_reading past) entry.reading (puts_of past block)
    (omega arith) steady.rules.1 before in
    chain_of delay (suc (length past)) entry.reading (puts_of (entry ∷ past) block)
    (newest_chains geometry.block_size settings delay (found.body block) _ _ _ _ _ _ _ _ _
    (blocks_hold geometry settings found start delay (entry ∷ past) steady block).0)
    (older_after delay (suc (length past)) entry.reading block entry.pass (length past) entry.reading entry.kind
    (puts_of past block) now)

-- what a settled store shows is among what it may come to hold
settled_of : (delay : Delays) (n m r : ℕ) (ending : Option Ending) → m + delay.show ≤ r → EndedNow n m ending
    → is_acknowledged ending ≡ true → is_settled_ending delay.show n r ending ≡ true
settled_of delay n m r None later now ok = absurd (cc)
settled_of delay n m r (Some ending) later now ok =
    let place = le-leb (suc ending.place) n (omega (arith, now.0)) in
    let reading = le-leb (ending.reading + delay.show) r (omega (arith, now.1, later)) in
    rw (ok, place, reading)

all_hidden : (delay : Delays) (n r : ℕ) (all others : List Put) (put : Put)
    → ((p : Put → Bool) → p put ≡ true → list_any p all ≡ true) → is_settled delay.show n r put ≡ true
    → AllSuperseded delay put others → filter (λ q. not (is_superseded delay n r all q)) others ≡ []
all_hidden delay n r all [] put is_in settled over = refl
all_hidden delay n r all (other ∷ others) put is_in settled over =
    let superseded : is_superseded delay n r all other ≡ true = is_in
    (λ later. is_settled delay.show n r later && supersedes delay.order later other) (rw (settled, over.0) refl) in
    rw superseded (all_hidden delay n r all others put is_in settled over.1)

or_true : (a b : Bool) → b ≡ true → (a || b) ≡ true
or_true true b is = refl
or_true false b is = is

both_false : (a b : Bool) → (a || b) ≡ false → (a ≡ false) × (b ≡ false)
both_false true b is = absurd (cc)
both_false false b is = (refl, is)

one_more : (Q : List ℕ → Type 0) (b : Bool) (put : Put) (others : List Put) → Q put.content
    → Each Q (map (λ (q : Put). q.content) others)
    → Each Q (map (λ (q : Put). q.content) (cond b (put ∷ others) others))
one_more Q true put others x all = (x, all)
one_more Q false put others x all = all

contains_rest :
    (x y : List ℕ) (xs : List (List ℕ)) (b : Bool) → b ≡ false → Contains xs x → Contains (y ∷ (if b then [] else xs)) x
contains_rest x y xs true is at = absurd (cc)
contains_rest x y xs false is at = (suc at.0, omega (arith, at.1), at.2)

shown_possible :
    (delay : Delays) (n m r : ℕ) (start : List ℕ) (all xs : List Put) → m + delay.show ≤ r → Chain delay n m xs
    → ((p : Put → Bool) → list_any p xs ≡ true → list_any p all ≡ true)
    → Each (λ c. Contains (possible_of start xs) c)
    (map (λ (q : Put). q.content) (filter (λ q. not (is_superseded delay n r all q)) xs))
shown_possible delay n m r start all [] later chain is_in = tt
shown_possible delay n m r start all (put ∷ puts) later chain is_in =
    let rest = filter (λ q. not (is_superseded delay n r all q)) puts in
    one_more (λ c. Contains (possible_of start (put ∷ puts)) c) (not (is_superseded delay n r all put)) put rest
    (0, omega arith, refl)
    (by (is_acknowledged put.ending) refl (shown_possible delay n m r start all puts later chain.2
    (λ p any. is_in p (or_true (p put) (list_any p puts) any)))) where
      by : (b : Bool) → is_acknowledged put.ending ≡ b → Each (λ c. Contains (possible_of start puts) c)
          (map (λ (q : Put). q.content) (filter (λ q. not (is_superseded delay n r all q)) puts))
          → Each (λ c. Contains (possible_of start (put ∷ puts)) c)
          (map (λ (q : Put). q.content) (filter (λ q. not (is_superseded delay n r all q)) puts))
      by true ok shows =
          let none = all_hidden delay n r all puts put (λ p is. is_in p (rw is refl))
          (settled_of delay n m r put.ending later chain.1 ok) chain.0 in
          rw none tt
      by false not_ok shows = Each-map (λ c. Contains (possible_of start puts) c)
          (λ c. Contains (possible_of start (put ∷ puts)) c) _
          (λ c at. contains_rest c put.content (possible_of start puts) (is_acknowledged put.ending) not_ok at) shows

start_possible :
    (delay : Delays) (n m r : ℕ) (start : List ℕ) (puts : List Put) → m + delay.show ≤ r → Chain delay n m puts
    → list_any (is_settled delay.show n r) puts ≡ false → Contains (possible_of start puts) start
start_possible delay n m r start [] later chain none = (0, omega arith, refl)
start_possible delay n m r start (put ∷ puts) later chain none =
    let both = both_false (is_settled delay.show n r put) (list_any (is_settled delay.show n r) puts) none in
    contains_rest start put.content (possible_of start puts) (is_acknowledged put.ending)
    (by (is_acknowledged put.ending) refl both.0) (start_possible delay n m r start puts later chain.2 both.1) where
      by : (b : Bool) → is_acknowledged put.ending ≡ b → is_settled delay.show n r put ≡ false → b ≡ false
      by true ok unsettled = let settled = settled_of delay n m r put.ending later chain.1 ok in absurd (cc)
      by false ok unsettled = refl

Each-append : (Q : List ℕ → Type 0) (xs ys : List (List ℕ)) → Each Q xs → Each Q ys → Each Q (xs ++ ys)
Each-append Q [] ys a b = b
Each-append Q (x ∷ xs) ys a b = (a.0, Each-append Q xs ys a.1 b)

start_if :
    (Q : List ℕ → Type 0) (start : List ℕ) (b : Bool) → (b ≡ false → Q start) → Each Q (if b then [] else start ∷ [])
start_if Q start true x = tt
start_if Q start false x = (x refl, tt)

pub settled_is_possible : SettledIsPossible
settled_is_possible geometry settings found start delay past sound block reading later content shown =
    let puts = puts_of past block in
    let chain = chains geometry settings found start delay past
    (sound_is_steady geometry settings found start delay past sound) block in
    contained (λ c. Contains (possible_of (start block) puts) c) content
    (visible_contents delay (length past) reading (start block) puts) shown.0
    (Each-append (λ c. Contains (possible_of (start block) puts) c) _ _
    (shown_possible delay (length past) (last_reading past) reading (start block) puts puts later chain
    (λ p any. any))
    (start_if (λ c. Contains (possible_of (start block) puts) c) (start block)
    (list_any (is_settled delay.show (length past) reading) puts)
    (λ none. start_possible delay (length past) (last_reading past) reading (start block) puts later chain none)))
    shown.1 shown.2
