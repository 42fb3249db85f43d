-- What is put and shown is among the contents that a history names.
use Rattle.std.proofs.Common.{ℕ, Bool, true, false, if◌then◌else◌, nat_eq, List, [], ◌∷◌, ◌++◌, length, Contains}
use Rattle.std.proofs.Common.{unwrap_or, Option, Some, None, refl, arith}
use Rattle.std.proofs.lemmas.List.Elements.{Contains-append_right}
use Rattle.sb_base.specs.declared.entry.Shown.{Shown}
use Rattle.sb_base.specs.declared.entry.Shown.TheVariants as shown
use Rattle.sb_base.specs.declared.entry.EntryKind.{EntryKind}
use Rattle.sb_base.specs.declared.entry.EntryKind.TheVariants as kind
use Rattle.sb_base.specs.declared.entry.Entry.{Entry}
use Rattle.sb_history.specs.Contents.{Start, zeros}
use Rattle.sb_history.specs.Puts.{Put, Ending, puts_of, puts_after, ended, is_acknowledged}
use Rattle.sb_history.specs.Durability.{possible_of}
use Rattle.sb_history.specs.Cache.{Found, answer_content}
use Rattle.sb_history.specs.Soundness.{contents_of, contents_in, found_contents}
use Rattle.sb_laws.proofs.Held.{Each}
use Rattle.sb_laws.proofs.Steps.{zeros_are}

-- the contents of the puts are among those that the history names
pub Each-put-map :
    (P Q : List ℕ → Type 0) (puts : List Put) → ((x : List ℕ) → P x → Q x) → Each (λ (put : Put). P put.content) puts
    → Each (λ (put : Put). Q put.content) puts
Each-put-map P Q [] f all = tt
Each-put-map P Q (put ∷ puts) f all = (f put.content all.0, Each-put-map P Q puts f all.1)

abbrev PutIn : (List ℕ → Type 0) → EntryKind → Type 0
PutIn P (kind.PutBegin of content) = P content
PutIn P e = Unit {0}

Each-either : (P : List ℕ → Type 0) (t : Bool) (a b : List Put) → Each (λ (put : Put). P put.content) a
    → Each (λ (put : Put). P put.content) b → Each (λ (put : Put). P put.content) (if t then a else b)
Each-either P true a b x y = x
Each-either P false a b x y = y

Each-ended : (P : List ℕ → Type 0) (ending : Ending) (puts : List Put) → Each (λ (put : Put). P put.content) puts
    → Each (λ (put : Put). P put.content) (ended ending puts)
Each-ended P ending [] all = tt
Each-ended P ending (put ∷ puts) all = all

puts_after_in : (P : List ℕ → Type 0) (block m n r : ℕ) (e : EntryKind) (puts : List Put) → PutIn P e
    → Each (λ (put : Put). P put.content) puts → Each (λ (put : Put). P put.content) (puts_after block m n r e puts)
puts_after_in P block m n r (kind.PutBegin of content) puts one all =
    Each-either P (nat_eq of block)
    (record { content = content; pass = m; place = n; reading = r; ending = None } ∷ puts) puts (one, all) all
puts_after_in P block m n r (kind.PutEnd of ok) puts one all =
    Each-either P (nat_eq of block) (ended (record { place = n; reading = r; ok = ok }) puts) puts
    (Each-ended P _ puts all) all
puts_after_in P block m n r e puts one all = all

put_in : (block_size : ℕ) (start : Start) (found : Found) (past : List Entry) (e : EntryKind)
    → PutIn (Contains (contents_in start found e ++ contents_of block_size start found past)) e
put_in block_size start found past (kind.PutBegin of content) = (0, omega arith, refl)
put_in block_size start found past e = tt

pub puts_in : (block_size : ℕ) (start : Start) (found : Found) (past : List Entry) (block : ℕ)
    → Each (λ (put : Put). Contains (contents_of block_size start found past) put.content) (puts_of past block)
puts_in block_size start found [] block = tt
puts_in block_size start found (entry ∷ past) block =
    puts_after_in (Contains (contents_of block_size start found (entry ∷ past))) block entry.pass (length past)
    entry.reading entry.kind (puts_of past block) (put_in block_size start found past entry.kind)
    (Each-put-map (Contains (contents_of block_size start found past))
    (Contains (contents_of block_size start found (entry ∷ past))) (puts_of past block)
    (Contains-append_right (contents_in start found entry.kind) (contents_of block_size start found past))
    (puts_in block_size start found past block))

pub zeros_in : (block_size : ℕ) (start : Start) (found : Found) (past : List Entry)
    → Contains (contents_of block_size start found past) (zeros block_size)
zeros_in block_size start found [] = (0, omega arith, refl)
zeros_in block_size start found (entry ∷ past) =
    Contains-append_right (contents_in start found entry.kind) (contents_of block_size start found past)
    (zeros block_size) (zeros_in block_size start found past)

pub remaining_in :
    (P : List ℕ → Type 0) (start : List ℕ) (puts : List Put) → P start → Each (λ (put : Put). P put.content) puts
    → Each P (possible_of start puts)
remaining_in P start [] one all = (one, tt)
remaining_in P start (put ∷ puts) one all =
    (all.0, none_or (is_acknowledged put.ending) (remaining_in P start puts one all.1)) where
      none_or : (b : Bool) → Each P (possible_of start puts) → Each P (if b then [] else possible_of start puts)
      none_or true others = tt
      none_or false others = others

pub start_in :
    (start : Start) (found : Found) (others : List (List ℕ)) (block : ℕ) (answer : Shown) (verify : Option (List ℕ))
    (taken : Bool) → Contains (contents_in start found (kind.GetEnd block answer verify taken) ++ others)
    (start block)
start_in start found others block shown.Absent verify taken = (0, omega arith, refl)
start_in start found others block (shown.Bytes bytes) verify taken = (1, omega arith, refl)
start_in start found others block shown.Same verify taken = (0, omega arith, refl)
start_in start found others block shown.Failed verify taken = (0, omega arith, refl)

found_in :
    (xs : List ℕ) (others : List (List ℕ)) (f : Option (List ℕ)) (known_zero : List ℕ) → Contains others known_zero
    → Contains ((xs ∷ found_contents f) ++ others) (unwrap_or f known_zero)
found_in xs others None known_zero there = Contains-append_right (xs ∷ []) others known_zero there
found_in xs others (Some body) known_zero there = (1, omega arith, refl)

pub answer_in : (block_size : ℕ) (start : Start) (found : Found) (others : List (List ℕ)) (block : ℕ) (answer : Shown)
    (verify : Option (List ℕ)) (taken : Bool) → Contains others (zeros block_size)
    → Contains (contents_in start found (kind.GetEnd block answer verify taken) ++ others)
    (answer_content block_size (found.body block) answer)
answer_in block_size start found others block shown.Absent verify taken zeros_are =
    Contains-append_right (start block ∷ found_contents (found.body block)) others (zeros block_size) zeros_are
answer_in block_size start found others block (shown.Bytes bytes) verify taken zeros_are = (0, omega arith, refl)
answer_in block_size start found others block shown.Same verify taken zeros_are =
    found_in (start block) others (found.body block) (zeros block_size) zeros_are
answer_in block_size start found others block shown.Failed verify taken zeros_are =
    Contains-append_right (start block ∷ found_contents (found.body block)) others (zeros block_size) zeros_are
