-- What the opening of a history, the begin of a GET and the ends of GETs and PUTs say of a block.
use Rattle.std.proofs.Common.{ℕ, ◌≡◌, Bool, true, false, ◌&&◌, if◌then◌else◌, List, [], ◌∷◌, length, unwrap_or, Option}
use Rattle.std.proofs.Common.{Some, None, refl, sym, ◌∙◌, subst}
use Rattle.sb_base.specs.declared.entry.Shown.{Shown}
use Rattle.sb_base.specs.declared.entry.Shown.TheVariants as shown
use Rattle.sb_base.specs.declared.entry.EntryKind.{EntryKind}
use Rattle.sb_base.specs.declared.entry.EntryKind.TheVariants as kind
use Rattle.sb_base.specs.declared.entry.Entry.{Entry}
use Rattle.sb_history.specs.Contents.{zeros, is_zeros}
use Rattle.sb_history.specs.Puts.{Put, puts_of, puts_after, newest_is_open}
use Rattle.sb_history.specs.Gets.{Fetch, fetch_of, fetch_after}
use Rattle.sb_history.specs.Cache.{zero_shown, answer_content}
use Rattle.sb_history.specs.AccessRules.{is_opening, is_opening_kind, EndsFetch, EndsPut}
use Rattle.sb_history.specs.CachePolicy.{verified}
use Rattle.sb_laws.proofs.Phases.{Verifies}
use Rattle.sb_laws.proofs.Steps.{kept}

-- before anything but blocks that are known to be zeros
opening_entry : (e : EntryKind) (block m n r : ℕ) (puts : List Put) (get : Option Fetch) → is_opening_kind e ≡ true
    → (puts_after block m n r e puts ≡ puts) × (fetch_after block m n r e get ≡ get)
opening_entry (kind.KnownZero of) block m n r puts get is = (refl, refl)
opening_entry (kind.PutBegin of content) block m n r puts get is = absurd (cc)
opening_entry (kind.PutEnd of ok) block m n r puts get is = absurd (cc)
opening_entry (kind.GetBegin of expect verify) block m n r puts get is = absurd (cc)
opening_entry (kind.GetEnd of answer verify taken) block m n r puts get is = absurd (cc)
opening_entry e block m n r puts get is = (refl, refl)

pub both_true : (a b : Bool) → (a && b) ≡ true → (a ≡ true) × (b ≡ true)
both_true true b is = (refl, is)
both_true false b is = absurd (cc)

pub opening :
    (past : List Entry) (block : ℕ) → is_opening past ≡ true → (puts_of past block ≡ []) × (fetch_of past block ≡ None)
opening [] block is = (refl, refl)
opening (entry ∷ past) block is =
    let both = both_true (is_opening_kind entry.kind) (is_opening past) is in
    let before = opening past block both.1 in
    let same = opening_entry entry.kind block entry.pass (length past) entry.reading (puts_of past block)
    (fetch_of past block) both.0 in
    (same.0 ∙ before.0, same.1 ∙ before.1)

-- what a GET that begins is to verify
pub verifies_found :
    (found : Option (List ℕ)) (unverified : Bool) (verify : Option (List ℕ)) → verify ≡ verified found unverified
    → Verifies found verify
verifies_found None unverified verify is = subst (λ v. Verifies None v) (sym is) tt
verifies_found (Some body) true verify is = subst (λ v. Verifies (Some body) v) (sym is) (body, refl, refl)
verifies_found (Some body) false verify is = subst (λ v. Verifies (Some body) v) (sym is) tt

not_kept : (b absent : Bool) → absent ≡ false → (if b then absent else false) ≡ true → ⊥
not_kept true absent is kept = absurd (cc)
not_kept false absent is kept = absurd (cc)

-- a block that is found to be zeros is zeros
pub zero_shown_is :
    (block_size : ℕ) (found : Option (List ℕ)) (answer : Shown) (absent : Bool) → absent ≡ false
    → zero_shown block_size found answer absent ≡ true → answer_content block_size found answer ≡ zeros block_size
zero_shown_is block_size found shown.Absent absent not_absent is = refl
zero_shown_is block_size found (shown.Bytes bytes) absent not_absent is =
    absurd (not_kept (is_zeros bytes) absent not_absent is)
zero_shown_is block_size found shown.Same absent not_absent is =
    absurd (not_kept (is_zeros (unwrap_or found (zeros block_size))) absent not_absent is)
zero_shown_is block_size found shown.Failed absent not_absent is = refl

pub not_open_end :
    (block_size : ℕ) (get : Option Fetch) (pass : ℕ) (answer : Shown) (verify : Option (List ℕ)) (taken : Bool)
    → EndsFetch block_size get pass answer verify taken → get ≡ None → ⊥
not_open_end block_size None pass answer verify taken ends is = ends
not_open_end block_size (Some fetch) pass answer verify taken ends is = absurd (cc)

-- a put that ends is open
pub ends_open : (puts : List Put) (pass : ℕ) → EndsPut puts pass → newest_is_open puts ≡ true
ends_open [] pass ends = absurd ends
ends_open (put ∷ puts) pass ends = rw (ends.0) refl
