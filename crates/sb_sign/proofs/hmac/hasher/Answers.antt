use Rattle.std.proofs.Common.{◌≡◌, ◌-◌, ◌++◌, ◌∙◌, List, ℕ, ap, arith, drop, length, refl, replicate, subst, take}
use Rattle.std.proofs.Math.Seq.{take-length}
use Rattle.sha2.specs.Hashers.{Holds256}
use Rattle.sb_sign.specs.Hmac.{padded}
use Rattle.sb_sign.proofs.HmacLemmas.{padded-filled, padded_more}
use Rattle.sb_sign.proofs.hmac.hasher.Goals as goal

pub returns : goal.returns
returns c =
    let key = c.args.key.now in
    let all : c.loop-byte.byte-index ≡ length key = omega arith in
    let whole : padded c.args.pad (take c.loop-byte.byte-index key) ≡ padded c.args.pad key =
    rw (all, take-length key) refl in
    let P : List ℕ → Type 0 = λ m. Holds256 c.update-2.new.self m in
    let rest = take (64 - length key) (drop (length key) (replicate 64 c.args.pad)) in
    subst P (ap (λ (m : List ℕ). m ++ rest) whole ∙ padded-filled c.args.pad key)
    (c.update-2.ensures _ c.loop-byte.invariant)

pub loop-byte-preserved : goal.loop-byte-preserved
loop-byte-preserved c =
    let P : List ℕ → Type 0 = λ m. Holds256 c.update.new.self m in
    subst P (padded_more c.args.pad c.args.key.now c.loop-byte.byte-index c.loop-byte-test.true)
    (c.update.ensures _ c.loop-byte.invariant)
