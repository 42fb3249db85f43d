use Rattle.std.proofs.Common.{◌≡◌, ◌++◌, ◌∙◌, List, ℕ, ap, subst, sym}
use Rattle.sha2.specs.Hashers.{Holds256}
use Rattle.sha2.specs.Sha256.{sha256}
use Rattle.sha2.specs.declared.Sha256.{Sha256}
use Rattle.sb_sign.specs.Hmac.{filled, hmac_of, padded, short_key}
use Rattle.sb_sign.proofs.hmac.Keyed.hmac.Goals as goal

pub returns : goal.returns
unfolding hmac_of
returns c key k =
    let block = filled (short_key key) in
    let same_inner : c.unwrap-inner.result ≡ c.args.self.now.inner =
    rw c.unwrap-inner.ensures at c.clone.ensures.cases in
    let same_outer : c.unwrap-outer.result ≡ c.args.self.now.outer =
    rw c.unwrap-outer.ensures at c.clone-2.ensures.cases in
    let Inner : Sha256 → Type 0 = λ s. Holds256 s (padded 54 block) in
    let Outer : Sha256 → Type 0 = λ s. Holds256 s (padded 92 block) in
    let inner = c.finalize.ensures _ (c.update.ensures _ (subst Inner (sym same_inner) k.inner)) in
    let outer = c.finalize-2.ensures _ (c.update-2.ensures _ (subst Outer (sym same_outer) k.outer)) in
    outer ∙ ap (λ (digest : List ℕ). sha256 (padded 92 block ++ digest)) inner
