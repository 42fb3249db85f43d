use Rattle.std.proofs.Common.{◌≡◌, ◌∙◌, drop, length, ℕ, ◌+◌, true, List, [], ◌++◌, codes, refl, arith, ap, sym, subst}
use Rattle.std.proofs.lemmas.List.{drop_all, length-drop}
use Rattle.sb_s3link.specs.Entities.{begins, byte_at}
use Rattle.sb_s3link.specs.Names.{IsName, Writes}
use Rattle.sb_s3link.proofs.NamesRead.{no_name, write_more}
use Rattle.sb_s3link.proofs.Slices.{begins_is, further, rest_of}
use Rattle.sb_s3link.proofs.name.read_name.Goals as goal

pub returns-then-starts_with : goal.returns-then-starts_with
returns-then-starts_with c =
    let text = c.args.text.now in
    let rest = drop c.bytes.at text in
    let whole = rest_of text c.bytes.at in
    let ends : begins rest (codes "</Key>") ≡ true =
    ap (λ xs. begins xs (codes "</Key>")) (sym whole) ∙ sym c.starts_with.ensures.value ∙ c.if-starts_with.true in
    let parts = begins_is rest (codes "</Key>") ends ∙ ap (λ xs. codes "</Key>" ++ xs) (further text c.bytes.at 6) in (
      subst (λ name. IsName text name (drop (c.bytes.at + 6) text)) (sym c.from_vec.ensures)
          (subst (λ xs. Writes text c.bytes.name.items xs) parts c.bytes.invariant.written),
      omega (arith, c.if-starts_with.ensures.bound refl, ap (λ (xs : List ℕ). length xs) whole, length-drop c.bytes.at text),
    )

pub bytes-preserved : goal.bytes-preserved
bytes-preserved c =
    let text = c.args.text.now in
    let at = c.in-Some.written in
    let whole = rest_of text c.bytes.at in
    let stands = ap byte_at (sym whole) ∙ sym c.byte_at.ensures.is ∙ c.in-Some.is in
    record {
      within = omega (arith, c.in-Some.ensures.within.1, ap (λ (xs : List ℕ). length xs) whole, length-drop c.bytes.at text, c.bytes.invariant.within);
      written = subst (λ xs. Writes text c.push.new.self.items xs) (further text c.bytes.at at.length)
          (subst (λ name. Writes text name (drop at.length (drop c.bytes.at text))) (sym c.in_ok-push-in-Some.ensures.items)
          (write_more text c.bytes.name.items (drop c.bytes.at text) at c.bytes.invariant.written stands));
    }

pub returns-in-None : goal.returns-in-None
returns-in-None c =
    let text = c.args.text.now in
    let whole = rest_of text c.bytes.at in
    no_name text c.bytes.name.items (drop c.bytes.at text) c.bytes.invariant.written
    (ap (λ xs. begins xs (codes "</Key>")) (sym whole) ∙ sym c.starts_with.ensures.value ∙ c.if-starts_with.false)
    (ap byte_at (sym whole) ∙ sym c.byte_at.ensures.is ∙ c.in-None.is)

pub returns : goal.returns
returns c =
    let text = c.args.text.now in
    let e : drop c.bytes.at text ≡ [] = drop_all c.bytes.at text c.bytes-test.false in
    no_name text c.bytes.name.items [] (subst (λ xs. Writes text c.bytes.name.items xs) e c.bytes.invariant.written)
    refl refl
