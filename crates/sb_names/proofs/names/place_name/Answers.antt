use Rattle.std.proofs.Common.{◌≡◌, ◌++◌, ◌∙◌, ap, length, drop, codes, ℕ, List, arith}
use Rattle.sb_names.proofs.NameLemmas.{placed_more}
use Rattle.sb_names.proofs.names.place_name.Goals as goal
use Rattle.sb_names.proofs.names.place_name.Goals.{then-hashed, else-hashed}

pub returns-clause-placed : goal.returns-clause-placed
returns-clause-placed c =
    let old = c.args.out.now in
    let prefix = c.args.prefix.now in
    let front : c.put-end.new.out ≡ prefix ++ drop c.put-end.result old =
    c.put-end.ensures.text ∙ ap (λ (p : List ℕ). p ++ drop c.put-end.result old) c.as_bytes.ensures.value in
    let end : c.put-end.result ≡ length prefix = omega (arith, c.put-end.ensures.end, c.as_bytes.ensures.len) in
    elim c.if-hashed.branch [
      | then-hashed w ↦
          let one = placed_more old c.put-end.new.out w.put-end-then-hashed.new.out prefix w.hash.result
          c.put-end.result
          w.put-end-then-hashed.result front end w.put-end-then-hashed.ensures.text w.put-end-then-hashed.ensures.end in
          let two = placed_more old w.put-end-then-hashed.new.out w.put-end-then-hashed-2.new.out
          (prefix ++ w.hash.result) (codes "-")
          w.put-end-then-hashed.result w.put-end-then-hashed-2.result one.0 one.1 w.put-end-then-hashed-2.ensures.text
          w.put-end-then-hashed-2.ensures.end in
          let three = placed_more old c.if-hashed.out c.put.new.out
          (prefix ++ w.hash.result ++ codes "-") c.digits.result
          c.if-hashed.end c.put.result (cc (w.out-is, w.end-is, two.0))
          (w.end-is ∙ two.1) c.put.ensures.text c.put.ensures.end in
          rw (w.if-hashed.true, ← w.hash.ensures, ← c.digits.ensures) three.0
      | else-hashed w ↦
          let last = placed_more old c.if-hashed.out c.put.new.out prefix c.digits.result c.if-hashed.end c.put.result
          (cc (w.out-is, w.end-is, front)) (w.end-is ∙ end) c.put.ensures.text c.put.ensures.end in
          rw (w.if-hashed.false, ← c.digits.ensures) last.0
    ]
