use Rattle.std.proofs.Common.{arith, ◌≤◌, ◌≡◌, ◌+◌, length, drop, take, length-drop, length-append, ◌∙◌, List, ℕ, Some}
use Rattle.std.proofs.Common.{subst, ap, ◌++◌}
use Rattle.std.proofs.lemmas.List.{length-take}
use Rattle.std.proofs.lemmas.Grind.{common_steps}
use Rattle.sb_world.specs.Streams.{Takes}
use Rattle.sb_fakes.proofs.Taking.{takes_front, at_end}
use Rattle.sb_fakes.proofs.conn.MemoryConnSource.read.Goals as goal

pub returns-clause-told : goal.returns-clause-told
returns-clause-told c =
    let bytes = c.args.self.now.bytes.items in
    let at = c.args.self.now.at in
    let count = c.min-count.result in
    let behind = drop count c.args.out.now in
    let copied = c.copy_from_slice.new.self in
    let same : drop at bytes ≡ drop c.args.self.now.at c.args.self.now.bytes.items = cc in
    let within : count ≤ length (drop at bytes) = omega (arith, ap length c.bytes-left.ensures) in
    let P : List ℕ
    → Type 0 = λ left. Takes (Some left) (Some (drop (at + count) bytes)) (take count (copied ++ behind)) in
    let is : copied ≡ take count (drop at bytes) = c.copy_from_slice.ensures.after
    ∙ ap (λ (l : List ℕ). take count l) c.bytes-left.ensures in (
      grind (arith, common_steps),
      subst P same (takes_front bytes copied behind at count within is),
      λ none some. at_end bytes at count (omega (
        arith,
        length-drop at bytes,
        ap length c.bytes-left.ensures,
        c.args.self.now.some,
        length-append
            copied behind,
        length-drop count c.args.out.now,
        c.copy_from_slice.ensures.len,
        length-take count
            c.args.out.now,
      )),
    )
