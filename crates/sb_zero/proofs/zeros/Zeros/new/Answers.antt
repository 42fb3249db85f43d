use Rattle.std.proofs.Common.{◌≡◌, ◌/◌, ◌+◌, ◌<◌, ℕ, false, sym, ◌∙◌, arith, get_or, ap}
use Rattle.std.proofs.lemmas.List.{get_or-replicate}
use Rattle.sb_zero.specs.Marks.{is_set}
use Rattle.sb_zero.proofs.Counts.{count_none}
use Rattle.sb_zero.proofs.Bits.{none_set}
use Rattle.sb_zero.proofs.zeros.Zeros.new.Goals as goal

pub invariant_of-result : goal.invariant_of-result
invariant_of-result c =
    let words = c.in_ok-words.words in
    let none : (block : ℕ) → block < c.args.blocks → is_set words.items block ≡ false =
    λ block less. none_set words.items block
    (ap (λ ws. get_or ws (block / 64) 0) c.in_ok-words.ensures.items
    ∙ get_or-replicate (c.args.blocks / 64 + 1) (block / 64) 0 0 (omega (arith, less))) in
    record {
      sized = c.in_ok-words.ensures.count;
      counted = sym (count_none (is_set words.items) c.args.blocks none);
    }
