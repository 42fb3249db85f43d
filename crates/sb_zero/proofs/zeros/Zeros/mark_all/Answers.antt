use Rattle.std.proofs.Common.{◌≡◌, ◌/◌, ◌<◌, ℕ, true, sym, ◌∙◌, arith, get_or, ap}
use Rattle.std.proofs.lemmas.List.{get_or-replicate}
use Rattle.sb_zero.specs.Marks.{is_set}
use Rattle.sb_zero.proofs.Counts.{count_all}
use Rattle.sb_zero.proofs.Bits.{all_set}
use Rattle.sb_zero.proofs.zeros.Zeros.mark_all.Goals as goal

pub invariant_of-self : goal.invariant_of-self
invariant_of-self c =
    let all : (block : ℕ) → block < c.args.self.now.blocks → is_set c.fill.new.words.items block ≡ true =
    λ block less. all_set c.fill.new.words.items block
    (ap (λ ws. get_or ws (block / 64) 0) c.fill.ensures.items
    ∙ get_or-replicate c.args.self.now.words.len (block / 64) 18446744073709551615 0 (omega (arith, less, c.args.self.now.sized))) in
    record {
      sized = c.fill.ensures.count ∙ c.args.self.now.sized;
      counted = sym (count_all (is_set c.fill.new.words.items) c.args.self.now.blocks all);
    }

pub returns-clause-all : goal.returns-clause-all
returns-clause-all c = λ block less.
    all_set c.fill.new.words.items block
    (ap (λ ws. get_or ws (block / 64) 0) c.fill.ensures.items
    ∙ get_or-replicate c.args.self.now.words.len (block / 64) 18446744073709551615 0 (omega (arith, less, c.args.self.now.sized)))
