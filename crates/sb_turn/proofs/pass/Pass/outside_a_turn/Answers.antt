use Rattle.std.proofs.Common.{◌<◌, ℕ, subst, refl, arith}
use Rattle.sb_turn.specs.Views.{reserved_account}
use Rattle.sb_turn.proofs.Sums.{one_if_same}
use Rattle.sb_turn.proofs.Histories.{count_append, all_last}
use Rattle.sb_turn.proofs.pass.Pass.outside_a_turn.Goals as goal

pub returns-clause-own : goal.returns-clause-own
returns-clause-own g c = let d = c.args.self.now.seat.me.0 in let own = c.args.self.now.own in
    (c.requires.3.exact.0 (subst (λ (x : ℕ). 0 < x) own.0 own.1)).0

pub returns-clause-joined : goal.returns-clause-joined
returns-clause-joined g c = let d = c.args.self.now.seat.me.0 in all_last d.seen d.seen
    (reserved_account d.reserved) d.joined c.requires.3.exact.1

pub returns-clause-apart : goal.returns-clause-apart
returns-clause-apart g c = λ k pos. let d = c.args.self.now.seat.me.0 in let both =
    c.requires.3.apart k pos in let parts = count_append k (reserved_account d.reserved) d.joined in omega arith

pub returns-clause-not_own : goal.returns-clause-not_own
returns-clause-not_own g c = let d = c.args.self.now.seat.me.0 in let own =
    c.args.self.now.own in let pos : 0 < d.number = subst (λ (x : ℕ). 0 < x) own.0 own.1 in
    let all = c.requires.3.apart d.number pos in let parts =
    count_append d.number (reserved_account d.reserved) d.joined in let here =
    one_if_same d.number d.number refl in omega arith
