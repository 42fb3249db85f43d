use Rattle.std.proofs.Common.{arith}
use Rattle.std.proofs.lemmas.Grind.{common_steps}
use Rattle.sb_fakes.proofs.FileLemmas.{IsListed-none, IsListed-more, IsListed-push}
use Rattle.sb_fakes.proofs.names.names_of.Goals as goal
use Rattle.sb_fakes.proofs.names.names_of.Goals.{then-not-is_among+in_ok-copy+in_ok-push, else-not-is_among}

pub loop-object-init : goal.loop-object-init
loop-object-init g c = rw c.new-names.ensures.items (IsListed-none c.args.objects.now)

pub loop-object-preserved : goal.loop-object-preserved
loop-object-preserved g c =
    elim c.if-not-is_among.branch [
      | then-not-is_among+in_ok-copy+in_ok-push w ↦ grind (arith, common_steps, IsListed-push)
      | else-not-is_among w ↦ grind (arith, common_steps, IsListed-more)
    ]
