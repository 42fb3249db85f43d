use Rattle.std.proofs.Common.{◌≡◌, take}
use Rattle.sb_fakes.proofs.log.copy_page.Given as goal

-- the names so far were copied
abbrev pub invariant-loop-key : goal.invariant-loop-key
invariant-loop-key l = l.keys.items ≡ take l.key-index l.page
