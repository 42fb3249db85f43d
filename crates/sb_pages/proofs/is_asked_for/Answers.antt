use Rattle.std.proofs.Common.{rules}
use Rattle.sb_pages.proofs.PageLemmas.{greater_is}
use Rattle.sb_pages.proofs.is_asked_for.Goals as goal

pub returns-then-starts_with : goal.returns-then-starts_with
returns-then-starts_with c = search (rules, greater_is)
