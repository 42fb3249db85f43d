use Rattle.std.proofs.Common.{◌≡◌, ap, sym, subst, ◌∙◌, arith, rules}
use Rattle.std.specs.List.{filter}
use Rattle.std.specs.FinMap.{from_sorted}
use Rattle.std.proofs.lemmas.Fn.{filter_same}
use Rattle.sb_window.specs.LastPuts.{is_kept}
use Rattle.sb_window.specs.Tables.{IsTable}
use Rattle.sb_window.proofs.TableLemmas.{table, purge_rows, purged_table}
use Rattle.sb_window.proofs.table.PutTable.purge.Goals as goal

-- the rows that are left
left : (c : goal.After-retain)
    → c.retain.new.self.items ≡ filter (λ e. is_kept c.args.md5_time c.args.now e.1) c.self.inside.rows.items
left c = filter_same _ (λ e. is_kept c.args.md5_time c.args.now e.1) _
    (λ row b after called. search rules) _ _ c.retain.ensures.filtered

pub invariant_of-self : goal.invariant_of-self
invariant_of-self c =
    let shaped =
    purged_table c.self.inside.room c.args.md5_time c.args.now c.self.inside.rows.items c.self.invariant.0 in (
      subst (IsTable c.self.inside.room) (sym (left c)) shaped,
      omega
          (arith, c.retain.ensures.capacity, c.self.invariant.1),
    )

pub returns : goal.returns
returns c =
    rw (← c.self.view_is)
    (ap (table c.self.inside.room)
    (ap from_sorted (left c)
    ∙ purge_rows c.args.md5_time c.args.now c.self.inside.rows.items c.self.invariant.0.rising))
