use Rattle.std.proofs.Common.{ap}
use Rattle.sb_window.specs.Tables.{Table}
use Rattle.sb_rows.specs.RowLaws.{get_rows}
use Rattle.sb_window.proofs.table.PutTable.get.Goals as goal

pub returns-in-Ok : goal.returns-in-Ok
returns-in-Ok c =
    let got = get_rows c.self.inside.rows.items c.args.block c.self.invariant.0.rising in
    let puts = ap (λ (t : Table). t.puts) c.self.view_is in
    let found = c.in-Ok.ensures.found.found c.index.result.now in
    cc (got, puts, found)

pub returns-in-Err : goal.returns-in-Err
returns-in-Err c =
    let got = get_rows c.self.inside.rows.items c.args.block c.self.invariant.0.rising in
    let puts = ap (λ (t : Table). t.puts) c.self.view_is in
    let absent = c.in-Err.ensures.absent.absent in
    cc (got, puts, absent)
