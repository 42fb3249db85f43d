use Rattle.std.proofs.Common.{ap}
use Rattle.sb_window.specs.Tables.{Table}
use Rattle.sb_rows.specs.RowLaws.{len_rows}
use Rattle.sb_window.proofs.table.PutTable.len.Goals as goal

pub returns : goal.returns
returns c =
    let rows = len_rows c.self.inside.rows.items c.self.invariant.0.rising in
    let puts = ap (λ (t : Table). t.puts) c.self.view_is in
    cc (rows, puts)
