use Rattle.std.proofs.Common.{ap}
use Rattle.sb_window.specs.LastPuts.{LastPuts}
use Rattle.sb_window.specs.Tables.{Table}
use Rattle.sb_rows.specs.RowLaws.{no_rows}
use Rattle.sb_window.proofs.table.PutTable.with_room.Goals as goal

pub returns : goal.returns
returns c =
    let none = no_rows c.in_ok-with_capacity.field-0.items c.in_ok-with_capacity.ensures.items in
    ap (λ (puts : LastPuts). let t : Table = record { room = c.args.room; puts = puts } in t) none
