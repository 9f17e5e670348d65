use Rattle.std.proofs.Common.{rules}
use Rattle.tables.proofs.Views.{table_round}
use Rattle.tables.proofs.table.Table.round.Goals as goal

pub returns : goal.returns
returns c =
    let here = table_round c.args.self.now c.args.t c.get.result (search rules) (search rules) in
    record { prices = here.0; bid = here.1 }
