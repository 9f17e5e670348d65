use Rattle.std.proofs.Common.{rules}
use Rattle.tables.proofs.Views.{table_row}
use Rattle.tables.proofs.table.Table.row.Goals as goal

pub returns : goal.returns
returns c = table_row c.args.self.now c.args.a c.get.result (search rules) (search rules)
