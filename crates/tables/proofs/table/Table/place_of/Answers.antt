use Rattle.std.proofs.Common.{rules}
use Rattle.tables.proofs.Views.{table_placed}
use Rattle.tables.proofs.table.Table.place_of.Goals as goal

pub returns : goal.returns
returns c = table_placed c.args.self.now _ c.place_among.result (search rules) (search rules) c.place_among.ensures
