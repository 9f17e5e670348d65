use Rattle.tables.proofs.Bytes.{Laid}
use Rattle.tables.proofs.table.Table.write_roll.Given as goal

-- the rows so far are written
abbrev pub invariant-loop-k : goal.invariant-loop-k
invariant-loop-k l = Laid l.self.products l.self.rows l.initial.bytes l.k l.bytes
