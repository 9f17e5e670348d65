use Rattle.tape.specs.Reading.{RowRead}
use Rattle.tape.proofs.read.read_row.Given as goal

-- the first cells hold the numbers in front of the rest
abbrev pub invariant-loop-cell : goal.invariant-loop-cell
invariant-loop-cell g l = RowRead g.F.Field.ZERO g.F.Field.limit g.F.Field.value_of g.F.Field.bytes_of l.n l.cell-index l.tape l.cell-items l.rest
