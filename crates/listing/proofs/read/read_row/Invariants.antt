use Rattle.listing.proofs.RowWords.{RowSaid}
use Rattle.listing.specs.Lines.{words}
use Rattle.listing.proofs.read.read_row.Given as goal

-- the cells hold the words that were read so far
abbrev pub invariant-loop-cell : goal.invariant-loop-cell
invariant-loop-cell g l = RowSaid g.F.Field.ZERO g.F.Field.limit g.F.Field.value_of l.n l.cell-index (words l.text) (words l.rest) l.cell-items
