use Rattle.std.proofs.Common.{◌+◌, ◌*◌, ◌≤◌, take}
use Rattle.listing.specs.Text.{row_text}
use Rattle.listing.specs.Writing.{Put}
use Rattle.listing.proofs.write.put_row.Given as goal

-- the first cells are written
abbrev pub invariant-loop-cell : goal.invariant-loop-cell
invariant-loop-cell l = record {
  text : Put l.initial.line l.fn.at (row_text (take l.cell-index l.cells)) l.end l.line;
  bound : l.end ≤ l.fn.at + 11 * l.cell-index;
}
