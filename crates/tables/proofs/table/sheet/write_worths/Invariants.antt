use Rattle.std.proofs.Common.{◌≡◌, drop}
use Rattle.tables.proofs.Sheets.{Sums}
use Rattle.tables.proofs.table.sheet.write_worths.Given as goal

-- the sums so far stand, and the rest is as it was
abbrev pub invariant-loop-k : goal.invariant-loop-k
invariant-loop-k g l = Sums g.W.Worth.group g.W.Worth.meaning l.inner l.rise l.sheet l.k × (drop l.k l.sheet ≡ drop l.k l.initial.sheet)
