use Rattle.tables.specs.Known.{Known, GreatestLead}
use Rattle.tables.specs.View.{rounds}
use Rattle.tables.proofs.table.Table.rise.Given as goal

-- the greatest lead so far
abbrev pub invariant-loop-round : goal.invariant-loop-round
invariant-loop-round g l =
    Known g.W.Worth.group g.W.Worth.meaning (rounds l.self) l.inner → GreatestLead g.W.Worth.group g.W.Worth.meaning (rounds l.self) l.round-index l.most
