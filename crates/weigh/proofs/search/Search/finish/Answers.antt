use Rattle.std.proofs.Common.{rules}
use Rattle.weigh.proofs.Read.{finish_reads}
use Rattle.weigh.proofs.search.Search.finish.Goals as goal

pub returns-clause-finishes : goal.returns-clause-finishes
returns-clause-finishes g c = finish_reads g.W.Worth.group g.W.Worth.meaning _ _ _ (search rules) _
