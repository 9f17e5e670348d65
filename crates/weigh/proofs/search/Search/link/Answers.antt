use Rattle.std.proofs.Common.{rules}
use Rattle.weigh.proofs.Read.{link_reads}
use Rattle.weigh.proofs.search.Search.link.Goals as goal

pub returns-clause-puts : goal.returns-clause-puts
returns-clause-puts g c = link_reads g.W.Worth.group g.W.Worth.meaning _ _ _ (search rules) _ _ _
