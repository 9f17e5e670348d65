use Rattle.std.proofs.Common.{ap, rules}
use Rattle.std.specs.Option.{option_map}
use Rattle.weigh.proofs.Read.{begin_reads}
use Rattle.weigh.proofs.search.Search.new.Goals as goal

pub returns-clause-fresh : goal.returns-clause-fresh
returns-clause-fresh g c =
    let m = g.W.Worth.meaning in
    record {
      begun = begin_reads g.W.Worth.group m _ _ _ (search rules) _ _ c.requires.unfinished.dists c.requires.unfinished.turns;
      empty = λ y. ap (option_map m) (c.new.ensures.made.none y);
    }
