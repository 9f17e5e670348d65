use Rattle.weigh.proofs.Runs.{Between}
use Rattle.weigh.specs.Searches.{Same}
use Rattle.weigh.proofs.search.Search.run.Given as goal

abbrev pub invariant-loop-turn : goal.invariant-loop-turn
invariant-loop-turn g l = Same l.fn.self l.self × Between g.W.Worth.group g.W.Worth.meaning l.fn.self l.self l.turn
