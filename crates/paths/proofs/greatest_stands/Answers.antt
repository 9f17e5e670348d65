use Rattle.paths.proofs.Highest.{highest}
use Rattle.paths.proofs.greatest_stands.Goals as goal

pub returns : goal.returns
returns g c = highest g.W.Worth.group g.met.W.Worth.laws
