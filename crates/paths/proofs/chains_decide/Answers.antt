use Rattle.paths.specs.Bids.{StoodIn}
use Rattle.paths.proofs.Table.{decided, told_finite}
use Rattle.paths.proofs.chains_decide.Goals as goal

pub returns : goal.returns
returns g c N bids = decided g.W.Worth.group g.met.W.Worth.laws N (StoodIn bids) (told_finite bids)
