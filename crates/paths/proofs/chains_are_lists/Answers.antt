use Rattle.paths.specs.Bids.{StoodIn}
use Rattle.paths.proofs.Lists.{lists}
use Rattle.paths.proofs.chains_are_lists.Goals as goal

pub returns : goal.returns
returns g c N bids = lists g.W.Worth.group g.met.W.Worth.laws N (StoodIn bids)
