use Rattle.paths.specs.Bids.{StoodIn}
use Rattle.paths.proofs.Chains.{chain_laws}
use Rattle.paths.proofs.chains_stand.Goals as goal

pub returns : goal.returns
returns g c N bids = chain_laws g.W.Worth.group g.met.W.Worth.laws N (StoodIn bids)
