use Rattle.ledger.proofs.Laws.{ledger_laws}
use Rattle.ledger.proofs.ledger_stands.Goals as goal

pub returns : goal.returns
returns g c = ledger_laws g.W.Worth.group g.met.W.Worth.laws
