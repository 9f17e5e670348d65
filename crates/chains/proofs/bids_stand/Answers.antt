use Rattle.chains.proofs.Laws.{chain_laws}
use Rattle.chains.proofs.Sheets.{sheet_laws}
use Rattle.chains.proofs.bids_stand.Goals as goal

pub returns : goal.returns
returns g c =
    let G = g.W.Worth.group in
    let L = g.met.W.Worth.laws in
    record { chains = chain_laws G L; sheets = sheet_laws G L }
