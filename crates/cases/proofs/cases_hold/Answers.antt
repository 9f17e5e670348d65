use Rattle.cases.proofs.Sound.{table_holds}
use Rattle.cases.proofs.cases_hold.Goals as goal

pub returns : goal.returns
returns c = table_holds
