use Rattle.std.proofs.Common.{refl}
use Rattle.chains.proofs.Sheets.{sheet_laws}
use Rattle.worth.specs.ModelsLemmas.{plain_laws}
use Rattle.worth.specs.Models.{plain}
use Rattle.chains.proofs.plain_sheet_stands.Goals as goal

pub returns : goal.returns
returns c rounds = (sheet_laws plain plain_laws rounds).best refl
