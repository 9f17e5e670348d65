use Rattle.std.proofs.Common.{◌+◌, ◌<◌, sym, subst, arith, rules}
use Rattle.std.proofs.lemmas.List.{get_or-take, length-take-le}
use Rattle.tables.proofs.Sheets.{lead_more, rise_from_lead}
use Rattle.tables.proofs.Views.{table_rounds}
use Rattle.tables.specs.Known.{GreatestLead}
use Rattle.tables.specs.Tables.{blank}
use Rattle.tables.specs.View.{rounds}
use Rattle.tables.proofs.table.Table.rise.Goals as goal

pub loop-round-preserved : goal.loop-round-preserved
loop-round-preserved g c known =
    let G = g.W.Worth.group in
    let m = g.W.Worth.meaning in
    let T = c.args.self.now in
    let t = c.loop-round.round-index in
    let before : t < T.rounds = search rules in
    subst (λ o. GreatestLead G m (rounds T) (t + 1) o) (sym c.larger-most.ensures)
    (lead_more G g.met.W.Worth.laws m (rounds T) t c.loop-round.most c.lead_in.result (c.loop-round.invariant known) (c.lead_in.ensures t before (get_or-take T.rounds T.played t blank before) known))

pub returns : goal.returns
returns g c known =
    let T = c.args.self.now in
    rise_from_lead g.W.Worth.group g.met.W.Worth.laws g.W.Worth.meaning (rounds T) c.loop-round.round-index c.loop-round.most (omega (arith, table_rounds T, length-take-le T.rounds T.played (search rules))) (c.loop-round.invariant known)
