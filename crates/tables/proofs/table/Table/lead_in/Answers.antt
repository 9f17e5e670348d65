use Rattle.std.proofs.Common.{◌≡◌, ◌^◌, ◌<◌, ◌≤◌, get_or, length, take, pos, nat_abs, Some, None, sym, ap, ◌∙◌, arith, w64, to_z, rules}
use Rattle.std.proofs.lemmas.Option.{none-some}
use Rattle.std.proofs.lemmas.List.{get_or-map}
use Rattle.std.proofs.lemmas.Int.{ints}
use Rattle.chains.specs.Places.{package_at}
use Rattle.chains.specs.Rounds.{round}
use Rattle.chains.specs.Rows.{cost}
use Rattle.tables.proofs.Sheets.{lead_here}
use Rattle.tables.proofs.Views.{table_prices, table_roll, table_stands, table_stood}
use Rattle.tables.specs.Known.{worths}
use Rattle.tables.specs.Tables.{bid_of}
use Rattle.tables.specs.View.{rounds}
use Rattle.tables.proofs.table.Table.lead_in.Goals as goal

pub returns-in_err-place : goal.returns-in_err-place
returns-in_err-place g c t before read known =
    rw c.from_residual.ensures (λ x s.
    let p = table_stood c.args.self.now t x s in
    let none : c.args.round.now.bid ≡ None = search rules in
    absurd (none-some p.1 (sym none ∙ ap (λ r. r.bid) read ∙ p.2)))

pub returns-in_err-worth : goal.returns-in_err-worth
returns-in_err-worth g c t before read known =
    let T = c.args.self.now in
    let place = c.in_ok-place.place in
    let bid : c.args.round.now.bid ≡ Some place = search rules in
    let on = T.within t place before (sym (ap (λ r. r.bid) read) ∙ bid) in
    let many = known.many in
    let past : length c.args.inner.now ≤ place = search rules in
    absurd (omega (arith, table_roll T))

pub returns-in_err-cells : goal.returns-in_err-cells
returns-in_err-cells g c t before read known =
    let T = c.args.self.now in
    let place = c.in_ok-place.place in
    let bid : c.args.round.now.bid ≡ Some place = search rules in
    let on = T.within t place before (sym (ap (λ r. r.bid) read) ∙ bid) in
    absurd (c.in_err-cells.ensures (omega (arith, table_roll T)))

pub returns : goal.returns
returns g c t before read known =
    let T = c.args.self.now in
    let place = c.in_ok-place.place in
    let G = g.W.Worth.group in
    let m = g.W.Worth.meaning in
    let L = g.met.W.Worth.laws in
    let k = c.cost_of-cost.result in
    let bid : c.args.round.now.bid ≡ Some place = search rules in
    let stands : bid_of T.played t ≡ Some place = sym (ap (λ r. r.bid) read) ∙ bid in
    let here = c.in_ok-cells.ensures in
    let small = c.cost_of-cost.ensures.bound in
    let is : to_z w64 k ≡ pos k = search rules in
    let few : nat_abs (pos k) ≤ 2 ^ 44 = omega (arith, ints) in
    let prices : take T.products c.args.round.now.prices ≡ (round (rounds T) t).prices = ap (λ r. take T.products r.prices) read ∙ sym (table_prices T t before) in
    let costs : k ≡ cost (package_at (rounds T) place) (round (rounds T) t).prices =
    c.cost_of-cost.ensures.value ∙ ap (λ x. cost x (take T.products c.args.round.now.prices)) here.1 ∙ ap (cost (package_at (rounds T) place)) prices in
    let amounts : m c.amount.result ≡ G.amount (pos k) = c.amount.ensures.exact (rw is (omega arith)) ∙ ap G.amount is in
    let sized : G.size (m c.amount.result) ≤ 2 ^ 44 = rw amounts (omega (arith, L.amount_size (pos k) (omega arith))) in
    let within : place < length c.args.inner.now = search rules in
    let found : c.in_ok-worth.worth.now ≡ get_or c.args.inner.now place c.in_ok-worth.worth.now = search rules in
    let value : worths G m c.args.inner.now place ≡ m c.in_ok-worth.worth.now =
    get_or-map m c.args.inner.now place c.in_ok-worth.worth.now G.zero within ∙ ap m (sym found) in
    lead_here G L m (rounds T) c.args.inner.now known t place here.0 (table_stands T t place before stands)
    c.amount.result c.in_ok-worth.worth.now c.difference.result (amounts ∙ ap (λ n. G.amount (pos n)) costs) sized value c.difference.ensures.exact
