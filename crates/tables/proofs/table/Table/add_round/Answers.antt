use Rattle.std.proofs.Common.{is_none, None, ◌≡◌, ◌^◌, ◌<◌, length, take, sym, refl, ap, ◌∙◌, arith, rules, lt-ltb, eq-eqb}
use Rattle.std.proofs.lemmas.Option.{none-some}
use Rattle.chains.proofs.Rolls.{roll_round}
use Rattle.chains.specs.Rounds.{roll}
use Rattle.tables.proofs.Changes.{bids_within, rounds_set, takes_round_unless}
use Rattle.tables.proofs.Sales.{opened_fit, row_fitting}
use Rattle.tables.proofs.Views.{table_rounds}
use Rattle.tables.specs.Changes.{opened, round_error}
use Rattle.tables.specs.Tables.{rounds_fit}
use Rattle.tables.specs.View.{rounds}
use Rattle.tables.proofs.table.Table.add_round.Goals as goal

pub invariant_of-self : goal.invariant_of-self
invariant_of-self c =
    let T = c.args.self.now in
    let prices = c.args.prices.now in
    let room : T.rounds < length T.played = search rules in
    let long : length prices ≡ T.products = search rules in
    let cells : take T.products c.cells_of.result ≡ prices = ap (λ k. take k c.cells_of.result) (sym long) ∙ c.cells_of.ensures in
    let after = rounds_set T.products T.rows T.played T.rounds _ room ∙ ap (opened (rounds T)) cells in record {
      few_products = search rules;
      few_rounds = search rules;
      few_packages = search rules;
      within = bids_within T.products T.rows T.played T.rounds T.packages _ room T.within (λ a h. absurd (none-some a h));
      enrolled = ap roll after ∙ roll_round (rounds T) _ ∙ T.enrolled;
      fits = ap (rounds_fit T.products) after ∙ opened_fit T.products (rounds T) prices (row_fitting T.products (2 ^ 32) prices long (λ i. let fits = c.type_inv.prices i in omega arith)) T.fits;
    }

pub returns : goal.returns
returns c =
    let T = c.args.self.now in
    let prices = c.args.prices.now in
    let room : T.rounds < length T.played = search rules in
    let long : length prices ≡ T.products = search rules in
    let cells : take T.products c.cells_of.result ≡ prices = ap (λ k. take k c.cells_of.result) (sym long) ∙ c.cells_of.ensures in
    let few : length (rounds T) < 128 = omega (arith, table_rounds T) in
    let error : None ≡ round_error T.products (rounds T) prices = rw (eq-eqb _ _ long, lt-ltb _ _ few) refl in
    record {
      value = sym (takes_round_unless T.products (rounds T) prices ∙ ap is_none (sym error));
      error = error;
      after = rounds_set T.products T.rows T.played T.rounds _ room ∙ ap (opened (rounds T)) cells;
      same = refl;
      refused = search rules;
    }
