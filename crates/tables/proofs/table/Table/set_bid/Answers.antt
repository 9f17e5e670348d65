use Rattle.std.proofs.Common.{refl, ap, ◌∙◌, arith, rules}
use Rattle.tables.proofs.Bids.{bid_set}
use Rattle.tables.proofs.Sales.{offered_fit, row_fitting}
use Rattle.tables.specs.Tables.{rounds_fit}
use Rattle.tables.specs.View.{rounds}
use Rattle.tables.proofs.table.Table.set_bid.Goals as goal

pub offset_bounds-self-place : goal.offset_bounds-self-place
offset_bounds-self-place c =
    let set = bid_set c.args.self.now c.args.row.now c.cells_of-cells.result c.in_ok-latest.latest c.unwrap_or-place.result _ c.place_of.result (search rules)
    c.in_ok-latest.ensures.latest (search rules) (search rules) c.cells_of-cells.ensures c.place_of.ensures c.unwrap_or-place.ensures refl in
    omega (arith, set.below)

pub bounds-self-place : goal.bounds-self-place
bounds-self-place c =
    let set = bid_set c.args.self.now c.args.row.now c.cells_of-cells.result c.in_ok-latest.latest c.unwrap_or-place.result _ c.place_of.result (search rules)
    c.in_ok-latest.ensures.latest (search rules) (search rules) c.cells_of-cells.ensures c.place_of.ensures c.unwrap_or-place.ensures refl in
    omega (arith, set.below)

pub overflow_add-place : goal.overflow_add-place
overflow_add-place c =
    let set = bid_set c.args.self.now c.args.row.now c.cells_of-cells.result c.in_ok-latest.latest c.unwrap_or-place.result _ c.place_of.result (search rules)
    c.in_ok-latest.ensures.latest (search rules) (search rules) c.cells_of-cells.ensures c.place_of.ensures c.unwrap_or-place.ensures refl in
    omega (arith, set.below)

pub invariant_of-self : goal.invariant_of-self
invariant_of-self c =
    let T = c.args.self.now in
    let row = c.args.row.now in
    let set = bid_set T row c.cells_of-cells.result c.in_ok-latest.latest c.unwrap_or-place.result c.max-self.result c.place_of.result (search rules)
    c.in_ok-latest.ensures.latest (search rules) (search rules) c.cells_of-cells.ensures c.place_of.ensures c.unwrap_or-place.ensures (search rules) in
    record {
      few_products = T.few_products;
      few_rounds = T.few_rounds;
      few_packages = set.few;
      within = set.within;
      enrolled = set.roll_is;
      fits = ap (rounds_fit T.products) set.after ∙ offered_fit T.products (rounds T) row (row_fitting T.products 256 row set.long (λ i. let fits = c.type_inv.row i in omega arith)) T.fits;
    }

pub returns-clause-place : goal.returns-clause-place
returns-clause-place c =
    let set = bid_set c.args.self.now c.args.row.now c.cells_of-cells.result c.in_ok-latest.latest c.unwrap_or-place.result c.max-self.result c.place_of.result (search rules)
    c.in_ok-latest.ensures.latest (search rules) (search rules) c.cells_of-cells.ensures c.place_of.ensures c.unwrap_or-place.ensures (search rules) in
    set.placed

pub returns-clause-after : goal.returns-clause-after
returns-clause-after c =
    let set = bid_set c.args.self.now c.args.row.now c.cells_of-cells.result c.in_ok-latest.latest c.unwrap_or-place.result c.max-self.result c.place_of.result (search rules)
    c.in_ok-latest.ensures.latest (search rules) (search rules) c.cells_of-cells.ensures c.place_of.ensures c.unwrap_or-place.ensures (search rules) in
    set.after

pub returns-clause-enrols : goal.returns-clause-enrols
returns-clause-enrols c =
    let set = bid_set c.args.self.now c.args.row.now c.cells_of-cells.result c.in_ok-latest.latest c.unwrap_or-place.result c.max-self.result c.place_of.result (search rules)
    c.in_ok-latest.ensures.latest (search rules) (search rules) c.cells_of-cells.ensures c.place_of.ensures c.unwrap_or-place.ensures (search rules) in
    set.enrols
