use Rattle.std.proofs.Common.{◌≡◌, ◌<◌, length, is_some, Some, None, sym, ap, ◌∙◌, arith, rules}
use Rattle.tables.proofs.Bids.{latest_bid}
use Rattle.tables.proofs.Changes.{bid_taken, bids_within, unbid_roll}
use Rattle.tables.proofs.Sales.{unbid_fit}
use Rattle.std.proofs.lemmas.Option.{none-some}
use Rattle.tables.specs.Tables.{bid_of, rounds_fit}
use Rattle.tables.specs.View.{rounds}
use Rattle.tables.proofs.table.Table.clear_bid.Goals as goal

pub returns-in_default-bid-clause-value : goal.returns-in_default-bid-clause-value
returns-in_default-bid-clause-value c =
    let T = c.args.self.now in
    let latest = c.in-Some.latest in
    let bid : bid_of T.played latest ≡ None = search rules in
    sym (latest_bid T latest c.in-Some.ensures ∙ ap is_some bid)

pub invariant_of-self : goal.invariant_of-self
invariant_of-self c =
    let T = c.args.self.now in
    let latest = c.in-Some.latest in
    let is = c.in-Some.ensures in
    let room : latest < length T.played = search rules in
    let left = c.packages_before-self.result in record {
      few_products = T.few_products;
      few_rounds = T.few_rounds;
      few_packages = search rules;
      within = λ t a l. bids_within T.products T.rows T.played latest left _ room c.packages_before-self.ensures.within (λ b e. absurd (none-some b e)) t a (omega arith);
      enrolled = unbid_roll T.products T.rows T.played T.rounds latest is room ∙ c.packages_before-self.ensures.value;
      fits = ap (rounds_fit T.products) (bid_taken T.products T.rows T.played T.rounds latest is room) ∙ unbid_fit T.products (rounds T) T.fits;
    }

pub returns-clause-value : goal.returns-clause-value
returns-clause-value c =
    let T = c.args.self.now in
    let latest = c.in-Some.latest in
    let bid : bid_of T.played latest ≡ Some c.in-Some-bid.place = search rules in
    sym (latest_bid T latest c.in-Some.ensures ∙ ap is_some bid)

pub returns-clause-after : goal.returns-clause-after
returns-clause-after c _ =
    let T = c.args.self.now in
    bid_taken T.products T.rows T.played T.rounds c.in-Some.latest c.in-Some.ensures (search rules)
