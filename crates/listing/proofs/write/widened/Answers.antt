use Rattle.std.proofs.Common.{arith, rules}
use Rattle.std.proofs.lemmas.Grind.{same_number_lists}
use Rattle.listing.proofs.write.widened.Goals as goal

pub returns : goal.returns
returns c =
    let items = c.map.ensures.items in
    same_number_lists c.map.result c.args.quantities.now (search rules) (λ k h. let at = (items.at k 0 0 (omega (arith, items.long))).1 in search rules)
