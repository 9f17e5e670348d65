use Rattle.std.proofs.Common.{◌*◌, ◌^◌, ◌≤◌, length, get_or, take, ap, arith, rules}
use Rattle.std.proofs.lemmas.Nat.{mul-le}
use Rattle.std.proofs.lemmas.List.{get_or-take, length-take}
use Rattle.chains.proofs.Costs.{cost_end, cost_next}
use Rattle.tables.proofs.cost.cost_of.Goals as goal

pub loop-i-preserved : goal.loop-i-preserved
loop-i-preserved c =
    let i = c.loop-i.i in
    let quantity = get_or (take c.min.result c.args.quantities.now) i 0 in
    let price = get_or c.args.prices.now i 0 in
    let few = mul-le quantity price 255 (2 ^ 32) (omega arith) (omega arith) in
    let read = ap (λ q. q * price) (get_or-take c.min.result c.args.quantities.now i 0 (search rules)) in
    let next = cost_next c.args.quantities.now c.args.prices.now c.args.products i (search rules) (search rules) (search rules) in
    (omega arith, omega arith)

pub returns : goal.returns
returns c =
    let q = take c.args.products c.args.quantities.now in
    let long : length q ≤ c.loop-i.i = search (rules, length-take) in
    let none = cost_end q (take c.args.products c.args.prices.now) c.loop-i.i long in
    record { value = omega arith; bound = search rules }
