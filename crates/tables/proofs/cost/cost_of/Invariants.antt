use Rattle.std.proofs.Common.{◌≡◌, ◌+◌, ◌*◌, ◌^◌, ◌≤◌, take, drop}
use Rattle.chains.specs.Rows.{cost}
use Rattle.tables.proofs.cost.cost_of.Given as goal

-- the sum so far and what is left come to the whole, and no product adds more than 2 ^ 40
abbrev pub invariant-loop-i : goal.invariant-loop-i
invariant-loop-i l =
    let q = take l.products l.quantities in
    let p = take l.products l.prices in
    (l.sum + cost (drop l.i q) (drop l.i p) ≡ cost q p) × (l.sum ≤ l.i * 2 ^ 40)
