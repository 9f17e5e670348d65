use Rattle.std.proofs.Common.{◌≡◌, ◌+◌, ◌^◌, ◌≤◌, drop}
use Rattle.worth.specs.Totals.{total_of, sizes_of}
use Rattle.worth.proofs.total.Given as goal

-- what is in hand and what is left come to the whole, in meaning and at most in size
abbrev pub invariant-loop-value : goal.invariant-loop-value
invariant-loop-value g l =
    let G = g.W.Worth.group in
    let m = g.W.Worth.meaning in
    sizes_of G m l.values ≤ 2 ^ 60 →
    (G.size (m l.all) + sizes_of G m (drop l.value-index l.values) ≤ sizes_of G m l.values) ×
    (G.add (m l.all) (total_of G m (drop l.value-index l.values)) ≡ total_of G m l.values)
