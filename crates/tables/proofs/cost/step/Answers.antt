use Rattle.std.proofs.Common.{◌≡◌, ◌^◌, ◌≤◌, ap, ◌∙◌, arith, w64, to_z, of_z, rules}
use Rattle.chains.specs.Steps.{step_at}
use Rattle.tables.proofs.cost.step.Goals as goal

pub returns : goal.returns
unfolding step_at
returns g c =
    let G = g.W.Worth.group in
    let m = g.W.Worth.meaning in
    let L = g.met.W.Worth.laws in
    let d = c.cost_more-more.result in
    let few = c.cost_more-more.ensures.bound in
    let is : to_z w64 (of_z w64 d) ≡ d = search rules in
    let more : m c.amount.result ≡ G.amount d = c.amount.ensures.exact (rw is (omega arith)) ∙ ap G.amount is in
    let notch : m c.notch.result ≡ G.notch = c.notch.ensures.value in
    let more_size : G.size (m c.amount.result) ≤ 2 ^ 44 = rw more (omega (arith, L.amount_size d (omega arith))) in
    let notch_size : G.size (m c.notch.result) ≤ 10 ^ 9 = rw notch L.notch_size in
    let less : m c.difference.result ≡ G.add (m c.amount.result) (G.neg (m c.notch.result)) = c.difference.ensures.exact (omega arith) in
    let size = L.size_add (m c.amount.result) (G.neg (m c.notch.result)) in
    let neg_size = L.size_neg (m c.notch.result) in
    record {
      value = less ∙ ap (λ u. G.add (m c.amount.result) (G.neg u)) notch ∙ ap (λ u. G.add u (G.neg G.notch)) (more ∙ ap G.amount c.cost_more-more.ensures.value);
      bound = rw less (omega arith);
    }
