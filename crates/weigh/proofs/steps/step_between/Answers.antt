use Rattle.std.proofs.Common.{◌≡◌, ◌^◌, ◌≤◌, pos, ◌-ℤ◌, nat_abs, ap, ◌∙◌, arith, w64, to_z, of_z, rules}
use Rattle.std.proofs.lemmas.Int.{ints}
use Rattle.chains.specs.Rows.{cost}
use Rattle.chains.specs.Steps.{step_at}
use Rattle.weigh.proofs.steps.step_between.Goals as goal

pub returns : goal.returns
unfolding step_at
returns g c =
    let G = g.W.Worth.group in
    let m = g.W.Worth.meaning in
    let L = g.met.W.Worth.laws in
    let a = c.args.to in
    let b = c.args.from in
    let small_b = c.requires.0 in
    let small_a = c.requires.1 in
    let is : to_z w64 (of_z w64 (to_z w64 a -ℤ to_z w64 b)) ≡ pos a -ℤ pos b = search rules in
    let few : nat_abs (pos a -ℤ pos b) ≤ 2 ^ 44 = omega (arith, ints) in
    let more : m c.amount.result ≡ G.amount (pos a -ℤ pos b) = c.amount.ensures.exact (rw is (omega arith)) ∙ ap G.amount is in
    let notch : m c.notch.result ≡ G.notch = c.notch.ensures.value in
    let more_size : G.size (m c.amount.result) ≤ 2 ^ 44 = rw more (omega (arith, L.amount_size (pos a -ℤ pos b) (omega arith))) in
    let notch_size : G.size (m c.notch.result) ≤ 10 ^ 9 = rw notch L.notch_size in
    let less : m c.difference.result ≡ G.add (m c.amount.result) (G.neg (m c.notch.result)) = c.difference.ensures.exact (omega arith) in
    let size = L.size_add (m c.amount.result) (G.neg (m c.notch.result)) in
    let neg_size = L.size_neg (m c.notch.result) in
    record {
      value = λ x y prices from_is to_is.
          less ∙ ap (λ u. G.add (m c.amount.result) (G.neg u)) notch ∙ ap (λ u. G.add u (G.neg G.notch)) (more ∙ ap (λ n. G.amount (pos n -ℤ pos b)) to_is ∙ ap (λ n. G.amount (pos (cost y prices) -ℤ pos n)) from_is);
      bound = rw less (omega arith);
    }
