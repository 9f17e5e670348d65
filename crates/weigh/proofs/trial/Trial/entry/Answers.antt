use Rattle.std.proofs.Common.{◌≡◌, ◌+◌, ◌*◌, ◌^◌, ◌<◌, ◌≤◌, length, get_or, sym, ap, ◌∙◌, subst, arith, rules}
use Rattle.std.proofs.lemmas.List.{get_or-map}
use Rattle.chains.specs.Places.{graph_of, package_at}
use Rattle.paths.specs.Entry.{Entry}
use Rattle.tables.proofs.Views.{table_roll, table_rounds}
use Rattle.tables.specs.Known.{worths}
use Rattle.tables.specs.View.{rounds}
use Rattle.weigh.proofs.Bids.{bid_earlier}
use Rattle.weigh.proofs.Entries.{Upto, entry_all, entry_bid, entry_over}
use Rattle.weigh.proofs.trial.Trial.entry.Goals as goal

pub cost_at-requires : goal.cost_at-requires
cost_at-requires g c = let bid = c.in-Some.ensures in (omega arith, omega (arith, bid.0, table_roll c.args.self.now.table.now))

pub offset_bounds-self-a : goal.offset_bounds-self-a
offset_bounds-self-a g c =
    let T = c.args.self.now.table.now in
    let bid = c.in-Some.ensures in
    let on : c.in-Some.a < length c.args.self.now.inner.now = omega (arith, bid.0, table_roll T, T.few_packages, c.args.self.now.covered) in
    search rules

pub bounds-self-a : goal.bounds-self-a
bounds-self-a g c = let T = c.args.self.now.table.now in let bid = c.in-Some.ensures in omega (arith, bid.0, table_roll T, T.few_packages, c.args.self.now.covered)

pub loop-s-preserved : goal.loop-s-preserved
loop-s-preserved g c small =
    let G = g.W.Worth.group in
    let L = g.met.W.Worth.laws in
    let m = g.W.Worth.meaning in
    let trial = c.args.self.now in
    let T = trial.table.now in
    let R = rounds T in
    let x = trial.place in
    let s = c.loop-s.s in
    let inner = trial.inner.now in
    let d = worths G m inner in
    let early : s + 1 < length R = omega (arith, table_rounds T) in
    elim c.match-bid_in.branch [
      | goal.in-Some w ↦
          let a = w.in-Some.a in
          let v = get_or inner a w.index-self-a.result in
          let bid = w.in-Some.ensures in
          let on : a < length inner = omega (arith, bid.0, table_roll T, T.few_packages, trial.covered) in
          let read : d a ≡ m v = get_or-map m inner a w.index-self-a.result G.zero on in
          let near : G.size (m v) ≤ 2 ^ 45 * 128 = rw (← read) (small s a (bid_earlier R s a early bid)) in
          let far = w.step_between-far.ensures.value (package_at R a) (package_at R x) _ w.cost_at.ensures.value w.cost_at-in-Some.ensures.value in
          let few = w.step_between-far.ensures.bound in
          let is : m w.sum.result ≡ G.add (d a) ((graph_of G R).step a x s) = w.sum.ensures.exact (omega arith) ∙ ap (λ u. G.add u (m w.step_between-far.result)) (sym read) ∙ ap (G.add (d a)) far in
          entry_bid G L R d x s a early bid m c.loop-s.least w.sum.result _ is (w.least-is ∙ w.smaller-least.ensures.value) (c.loop-s.invariant small)
      | goal.in_default w ↦ subst (λ v. Entry G (graph_of G R) (Upto R (s + 1)) d x (m v)) (sym w.least-is) (entry_over G L R d x s _ w.in_default.ensures (c.loop-s.invariant small))
    ]

pub returns : goal.returns
returns g c small =
    let G = g.W.Worth.group in
    let T = c.args.self.now.table.now in
    entry_all G g.met.W.Worth.laws (rounds T) (worths G g.W.Worth.meaning c.args.self.now.inner.now) c.args.self.now.place c.loop-s.s _ (omega (arith, table_rounds T, c.args.self.now.some_round)) (c.loop-s.invariant small)
