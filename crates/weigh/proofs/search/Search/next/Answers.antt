use Rattle.std.proofs.Common.{◌≡◌, sym, subst, rules}
use Rattle.std.specs.Option.{option_map}
use Rattle.paths.specs.Queued.{Leaves}
use Rattle.weigh.proofs.Queues.{taken_leaves}
use Rattle.weigh.specs.Queues.{keys}
use Rattle.weigh.proofs.search.Search.next.Goals as goal

pub returns-clause-leaves : goal.returns-clause-leaves
returns-clause-leaves g c =
    let G = g.W.Worth.group in
    let m = g.W.Worth.meaning in
    let q = c.args.self.now.queue in
    let is : c.map.result ≡ option_map (λ e. e.«package») c.take.result = search rules in
    subst (λ o. Leaves G (keys G m q) (keys G m c.take.new.self) o) (sym is) (taken_leaves G m _ q _ c.args.self.now.fit g.met.W.Worth.laws _ c.take.ensures.done)
