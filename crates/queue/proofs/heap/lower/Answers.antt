use Rattle.std.proofs.Common.{get_or}
use Rattle.heaps.proofs.Lists.{rise_set}
use Rattle.queue.specs.Order.{Over}
use Rattle.queue.proofs.Orders.{over_ahead, over_chain}
use Rattle.queue.proofs.heap.lower.Goals as goal

pub returns-clause-heap : goal.returns-clause-heap
returns-clause-heap g c ahead h =
    let G = g.W.Worth.group in
    let m = g.W.Worth.meaning in
    let laws = g.met.W.Worth.laws in
    let s = c.args.s.now in
    let i = c.args.i in
    let e = c.args.e in
    c.sift_up.ensures.heap (rise_set (Over G m) (over_chain G laws m) s i e c.requires (λ d. over_ahead G laws m e (get_or s i d) (ahead d)) h)
