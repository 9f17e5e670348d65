use Rattle.std.proofs.Common.{get_or, sym, arith}
use Rattle.std.proofs.lemmas.List.Sorted.{IsPermutation-trans}
use Rattle.heaps.proofs.Lists.{sink_step, sink_rests}
use Rattle.queue.specs.Order.{Over}
use Rattle.queue.proofs.Orders.{over_ahead, over_chain, first_child}
use Rattle.queue.proofs.heap.sift_down.Goals as goal

pub returns-then-not-ahead_at-clause-heap : goal.returns-then-not-ahead_at-clause-heap
returns-then-not-ahead_at-clause-heap g c h =
    let G = g.W.Worth.group in
    let m = g.W.Worth.meaning in
    let l = c.loop-i in
    let child = c.first_child-child.result in
    sink_rests (Over G m) l.s l.i
    (λ d k a b e. over_chain G g.met.W.Worth.laws m (get_or l.s l.i d) (get_or l.s child d) (get_or l.s k d)
    (sym (c.if-not-ahead_at.ensures.value d)) (first_child G g.met.W.Worth.laws m l.s l.i child c.first_child-child.ensures.only c.first_child-child.ensures.value d k a b e)) (l.invariant.1 h)

pub loop-i-preserved : goal.loop-i-preserved
loop-i-preserved g c =
    let G = g.W.Worth.group in
    let m = g.W.Worth.meaning in
    let l = c.loop-i in
    let i = l.i in
    let child = c.first_child-child.result in
    let at = c.first_child-child.ensures.child in
    let told = c.swap.ensures in (
      IsPermutation-trans _ _ _ l.invariant.0 told.permutation,
      λ h. sink_step (Over G m) l.s c.swap.new.self i child (omega arith) at.1 told.after told.len at.0 at.2
          (λ d. over_ahead G g.met.W.Worth.laws m (get_or l.s child d) (get_or l.s i d) (sym (c.if-not-ahead_at.ensures.value d)))
          (first_child G g.met.W.Worth.laws m l.s i child c.first_child-child.ensures.only c.first_child-child.ensures.value) (l.invariant.1 h),
    )

pub returns-clause-heap : goal.returns-clause-heap
returns-clause-heap g c h =
    let l = c.loop-i in
    sink_rests (Over g.W.Worth.group g.W.Worth.meaning) l.s l.i (λ d k a b e. absurd (omega arith)) (l.invariant.1 h)
