use Rattle.std.proofs.Common.{get_or, sym, refl, arith}
use Rattle.std.proofs.lemmas.List.Sorted.{IsPermutation-trans}
use Rattle.heaps.specs.Heap.{parent}
use Rattle.heaps.proofs.Lists.{rise_step, rise_rests}
use Rattle.queue.specs.Order.{Over}
use Rattle.queue.proofs.Orders.{over_ahead, over_chain}
use Rattle.queue.proofs.heap.sift_up.Goals as goal

pub returns-then-not-ahead_at-clause-heap : goal.returns-then-not-ahead_at-clause-heap
returns-then-not-ahead_at-clause-heap g c h =
    let l = c.loop-i in
    rise_rests (Over g.W.Worth.group g.W.Worth.meaning) l.s l.i (λ d pos. sym (c.if-not-ahead_at.ensures.value d)) (l.invariant.2 h)

pub loop-i-preserved : goal.loop-i-preserved
loop-i-preserved g c =
    let G = g.W.Worth.group in
    let m = g.W.Worth.meaning in
    let laws = g.met.W.Worth.laws in
    let l = c.loop-i in
    let i = l.i in
    let told = c.swap.ensures in (
      omega arith,
      IsPermutation-trans _ _ _ l.invariant.1 told.permutation,
      λ h. rise_step (Over G m) l.s c.swap.new.self (parent i) i (omega arith) l.invariant.0 told.after told.len
          (over_chain G laws m) (omega arith) refl (λ d. over_ahead G laws m (get_or l.s i d) (get_or l.s (parent i) d) (sym (c.if-not-ahead_at.ensures.value d))) (l.invariant.2 h),
    )

pub returns-clause-heap : goal.returns-clause-heap
returns-clause-heap g c h =
    let l = c.loop-i in
    rise_rests (Over g.W.Worth.group g.W.Worth.meaning) l.s l.i (λ d pos. absurd (omega arith)) (l.invariant.2 h)
