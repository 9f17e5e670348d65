use Rattle.std.proofs.Common.{◌<◌, length}
use Rattle.std.specs.List.Sorted.{IsPermutation}
use Rattle.heaps.specs.Heap.{Rising}
use Rattle.queue.specs.Order.{Over}
use Rattle.queue.proofs.heap.sift_up.Given as goal

abbrev pub invariant-loop-i : goal.invariant-loop-i
invariant-loop-i g l =
    let L = Over g.W.Worth.group g.W.Worth.meaning in
    (l.i < length l.s) × IsPermutation l.initial.s l.s × (Rising L l.initial.s l.at → Rising L l.s l.i)

abbrev pub decreases-loop-i : goal.decreases-loop-i
decreases-loop-i g l = l.i
