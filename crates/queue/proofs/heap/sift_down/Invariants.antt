use Rattle.std.proofs.Common.{◌-◌, length}
use Rattle.std.specs.List.Sorted.{IsPermutation}
use Rattle.heaps.specs.Heap.{Sinking}
use Rattle.queue.specs.Order.{Over}
use Rattle.queue.proofs.heap.sift_down.Given as goal

abbrev pub invariant-loop-i : goal.invariant-loop-i
invariant-loop-i g l =
    let L = Over g.W.Worth.group g.W.Worth.meaning in
    IsPermutation l.initial.s l.s × (Sinking L l.initial.s 0 → Sinking L l.s l.i)

abbrev pub decreases-loop-i : goal.decreases-loop-i
decreases-loop-i g l = length l.initial.s - l.i
