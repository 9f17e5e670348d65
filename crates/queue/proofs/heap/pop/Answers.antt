use Rattle.std.proofs.Common.{◌-◌, List, ◌∷◌, length, sym, subst, arith}
use Rattle.std.specs.List.Sorted.{IsPermutation}
use Rattle.heaps.specs.Heap.{Heap}
use Rattle.heaps.proofs.Lists.{sink_last, popped, taken_back}
use Rattle.queue.specs.Order.{Over}
use Rattle.queue.specs.declared.Entry.{Entry}
use Rattle.queue.proofs.heap.pop.Goals as goal

pub returns-clause-shuffled : goal.returns-clause-shuffled
returns-clause-shuffled g c =
    let xs = c.args.s.now in
    let ys = c.swap.new.self in
    let ts = c.sift_down.new.s in
    let x = c.index-s-0.result in
    let n = length xs - 1 in
    let swapped = c.swap.ensures in
    let sunk = c.sift_down.ensures in
    let P : List (Entry g.row.W.Denot) → Type 0 = λ l. IsPermutation xs (x ∷ l) in
    subst P (sym (taken_back ts _ ys n sunk.shuffled (omega arith))) (popped xs ys ts x n (omega arith) swapped.after swapped.len c.index-s-0.is swapped.permutation sunk.shuffled)

pub returns-clause-heap : goal.returns-clause-heap
returns-clause-heap g c h =
    let L = Over g.W.Worth.group g.W.Worth.meaning in
    let xs = c.args.s.now in
    let ys = c.swap.new.self in
    let n = length xs - 1 in
    let swapped = c.swap.ensures in
    let sunk = c.sift_down.ensures in
    subst (Heap L) (sym (taken_back c.sift_down.new.s _ ys n sunk.shuffled (omega arith))) (sunk.heap (sink_last L xs ys n (omega arith) swapped.after swapped.len h))
