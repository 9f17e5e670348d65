use Rattle.std.proofs.Common.{List, subst}
use Rattle.std.specs.List.Sorted.{IsPermutation}
use Rattle.heaps.proofs.Lists.{set_last, rise_last}
use Rattle.queue.specs.Order.{Over}
use Rattle.queue.specs.declared.Entry.{Entry}
use Rattle.queue.proofs.heap.append.Goals as goal

pub returns-clause-shuffled : goal.returns-clause-shuffled
returns-clause-shuffled g c =
    let P : List (Entry g.row.W.Denot) → Type 0 = λ l. IsPermutation l c.sift_up.new.s in
    subst P (set_last c.args.s.now c.args.e c.requires) c.sift_up.ensures.shuffled

pub returns-clause-heap : goal.returns-clause-heap
returns-clause-heap g c h = c.sift_up.ensures.heap (rise_last (Over g.W.Worth.group g.W.Worth.meaning) c.args.s.now c.args.e c.requires h)
