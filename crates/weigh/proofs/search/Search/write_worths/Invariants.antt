use Rattle.std.proofs.Common.{◌≡◌, ℕ, ◌<◌, drop}
use Rattle.tables.specs.Known.{worths}
use Rattle.weigh.specs.Reads.{state}
use Rattle.weigh.proofs.search.Search.write_worths.Given as goal

abbrev pub invariant-loop-y : goal.invariant-loop-y
invariant-loop-y g l =
    let G = g.W.Worth.group in
    let m = g.W.Worth.meaning in
    (drop l.n l.after ≡ drop l.n l.initial.after) × ((z : ℕ) → z < l.y → worths G m l.after z ≡ (state G m l.self.marks.now).dist z)
