use Rattle.std.proofs.Common.{◌≡◌, ℕ, ◌<◌, length}
use Rattle.tables.specs.Known.{worths}
use Rattle.weigh.specs.Reads.{state}
use Rattle.weigh.proofs.mark.marks_at.Given as goal

abbrev pub invariant-loop-y : goal.invariant-loop-y
invariant-loop-y g l =
    let G = g.W.Worth.group in
    let m = g.W.Worth.meaning in
    ((z : ℕ) → z < l.y → (state G m l.marks).dist z ≡ worths G m l.worths z) × ((z : ℕ) → (state G m l.marks).turn z ≡ 0) × (length l.marks ≡ 128)
