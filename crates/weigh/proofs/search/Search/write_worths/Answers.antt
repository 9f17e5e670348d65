use Rattle.std.proofs.Common.{◌≡◌, ◌<◌, length, get_or, set, sym, ap, ◌∙◌, arith}
use native.Mathlib.Decide.{ℕ_discrete}
use Rattle.std.proofs.lemmas.List.{drop-set-lt, get_or-take, length-take-le}
use Rattle.tables.specs.Known.{worths}
use Rattle.weigh.proofs.Read.{read_is, read_other, read_same}
use Rattle.weigh.specs.Reads.{state}
use Rattle.weigh.proofs.search.Search.write_worths.Goals as goal

pub loop-y-preserved : goal.loop-y-preserved
loop-y-preserved g c =
    let G = g.W.Worth.group in
    let m = g.W.Worth.meaning in
    let y = c.loop-y.y in
    let n = c.packages-n.result in
    let after = c.loop-y.after in
    let marks = c.args.self.now.marks.now in
    let k = c.mark-item.result in
    let some : y < n = omega (arith, length-take-le n marks (omega arith)) in
    let room : y < length after = omega arith in
    let is : k ≡ get_or marks y k = c.mark-item.is ∙ get_or-take n marks y k some in (
      drop-set-lt n after y k.worth some ∙ c.loop-y.invariant.0,
      λ z l. elim (ℕ_discrete z y) [
        | yes e ↦ ap (worths G m (set after y k.worth)) e ∙ read_same m G.zero after y k.worth room ∙ sym (read_is (λ k. m k.worth) G.zero marks y k (omega arith) is) ∙ ap (state G m marks).dist (sym e)
        | no e ↦ read_other m G.zero after y z k.worth e ∙ c.loop-y.invariant.1 z (omega arith)
      ],
    )
