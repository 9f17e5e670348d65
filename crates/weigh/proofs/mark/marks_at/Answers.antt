use Rattle.std.proofs.Common.{◌<◌, length, get_or, set, sym, refl, ap, ◌∙◌, arith, rules}
use native.Mathlib.Decide.{ℕ_discrete}
use Rattle.std.proofs.lemmas.List.{get_or-map}
use Rattle.tables.specs.Known.{worths}
use Rattle.weigh.proofs.Read.{read_kept, read_other, read_same}
use Rattle.weigh.specs.Reads.{state}
use Rattle.weigh.specs.declared.mark.Mark.{Mark}
use Rattle.weigh.proofs.mark.marks_at.Goals as goal

pub loop-y-preserved : goal.loop-y-preserved
loop-y-preserved g c =
    let G = g.W.Worth.group in
    let m = g.W.Worth.meaning in
    let y = c.loop-y.y in
    let marks = c.loop-y.marks in
    let before = c.args.worths.now in
    let old = get_or marks y c.index-marks-y.result in
    let k : Mark g.row.W.Denot = record { worth = get_or before y c.index-worths-y.result; turn = old.turn; from = old.from; round = old.round } in
    let room : y < length marks = search rules in (
      λ z l. elim (ℕ_discrete z y) [
        | yes e ↦ ap (λ i. (state G m (set marks y k)).dist i) e ∙ read_same (λ k. m k.worth) G.zero marks y k room ∙ sym (get_or-map m before y c.index-worths-y.result G.zero (omega arith)) ∙ ap (worths G m before) (sym e)
        | no e ↦ read_other (λ k. m k.worth) G.zero marks y z k e ∙ c.loop-y.invariant.0 z (omega arith)
      ],
      λ z. read_kept (λ k. k.turn) 0 marks y z k c.index-marks-y.result room refl ∙ c.loop-y.invariant.1 z,
      search rules,
    )
