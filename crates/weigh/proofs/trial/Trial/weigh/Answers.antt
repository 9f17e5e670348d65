use Rattle.std.proofs.Common.{◌≡◌, ◌-◌, ◌<◌, length, take, drop, sym, refl, ap, ◌∙◌, subst, arith, rules}
use denote.Memory.{lone}
use Rattle.chains.specs.Places.{graph_of, Earlier}
use Rattle.chains.specs.Rounds.{roll}
use Rattle.paths.specs.Weighs.{IsAround, IsHeldAt, Known}
use Rattle.tables.proofs.Views.{table_roll, table_rounds}
use Rattle.tables.specs.Known.{worths}
use Rattle.tables.specs.View.{rounds}
use Rattle.weigh.proofs.Read.{read_alike}
use Rattle.weigh.proofs.Room.{fewer, marks_fit}
use Rattle.weigh.specs.Reads.{state}
use Rattle.weigh.specs.Traces.{Closed, TracedOut}
use Rattle.weigh.specs.declared.mark.Mark.{Mark}
use Rattle.weigh.proofs.trial.Trial.weigh.Goals as goal

pub marks_at-requires : goal.marks_at-requires
marks_at-requires g c = (
  fewer (length c.args.after.now) 128 _ c.requires.1.1 (search rules),
  (
    marks_fit (lone g.row.W.mir) (length c.args.heap.now) c.requires.0 (search rules),
    λ y. read_alike {K = Mark g.row.W.Denot} (λ k. k.turn) 0 128 y (record { worth = c.zero.result; turn = 0; from = 0; round = 0 }) refl,
  ),
)

pub whole_as_slice-new : goal.whole_as_slice-new
whole_as_slice-new g c = marks_fit (lone g.row.W.mir) (length c.args.heap.now) c.requires.0 (search rules)

pub returns-in-Ok : goal.returns-in-Ok
returns-in-Ok g c =
    let G = g.W.Worth.group in
    let m = g.W.Worth.meaning in
    let trial = c.args.self in
    let T = trial.table.now in
    let R = rounds T in
    let made = c.new-search.ensures in
    let first = c.new-search.result in
    let search = c.run.new.self in
    let d = worths G m c.worths_before.new.before in
    let st = state G m search.marks.now in
    let moved = c.in-Ok.moved in
    let same : search.trial ≡ trial = c.in-Ok.ensures.same.trial ∙ made.trial in
    let count : search.trial.table.now.packages ≡ length (roll R) = ap (λ v. v.table.now.packages) same ∙ sym (table_roll T) in
    let ends : Known G (graph_of G R) (Earlier R) d → IsHeldAt G (graph_of G R) (Earlier R) d trial.place (length R - 1) st moved =
    subst (λ b. Known G (graph_of G R) (Earlier R) (worths G m b) → IsHeldAt G (graph_of G R) (Earlier R) (worths G m b) trial.place (length R - 1) st moved) made.before
    (rw (table_rounds T) (subst (λ v. Known G (graph_of G (rounds v.table.now)) (Earlier (rounds v.table.now)) (worths G m first.before.now) → IsHeldAt G (graph_of G (rounds v.table.now)) (Earlier (rounds v.table.now)) (worths G m first.before.now) v.place (v.table.now.rounds - 1) st moved) made.trial c.in-Ok.ensures.searched)) in (
      refl,
      rw (← count, same) (subst (λ v. moved < v.table.now.packages) made.trial c.in-Ok.ensures.within),
      refl,
      c.write_worths.ensures.long,
      subst (λ n. drop n c.write_worths.new.after ≡ drop n c.args.after.now) count c.write_worths.ensures.rest,
      (
        d,
        st,
        c.worths_before.ensures,
        record {
          dists = λ y l. c.write_worths.ensures.written y (rw count l);
          held = ends;
        },
      ),
    )

pub returns-in-Err : goal.returns-in-Err
returns-in-Err g c =
    let G = g.W.Worth.group in
    let m = g.W.Worth.meaning in
    let trial = c.args.self in
    let T = trial.table.now in
    let R = rounds T in
    let made = c.new-search.ensures in
    let first = c.new-search.result in
    let search = c.run.new.self in
    let last = c.in-Err.closing.last in
    let round = c.in-Err.closing.round in
    let d = worths G m c.worths_before.new.before in
    let st = state G m search.marks.now in
    let same : search.trial ≡ trial = c.in-Err.ensures.same.trial ∙ made.trial in
    let ends : Known G (graph_of G R) (Earlier R) d → IsAround G (graph_of G R) (Earlier R) d trial.place (length R - 1) st last round =
    subst (λ b. Known G (graph_of G R) (Earlier R) (worths G m b) → IsAround G (graph_of G R) (Earlier R) (worths G m b) trial.place (length R - 1) st last round) made.before
    (rw (table_rounds T) (subst (λ v. Known G (graph_of G (rounds v.table.now)) (Earlier (rounds v.table.now)) (worths G m first.before.now) → IsAround G (graph_of G (rounds v.table.now)) (Earlier (rounds v.table.now)) (worths G m first.before.now) v.place (v.table.now.rounds - 1) st last round) made.trial c.in-Err.ensures.searched)) in
    let traced : Closed G R trial.place (length R - 1) st last round → TracedOut G R trial.place (length R - 1) (take c.trace-steps.result c.trace-steps.new.chain) =
    subst (λ v. Closed G R v.place (length R - 1) st last round → TracedOut G R v.place (length R - 1) (take c.trace-steps.result c.trace-steps.new.chain)) same (c.trace-steps.ensures.route R (length R - 1)) in (
      c.trace-steps.ensures.few,
      c.trace-steps.ensures.rest,
      c.trace-steps.ensures.long,
      refl,
      (
        d,
        st,
        c.worths_before.ensures,
        record {
          around = λ k. (last, round, ends k);
          traced = λ k.
              let closes = (ends k).closes in
              traced (record {
                few = record { rounds = omega (arith, table_rounds T, T.few_rounds); packages = omega (arith, table_roll T, T.few_packages) };
                on = omega (arith, table_roll T, trial.on_roll);
                present = omega (arith, table_rounds T, trial.some_round);
                d = d;
                next = closes.0;
                early = closes.1;
                closes = closes.2;
              });
        },
      ),
    )
