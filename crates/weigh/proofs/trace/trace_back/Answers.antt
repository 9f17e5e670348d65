use Rattle.std.proofs.Common.{◌≡◌, ◌+◌, ◌<◌, [], ◌∷◌, map, reverse, length, take, drop, sym, refl, ap, ◌∙◌, subst, arith, rules}
use native.Mathlib.Decide.{ℕ_discrete}
use Rattle.std.proofs.lemmas.List.{drop-drop, drop-set-lt, get_or-map, length-map, length-reverse, length-take-le}
use Rattle.chains.specs.Numbers.{in_numbers}
use Rattle.chains.specs.Places.{graph_of, Earlier}
use Rattle.paths.proofs.Trace.{trace_start, trace_more, trace_short, trace_route}
use Rattle.paths.specs.Tracing.{Traced}
use Rattle.paths.specs.declared.Step.{Step}
use Rattle.weigh.proofs.Traces.{next_same, traced_round, written}
use Rattle.weigh.specs.Reads.{state}
use Rattle.weigh.proofs.trace.trace_back.Goals as goal
use Rattle.weigh.proofs.trace.trace_back.Goals.{then-to-x-via-then-to-x, then-to-x-via-else-to-x+then-to-ge128}

pub loop-n-init : goal.loop-n-init
loop-n-init g c = (
  drop-set-lt 1 c.args.chain.now 0 _ (omega arith),
  λ R t h.
      let start = trace_start _ g.met.W.Worth.laws _ _ _ t h.d _ h.next _ _ h.closes h.on in
      (_, start, written c.args.chain.now 0 _ (omega arith) ∙ ap (λ l. l ∷ []) (c.numbered.ensures (omega arith) (omega arith) (omega arith))),
)

pub loop-n-preserved : goal.loop-n-preserved
loop-n-preserved g c =
    let n = c.loop-n.n in
    let chain = c.loop-n.chain in
    let to = c.loop-n.to in
    let marks = c.args.marks.now in
    let from = get_or-map (λ k. k.from) marks to c.index-marks-to.result 0 (omega arith) in
    let round = get_or-map (λ k. k.round) marks to c.index-marks-to-in-loop-n.result 0 (omega arith) in
    let room : n < length chain = search rules in (
      drop-set-lt (n + 1) chain n _ (omega arith) ∙ sym (drop-drop 1 n chain) ∙ ap (drop 1) c.loop-n.invariant.0 ∙ drop-drop 1 n _,
      λ R t h.
          let st = state g.W.Worth.group g.W.Worth.meaning marks in
          let so_far = c.loop-n.invariant.1 R t h in
          let more = trace_more _ g.met.W.Worth.laws _ _ _ t h.d _ h.next _ _ h.closes _ _ so_far.1 c.if-to-x.false in
          let on = more.on in
          let few = h.few.packages in
          let early = traced_round _ R _ t h.few h.present _ _ _ _ _ _ more in
          let link : Step = record { from = st.from to; to = to; round = st.at to } in
          let step : c.numbered-in-loop-n.result ≡ in_numbers link = rw (from, round) (c.numbered-in-loop-n.ensures (omega arith) (omega arith) (omega arith)) in
          (link ∷ so_far.0, subst (λ f. Traced g.W.Worth.group (graph_of g.W.Worth.group R) (Earlier R) c.args.x t st c.args.closing.last c.args.closing.round f (link ∷ so_far.0)) from more, written chain n _ room ∙ next_same step so_far.2),
    )

pub returns-then-to-x : goal.returns-then-to-x
returns-then-to-x g c =
    record {
      few = omega arith;
      long = search rules;
      rest = c.loop-n.invariant.0;
      route = λ R t h.
          let so_far = c.loop-n.invariant.1 R t h in
          let on = so_far.1.on in
          let few = h.few.packages in
          let back : c.loop-n.to ≡ c.args.x = elim c.then-to-x.branch [
            | then-to-x-via-then-to-x w ↦ w.if-to-x.true
            | then-to-x-via-else-to-x+then-to-ge128 w ↦ absurd (omega (arith, w.if-to-ge128.true))
          ] in
          record {
            steps = so_far.0;
            numbers = so_far.2;
            route = trace_route _ g.met.W.Worth.laws _ _ _ t h.d _ h.next _ _ h.closes _ _ so_far.1 _ refl back;
          };
    }

pub returns : goal.returns
returns g c =
    let chain = c.loop-n.chain in
    let n = c.loop-n.n in
    let full : n ≡ 128 = omega arith in
    let long : length chain ≡ length c.args.chain.now = search rules in
    record {
      few = omega arith;
      long = long;
      rest = subst (λ k. drop k chain ≡ drop k c.args.chain.now) full c.loop-n.invariant.0;
      route = λ R t h.
          let so_far = c.loop-n.invariant.1 R t h in
          let r = so_far.1 in
          let few = h.few.packages in
          let size : length so_far.0 ≡ 128 = sym (length-map so_far.0 in_numbers) ∙ ap length (sym so_far.2) ∙ length-reverse (take n chain) ∙ length-take-le n chain (omega arith) ∙ full in
          let back : c.loop-n.to ≡ c.args.x = elim (ℕ_discrete c.loop-n.to c.args.x) [
            | yes e ↦ e
            | no ne ↦ let short = trace_short _ g.met.W.Worth.laws _ _ _ t h.d _ h.next _ _ h.closes _ _ r h.early ne in absurd (omega arith)
          ] in
          record {
            steps = so_far.0;
            numbers = subst (λ k. reverse (take k chain) ≡ map in_numbers so_far.0) full so_far.2;
            route = trace_route _ g.met.W.Worth.laws _ _ _ t h.d _ h.next _ _ h.closes _ _ r _ refl back;
          };
    }
