use Rattle.std.proofs.Common.{◌≡◌, ℕ, ◌+◌, ◌<◌, length, refl, ◌∙◌, arith}
use Rattle.std.proofs.lemmas.Result.{err_from_is_err_and}
use Rattle.chains.specs.Places.{Earlier}
use Rattle.paths.proofs.Turns.{spent_skip, spent_ready, spent_more, spent_full}
use Rattle.tables.proofs.Views.{table_rounds}
use Rattle.tables.specs.View.{rounds}
use Rattle.weigh.proofs.Bids.{bid_is, bid_not}
use Rattle.weigh.proofs.Searches.{looks_on, queue_looks_on, same_on}
use Rattle.weigh.proofs.search.Search.relax_all.Goals as goal
use Rattle.weigh.proofs.search.Search.relax_all.Goals.{then-eq+in_ok-relax, else-eq}

pub loop-s-preserved : goal.loop-s-preserved
loop-s-preserved g c =
    let G = g.W.Worth.group in
    let L = g.met.W.Worth.laws in
    let m = g.W.Worth.meaning in
    let T = c.args.self.now.trial.table.now in
    let R = rounds T in
    let y = c.args.y in
    let s = c.loop-s.s in
    let same = c.loop-s.invariant.0 in
    let early : s + 1 < length R = omega (arith, table_rounds T) in
    elim c.if-eq.branch [
      | then-eq+in_ok-relax w ↦
          let looked = w.in_ok-relax.ensures in
          let old : Earlier R s y = bid_is R s _ y early c.bid_in.ensures w.if-eq.ensures in
          rw w.self-is (
            same_on same looked.same,
            (λ z. looked.turns z ∙ c.loop-s.invariant.1 z),
            (λ t next j d h.
                let r = c.loop-s.invariant.2 t next j d h in
                spent_more G L _ _ _ t d _ next y j h _ s r _ (looks_on G m same y looked t next j d (spent_ready G L _ _ _ t d _ next y j h _ s r old))),
            (λ t next j h k.
                let r = c.loop-s.invariant.2 t next j _ h in
                queue_looks_on G m same y looked t next j (spent_ready G L _ _ _ t _ _ next y j h _ s r old) refl (c.loop-s.invariant.3 t next j h k)),
          )
      | else-eq w ↦ rw w.self-is (
        same,
        c.loop-s.invariant.1,
        (λ t next j d h. spent_skip G L _ _ _ t d _ next y j h _ s (c.loop-s.invariant.2 t next j d h) (bid_not R s _ y c.bid_in.ensures w.if-eq.ensures)),
        c.loop-s.invariant.3,
      )
    ]

pub returns-in_err-relax : goal.returns-in_err-relax
returns-in_err-relax g c =
    let G = g.W.Worth.group in
    let L = g.met.W.Worth.laws in
    let m = g.W.Worth.meaning in
    let T = c.args.self.now.trial.table.now in
    let R = rounds T in
    let y = c.args.y in
    let s = c.loop-s.s in
    let same = c.loop-s.invariant.0 in
    let early : s + 1 < length R = omega (arith, table_rounds T) in
    let old : Earlier R s y = bid_is R s _ y early c.bid_in.ensures c.if-eq.ensures in
    let looked = c.in_err-relax.ensures in
    let p = err_from_is_err_and c.from_residual.result c.from_residual.ensures.1 in
    rw (p.1, p.2) (record {
      same = same_on same looked.same;
      turns = λ z. looked.turns z ∙ c.loop-s.invariant.1 z;
      closing = (looked.closing.0, omega (arith, looked.closing.1));
      looks = λ t next j d h. rw looked.closing.1 (looks_on G m same y looked t next j d (spent_ready G L _ _ _ t d _ next y j h _ s (c.loop-s.invariant.2 t next j d h) old));
      queues = λ t next j h e k. let z : ◌≡◌ {A = ℕ} 0 1 = cc in absurd (omega arith);
    })

pub returns : goal.returns
returns g c = record {
  same = c.loop-s.invariant.0;
  turns = c.loop-s.invariant.1;
  closing = tt;
  looks = λ t next j d h. spent_full g.W.Worth.group g.met.W.Worth.laws _ _ _ t d _ next c.args.y j h _ c.loop-s.s (c.loop-s.invariant.2 t next j d h) _ (omega arith);
  queues = λ t next j h e k. c.loop-s.invariant.3 t next j h k;
}
