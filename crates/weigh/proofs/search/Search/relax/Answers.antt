use Rattle.std.proofs.Common.{◌<◌, ◌≢◌, length, true, sym, refl, ap, ◌∙◌, arith, eqb-true}
use borrow.Author.Tests.{eqb-false}
use Rattle.std.proofs.lemmas.Bool.{both_ways}
use Rattle.chains.specs.Rounds.{roll}
use Rattle.paths.proofs.Relax.{relax_self, relax_full}
use Rattle.paths.specs.Searching.{Put}
use Rattle.tables.proofs.Views.{table_roll}
use Rattle.tables.specs.Known.{worths}
use Rattle.tables.specs.View.{rounds}
use Rattle.weigh.proofs.Searches.{same_on}
use Rattle.weigh.proofs.Turn.{over, back, lower, queue_lower}
use Rattle.weigh.specs.Reads.{Offers, state}
use Rattle.weigh.proofs.search.Search.relax.Goals as goal
use Rattle.weigh.proofs.search.Search.relax.Goals.{then-z-a+then-undercuts+else-leads_back, then-z-a+else-undercuts, else-z-a}

pub returns-then-leads_back : goal.returns-then-leads_back
returns-then-leads_back g c =
    let G = g.W.Worth.group in
    let m = g.W.Worth.meaning in
    let first = c.args.self.now in
    let T = first.trial.table.now in
    let search = c.loop-z.self in
    let z = c.loop-z.z in
    let same = c.loop-z.invariant.0 in
    let on : z < length (roll (rounds T)) = omega (arith, table_roll T, c.loop-z-test.true) in
    let offers : Offers G m (rounds T) search.marks.now c.args.a c.args.s z c.offered-worth.result = rw (← same.trial) c.offered-worth.ensures in
    record {
      same = same;
      turns = c.loop-z.invariant.1;
      closing = (refl, refl);
      looks = λ t next j d h.
          back G g.met.W.Worth.laws m (rounds T) first.marks.now search.marks.now first.trial.place t next c.args.a c.args.s j z d h (c.loop-z.invariant.2 t next j d h) on c.if-z-a.true _ offers c.if-undercuts.ensures
          (eqb-true _ _ (sym c.if-leads_back.ensures) ∙ ap (λ v. v.place) same.trial);
      queues = λ t next j h e k. absurd (both_ways true e refl);
    }

pub loop-z-preserved : goal.loop-z-preserved
loop-z-preserved g c =
    let G = g.W.Worth.group in
    let L = g.met.W.Worth.laws in
    let m = g.W.Worth.meaning in
    let first = c.args.self.now in
    let T = first.trial.table.now in
    let x = first.trial.place in
    let search = c.loop-z.self in
    let z = c.loop-z.z in
    let same = c.loop-z.invariant.0 in
    let on : z < length (roll (rounds T)) = omega (arith, table_roll T, c.loop-z-test.true) in
    elim c.if-z-a.branch [
      | then-z-a+then-undercuts+else-leads_back w ↦
          let after = w.link.new.self in
          let worth = w.offered-worth.result in
          let offers : Offers G m (rounds T) search.marks.now c.args.a c.args.s z worth = rw (← same.trial) w.offered-worth.ensures in
          let other : z ≢ x = λ e. eqb-false _ _ (sym w.if-leads_back.ensures) (e ∙ sym (ap (λ v. v.place) same.trial)) in
          let puts : Put G (state G m search.marks.now) (state G m after.marks.now) z (m worth) c.args.a c.args.s = rw (← w.wait.ensures.marks) w.link.ensures.puts in
          rw w.self-is (
            same_on (same_on same w.wait.ensures.same) w.link.ensures.same,
            (λ y. puts.turns y ∙ c.loop-z.invariant.1 y),
            (λ t next j d h. lower G L m (rounds T) first.marks.now search.marks.now x t next c.args.a c.args.s j z d h (c.loop-z.invariant.2 t next j d h) on w.if-z-a.true _ offers w.if-undercuts.ensures other after.marks.now puts),
            (λ t next j h k. rw w.link.ensures.queue (queue_lower G L m (rounds T) first.marks.now search.marks.now x t next c.args.a c.args.s j z (worths G m first.before.now) h (c.loop-z.invariant.2 t next j _ h) on w.if-z-a.true _ offers w.if-undercuts.ensures search.before.now
                (λ v. ap (λ b. worths G m b.now v) (sym same.before)) w.fallen-key.result w.fallen-key.ensures search.queue w.wait.new.self.queue (c.loop-z.invariant.3 t next j h k) other after.marks.now puts w.wait.ensures.enters)),
          )
      | then-z-a+else-undercuts w ↦
          let offers : Offers G m (rounds T) search.marks.now c.args.a c.args.s z w.offered-worth.result = rw (← same.trial) w.offered-worth.ensures in
          rw w.self-is (
            same,
            c.loop-z.invariant.1,
            (λ t next j d h. over G L m (rounds T) first.marks.now search.marks.now x t next c.args.a c.args.s j z d h (c.loop-z.invariant.2 t next j d h) on w.if-z-a.true _ offers w.if-undercuts.ensures),
            c.loop-z.invariant.3,
          )
      | else-z-a w ↦ rw w.self-is (
        same,
        c.loop-z.invariant.1,
        (λ t next j d h. relax_self G L _ _ x t d _ next c.args.a c.args.s j h _ z (c.loop-z.invariant.2 t next j d h) w.if-z-a.false),
        c.loop-z.invariant.3,
      )
    ]

pub returns : goal.returns
returns g c =
    let T = c.args.self.now.trial.table.now in
    record {
      same = c.loop-z.invariant.0;
      turns = c.loop-z.invariant.1;
      closing = tt;
      looks = λ t next j d h. relax_full g.W.Worth.group g.met.W.Worth.laws _ _ _ t d _ next c.args.a c.args.s j h _ c.loop-z.z (c.loop-z.invariant.2 t next j d h) _ (omega (arith, table_roll T));
      queues = λ t next j h e k. c.loop-z.invariant.3 t next j h k;
    }
