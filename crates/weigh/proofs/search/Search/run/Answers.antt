use Rattle.std.proofs.Common.{◌-◌, ap, arith}
use Rattle.std.proofs.lemmas.Result.{err_from_is_err_and}
use Rattle.weigh.proofs.Runs.{closes, ends, ends_early, goes_on, never_closes, starts}
use Rattle.weigh.proofs.Searches.{same_on}
use Rattle.weigh.proofs.search.Search.run.Goals as goal

pub returns-in_err-relax-clause-searched : goal.returns-in_err-relax-clause-searched
returns-in_err-relax-clause-searched g c known =
    absurd (never_closes g.W.Worth.group g.W.Worth.meaning c.args.self.now g.met.W.Worth.laws c.requires c.relax.new.self _ (ap (λ k. k - 1) c.rounds.ensures.0) _ c.in_err-relax.ensures known)

pub loop-turn-init : goal.loop-turn-init
loop-turn-init g c =
    (c.in_ok-relax.ensures.same, starts g.W.Worth.group g.W.Worth.meaning c.args.self.now g.met.W.Worth.laws c.requires c.relax.new.self _ (ap (λ k. k - 1) c.rounds.ensures.0) c.in_ok-relax.ensures)

pub returns-in-None-clause-searched : goal.returns-in-None-clause-searched
returns-in-None-clause-searched g c =
    rw c.in-None.ensures.marks (ends_early g.W.Worth.group g.W.Worth.meaning c.args.self.now g.met.W.Worth.laws c.loop-turn.self c.loop-turn.turn c.loop-turn.auto.turn c.loop-turn.invariant.1 c.next.new.self c.in-None.ensures.leaves _ c.fallen_before.ensures)

pub returns-in_err-relax_all-in-Some-clause-searched : goal.returns-in_err-relax_all-in-Some-clause-searched
returns-in_err-relax_all-in-Some-clause-searched g c =
    let same = same_on (same_on c.loop-turn.invariant.0 c.in-Some.ensures.same) c.finish.ensures.same in
    let p = err_from_is_err_and c.from_residual-in_err-relax_all-in-Some.result c.from_residual-in_err-relax_all-in-Some.ensures.1 in
    rw (p.1, p.2) (closes g.W.Worth.group g.W.Worth.meaning c.args.self.now g.met.W.Worth.laws c.loop-turn.self c.loop-turn.turn c.loop-turn.auto.turn c.loop-turn.invariant.1
    c.next.new.self c.finish.new.self c.relax_all.new.self c.in-Some.y same (omega arith) c.in-Some.ensures.marks c.finish.ensures.queue c.in-Some.ensures.leaves c.finish.ensures.finishes _ c.in_err-relax_all-in-Some.ensures)

pub loop-turn-preserved : goal.loop-turn-preserved
loop-turn-preserved g c =
    let same = same_on (same_on c.loop-turn.invariant.0 c.in-Some.ensures.same) c.finish.ensures.same in
    let looked = c.in_ok-relax_all-in-Some.ensures in (
      same_on same looked.same,
      goes_on g.W.Worth.group g.W.Worth.meaning c.args.self.now g.met.W.Worth.laws c.loop-turn.self c.loop-turn.turn c.loop-turn.auto.turn c.loop-turn.invariant.1
          c.next.new.self c.finish.new.self c.relax_all.new.self c.in-Some.y same (omega arith) c.in-Some.ensures.marks c.finish.ensures.queue c.in-Some.ensures.leaves c.finish.ensures.finishes looked,
    )

pub returns-clause-searched : goal.returns-clause-searched
returns-clause-searched g c = ends g.W.Worth.group g.W.Worth.meaning c.args.self.now g.met.W.Worth.laws c.loop-turn.self c.loop-turn.turn c.loop-turn.auto.turn c.loop-turn.invariant.1 (omega arith) _ (omega arith)
