-- A search that goes on, for the same bid and from the same worths.
use Rattle.std.proofs.Common.{ℕ, ◌-◌, is_err, Result, ◌∙◌, subst}
use Rattle.chains.specs.Places.{graph_of, Earlier}
use Rattle.paths.specs.Looks.{Looks, LooksAll, QueueLooks, QueueLooksAll}
use Rattle.tables.specs.Known.{worths}
use Rattle.tables.specs.View.{rounds}
use Rattle.weigh.specs.Queues.{keys}
use Rattle.weigh.specs.Reads.{state}
use Rattle.weigh.specs.Searches.{Looked, LookedAll, Same, closed_in}
use Rattle.weigh.specs.declared.search.Closing.{Closing}
use Rattle.weigh.specs.declared.search.Search.{Search}
use Rattle.worth.specs.Group.{Group}

pub same_on : {X : Type 0} {w : _} {first search search' : Search X w} → Same first search → Same search search' → Same first search'
same_on before now = record { trial = now.trial ∙ before.trial; before = now.before ∙ before.before }

-- what a look comes to, over the bid and the worths of the first search
module _ (G : Group) {X : Type 0} (m : X → G.Carrier) {w : _} {first search search' : Search X w} (same : Same first search) (a : ℕ) where
  pub looks_on : {s : ℕ} {r : Result (Unit {0}) Closing} → Looked G m search search' a s r → Looks G (graph_of G (rounds first.trial.table.now)) (Earlier (rounds first.trial.table.now)) first.trial.place (state G m search.marks.now) (state G m search'.marks.now) a s (is_err r)
  looks_on {s = s} {r = r} h = subst (λ v. Looks G (graph_of G (rounds v.table.now)) (Earlier (rounds v.table.now)) v.place (state G m search.marks.now) (state G m search'.marks.now) a s (is_err r)) same.trial h.looks

  pub queue_looks_on : {s : ℕ} {r : Result (Unit {0}) Closing} → Looked G m search search' a s r →
      QueueLooks G (graph_of G (rounds first.trial.table.now)) (Earlier (rounds first.trial.table.now)) first.trial.place (worths G m first.before.now) (state G m search.marks.now) (state G m search'.marks.now) (keys G m search.queue) (keys G m search'.queue) a s (is_err r)
  queue_looks_on {s = s} {r = r} h =
      subst (λ b. QueueLooks G (graph_of G (rounds first.trial.table.now)) (Earlier (rounds first.trial.table.now)) first.trial.place (worths G m b.now) (state G m search.marks.now) (state G m search'.marks.now) (keys G m search.queue) (keys G m search'.queue) a s (is_err r)) same.before
      (subst (λ v. QueueLooks G (graph_of G (rounds v.table.now)) (Earlier (rounds v.table.now)) v.place (worths G m search.before.now) (state G m search.marks.now) (state G m search'.marks.now) (keys G m search.queue) (keys G m search'.queue) a s (is_err r)) same.trial h.queues)

  pub looks_all_on : {r : Result (Unit {0}) Closing} → LookedAll G m search search' a r → LooksAll G (graph_of G (rounds first.trial.table.now)) (Earlier (rounds first.trial.table.now)) first.trial.place (state G m search.marks.now) (state G m search'.marks.now) a (first.trial.table.now.rounds - 1) (closed_in r)
  looks_all_on {r = r} h = subst (λ v. LooksAll G (graph_of G (rounds v.table.now)) (Earlier (rounds v.table.now)) v.place (state G m search.marks.now) (state G m search'.marks.now) a (v.table.now.rounds - 1) (closed_in r)) same.trial h.looks

  pub queue_looks_all_on : {r : Result (Unit {0}) Closing} → LookedAll G m search search' a r →
      QueueLooksAll G (graph_of G (rounds first.trial.table.now)) (Earlier (rounds first.trial.table.now)) first.trial.place (worths G m first.before.now) (state G m search.marks.now) (state G m search'.marks.now) (keys G m search.queue) (keys G m search'.queue) a (closed_in r)
  queue_looks_all_on {r = r} h =
      subst (λ b. QueueLooksAll G (graph_of G (rounds first.trial.table.now)) (Earlier (rounds first.trial.table.now)) first.trial.place (worths G m b.now) (state G m search.marks.now) (state G m search'.marks.now) (keys G m search.queue) (keys G m search'.queue) a (closed_in r)) same.before
      (subst (λ v. QueueLooksAll G (graph_of G (rounds v.table.now)) (Earlier (rounds v.table.now)) v.place (worths G m search.before.now) (state G m search.marks.now) (state G m search'.marks.now) (keys G m search.queue) (keys G m search'.queue) a (closed_in r)) same.trial h.queues)
