-- What a search keeps from one turn to the next, and how it ends.
use Rattle.std.proofs.Common.{◌≡◌, ℕ, ◌+◌, ◌-◌, ◌<◌, ◌≤◌, None, Some, Ok, Err, sym, refl, subst, arith}
use Rattle.chains.specs.Places.{graph_of, Earlier}
use Rattle.paths.proofs.Ends.{known_explains, is_around, is_held_at}
use Rattle.paths.proofs.Queue.{queued_start, queued_none, queued_foremost, queued_finish}
use Rattle.paths.proofs.Turns as turns
use Rattle.paths.proofs.Turns.{begun_ready, begun_weighing, turn_picked, turn_weighing}
use Rattle.paths.specs.Graph.{Graph}
use Rattle.paths.specs.Queued.{Leaves, Queued}
use Rattle.paths.specs.Searching.{Finish, Picked, Weighing}
use Rattle.paths.specs.Weighs.{IsAround, IsHeldAt, Known}
use Rattle.tables.proofs.Views.{table_roll, table_rounds}
use Rattle.tables.specs.Known.{worths}
use Rattle.tables.specs.View.{rounds}
use Rattle.tables.specs.declared.table.Table.{Table}
use Rattle.weigh.proofs.Searches.{looks_all_on, queue_looks_all_on}
use Rattle.weigh.specs.Queues.{keys}
use Rattle.weigh.specs.Reads.{state}
use Rattle.weigh.specs.Searches.{Fresh, Looked, LookedAll, Same}
use Rattle.weigh.specs.declared.search.Closing.{Closing}
use Rattle.weigh.specs.declared.search.Search.{Search}
use Rattle.worth.specs.Group.{Group, Laws}

module _ (G : Group) {X : Type 0} (m : X → G.Carrier) {w : _} (first : Search X w) where
  abbrev T : Table
  T = first.trial.table.now

  abbrev N : Graph G
  N = graph_of G (rounds T)

  abbrev Old : ℕ → ℕ → Type 0
  Old = Earlier (rounds T)

  abbrev x : ℕ
  x = first.trial.place

  abbrev t : ℕ
  t = T.rounds - 1

  abbrev d : ℕ → G.Carrier
  d = worths G m first.before.now

  -- before this turn, where the worths before are the inner worths of the earlier bids
  abbrev pub Between : Search X w → ℕ → Type 0
  Between search turn = Known G N Old d → Weighing G N Old x t d (state G m search.marks.now) turn × Queued G N d (state G m search.marks.now) (keys G m search.queue)

  module _ (L : Laws G) where
    on : x < N.count
    on = omega (arith, table_roll T, first.trial.on_roll)

    module _ (fresh : Fresh G m first) (search : Search X w) (s : ℕ) (latest : s ≡ t) where
      -- no step from the bid's package closes a chain
      pub never_closes : (closing : Closing) → Looked G m first search x s (Err closing) → ¬ Known G N Old d
      never_closes closing looked known = (looked.looks s 2 128 d (begun_ready G L N Old x s d _ fresh.begun on known.small)).apart refl

      pub starts : Looked G m first search x s (Ok tt) → Between search 2
      starts looked known =
          let few = T.few_packages in
          let ready = begun_ready G L N Old x s d _ fresh.begun on known.small in
          let weighing = begun_weighing G L N Old x s d _ fresh.begun on known.small (known_explains G L N Old d known) _ (looked.looks s 2 128 d ready) in
          (subst (λ k. Weighing G N Old x k d (state G m search.marks.now) 2) latest weighing, looked.queues s 2 128 ready refl (queued_start G L N d x _ _ fresh.empty fresh.begun))

    module _ (search : Search X w) (turn : ℕ) (two : 2 ≤ turn) (between : Between search turn) where
      -- nothing waits any more
      pub ends_early : (search' : Search X w) → Leaves G (keys G m search.queue) (keys G m search'.queue) None → (moved : ℕ) → moved + 2 ≡ turn → Known G N Old d → IsHeldAt G N Old d x t (state G m search.marks.now) moved
      ends_early search' leaves moved is known =
          let i = between known in
          subst (λ k. IsHeldAt G N Old d x t (state G m search.marks.now) k) (omega arith) (is_held_at G L N Old d known x t on _ turn i.0 (queued_none G L N d _ (keys G m search.queue) (keys G m search'.queue) i.1 leaves))

      -- each package was finished
      pub ends : T.packages < turn → (moved : ℕ) → moved + 2 ≡ turn → Known G N Old d → IsHeldAt G N Old d x t (state G m search.marks.now) moved
      ends all moved is known =
          let i = between known in
          subst (λ k. IsHeldAt G N Old d x t (state G m search.marks.now) k) (omega arith) (is_held_at G L N Old d known x t on _ turn i.0 (turns.none_waits G L N Old x t d _ turn i.0 (omega (arith, table_roll T))))

      -- y leaves the queue, is finished, and is looked from
      module _ (taken finished after : Search X w) (y : ℕ) (same : Same first finished) (early : turn ≤ T.packages) (marks : taken.marks ≡ search.marks) (queue : finished.queue ≡ taken.queue)
          (leaves : Leaves G (keys G m search.queue) (keys G m taken.queue) (Some y)) (finish : Finish G (state G m taken.marks.now) (state G m finished.marks.now) y turn) where
        finish_on : Finish G (state G m search.marks.now) (state G m finished.marks.now) y turn
        finish_on = rw (← marks) finish

        picked : Known G N Old d → Picked G N Old x t d (state G m finished.marks.now) (turn + 1) y (turn + 127)
        picked known =
            let few = T.few_packages in
            let count = table_roll T in
            let i = between known in
            let best = queued_foremost G L N d (state G m search.marks.now) (keys G m search.queue) _ i.1 y leaves in
            turn_picked G L N Old x t d _ turn i.0 y best.0 best.1 best.2 _ finish_on (omega arith) (known_explains G L N Old d known)

        pub closes : (closing : Closing) → LookedAll G m finished after y (Err closing) → Known G N Old d → IsAround G N Old d x t (state G m after.marks.now) closing.last closing.round
        closes closing looked known =
            let count = table_roll T in
            subst (λ a. IsAround G N Old d x t (state G m after.marks.now) a closing.round) (sym looked.closing.0)
            (is_around G L N Old d known x t on _ (turn + 1) y closing.round (omega arith) (looks_all_on G m same y looked t (turn + 1) (turn + 127) d (picked known)))

        pub goes_on : LookedAll G m finished after y (Ok tt) → Between after (turn + 1)
        goes_on looked known =
            let i = between known in
            let best = queued_foremost G L N d (state G m search.marks.now) (keys G m search.queue) _ i.1 y leaves in (
              turn_weighing G L N Old x t d _ turn i.0 y best.0 best.1 best.2 _ finish_on t (λ s a o. let l = o.0 in omega (arith, table_rounds T)) _
                  (looks_all_on G m same y looked t (turn + 1) (turn + 127) d (picked known)),
              queue_looks_all_on G m same y looked t (turn + 1) (turn + 127) (picked known) refl
                  (rw queue (queued_finish G L N d _ _ (keys G m search.queue) (keys G m taken.queue) i.1 y turn (omega arith) finish_on leaves)),
            )
