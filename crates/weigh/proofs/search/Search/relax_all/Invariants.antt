use Rattle.std.proofs.Common.{◌≡◌, ℕ}
use Rattle.chains.specs.Places.{graph_of, Earlier}
use Rattle.paths.specs.Queued.{Queued}
use Rattle.paths.specs.Searching.{Picked, Spent}
use Rattle.tables.specs.Known.{worths}
use Rattle.tables.specs.View.{rounds}
use Rattle.weigh.specs.Queues.{keys}
use Rattle.weigh.specs.Reads.{state}
use Rattle.weigh.specs.Searches.{Same}
use Rattle.weigh.proofs.search.Search.relax_all.Given as goal

abbrev pub invariant-loop-s : goal.invariant-loop-s
invariant-loop-s g l =
    let G = g.W.Worth.group in
    let m = g.W.Worth.meaning in
    let first = l.initial.self in
    let R = rounds first.trial.table.now in
    let N = graph_of G R in
    let x = first.trial.place in
    let d = worths G m first.before.now in
    let st = state G m first.marks.now in
    let st' = state G m l.self.marks.now in
    Same first l.self ×
    ((y : ℕ) → st'.turn y ≡ st.turn y) ×
    ((t next j : ℕ) (e : ℕ → G.Carrier) → Picked G N (Earlier R) x t e st next l.y j → Spent G N (Earlier R) x t e st st' next l.y j l.s) ×
    ((t next j : ℕ) → Picked G N (Earlier R) x t d st next l.y j → Queued G N d st (keys G m first.queue) → Queued G N d st' (keys G m l.self.queue))
