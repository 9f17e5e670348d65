-- One turn of `relax`, over the values that it reads.
use Rattle.std.proofs.Common.{◌≡◌, ℕ, ◌+◌, ◌*◌, ◌^◌, ◌<◌, ◌≤◌, true, false, ◌≢◌, List, length, Some, sym, ap, ◌∙◌, subst, arith}
use Rattle.std.specs.Option.{option_map}
use Rattle.chains.specs.Places.{graph_of, Earlier}
use Rattle.chains.specs.Rounds.{Round, roll}
use Rattle.paths.proofs.Queue.{queued_put}
use Rattle.paths.proofs.Relax.{relax_over, relax_put, closes, not_done}
use Rattle.paths.specs.Queued.{Enters, Queued}
use Rattle.paths.specs.Searching.{Put, Ready, Relaxed, Closes}
use Rattle.queue.specs.Contents.{key_of}
use Rattle.queue.specs.declared.Queue.{Queue}
use Rattle.tables.specs.Known.{worths}
use Rattle.weigh.specs.Queues.{keys}
use Rattle.weigh.specs.Reads.{Offers, state}
use Rattle.weigh.specs.declared.mark.Mark.{Mark}
use Rattle.worth.proofs.Orders.{follows_lt, lt_le}
use Rattle.worth.proofs.Sums.{group}
use Rattle.worth.specs.Group.{Group, Laws}
use Rattle.worth.specs.Says.{Below}

module _ (G : Group) (L : Laws G) {X : Type 0} (m : X → G.Carrier) (R : List Round) (marks₀ marks : List (Mark X)) (x t next a s j z : ℕ) (d : ℕ → G.Carrier)
    (h : Ready G (graph_of G R) (Earlier R) x t d (state G m marks₀) next a s j)
    (r : Relaxed G (graph_of G R) (Earlier R) x t d (state G m marks₀) (state G m marks) next a s j z)
    (on : z < length (roll R)) (other : z ≢ a) (worth : X) (o : Offers G m R marks a s z worth) where
  near : G.size ((state G m marks).dist a) ≤ 2 ^ 45 * j
  near = rw (r.lower.done a h.done) h.near

  sum : m worth ≡ G.add ((state G m marks).dist a) ((graph_of G R).step a z s)
  sum = let n = near in let f = h.far in o.sum (omega arith)

  small : G.size (m worth) ≤ 2 ^ 45 * (j + 1)
  small = let k = L.size_add ((state G m marks).dist a) ((graph_of G R).step a z s) in let n = near in let f = o.small in rw sum (omega arith)

  pub over : false ≡ G.less (m worth) ((state G m marks).dist z) → Relaxed G (graph_of G R) (Earlier R) x t d (state G m marks₀) (state G m marks) next a s j (z + 1)
  over above = relax_over G L _ _ x t d _ next a s j h _ z r (rw (← sum) (sym above))

  module _ (below : true ≡ G.less (m worth) ((state G m marks).dist z)) where
    falls : G.less (m worth) ((state G m marks).dist z) ≡ true
    falls = sym below

    pub back : z ≡ x → Closes G (graph_of G R) (Earlier R) x t d (state G m marks) next a s
    back e = closes G L _ _ x t d _ next a s j h _ z r on other _ sum falls e

    pub lower : z ≢ x → (marks' : List (Mark X)) → Put G (state G m marks) (state G m marks') z (m worth) a s → Relaxed G (graph_of G R) (Earlier R) x t d (state G m marks₀) (state G m marks') next a s j (z + 1)
    lower ne marks' p = relax_put G L _ _ x t d _ next a s j h _ z r on other _ sum falls ne small _ p

    -- and the queue follows, where the worths before are `before`
    module _ (before : List X) (d_is : (w : ℕ) → d w ≡ worths G m before w) (fall : X)
        (fell : G.size (m worth) ≤ 2 ^ 59 → G.size (worths G m before z) ≤ 2 ^ 59 → m fall ≡ G.add (m worth) (G.neg (worths G m before z))) where
      fall_is : m fall ≡ G.add (m worth) (G.neg (d z))
      fall_is =
          let a = small in
          let f = h.far in
          let b : G.size (worths G m before z) ≤ 2 ^ 45 * 128 = rw (← d_is z) (h.known z on) in
          fell (omega arith) (omega arith) ∙ ap (λ u. G.add (m worth) (G.neg u)) (sym (d_is z))

      module _ (queue queue' : Queue X) (waits : Queued G (graph_of G R) d (state G m marks) (keys G m queue)) where
        -- what waits fell less far
        farther : (k : X) → key_of queue z ≡ Some k → Below G (m fall) (m k)
        farther k e =
            let was = (waits.only z (m k) (ap (option_map m) e)).2 in
            rw (was, fall_is) (follows_lt G L falls (simp group))

        pub queue_lower : z ≢ x → (marks' : List (Mark X)) → Put G (state G m marks) (state G m marks') z (m worth) a s →
            (((k : X) → key_of queue z ≡ Some k → Below G (m fall) (m k)) → Enters G (keys G m queue) (keys G m queue') z (m fall)) → Queued G (graph_of G R) d (state G m marks') (keys G m queue')
        queue_lower ne marks' p enters =
            queued_put G L (graph_of G R) d (state G m marks) (state G m marks') (keys G m queue) (keys G m queue') waits z a s (m worth) p
            (subst (λ u. Enters G (keys G m queue) (keys G m queue') z u) fall_is (enters farther)) on
            (not_done G L _ _ x t d _ next a s j h _ z r on other _ sum falls ne)
            (lt_le G L _ _ _ falls (r.search.under z on))
