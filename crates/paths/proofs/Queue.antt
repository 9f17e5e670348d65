-- The queue follows the search.
use Rattle.std.proofs.Common.{◌≡◌, ℕ, ◌<◌, Some, None, Option, sym, ap, ◌∙◌, subst, arith}
use native.Mathlib.Decide.{ℕ_discrete}
use Rattle.worth.specs.Group.{Group, Laws}
use Rattle.worth.specs.Says.{Below}
use Rattle.worth.proofs.Sums.{group}
use Rattle.worth.proofs.Orders.{follows, lt_irrefl}
use Rattle.paths.specs.Graph.{Graph}
use Rattle.paths.specs.Searching.{State, Put, Finish, Waits, Foremost, Begun}
use Rattle.paths.specs.Queued.{Enters, Leaves, Queued, fall}

some_same : {X : Type 0} (a b : X) → Some a ≡ Some b → a ≡ b
some_same a b e = cc

none_some : {X : Type 0} {Z : Type 0} (o : Option X) (k : X) → o ≡ None → o ≡ Some k → Z
none_some o k e f = let z : ◌≡◌ {A = ℕ} 0 1 = cc in absurd (omega arith)

module _ (G : Group) (L : Laws G) (N : Graph G) (d : ℕ → G.Carrier) where
  open G use {Carrier, add as ◌⊕◌, neg as ⊖◌}
  open N use {count}

  infixl 65 ◌⊕◌
  infix 70 ⊖◌
  -- a package at the same worth has fallen as far
  fall_same : (st st' : State G) (w : ℕ) → st'.dist w ≡ st.dist w → fall G d st w ≡ fall G d st' w
  fall_same st st' w e = ap (λ u. u ⊕ ⊖ d w) (sym e)

  -- at the start nothing is there
  pub queued_start : (x : ℕ) (st : State G) (keys : ℕ → Option Carrier) → ((w : ℕ) → keys w ≡ None) → Begun G N d x st → Queued G N d st keys
  queued_start x st keys e b = record {
    holds = λ w on h. absurd (lt_irrefl G L (d w) (subst (λ u. Below G u (d w)) (b.dists w) h.1));
    only = λ w k h. none_some (keys w) k (e w) h;
  }

  module _ (st st' : State G) (keys keys' : ℕ → Option Carrier) (q : Queued G N d st keys) where
    pub queued_put : (z a s : ℕ) (v : Carrier) → Put G st st' z v a s → Enters G keys keys' z (v ⊕ ⊖ d z) → z < count → st.turn z ≡ 0 → Below G v (d z) → Queued G N d st' keys'
    queued_put z a s v p e on o f = record {
      holds = λ w w_on h. elim (ℕ_discrete w z) [
        | yes i ↦ rw i (e.here ∙ ap (λ u. Some (u ⊕ ⊖ d z)) (sym p.here))
        | no i ↦ e.else w i ∙ q.holds w w_on (sym (p.turns w) ∙ h.0, rw (← p.dist_else w i) h.1) ∙ ap (λ u. Some u) (fall_same st st' w (p.dist_else w i))
      ];
      only = λ w k h. elim (ℕ_discrete w z) [
        | yes i ↦ rw i (on, (p.turns z ∙ o, rw p.here f), some_same _ _ (sym h ∙ ap keys' i ∙ e.here) ∙ ap (λ u. u ⊕ ⊖ d z) (sym p.here))
        | no i ↦
            let r = q.only w k (sym (e.else w i) ∙ h) in
            (r.0, (p.turns w ∙ r.1.0, rw (p.dist_else w i) r.1.1), r.2 ∙ fall_same st st' w (p.dist_else w i))
      ];
    }

    pub queued_finish : (y next : ℕ) → 0 < next → Finish G st st' y next → Leaves G keys keys' (Some y) → Queued G N d st' keys'
    queued_finish y next pos p leaves =
        let l = leaves.1 in
        record {
          holds = λ w on h. elim (ℕ_discrete w y) [
            | yes i ↦ let g : next ≡ 0 = sym p.here ∙ subst (λ v. st'.turn v ≡ 0) i h.0 in absurd (omega arith)
            | no i ↦ l.else w i ∙ q.holds w on (sym (p.else w i) ∙ h.0, rw (← p.dists w) h.1) ∙ ap (λ u. Some u) (fall_same st st' w (p.dists w))
          ];
          only = λ w k h. elim (ℕ_discrete w y) [
            | yes i ↦ none_some (keys' y) k l.gone (ap keys' (sym i) ∙ h)
            | no i ↦
                let r = q.only w k (sym (l.else w i) ∙ h) in
                (r.0, (p.else w i ∙ r.1.0, rw (p.dists w) r.1.1), r.2 ∙ fall_same st st' w (p.dists w))
          ];
        }

  module _ (st : State G) (keys keys' : ℕ → Option Carrier) (q : Queued G N d st keys) where
    -- nothing is there, so nothing waits
    pub queued_none : Leaves G keys keys' None → (w : ℕ) → w < count → ¬ Waits G N d st w
    queued_none l w on h = none_some (keys w) _ (l w) (q.holds w on h)

    -- what leaves is the foremost that waits
    pub queued_foremost : (y : ℕ) → Leaves G keys keys' (Some y) → (y < count) × Waits G N d st y × Foremost G N d st y
    queued_foremost y leaves =
        let l = leaves.1 in
        let r = q.only y leaves.0 l.was in
        (r.0, r.1, λ w on h. follows G L (rw r.2 at (l.least w _ (q.holds w on h))) (simp group))
