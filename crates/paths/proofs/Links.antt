-- The links of a search, followed back, are chains from x.
use Rattle.std.proofs.Common.{◌≡◌, ℕ, zero as nought, suc, ◌<◌, ap, ◌∙◌, arith}
use native.Mathlib.Decide.{ℕ_discrete}
use Rattle.worth.specs.Group.{Group, Laws}
use Rattle.worth.specs.Says.{Below}
use Rattle.worth.proofs.Sums.{plain}
use Rattle.worth.proofs.Orders.{follows_lt}
use Rattle.paths.specs.Bids.{New}
use Rattle.paths.specs.Graph.{Graph, Chain, stay, onward, AroundBelow}
use Rattle.paths.specs.Searching.{State, Linked, Searching, Closes}

module _ (G : Group) (L : Laws G) (N : Graph G) (Old : ℕ → ℕ → Type 0) (x t : ℕ) (d : ℕ → G.Carrier) (x_on : x < N.count) (st : State G) (next : ℕ) where
  open G use {Carrier, zero, add as ◌⊕◌}
  open N use {count, step}

  infixl 65 ◌⊕◌
  -- a chain from x that accounts for y's worth
  pub record Reached (y : ℕ) : Type 0 where
    pub sum : Carrier
    pub chain : Chain G N (New Old x t) x y sum
    pub is : st.dist y ≡ d x ⊕ sum

  module _ (h : Searching G N Old x t d st next) where
    -- a link goes on a chain
    reached_on : (y : ℕ) → y < count → Linked G N Old x t d st y → Reached (st.from y) → Reached y
    reached_on y on l r = record {
      sum = r.sum ⊕ step (st.from y) y (st.at y);
      chain = onward r.chain l.stood on l.apart;
      is = l.sum ∙ ap (λ u. u ⊕ step (st.from y) y (st.at y)) r.is ∙ simp plain;
    }

    reached_by : (k y : ℕ) → y < count → 0 < st.turn y → st.turn y < k → Reached y
    reached_by nought y on done below_k = absurd (omega arith)
    reached_by (suc k) y on done below_k = elim (ℕ_discrete y x) [
      | yes e ↦ rw e (record { sum = zero; chain = stay; is = h.root_dist ∙ simp plain })
      | no e ↦
          let l = h.linked y on (h.fell y on e done) in
          let b = l.before done in
          reached_on y on l (reached_by k (st.from y) l.on l.done (omega arith))
    ]

    -- a finished package
    pub reached_done : (y : ℕ) → y < count → 0 < st.turn y → Reached y
    reached_done y on done = reached_by next y on done (h.turns y)

    -- a package whose worth fell
    pub reached_fallen : (y : ℕ) → y < count → Below G (st.dist y) (d y) → Reached y
    reached_fallen y on f = let l = h.linked y on f in reached_on y on l (reached_done (st.from y) l.on l.done)

  -- the chain that a step back to x closes is below zero
  pub around_below : (a s : ℕ) → Closes G N Old x t d st next a s → AroundBelow G N (New Old x t) x
  around_below a s h =
      let r = reached_done h.search a h.on h.done in
      (r.sum ⊕ step a x s, onward r.chain h.stood x_on h.apart, follows_lt G L h.falls (rw r.is (simp plain)))
