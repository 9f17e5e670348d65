-- What is true of chains and inner worths, over every kind of worth.
-- The records are over any relation `Stood`; the statements below them over every graph, with bids that a test tells.
use Rattle.std.specs.Prelude.{◌≡◌, ℕ, ◌<◌, ◌⊎◌, ◌↔◌, List}
use Rattle.worth.specs.Group.{Group}
use Rattle.worth.specs.Says.{AtMost}
use Rattle.worth.specs.Least.{Greatest}
use Rattle.paths.specs.Bids.{Within, Bids, StoodIn}
use Rattle.paths.specs.Graph.{Graph, Chain, AroundBelow, Explains, Explained, EndsAt, IsInner, AreInner}
use Rattle.paths.specs.Values.{ValueBelow}
use Rattle.paths.specs.Route.{Leads, sum_of, Route}
use Rattle.paths.specs.declared.Step.{Step}

module _ (G : Group) (N : Graph G) (Stood : ℕ → ℕ → Type 0) where
  open G use {Carrier, zero, add}
  open N use {count}

  -- How chains, worths and inner worths hang together.
  pub record ChainLaws : Type 0 where
    -- along a chain, worths that explain rise by at most its sum
    pub along : (w : ℕ → Carrier) → Explains G N Stood w → (x y : ℕ) (s : Carrier) → Chain G N Stood x y s → AtMost G (w y) (add (w x) s)
    -- where a chain around is below zero, no worths explain
    pub around : (x : ℕ) → AroundBelow G N Stood x → ¬ Explained G N Stood
    -- worths that explain still do with one amount added to all
    pub raised : (w : ℕ → Carrier) (r : Carrier) → Explains G N Stood w → Explains G N Stood (λ y. add (w y) r)
    -- a package has at most one inner worth
    pub unique : (y : ℕ) (g h : Carrier) → IsInner G N Stood y g → IsInner G N Stood y h → g ≡ h
    -- worths that explain, none above zero, each the sum of a chain to its package, are the inner worths
    pub certified : Within count Stood → (d : ℕ → Carrier) → Explains G N Stood d →
        ((y : ℕ) → y < count → AtMost G (d y) zero) → ((y : ℕ) → y < count → EndsAt G N Stood y (d y)) → AreInner G N Stood d
    -- inner worths explain
    pub explains : Within count Stood → (d : ℕ → Carrier) → AreInner G N Stood d → Explains G N Stood d

  -- Whether some worths explain.
  pub record Decided : Type 0 where
    -- a chain around is below zero, or every package has an inner worth
    pub either : ((x : ℕ) × AroundBelow G N Stood x) ⊎ ((d : ℕ → Carrier) × AreInner G N Stood d)
    -- some worths explain exactly when no chain around is below zero
    pub exactly : Explained G N Stood ↔ ((x : ℕ) → ¬ AroundBelow G N Stood x)

  -- Lists of steps and chains are the same.
  pub record Lists : Type 0 where
    -- steps that lead from x to y are a chain
    pub chain_of : (x y : ℕ) (ls : List Step) → Leads G N Stood x ls y → Chain G N Stood x y (sum_of G N ls)
    -- every chain is made of such steps
    pub steps_of : (x y : ℕ) (s : Carrier) → Chain G N Stood x y s → (ls : List Step) × Leads G N Stood x ls y × (sum_of G N ls ≡ s)
    -- where there is a route, no worths explain
    pub refutes : (x t : ℕ) (ls : List Step) → Route G N Stood x t ls → ¬ Explained G N Stood

-- the laws hold in every graph
abbrev pub Stands : Group → Type 0
Stands G = (N : Graph G) (bids : Bids) → ChainLaws G N (StoodIn bids)

-- in every graph it is decided whether some worths explain
abbrev pub Decides : Group → Type 0
Decides G = (N : Graph G) (bids : Bids) → Within N.count (StoodIn bids) → Decided G N (StoodIn bids)

-- in every graph lists of steps and chains are the same
abbrev pub Listed : Group → Type 0
Listed G = (N : Graph G) (bids : Bids) → Lists G N (StoodIn bids)

-- of finitely many values, but not none, one is the greatest
abbrev pub HasGreatest : Group → Type 0
HasGreatest G = (f : ℕ → G.Carrier) (n : ℕ) → 0 < n → (r : G.Carrier) × Greatest G (ValueBelow f n) r
