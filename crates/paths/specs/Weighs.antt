-- What weighing one more bid says.
use Rattle.std.specs.Prelude.{◌≡◌, ℕ, ◌+◌, ◌≤◌}
use Rattle.worth.specs.Group.{Group}
use Rattle.paths.specs.Bids.{Within, New}
use Rattle.paths.specs.Graph.{Graph, AroundBelow, Explains, Explained, AreInner}
use Rattle.paths.specs.Searching.{State, Small, Closes}
use Rattle.paths.specs.Counts.{tally}

module _ (G : Group) (N : Graph G) (Old : ℕ → ℕ → Type 0) (d : ℕ → G.Carrier) where
  -- d are the inner worths of the bids that stand, and none is large
  pub record Known : Type 0 where
    pub within : Within N.count Old
    pub inner : AreInner G N Old d
    pub small : Small G N d 128

  module _ (x t : ℕ) (st : State G) where
    -- the new bid is held: these are the inner worths with it, of which so many fell, and they explain
    pub record IsHeld (moved : ℕ) : Type 0 where
      pub explains : Explains G N (New Old x t) st.dist
      pub inner : AreInner G N (New Old x t) st.dist
      pub moves : moved ≡ tally (λ y. G.less (st.dist y) (d y)) N.count

    -- it is held, and the inner worth of x stays
    pub record IsHeldAt (moved : ℕ) : Type 0 where
      pub held : IsHeld moved
      pub root : st.dist x ≡ d x

    -- a chain around is below zero, the links to `last` and its step back to x in `round`; so no worths explain
    pub record IsAround (last round : ℕ) : Type 0 where
      pub closes : (next : ℕ) × (next ≤ N.count + 1) × Closes G N Old x t d st next last round
      pub falls : AroundBelow G N (New Old x t) x
      pub none : ¬ Explained G N (New Old x t)
