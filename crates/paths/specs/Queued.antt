-- A queue of the packages that wait: `keys w` is the key of w, if it is there.
use Rattle.std.specs.Prelude.{◌≡◌, ℕ, ◌<◌, ◌≢◌, Some, None, Option}
use Rattle.worth.specs.Group.{Group}
use Rattle.worth.specs.Says.{AtMost}
use Rattle.paths.specs.Graph.{Graph}
use Rattle.paths.specs.Searching.{State, Waits}

module _ (G : Group) where
  open G use {Carrier}

  -- z is put at k
  pub record Enters (keys keys' : ℕ → Option Carrier) (z : ℕ) (k : Carrier) : Type 0 where
    pub here : keys' z ≡ Some k
    pub else : (w : ℕ) → w ≢ z → keys' w ≡ keys w

  -- y leaves, with the key k, which no other is below
  pub record LeavesAt (keys keys' : ℕ → Option Carrier) (y : ℕ) (k : Carrier) : Type 0 where
    pub was : keys y ≡ Some k
    pub least : (w : ℕ) (l : Carrier) → keys w ≡ Some l → AtMost G k l
    pub gone : keys' y ≡ None
    pub else : (w : ℕ) → w ≢ y → keys' w ≡ keys w

  -- nothing is there, or one leaves
  abbrev pub Leaves : (ℕ → Option Carrier) → (ℕ → Option Carrier) → Option ℕ → Type 0
  Leaves keys keys' None = (w : ℕ) → keys w ≡ None
  Leaves keys keys' (Some y) = (k : Carrier) × LeavesAt keys keys' y k

  -- how far w fell
  abbrev pub fall : (ℕ → Carrier) → State G → ℕ → Carrier
  fall d st w = G.add (st.dist w) (G.neg (d w))

  -- the queue holds just the packages that wait, by how far they fell
  pub record Queued (N : Graph G) (d : ℕ → Carrier) (st : State G) (keys : ℕ → Option Carrier) : Type 0 where
    pub holds : (w : ℕ) → w < N.count → Waits G N d st w → keys w ≡ Some (fall d st w)
    pub only : (w : ℕ) (k : Carrier) → keys w ≡ Some k → (w < N.count) × Waits G N d st w × (k ≡ fall d st w)
