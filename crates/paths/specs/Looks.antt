-- What looking at steps comes to, whatever the round of the bid and the worths before.
use Rattle.std.specs.Prelude.{◌≡◌, ℕ, Bool, false, None, MatchBool, Option, MatchOption}
use Rattle.worth.specs.Group.{Group}
use Rattle.paths.specs.Graph.{Graph}
use Rattle.paths.specs.Searching.{State, Ready, Relaxed, Closes, Picked, Spent}
use Rattle.paths.specs.Queued.{Queued}

module _ (G : Group) (N : Graph G) (Old : ℕ → ℕ → Type 0) (x : ℕ) where
  -- of the steps from a in round s, one closes a chain around, or each is met
  abbrev pub Looks : State G → State G → ℕ → ℕ → Bool → Type 0
  Looks st st' a s r =
      (t next j : ℕ) (d : ℕ → G.Carrier) → Ready G N Old x t d st next a s j →
      MatchBool r (Closes G N Old x t d st' next a s) (Relaxed G N Old x t d st st' next a s j N.count)

  -- the same of the steps from y in every round in which it stood, of `rounds`
  abbrev pub LooksAll : State G → State G → ℕ → ℕ → Option ℕ → Type 0
  LooksAll st st' y rounds r =
      (t next j : ℕ) (d : ℕ → G.Carrier) → Picked G N Old x t d st next y j →
      MatchOption r (Spent G N Old x t d st st' next y j rounds) (λ s. Closes G N Old x t d st' next y s)

  module _ (d : ℕ → G.Carrier) where
    -- where none closes a chain around, a queue of what waits has followed
    abbrev pub QueueLooks : State G → State G → (ℕ → Option G.Carrier) → (ℕ → Option G.Carrier) → ℕ → ℕ → Bool → Type 0
    QueueLooks st st' keys keys' a s r =
        (t next j : ℕ) → Ready G N Old x t d st next a s j → r ≡ false → Queued G N d st keys → Queued G N d st' keys'

    -- the same of the steps from y in every round
    abbrev pub QueueLooksAll : State G → State G → (ℕ → Option G.Carrier) → (ℕ → Option G.Carrier) → ℕ → Option ℕ → Type 0
    QueueLooksAll st st' keys keys' y r =
        (t next j : ℕ) → Picked G N Old x t d st next y j → r ≡ None → Queued G N d st keys → Queued G N d st' keys'
