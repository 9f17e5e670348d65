-- Steps, best choices, chains and inner worths, over the standing bids of a sale's rounds.
use Rattle.std.specs.Prelude.{ℕ, ◌≢◌, List}
use Rattle.chains.specs.Rounds.{Round, round, Stood, OnRoll}
use Rattle.chains.specs.Steps.{step_at}
use Rattle.worth.specs.Group.{Group}
use Rattle.worth.specs.Least.{Least}
use Rattle.worth.specs.Says.{AtMost}

module _ (G : Group) (rounds : List Round) where
  open G use {Carrier, zero, add as ◌⊕◌}

  infixl 65 ◌⊕◌
  -- The step from x to y at round t: the amount of what y costs there more than x, less the notch.
  abbrev pub step : List ℕ → List ℕ → ℕ → Carrier
  step x y t = step_at G x y (round rounds t).prices

  -- Under the worths w the bid of round t is a best choice: of every other package on the roll,
  -- the worth is at most the worth of the bid's package and the step to the other one.
  abbrev pub BestChoice : (List ℕ → Carrier) → ℕ → Type 0
  BestChoice w t = (x y : List ℕ) → Stood rounds t x → OnRoll rounds y → y ≢ x → AtMost G (w y) (w x ⊕ step x y t)

  -- the worths w make every standing bid a best choice
  abbrev pub Explains : (List ℕ → Carrier) → Type 0
  Explains w = (t : ℕ) → BestChoice w t

  -- some worths make every standing bid a best choice
  abbrev pub Explained : Type 0
  Explained = (w : List ℕ → Carrier) × Explains w

  -- A chain from x to y: a list of steps, each at a round in which the package that it leaves stood, and each
  -- starting where the one before ended. s is their sum. The chain with no step stays where it is, and sums to zero.
  pub data Chain : List ℕ → List ℕ → Carrier → Type 0 where
    stay : {x : List ℕ} → Chain x x zero
    onward : {x y z : List ℕ} {s : Carrier} (t : ℕ) → Chain x y s → Stood rounds t y → OnRoll rounds z → z ≢ y → Chain x z (s ⊕ step y z t)

  -- a chain that ends at y sums to s
  abbrev pub EndsAt : List ℕ → Carrier → Type 0
  EndsAt y s = (x : List ℕ) × Chain x y s

  -- g is the inner worth of y: the least of zero and of all sums over chains that end at y.
  -- (Zero is the sum of the chain that stays at y.)
  abbrev pub Inner : List ℕ → Carrier → Type 0
  Inner y g = Least G (EndsAt y) g
