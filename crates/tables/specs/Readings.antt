-- What is read off a table at round t and place a, both counted from 0.
use Rattle.std.specs.Prelude.{◌≡◌, ℕ, ◌^◌, ◌<◌, ◌≤◌, List, length, take, Some, None, Option}
use Rattle.std.specs.List.{flat_map}
use Rattle.chains.specs.Chains.{step}
use Rattle.chains.specs.Places.{package_at}
use Rattle.chains.specs.Rounds.{Round, round, Stood, roll}
use Rattle.chains.specs.Rows.{cost}
use Rattle.worth.specs.Group.{Group}

-- the quantities of the packages on the roll, one package after the other
abbrev pub roll_bytes : List Round → List ℕ
roll_bytes rounds = flat_map (λ x. x) (roll rounds)

module _ (rounds : List Round) where
  -- the place of the package that stood in round t, or none exactly where no package did
  abbrev pub BidAt : ℕ → Option ℕ → Type 0
  BidAt t (Some a) = (a < length (roll rounds)) × Stood rounds t (package_at rounds a)
  BidAt t None = (round rounds t).bid ≡ None

  -- there are such a round and such a place
  abbrev pub There : ℕ → ℕ → Type 0
  There t a = (t < length rounds) × (a < length (roll rounds))

  -- what the package at place a costs in round t, or none exactly where there is no such round or place
  abbrev pub CostAt : ℕ → ℕ → Option ℕ → Type 0
  CostAt t a (Some c) = There t a × (c ≡ cost (package_at rounds a) (round rounds t).prices) × (c ≤ 2 ^ 44)
  CostAt t a None = ¬ There t a

-- n is how many products there are
module _ (n : ℕ) (rounds : List Round) where
  -- the prices of round t, in the first cells, or none exactly where there is no such round
  abbrev pub PricesAt : ℕ → Option (List ℕ) → Type 0
  PricesAt t (Some cells) = (t < length rounds) × (take n cells ≡ (round rounds t).prices)
  PricesAt t None = ¬ (t < length rounds)

  -- the package at place a of the roll, in the first cells, or none exactly where there is no such place
  abbrev pub PackageAt : ℕ → Option (List ℕ) → Type 0
  PackageAt a (Some cells) = (a < length (roll rounds)) × (take n cells ≡ package_at rounds a)
  PackageAt a None = ¬ (a < length (roll rounds))

-- m is what the values mean
module _ (G : Group) {X : Type 0} (m : X → G.Carrier) (rounds : List Round) where
  -- the step from place a to place b at round t, or none exactly where there is no such round or place
  abbrev pub StepAt : ℕ → ℕ → ℕ → Option X → Type 0
  StepAt a b t (Some r) = There rounds t a × There rounds t b × (m r ≡ step G rounds (package_at rounds a) (package_at rounds b) t) × (G.size (m r) ≤ 2 ^ 45)
  StepAt a b t None = ¬ (There rounds t a × There rounds t b)
