-- Short words for clauses: how meanings compare, and what a call says of values through their meanings.
use Rattle.std.specs.Prelude.{◌≡◌, ◌+◌, ◌^◌, ◌≤◌, Bool, true, false, cond, ℤ}
use Rattle.worth.specs.Group.{Group, Amount}

module _ (G : Group) where
  -- x is at most y, in proofs x ≼ y
  abbrev pub AtMost : G.Carrier → G.Carrier → Type 0
  AtMost x y = G.less y x ≡ false

  -- x is below y, in proofs x ≺ y
  abbrev pub Below : G.Carrier → G.Carrier → Type 0
  Below x y = G.less x y ≡ true

-- m is what the values x, y and r mean
module _ (G : Group) {X : Type 0} (m : X → G.Carrier) where
  -- r means x and y together, where their sizes come to at most 2 ^ 60
  abbrev pub ExactSum : X → X → X → Type 0
  ExactSum x y r = G.size (m x) + G.size (m y) ≤ 2 ^ 60 → m r ≡ G.add (m x) (m y)

  -- r means x without y, where their sizes come to at most 2 ^ 60
  abbrev pub ExactDifference : X → X → X → Type 0
  ExactDifference x y r = G.size (m x) + G.size (m y) ≤ 2 ^ 60 → m r ≡ G.add (m x) (G.neg (m y))

  -- r means the opposite of x, where its size is at most 2 ^ 60
  abbrev pub ExactOpposite : X → X → Type 0
  ExactOpposite x r = G.size (m x) ≤ 2 ^ 60 → m r ≡ G.neg (m x)

  -- r means d units of money, where these are at most 10 ^ 15 either way
  abbrev pub ExactAmount : ℤ → X → Type 0
  ExactAmount d r = Amount d → m r ≡ G.amount d

  -- whether x is below y
  abbrev pub less_of : X → X → Bool
  less_of x y = G.less (m x) (m y)

  -- the smaller of the two, and x where they are equal
  abbrev pub smaller_of : X → X → X
  smaller_of x y = cond (less_of y x) y x
