-- Packages, the steps between them, chains of steps, and the worths that standing bids allow.
use Rattle.std.specs.Prelude.{◌≡◌, ℕ, ◌<◌, ◌≤◌, ◌≢◌}
use Rattle.worth.specs.Group.{Group}
use Rattle.worth.specs.Says.{AtMost, Below}
use Rattle.worth.specs.Least.{Least}

-- The packages are the numbers below `count`. Where package a stood in round t, b is worth at most `step a b t` more.
pub record Graph (G : Group) : Type 0 where
  pub count : ℕ
  pub step : ℕ → ℕ → ℕ → G.Carrier

module _ (G : Group) (N : Graph G) (Stood : ℕ → ℕ → Type 0) where
  open G use {Carrier, zero, add as ◌⊕◌}
  open N use {count, step}

  infixl 65 ◌⊕◌
  -- A way from x to y by steps, each in a round in which the package that it leaves stood; s is the sum of its steps.
  pub data Chain : ℕ → ℕ → Carrier → Type 0 where
    stay : {x : ℕ} → Chain x x zero
    onward : {x y z t : ℕ} {s : Carrier} → Chain x y s → Stood t y → z < count → z ≢ y → Chain x z (s ⊕ step y z t)

  -- a chain around from x is below zero
  abbrev pub AroundBelow : ℕ → Type 0
  AroundBelow x = (s : Carrier) × Chain x x s × Below G s zero

  -- the worths w make every standing bid a best choice
  abbrev pub Explains : (ℕ → Carrier) → Type 0
  Explains w = (t a b : ℕ) → Stood t a → b < count → b ≢ a → AtMost G (w b) (w a ⊕ step a b t)

  -- some worths do
  abbrev pub Explained : Type 0
  Explained = (w : ℕ → Carrier) × Explains w

  -- a chain that ends at y has the sum s
  abbrev pub EndsAt : ℕ → Carrier → Type 0
  EndsAt y s = (x : ℕ) × Chain x y s

  -- The inner worth of y is the least of zero and of the sums of the chains that end at y. Zero is the sum of the chain that stays.
  abbrev pub IsInner : ℕ → Carrier → Type 0
  IsInner y g = Least G (EndsAt y) g

  -- d gives every package its inner worth
  abbrev pub AreInner : (ℕ → Carrier) → Type 0
  AreInner d = (y : ℕ) → y < count → IsInner y (d y)

-- every step that the bids P allow in N, the bids Q allow in M
pub record Includes (G : Group) (N M : Graph G) (P Q : ℕ → ℕ → Type 0) : Type 0 where
  pub count : N.count ≤ M.count
  pub stood : (t a : ℕ) → P t a → Q t a
  pub step : (t a b : ℕ) → P t a → b < N.count → M.step a b t ≡ N.step a b t
