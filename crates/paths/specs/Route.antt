-- A chain as a list of steps, which a program can hold.
use Rattle.std.specs.Prelude.{◌≡◌, ℕ, ◌<◌, ◌≢◌, List, [], ◌∷◌}
use Rattle.worth.specs.Group.{Group}
use Rattle.worth.specs.Says.{Below}
use Rattle.worth.specs.Totals.{total_of}
use Rattle.paths.specs.Graph.{Graph}
use Rattle.paths.specs.declared.Step.{Step}

-- no step leaves a
abbrev pub Avoids : ℕ → List Step → Type 0
Avoids a [] = Unit {0}
Avoids a (l ∷ ls) = (l.from ≢ a) × Avoids a ls

-- no two steps leave the same package
abbrev pub Apart : List Step → Type 0
Apart [] = Unit {0}
Apart (l ∷ ls) = Avoids l.from ls × Apart ls

-- there is a first step, in round t
abbrev pub First : ℕ → List Step → Type 0
First t [] = ⊥
First t (l ∷ ls) = l.round ≡ t

module _ (G : Group) (N : Graph G) where
  -- what a step comes to
  abbrev pub value_of : Step → G.Carrier
  value_of l = N.step l.from l.to l.round

  -- what the steps come to together
  abbrev pub sum_of : List Step → G.Carrier
  sum_of = total_of G value_of

  module _ (Stood : ℕ → ℕ → Type 0) where
    -- the steps lead from x to y, each in a round in which the package that it leaves stood
    abbrev pub Leads : ℕ → List Step → ℕ → Type 0
    Leads x [] y = x ≡ y
    Leads x (l ∷ ls) y = (l.from ≡ x) × Stood l.round l.from × (l.to < N.count) × (l.to ≢ l.from) × Leads l.to ls y

    -- a chain around from x that is below zero, by way of x's bid in round t, and leaves no package twice
    pub record Route (x t : ℕ) (ls : List Step) : Type 0 where
      pub leads : Leads x ls x
      pub apart : Apart ls
      pub first : First t ls
      pub falls : Below G (sum_of ls) G.zero
