-- Chains as a merchant reads them: packages and rounds by their numbers, which count from 1.
use Rattle.std.specs.Prelude.{◌≡◌, ℕ, ◌+◌, ◌-◌, ◌<◌, ◌≤◌, ◌≢◌, List, [], ◌∷◌, length}
use Rattle.chains.specs.Chains.{step, Inner}
use Rattle.chains.specs.Places.{package_at}
use Rattle.chains.specs.Rounds.{Round, Stood, roll}
use Rattle.paths.specs.Counts.{tally}
use Rattle.paths.specs.Route.{Apart, First}
use Rattle.paths.specs.declared.Step.{Step}
use Rattle.worth.specs.Group.{Group}
use Rattle.worth.specs.Says.{Below}
use Rattle.worth.specs.Totals.{total_of}

-- a step between places in a round counted from 0, by the numbers that a merchant sees
abbrev pub in_numbers : Step → Step
in_numbers l = record { from = l.from + 1; to = l.to + 1; round = l.round + 1 }

module _ (rounds : List Round) where
  -- k is the number of a package on the roll
  abbrev pub Numbered : ℕ → Type 0
  Numbered k = (1 ≤ k) × (k ≤ length (roll rounds))

  -- the package of that number
  abbrev pub package_of : ℕ → List ℕ
  package_of k = package_at rounds (k - 1)

  -- The steps lead from package x to package y: each starts where the one before ended, at a round in which its
  -- package stood, and leads to another package on the roll.
  abbrev pub Leads : ℕ → List Step → ℕ → Type 0
  Leads x [] y = x ≡ y
  Leads x (l ∷ ls) y =
      (l.from ≡ x) × Numbered l.from × (1 ≤ l.round) × Stood rounds (l.round - 1) (package_of l.from) × Numbered l.to × (l.to ≢ l.from) × Leads l.to ls y

module _ (G : Group) (rounds : List Round) where
  -- what a step comes to
  abbrev pub worth_of : Step → G.Carrier
  worth_of l = step G rounds (package_of rounds l.from) (package_of rounds l.to) (l.round - 1)

  -- what a chain sums to
  abbrev pub chain_sum : List Step → G.Carrier
  chain_sum = total_of G worth_of

  -- A chain that forbids the bid of the latest round, for package x: it starts with a step of that bid in that round,
  -- names no starting package twice, returns to x and sums below zero.
  pub record Forbids (x : ℕ) (ls : List Step) : Type 0 where
    pub first : First (length rounds) ls
    pub around : Leads rounds x ls x
    pub apart : Apart ls
    pub falls : Below G (chain_sum ls) G.zero

-- how many of the packages on the roll of the earlier rounds have a smaller inner worth in the later ones
abbrev pub Moved : (G : Group) → List Round → List Round → ℕ → Type 0
Moved G earlier later k =
    (d e : ℕ → G.Carrier)
    → ((y : ℕ) → y < length (roll earlier) → Inner G earlier (package_at earlier y) (d y))
    → ((y : ℕ) → y < length (roll earlier) → Inner G later (package_at earlier y) (e y))
    → k ≡ tally (λ y. G.less (e y) (d y)) (length (roll earlier))
