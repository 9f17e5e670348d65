-- The chain that a search has closed, as it is written.
use Rattle.std.specs.Prelude.{◌≡◌, ℕ, ◌+◌, ◌<◌, ◌≤◌, List, map, length}
use Rattle.chains.specs.Numbers.{in_numbers}
use Rattle.chains.specs.Places.{graph_of, Earlier}
use Rattle.chains.specs.Rounds.{Round, roll}
use Rattle.paths.specs.Bids.{New}
use Rattle.paths.specs.Route.{Route}
use Rattle.paths.specs.Searching.{State, Closes}
use Rattle.paths.specs.declared.Step.{Step}
use Rattle.worth.specs.Group.{Group}

-- places and rounds are few
pub record Few (R : List Round) : Type 0 where
  pub rounds : length R ≤ 128
  pub packages : length (roll R) ≤ 128

-- the search over the rounds R has closed a chain around by the step from `last` in `round`
pub record Closed (G : Group) (R : List Round) (x t : ℕ) (st : State G) (last round : ℕ) : Type 0 where
  pub few : Few R
  pub on : x < length (roll R)
  pub present : t < length R
  pub d : ℕ → G.Carrier
  pub next : ℕ
  pub early : next ≤ length (roll R) + 1
  pub closes : Closes G (graph_of G R) (Earlier R) x t d st next last round

-- the steps written are those of a chain around that is below zero
pub record TracedOut (G : Group) (R : List Round) (x t : ℕ) (written : List Step) : Type 0 where
  pub steps : List Step
  pub numbers : written ≡ map in_numbers steps
  pub route : Route G (graph_of G R) (New (Earlier R) x t) x t steps
