-- How the words of the search are read off the program's values.
use Rattle.std.specs.Prelude.{◌≡◌, ℕ, ◌+◌, ◌^◌, ◌≤◌, List, map, slice_index, slice_index_or}
use Rattle.chains.specs.Places.{graph_of}
use Rattle.chains.specs.Rounds.{Round}
use Rattle.paths.specs.Searching.{State}
use Rattle.tables.specs.Known.{worths}
use Rattle.weigh.specs.declared.mark.Mark.{Mark}
use Rattle.worth.specs.Group.{Group}

-- what a search holds of each package, by its mark; m is what the worths mean
abbrev pub state : (G : Group) {X : Type 0} → (X → G.Carrier) → List (Mark X) → State G
state G m marks = record {
  dist = λ y. slice_index_or (map (λ k. m k.worth) marks) y G.zero;
  turn = λ y. slice_index (map (λ k. k.turn) marks) y;
  from = λ y. slice_index (map (λ k. k.from) marks) y;
  at = λ y. slice_index (map (λ k. k.round) marks) y;
}

-- the marks are at these worths, and nothing is finished
pub record Unfinished (G : Group) {X : Type 0} (m : X → G.Carrier) (values : List X) (marks : List (Mark X)) : Type 0 where
  pub dists : (y : ℕ) → (state G m marks).dist y ≡ worths G m values y
  pub turns : (y : ℕ) → (state G m marks).turn y ≡ 0

-- a worth is that of place a and of the step from there to place z in round s
pub record Offers (G : Group) {X : Type 0} (m : X → G.Carrier) (R : List Round) (marks : List (Mark X)) (a s z : ℕ) (worth : X) : Type 0 where
  pub small : G.size ((graph_of G R).step a z s) ≤ 2 ^ 45
  pub sum : G.size ((state G m marks).dist a) + 2 ^ 45 ≤ 2 ^ 60 → m worth ≡ G.add ((state G m marks).dist a) ((graph_of G R).step a z s)
