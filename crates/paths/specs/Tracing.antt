-- The chain around that a search has closed, read off its links from the last step to the first.
use Rattle.std.specs.Prelude.{◌≡◌, ℕ, suc, ◌+◌, ◌<◌, ◌≤◌, List, [], ◌∷◌, length}
use Rattle.worth.specs.Group.{Group}
use Rattle.paths.specs.Bids.{New}
use Rattle.paths.specs.Graph.{Graph}
use Rattle.paths.specs.Searching.{State}
use Rattle.paths.specs.Route.{Leads, First, sum_of}
use Rattle.paths.specs.declared.Step.{Step}

-- each step leaves a package that was finished later, the first not before turn k
abbrev pub Rising : (G : Group) → State G → ℕ → List Step → Type 0
Rising G st k [] = Unit {0}
Rising G st k (l ∷ ls) = (k ≤ st.turn l.from) × Rising G st (suc (st.turn l.from)) ls

-- The steps ls lead from y to x: the links from y to `last`, and the step from there in `round`.
pub record Traced (G : Group) (N : Graph G) (Old : ℕ → ℕ → Type 0) (x t : ℕ) (st : State G) (last round y : ℕ) (ls : List Step) : Type 0 where
  pub on : y < N.count
  pub done : 0 < st.turn y
  pub leads : Leads G N (New Old x t) y ls x
  pub rising : Rising G st (st.turn y) ls
  pub first : y ≡ x → First t ls
  pub sum : G.add (st.dist y) (sum_of G N ls) ≡ G.add (st.dist last) (N.step last x round)
  pub short : st.turn y + length ls ≤ st.turn last + 1
