-- Packages by their places on the roll: the rounds of a sale as a graph.
use Rattle.std.specs.Prelude.{ℕ, ◌+◌, ◌<◌, Bool, false, cond, List, [], length, Some, None, Option, nat_lt, slice_index_or}
use Rattle.chains.specs.Chains.{step}
use Rattle.chains.specs.Rounds.{Round, round, roll, same}
use Rattle.paths.specs.Bids.{Bids, StoodIn}
use Rattle.paths.specs.Graph.{Graph}
use Rattle.worth.specs.Group.{Group}

-- the package at place a of the roll
abbrev pub package_at : List Round → ℕ → List ℕ
package_at rounds a = slice_index_or (roll rounds) a []

-- whether a round's bid, if any, is for y
abbrev pub bids_for : Option (List ℕ) → List ℕ → Bool
bids_for None y = false
bids_for (Some x) y = same x y

-- which places stood in which rounds
abbrev pub bids_of : List Round → Bids
bids_of rounds = record {
  rounds = length rounds;
  test = λ t a. cond (nat_lt a (length (roll rounds))) (bids_for (round rounds t).bid (package_at rounds a)) false;
}

-- the steps between places
abbrev pub graph_of : (G : Group) → List Round → Graph G
graph_of G rounds = record {
  count = length (roll rounds);
  step = λ a b t. step G rounds (package_at rounds a) (package_at rounds b) t;
}

-- in round s, before the latest one, the package at place a stood
abbrev pub Earlier : List Round → ℕ → ℕ → Type 0
Earlier rounds s a = (s + 1 < length rounds) × StoodIn (bids_of rounds) s a
