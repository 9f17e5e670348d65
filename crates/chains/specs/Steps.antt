-- A step, from the rows of the two packages and the prices of the round.
use Rattle.std.specs.Prelude.{ℕ, List, pos, ◌-ℤ◌}
use Rattle.chains.specs.Rows.{cost}
use Rattle.worth.specs.Group.{Group}

-- the amount of what y costs more than x at these prices, less the notch
unfoldable pub step_at : (G : Group) → List ℕ → List ℕ → List ℕ → G.Carrier
step_at G x y prices = G.add (G.amount (pos (cost y prices) -ℤ pos (cost x prices))) (G.neg G.notch)
