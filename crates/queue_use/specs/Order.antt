-- Which of two packages comes first.
use Rattle.std.specs.Prelude.{ℕ, cond}
use Rattle.worth.specs.Group.{Group}
use Rattle.worth.specs.Says.{less_of}

-- the packages 1 and 2 by the order of their keys, and 1 first where these mean the same
abbrev pub order_of : (G : Group) {W : Type 0} (m : W → G.Carrier) → W → W → ℕ × ℕ
order_of G m one two = cond (less_of G m two one) (2, 1) (1, 2)
