-- Rows: one entry for each product of a sale, in the sale's order. A package is a row of quantities;
-- two packages are the same if all their quantities agree, that is, if they are one list.
use Rattle.std.specs.Prelude.{ℕ, ◌+◌, ◌*◌, List, [], ◌∷◌, replicate}

-- what a package costs at a row of prices: quantity times price, every product once, in row order
unfoldable pub cost : List ℕ → List ℕ → ℕ
cost [] prices = 0
cost (q ∷ quantities) [] = 0
cost (q ∷ quantities) (p ∷ prices) = q * p + cost quantities prices

-- the empty package of a sale with n products
abbrev pub empty_package : ℕ → List ℕ
empty_package n = replicate n 0
