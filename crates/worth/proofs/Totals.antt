-- The total of a list of values.
use Rattle.std.proofs.Common.{◌≡◌, ◌+◌, ◌≤◌, List, [], ◌∷◌, ◌++◌, sym, ap, ◌∙◌, arith}
use Rattle.worth.specs.Group.{Group, Laws}
use Rattle.worth.specs.Totals.{total_of, sizes_of}
use Rattle.worth.proofs.Sums.{add_assoc, zero_add, add_zero}

module _ (G : Group) (L : Laws G) {X : Type 0} (m : X → G.Carrier) where
  open G use {zero, add as ◌⊕◌, size}

  infixl 65 ◌⊕◌
  pub total_one : (x : X) → total_of G m (x ∷ []) ≡ m x
  total_one x = add_zero G L (m x)

  pub total-++ : (xs ys : List X) → total_of G m (xs ++ ys) ≡ total_of G m xs ⊕ total_of G m ys
  total-++ [] ys = sym (zero_add G L (total_of G m ys))
  total-++ (x ∷ xs) ys = ap (λ t. m x ⊕ t) (total-++ xs ys) ∙ sym (add_assoc G L (m x) (total_of G m xs) (total_of G m ys))

  pub sizes-++ : (xs ys : List X) → sizes_of G m (xs ++ ys) ≡ sizes_of G m xs + sizes_of G m ys
  sizes-++ [] ys = omega arith
  sizes-++ (x ∷ xs) ys = omega (arith, sizes-++ xs ys)

  -- the size of a total is at most the sizes together
  pub size_total : (xs : List X) → size (total_of G m xs) ≤ sizes_of G m xs
  size_total [] = omega (arith, L.size_zero)
  size_total (x ∷ xs) = omega (arith, L.size_add (m x) (total_of G m xs), size_total xs)
