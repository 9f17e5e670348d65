-- What a list of values comes to.
use Rattle.std.specs.Prelude.{◌≡◌, ℕ, ◌+◌, ◌^◌, ◌≤◌, List, [], ◌∷◌}
use Rattle.worth.specs.Group.{Group}

module _ (G : Group) {X : Type 0} (m : X → G.Carrier) where
  -- the total of the meanings
  abbrev pub total_of : List X → G.Carrier
  total_of [] = G.zero
  total_of (x ∷ xs) = G.add (m x) (total_of xs)

  -- the sizes of the meanings together
  abbrev pub sizes_of : List X → ℕ
  sizes_of [] = 0
  sizes_of (x ∷ xs) = G.size (m x) + sizes_of xs

  -- r means the total, where the sizes together are at most 2 ^ 60
  abbrev pub ExactTotal : List X → X → Type 0
  ExactTotal xs r = sizes_of xs ≤ 2 ^ 60 → m r ≡ total_of xs
