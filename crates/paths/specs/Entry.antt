-- The inner worth of a package that is new.
use Rattle.std.specs.Prelude.{◌≡◌, ℕ, ◌⊎◌}
use Rattle.worth.specs.Group.{Group}
use Rattle.worth.specs.Least.{Least}
use Rattle.paths.specs.Graph.{Graph}

module _ (G : Group) (N : Graph G) (Old : ℕ → ℕ → Type 0) (d : ℕ → G.Carrier) (x : ℕ) where
  -- s is zero, or what a step to x comes to, from a package at its worth d
  abbrev pub EntrySum : G.Carrier → Type 0
  EntrySum s = (s ≡ G.zero) ⊎ ((t : ℕ) × (a : ℕ) × Old t a × (s ≡ G.add (d a) (N.step a x t)))

  -- g is the least of these
  abbrev pub Entry : G.Carrier → Type 0
  Entry g = Least G EntrySum g
