-- The values of a function on the numbers below n.
use Rattle.std.specs.Prelude.{◌≡◌, ℕ, ◌<◌}

-- x is one of f 0, .., f (n - 1)
abbrev pub ValueBelow : {X : Type 0} → (ℕ → X) → ℕ → X → Type 0
ValueBelow f n x = (i : ℕ) × (i < n) × (x ≡ f i)
