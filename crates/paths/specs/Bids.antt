-- Which bids stood. `Stood t a` reads: in round t, package a stood.
use Rattle.std.specs.Prelude.{◌≡◌, ℕ, ◌<◌, Bool, true, ◌⊎◌}

-- only packages below `count` stood
abbrev pub Within : ℕ → (ℕ → ℕ → Type 0) → Type 0
Within count Stood = (t a : ℕ) → Stood t a → a < count

-- the bids that stood before, and the one for x in round t
abbrev pub New : (ℕ → ℕ → Type 0) → ℕ → ℕ → ℕ → ℕ → Type 0
New Old x t s a = Old s a ⊎ ((s ≡ t) × (a ≡ x))

-- bids stood only in rounds below `rounds`, and whether one stood is decided
pub record Finite (Stood : ℕ → ℕ → Type 0) : Type 0 where
  pub rounds : ℕ
  pub before : (t a : ℕ) → Stood t a → t < rounds
  pub decided : (t a : ℕ) → Dec (Stood t a)

-- finitely many rounds, and for each a test that tells which packages stood
pub record Bids : Type 0 where
  pub rounds : ℕ
  pub test : ℕ → ℕ → Bool

-- in round t, package a stood
abbrev pub StoodIn : Bids → ℕ → ℕ → Type 0
StoodIn bids t a = (t < bids.rounds) × (bids.test t a ≡ true)
