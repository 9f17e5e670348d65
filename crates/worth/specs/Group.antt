-- What the values of a kind of worth mean.
use Rattle.std.specs.Prelude.{◌≡◌, ℕ, ◌+◌, ◌^◌, ◌≤◌, Bool, true, false, ℤ, ◌+ℤ◌, ◌<ℤ◌, unsigned_abs}

-- An unlimited group that is ordered, with whole amounts of money in it.
pub record Group : Type 1 where
  -- the meanings
  pub Carrier : Type 0
  -- the meaning that adds nothing
  pub zero : Carrier
  -- two meanings together
  pub add : Carrier → Carrier → Carrier
  -- what makes zero together with a meaning
  pub neg : Carrier → Carrier
  -- how large a meaning is: calls are exact where sizes are small
  pub size : Carrier → ℕ
  -- whether the first is below the second
  pub less : Carrier → Carrier → Bool
  -- a whole number of units of money
  pub amount : ℤ → Carrier
  -- the lead that a chosen package must have over every other
  pub notch : Carrier
  -- the two whole numbers by which a meaning is told
  pub tell : Carrier → ℤ × ℤ

-- a whole number of at most 10 ^ 15 either way
abbrev pub Amount : ℤ → Type 0
Amount d = unsigned_abs d ≤ 10 ^ 15

-- What every kind of worth promises of its meanings.
pub record Laws (G : Group) : Type 0 where
  -- addition is that of an abelian group
  pub add_assoc : (x y z : G.Carrier) → G.add (G.add x y) z ≡ G.add x (G.add y z)
  pub add_comm : (x y : G.Carrier) → G.add x y ≡ G.add y x
  pub zero_add : (x : G.Carrier) → G.add G.zero x ≡ x
  pub neg_add : (x : G.Carrier) → G.add (G.neg x) x ≡ G.zero
  -- an opposite is as large, and a sum no larger than its parts together
  pub size_zero : G.size G.zero ≡ 0
  pub size_neg : (x : G.Carrier) → G.size (G.neg x) ≡ G.size x
  pub size_add : (x y : G.Carrier) → G.size (G.add x y) ≤ G.size x + G.size y
  -- the order is total and strict, and adding the same to both sides keeps it
  pub less_irrefl : (x : G.Carrier) → G.less x x ≡ false
  pub less_trans : (x y z : G.Carrier) → G.less x y ≡ true → G.less y z ≡ true → G.less x z ≡ true
  pub less_tie : (x y : G.Carrier) → G.less x y ≡ false → G.less y x ≡ false → x ≡ y
  pub less_shift : (x y z : G.Carrier) → G.less x y ≡ true → G.less (G.add z x) (G.add z y) ≡ true
  -- amounts add and compare as their numbers do, and are no larger
  pub amount_add : (a b : ℤ) → Amount a → Amount b → Amount (a +ℤ b) → G.amount (a +ℤ b) ≡ G.add (G.amount a) (G.amount b)
  pub amount_less : (a b : ℤ) → Amount a → Amount b → a <ℤ b → G.less (G.amount a) (G.amount b) ≡ true
  pub amount_size : (a : ℤ) → Amount a → G.size (G.amount a) ≤ unsigned_abs a
  -- the notch is small; nothing else is asked of it
  pub notch_size : G.size G.notch ≤ 10 ^ 9
