-- Decimal notation.
use Rattle.std.specs.Prelude.{ℕ, suc, ◌+◌, ◌/◌, ◌%◌, ◌<◌, ◌≤◌, List, [], ◌∷◌, ◌++◌, ℤ, pos, negsuc}

-- the bytes of a number: one below ten is its digit; any other is its tenth part, then its last digit
pub data Decimal : ℕ → List ℕ → Type 0 where
  digit : {n : ℕ} → n < 10 → Decimal n ((48 + n) ∷ [])
  tenth : {n : ℕ} {bytes : List ℕ} → 10 ≤ n → Decimal (n / 10) bytes → Decimal n (bytes ++ (48 + n % 10) ∷ [])

-- the same of a signed number: one below zero has a minus sign first
pub data Signed : ℤ → List ℕ → Type 0 where
  plain : {n : ℕ} {bytes : List ℕ} → Decimal n bytes → Signed (pos n) bytes
  minus : {n : ℕ} {bytes : List ℕ} → Decimal (suc n) bytes → Signed (negsuc n) (45 ∷ bytes)
