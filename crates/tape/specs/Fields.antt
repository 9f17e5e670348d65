-- Numbers on a tape.
use Rattle.std.specs.Prelude.{◌≡◌, ℕ, ◌/◌, ◌%◌, ◌^◌, ◌<◌, ◌≤◌, List, length, Ok, Err, Result, MatchResult, refl}
use Rattle.std.specs.Result.{OkIff}
use Rattle.std.proofs.Common.{arith}
use Rattle.tape.specs.Format.{be8, be16, be32}

-- what every kind of number on a tape keeps: how many bytes it has, that these and its limit are small,
-- that its zero is one, and that no two of its numbers have the same value, or in range the same bytes
pub record FieldLaws {T : Type 0} (width : ℕ) (zero : T) (limit : ℕ) (value_of : T → ℕ) (bytes_of : T → List ℕ) : Type 0 where
  pub long : (x : T) → length (bytes_of x) ≡ width
  pub few : width ≤ 4
  pub small : limit ≤ 2 ^ 32
  pub nothing : value_of zero ≡ 0
  pub alike : (x y : T) → value_of x ≡ value_of y → x ≡ y
  pub apart : (x y : T) → value_of x < limit → value_of y < limit → bytes_of x ≡ bytes_of y → x ≡ y

-- a number is its own value
abbrev pub itself : ℕ → ℕ
itself n = n

-- a conversion to fewer bits gives the number where it is below the limit
pub narrowed : {E : Type 0} (limit value : ℕ) (r : Result ℕ E) → OkIff r (value < limit) value → MatchResult r (λ x. (itself x ≡ value) × (value < limit)) (λ _. limit ≤ value)
narrowed limit value (Ok x) h = (h.1, h.0)
narrowed limit value (Err e) h = omega (arith, h)

-- numbers with the same bytes are the same
pub be16_apart : (x y : ℕ) → x < 2 ^ 16 → y < 2 ^ 16 → be16 x ≡ be16 y → x ≡ y
be16_apart x y small small' same =
    let high : ◌≡◌ {A = ℕ} (x / 256 % 256) (y / 256 % 256) = cc in
    let low : ◌≡◌ {A = ℕ} (x % 256) (y % 256) = cc in
    omega (arith, small, small', high, low)

pub be32_apart : (x y : ℕ) → x < 2 ^ 32 → y < 2 ^ 32 → be32 x ≡ be32 y → x ≡ y
be32_apart x y small small' same =
    let a : ◌≡◌ {A = ℕ} (x / 16777216 % 256) (y / 16777216 % 256) = cc in
    let b : ◌≡◌ {A = ℕ} (x / 65536 % 256) (y / 65536 % 256) = cc in
    let c : ◌≡◌ {A = ℕ} (x / 256 % 256) (y / 256 % 256) = cc in
    let d : ◌≡◌ {A = ℕ} (x % 256) (y % 256) = cc in
    omega (arith, small, small', a, b, c, d)

pub be8_laws : FieldLaws 1 0 (2 ^ 8) itself be8
be8_laws = record { long = λ x. refl; few = omega arith; small = omega arith; nothing = refl; alike = λ x y e. e; apart = λ x y in' in'' same. cc }

pub be16_laws : FieldLaws 2 0 (2 ^ 16) itself be16
be16_laws = record { long = λ x. refl; few = omega arith; small = omega arith; nothing = refl; alike = λ x y e. e; apart = be16_apart }

pub be32_laws : FieldLaws 4 0 (2 ^ 32) itself be32
be32_laws = record { long = λ x. refl; few = omega arith; small = omega arith; nothing = refl; alike = λ x y e. e; apart = be32_apart }
