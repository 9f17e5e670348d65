-- Pairs of whole numbers.
use Rattle.std.specs.Prelude.{◌≡◌, ℤ}
use Rattle.std.proofs.Common.{ap, ◌∙◌}

pub part_by_part : (x y : ℤ × ℤ) → x.0 ≡ y.0 → x.1 ≡ y.1 → x ≡ y
part_by_part x y p q =
    let first : ℤ → ℤ × ℤ = λ a. (a, x.1) in
    let second : ℤ → ℤ × ℤ = λ b. (y.0, b) in
    ap first p ∙ ap second q
