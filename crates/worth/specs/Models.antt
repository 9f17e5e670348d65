-- What the two kinds of money mean.
use Rattle.std.specs.Prelude.{max, Bool, true, false, cond, ℤ, pos, ◌+ℤ◌, neg_ℤ, int_lt, unsigned_abs}
use Rattle.worth.specs.Group.{Group}

-- The whole numbers. An amount is its own meaning, and a notch is nothing.
abbrev pub plain : Group
plain = record {
  Carrier = ℤ;
  zero = pos 0;
  add = ◌+ℤ◌;
  neg = neg_ℤ;
  size = unsigned_abs;
  less = int_lt;
  amount = λ d. d;
  notch = pos 0;
  tell = λ x. (x, pos 0);
}

-- whether x is below y: by the first parts, and where these are equal by the second
abbrev pub lexicographic : ℤ × ℤ → ℤ × ℤ → Bool
lexicographic x y = cond (int_lt x.0 y.0) true (cond (int_lt y.0 x.0) false (int_lt x.1 y.1))

-- Pairs of whole numbers, money and notches, added part by part. No number of notches makes up for a unit of money.
abbrev pub strict : Group
strict = record {
  Carrier = ℤ × ℤ;
  zero = (pos 0, pos 0);
  add = λ x y. (x.0 +ℤ y.0, x.1 +ℤ y.1);
  neg = λ x. (neg_ℤ x.0, neg_ℤ x.1);
  size = λ x. max (unsigned_abs x.0) (unsigned_abs x.1);
  less = lexicographic;
  amount = λ d. (d, pos 0);
  notch = (pos 0, pos 1);
  tell = λ x. x;
}
