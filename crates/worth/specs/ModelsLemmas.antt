-- The two kinds of money are lawful.
use Rattle.std.proofs.lemmas.Int.{ints}
use Rattle.worth.specs.Pairs.{part_by_part}
use Rattle.std.proofs.Math.IntN.{+ℤ_assoc, +ℤ_comm, +ℤ_idl, +ℤ_invl}
use Rattle.std.specs.Prelude.{refl}
use Rattle.std.proofs.Common.{arith}
use Rattle.worth.specs.Group.{Laws}
use Rattle.worth.specs.Models.{plain, strict}

pub plain_laws : Laws plain
plain_laws = record {
  add_assoc = +ℤ_assoc;
  add_comm = +ℤ_comm;
  zero_add = +ℤ_idl;
  neg_add = +ℤ_invl;
  size_zero = refl;
  size_neg = λ x. omega (arith, ints);
  size_add = λ x y. omega (arith, ints);
  less_irrefl = λ x. grind (arith, ints);
  less_trans = λ x y z h k. grind (arith, ints);
  less_tie = λ x y h k. omega (arith, ints);
  less_shift = λ x y z h. grind (arith, ints);
  amount_add = λ a b ha hb hab. refl;
  amount_less = λ a b ha hb h. grind (arith, ints);
  amount_size = λ a h. omega arith;
  notch_size = omega arith;
}

pub strict_laws : Laws strict
strict_laws = record {
  add_assoc = λ x y z. part_by_part _ _ (+ℤ_assoc x.0 y.0 z.0) (+ℤ_assoc x.1 y.1 z.1);
  add_comm = λ x y. part_by_part _ _ (+ℤ_comm x.0 y.0) (+ℤ_comm x.1 y.1);
  zero_add = λ x. part_by_part _ _ (+ℤ_idl x.0) (+ℤ_idl x.1);
  neg_add = λ x. part_by_part _ _ (+ℤ_invl x.0) (+ℤ_invl x.1);
  size_zero = refl;
  size_neg = λ x. omega (arith, ints);
  size_add = λ x y. omega (arith, ints);
  less_irrefl = λ x. grind (arith, ints);
  less_trans = λ x y z h k. grind (arith, ints);
  less_tie = λ x y h k. part_by_part x y (grind (arith, ints)) (grind (arith, ints));
  less_shift = λ x y z h. grind (arith, ints);
  amount_add = λ a b ha hb hab. refl;
  amount_less = λ a b ha hb h. grind (arith, ints);
  amount_size = λ a h. omega arith;
  notch_size = omega arith;
}
