-- Amounts of money: they add and compare as their numbers do, up to 10 ^ 15 either way.
use Rattle.std.proofs.Common.{◌≡◌, ℤ, pos, ◌+ℤ◌, ◌-ℤ◌, neg_ℤ, ◌≤ℤ◌, sym, ap, ◌∙◌, inl, inr, arith}
use lib.IntN.{+ℤ_invr}
use lib.Signed.{lt_z}
use Rattle.std.proofs.lemmas.Int.{ints}
use Rattle.std.proofs.lemmas.Bool.{cases_Bool}
use Rattle.worth.specs.Group.{Group, Laws, Amount}
use Rattle.worth.specs.Says.{AtMost}
use Rattle.worth.proofs.Sums.{cancel_left, add_zero, neg_unique}
use Rattle.worth.proofs.Orders.{le_refl, lt_to_le}

pub zero_in_range : Amount (pos 0)
zero_in_range = omega arith

pub neg_in_range : (d : ℤ) → Amount d → Amount (neg_ℤ d)
neg_in_range d h = omega (arith, ints)

module _ (G : Group) (L : Laws G) where
  open G use {zero, add as ◌⊕◌, neg as ⊖◌, amount}

  infixl 65 ◌⊕◌
  infix 70 ⊖◌
  pub amount_zero : amount (pos 0) ≡ zero
  amount_zero =
      let twice : amount (pos 0) ≡ amount (pos 0) ⊕ amount (pos 0) = L.amount_add (pos 0) (pos 0) zero_in_range zero_in_range zero_in_range in
      cancel_left G L (amount (pos 0)) (amount (pos 0)) zero (sym twice ∙ sym (add_zero G L (amount (pos 0))))

  pub amount_neg : (d : ℤ) → Amount d → amount (neg_ℤ d) ≡ ⊖ amount d
  amount_neg d h =
      let none : d +ℤ neg_ℤ d ≡ pos 0 = +ℤ_invr d in
      let within : Amount (d +ℤ neg_ℤ d) = rw none zero_in_range in
      neg_unique G L (amount d) (amount (neg_ℤ d)) (sym (L.amount_add d (neg_ℤ d) h (neg_in_range d h) within) ∙ ap amount none ∙ amount_zero)

  pub amount_sub : (a b : ℤ) → Amount a → Amount b → Amount (a -ℤ b) → amount (a -ℤ b) ≡ amount a ⊕ ⊖ amount b
  amount_sub a b ha hb hab = L.amount_add a (neg_ℤ b) ha (neg_in_range b hb) hab ∙ ap (λ u. amount a ⊕ u) (amount_neg b hb)

  pub amount_le : (a b : ℤ) → Amount a → Amount b → a ≤ℤ b → AtMost G (amount a) (amount b)
  amount_le a b ha hb h = elim (cases_Bool (lt_z a b)) [
    | inl t ↦ lt_to_le G L _ _ (L.amount_less a b ha hb (omega (arith, ints)))
    | inr f ↦ let e : a ≡ b = omega (arith, ints) in rw e (le_refl G L (amount b))
  ]
