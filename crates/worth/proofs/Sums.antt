-- Sums in a group: the laws in sets for `simp`, and a solver for equations.
use Rattle.std.proofs.Common.{◌≡◌, ◌↔◌, sym, refl, ap, ◌∙◌}
use Rattle.worth.specs.Group.{Group, Laws}

module _ (G : Group) where
  -- x without y, written x ⊝ y; it stays shut, so that `simp group` can move it about
  pub minus : G.Carrier → G.Carrier → G.Carrier
  minus x y = G.add x (G.neg y)

  pub minus_is : (x y : G.Carrier) → minus x y ≡ G.add x (G.neg y)
  unfolding minus
  minus_is x y = refl

module _ (G : Group) (L : Laws G) where
  open G use {Carrier, zero, add as ◌⊕◌, neg as ⊖◌}

  infixl 65 ◌⊕◌ ◌⊝◌
  infix 70 ⊖◌
  abbrev ◌⊝◌ : Carrier → Carrier → Carrier
  x ⊝ y = minus G x y

  pub add_assoc : (x y z : Carrier) → (x ⊕ y) ⊕ z ≡ x ⊕ (y ⊕ z)
  add_assoc = L.add_assoc

  pub add_comm : (x y : Carrier) → x ⊕ y ≡ y ⊕ x
  add_comm = L.add_comm

  pub left_comm : (x y z : Carrier) → x ⊕ (y ⊕ z) ≡ y ⊕ (x ⊕ z)
  left_comm x y z = sym (add_assoc x y z) ∙ ap (λ u. u ⊕ z) (add_comm x y) ∙ add_assoc y x z

  pub zero_add : (x : Carrier) → zero ⊕ x ≡ x
  zero_add = L.zero_add

  pub add_zero : (x : Carrier) → x ⊕ zero ≡ x
  add_zero x = add_comm x zero ∙ zero_add x

  pub neg_add : (x : Carrier) → ⊖ x ⊕ x ≡ zero
  neg_add = L.neg_add

  pub add_neg : (x : Carrier) → x ⊕ ⊖ x ≡ zero
  add_neg x = add_comm x (⊖ x) ∙ neg_add x

  -- for equations between sums
  pub ruleset plain = (add_assoc, add_comm, left_comm, zero_add, add_zero)

  pub add_neg_cancel : (x y : Carrier) → x ⊕ (⊖ x ⊕ y) ≡ y
  add_neg_cancel x y = sym (add_assoc x (⊖ x) y) ∙ ap (λ u. u ⊕ y) (add_neg x) ∙ zero_add y

  pub neg_add_cancel : (x y : Carrier) → ⊖ x ⊕ (x ⊕ y) ≡ y
  neg_add_cancel x y = sym (add_assoc (⊖ x) x y) ∙ ap (λ u. u ⊕ y) (neg_add x) ∙ zero_add y

  pub cancel_left : (z x y : Carrier) → z ⊕ x ≡ z ⊕ y → x ≡ y
  cancel_left z x y e = sym (neg_add_cancel z x) ∙ ap (λ u. ⊖ z ⊕ u) e ∙ neg_add_cancel z y

  pub cancel_right : (x y z : Carrier) → x ⊕ z ≡ y ⊕ z → x ≡ y
  cancel_right x y z e = cancel_left z x y (add_comm z x ∙ e ∙ add_comm y z)

  -- opposites are unique
  pub neg_unique : (x y : Carrier) → x ⊕ y ≡ zero → y ≡ ⊖ x
  neg_unique x y e = cancel_left x y (⊖ x) (e ∙ sym (add_neg x))

  pub neg_sum : (x y : Carrier) → ⊖ (x ⊕ y) ≡ ⊖ x ⊕ ⊖ y
  neg_sum x y =
      let regrouped : (x ⊕ y) ⊕ (⊖ x ⊕ ⊖ y) ≡ (x ⊕ ⊖ x) ⊕ (y ⊕ ⊖ y) = simp plain in
      sym (neg_unique (x ⊕ y) (⊖ x ⊕ ⊖ y) (regrouped ∙ simp (add_neg, zero_add)))

  pub neg_neg : (x : Carrier) → ⊖ (⊖ x) ≡ x
  neg_neg x = sym (neg_unique (⊖ x) x (neg_add x))

  pub neg_zero : ⊖ zero ≡ zero
  neg_zero = sym (neg_unique zero zero (zero_add zero))

  -- for equations between sums with opposites, where sorting brings an element and its opposite side by side
  pub ruleset sums = (plain, add_neg, neg_add, add_neg_cancel, neg_add_cancel, neg_sum, neg_neg, neg_zero)

  pub neg_is : (x : Carrier) → ⊖ x ≡ zero ⊝ x
  neg_is x = simp (minus_is, zero_add)

  pub sub_add : (x y z : Carrier) → (x ⊝ y) ⊕ z ≡ (x ⊕ z) ⊝ y
  sub_add x y z = simp (minus_is, plain)

  pub add_sub : (x y z : Carrier) → x ⊕ (y ⊝ z) ≡ (x ⊕ y) ⊝ z
  add_sub x y z = simp (minus_is, plain)

  pub sub_sub : (x y z : Carrier) → (x ⊝ y) ⊝ z ≡ x ⊝ (y ⊕ z)
  sub_sub x y z = simp (minus_is, sums)

  pub sub_of_sub : (x y z : Carrier) → x ⊝ (y ⊝ z) ≡ (x ⊕ z) ⊝ y
  sub_of_sub x y z = simp (minus_is, sums)

  sub_cancel : (a b : Carrier) → (a ⊝ b) ⊕ b ≡ a
  sub_cancel a b = simp (minus_is, add_assoc, neg_add, add_zero)

  pub sub_left : (a b c : Carrier) → (a ⊝ b ≡ c) ↔ (a ≡ c ⊕ b)
  sub_left a b c = (
    λ e. sym (sub_cancel a b) ∙ ap (λ u. u ⊕ b) e,
    λ e. cancel_right (a ⊝ b) c b (sub_cancel a b ∙ e),
  )

  pub sub_right : (a c d : Carrier) → (a ≡ c ⊝ d) ↔ (a ⊕ d ≡ c)
  sub_right a c d = (λ e. sym ((sub_left c d a).0 (sym e)), λ e. sym ((sub_left c d a).1 (sym e)))

  -- for every equation of the group: each side becomes one difference of two sums, and what is taken away moves over
  pub ruleset group = (neg_is, sub_add, add_sub, sub_sub, sub_of_sub, sub_left, sub_right, plain)
