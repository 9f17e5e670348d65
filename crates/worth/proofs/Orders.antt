-- The order of a group: at most (≼) and below (≺).
use Rattle.std.proofs.Common.{◌≡◌, ◌⊎◌, sym, ap, ◌∙◌, inl, inr}
use Rattle.std.proofs.lemmas.Bool.{cases_Bool, both_ways}
use Rattle.worth.specs.Group.{Group, Laws}
use Rattle.worth.specs.Says.{AtMost, Below}
use Rattle.worth.proofs.Sums.{group, add_comm, neg_add_cancel, minus}

module _ (G : Group) (L : Laws G) where
  open G use {Carrier, add as ◌⊕◌, neg as ⊖◌, less}

  infixl 65 ◌⊕◌ ◌⊝◌
  infix 70 ⊖◌
  infix 50 ◌≼◌ ◌≺◌
  abbrev ◌≼◌ : Carrier → Carrier → Type 0
  x ≼ y = AtMost G x y

  abbrev ◌≺◌ : Carrier → Carrier → Type 0
  x ≺ y = Below G x y

  abbrev ◌⊝◌ : Carrier → Carrier → Carrier
  x ⊝ y = minus G x y

  pub le_refl : (x : Carrier) → x ≼ x
  le_refl = L.less_irrefl

  pub le_of_eq : {x y : Carrier} → x ≡ y → x ≼ y
  le_of_eq {x} e = ap (λ u. less u x) (sym e) ∙ le_refl x

  pub le_antisym : (x y : Carrier) → x ≼ y → y ≼ x → x ≡ y
  le_antisym x y h k = L.less_tie x y k h

  pub lt_irrefl : (x : Carrier) → x ≺ x → ⊥
  lt_irrefl x h = both_ways _ (L.less_irrefl x) h

  pub lt_trans : (x y z : Carrier) → x ≺ y → y ≺ z → x ≺ z
  lt_trans = L.less_trans

  -- what is at most y is not above it
  pub not_le : (x y : Carrier) → x ≼ y → y ≺ x → ⊥
  not_le x y h k = both_ways _ h k

  pub lt_to_le : (x y : Carrier) → x ≺ y → x ≼ y
  lt_to_le x y h = elim (cases_Bool (less y x)) [ inl t ↦ absurd (lt_irrefl x (lt_trans x y x h t)) | inr f ↦ f ]

  -- which of the two holds is decided
  pub le_or_lt : (x y : Carrier) → (x ≼ y) ⊎ (y ≺ x)
  le_or_lt x y = elim (cases_Bool (less y x)) [ inl t ↦ inr t | inr f ↦ inl f ]

  pub le_total : (x y : Carrier) → (x ≼ y) ⊎ (y ≼ x)
  le_total x y = elim (le_or_lt x y) [ inl h ↦ inl h | inr h ↦ inr (lt_to_le y x h) ]

  -- what is at most y is below it or equal to it
  pub lt_or_eq : (x y : Carrier) → x ≼ y → (x ≺ y) ⊎ (x ≡ y)
  lt_or_eq x y h = elim (cases_Bool (less x y)) [ inl t ↦ inl t | inr f ↦ inr (L.less_tie x y f h) ]

  pub three_ways : (x y : Carrier) → (x ≺ y) ⊎ ((x ≡ y) ⊎ (y ≺ x))
  three_ways x y = elim (le_or_lt x y) [
    | inl h ↦ elim (lt_or_eq x y h) [ inl k ↦ inl k | inr e ↦ inr (inl e) ]
    | inr h ↦ inr (inr h)
  ]

  pub le_lt : (x y z : Carrier) → x ≼ y → y ≺ z → x ≺ z
  le_lt x y z h k = elim (lt_or_eq x y h) [
    | inl l ↦ lt_trans x y z l k
    | inr e ↦ ap (λ u. less u z) e ∙ k
  ]

  pub lt_le : (x y z : Carrier) → x ≺ y → y ≼ z → x ≺ z
  lt_le x y z h k = elim (lt_or_eq y z k) [
    | inl l ↦ lt_trans x y z h l
    | inr e ↦ ap (less x) (sym e) ∙ h
  ]

  pub le_trans : (x y z : Carrier) → x ≼ y → y ≼ z → x ≼ z
  le_trans x y z h k = elim (le_or_lt x z) [ inl l ↦ l | inr l ↦ absurd (not_le y z k (lt_le z x y l h)) ]

  -- the shift as an equation
  pub less_shift : (x y z : Carrier) → less (z ⊕ x) (z ⊕ y) ≡ less x y
  less_shift x y z = elim (cases_Bool (less x y)) [
    | inl t ↦ L.less_shift x y z t ∙ sym t
    | inr f ↦ elim (cases_Bool (less (z ⊕ x) (z ⊕ y))) [
      | inl t ↦ absurd (both_ways _ f (simp neg_add_cancel at (L.less_shift (z ⊕ x) (z ⊕ y) (⊖ z) t)))
      | inr g ↦ g ∙ sym f
    ]
  ]

  -- the same added to both sides
  pub le_add : (z x y : Carrier) → x ≼ y → z ⊕ x ≼ z ⊕ y
  le_add z x y h = less_shift y x z ∙ h

  pub lt_add : (z x y : Carrier) → x ≺ y → z ⊕ x ≺ z ⊕ y
  lt_add z x y h = less_shift x y z ∙ h

  pub le_cancel : (z x y : Carrier) → z ⊕ x ≼ z ⊕ y → x ≼ y
  le_cancel z x y h = sym (less_shift y x z) ∙ h

  pub lt_cancel : (z x y : Carrier) → z ⊕ x ≺ z ⊕ y → x ≺ y
  lt_cancel z x y h = sym (less_shift x y z) ∙ h

  -- two orders added side by side
  pub add_le : {x y u v : Carrier} → x ≼ y → u ≼ v → x ⊕ u ≼ y ⊕ v
  add_le {x} {y} {u} {v} h k = le_trans _ _ _ (le_add x u v k) (rw (add_comm G L x v, add_comm G L y v) (le_add v x y h))

  pub add_lt : {x y u v : Carrier} → x ≺ y → u ≼ v → x ⊕ u ≺ y ⊕ v
  add_lt {x} {y} {u} {v} h k = le_lt _ _ _ (le_add x u v k) (rw (add_comm G L x v, add_comm G L y v) (lt_add v x y h))

  -- two pairs that differ alike compare alike
  pub less_alike : (a b c d : Carrier) → a ⊕ d ≡ b ⊕ c → less a b ≡ less c d
  less_alike a b c d e =
      sym (less_shift a b d) ∙ ap (λ u. less u (d ⊕ b)) (add_comm G L d a ∙ e) ∙ ap (less (b ⊕ c)) (add_comm G L d b) ∙ less_shift c d b

  -- Linear reasoning: a ≼ b follows from a sum c ≼ d of what is known, if a without b is c without d.
  -- Add what is known by `add-le` and `add-lt`; `simp plain` or `simp group` proves the equation.
  pub follows : {a b c d : Carrier} → c ≼ d → a ⊕ d ≡ b ⊕ c → a ≼ b
  follows {a} {b} {c} {d} h e = less_alike b a d c (sym e) ∙ h

  pub follows_lt : {a b c d : Carrier} → c ≺ d → a ⊕ d ≡ b ⊕ c → a ≺ b
  follows_lt {a} {b} {c} {d} h e = less_alike a b c d e ∙ h

  -- opposites turn the order
  pub neg_le : (x y : Carrier) → x ≼ y → ⊖ y ≼ ⊖ x
  neg_le x y h = follows h (simp group)

  pub neg_lt : (x y : Carrier) → x ≺ y → ⊖ y ≺ ⊖ x
  neg_lt x y h = follows_lt h (simp group)

  -- what is taken away on one side is added on the other
  pub less_sub_left : (a b c : Carrier) → less (a ⊝ b) c ≡ less a (c ⊕ b)
  less_sub_left a b c = less_alike _ _ _ _ (simp group)

  pub less_sub_right : (a c d : Carrier) → less a (c ⊝ d) ≡ less (a ⊕ d) c
  less_sub_right a c d = less_alike _ _ _ _ (simp group)

  -- every equation of the group, with what is taken away moved over in an order too
  pub ruleset order = (group, less_sub_left, less_sub_right)
