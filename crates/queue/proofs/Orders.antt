-- The order in which packages come out is total.
use Rattle.std.proofs.Common.{◌≡◌, ℕ, ◌+◌, ◌*◌, ◌<◌, ◌≤◌, true, false, cond, ltb, ◌⊎◌, List, length, get_or, sym, ap, ◌∙◌, subst₂, inl, inr, ⊎_elim, arith}
use Rattle.std.proofs.lemmas.Bool.{both_ways, cases_Bool, cases_eq, cases_lt, cases_order, ltb-true, lt-ltb}
use Rattle.worth.specs.Group.{Group, Laws}
use Rattle.worth.specs.Says.{less_of, Below}
use Rattle.worth.proofs.Orders.{le_of_eq, lt_irrefl, lt_trans, three_ways}
use Rattle.heaps.specs.Heap.{parent}
use Rattle.queue.specs.Order as order
use Rattle.queue.specs.declared.Entry.{Entry}

module _ (G : Group) {W : Type 0} (m : W → G.Carrier) where
  -- a smaller key comes first
  pub below_ahead : (a b : Entry W) → less_of G m a.key b.key ≡ true → order.ahead_of G m a b ≡ true
  below_ahead a b h = ap (λ t. cond t true (cond (less_of G m b.key a.key) false (ltb a.«package» b.«package»))) h

module _ (G : Group) (L : Laws G) {W : Type 0} (m : W → G.Carrier) where
  abbrev Ahead : Entry W → Entry W → Type 0
  Ahead a b = order.ahead_of G m a b ≡ true

  abbrev Over : Entry W → Entry W → Type 0
  Over a b = order.Over G m a b

  -- the same order, by its two cases
  abbrev Before : Entry W → Entry W → Type 0
  Before a b = Below G (m a.key) (m b.key) ⊎ ((m a.key ≡ m b.key) × (a.«package» < b.«package»))

  ahead_before : (a b : Entry W) → Ahead a b → Before a b
  ahead_before a b h = elim (cases_Bool (less_of G m a.key b.key)) [
    | inl t ↦ inl t
    | inr f ↦
        let rest : cond (less_of G m b.key a.key) false (ltb a.«package» b.«package») ≡ true =
        sym (ap (λ t. cond t true (cond (less_of G m b.key a.key) false (ltb a.«package» b.«package»))) f) ∙ h in
        elim (cases_Bool (less_of G m b.key a.key)) [
          | inl t ↦ absurd (both_ways _ (ap (λ s. cond s false (ltb a.«package» b.«package»)) t) rest)
          | inr g ↦ inr (L.less_tie _ _ f g, ltb-true _ _ (sym (ap (λ s. cond s false (ltb a.«package» b.«package»)) g) ∙ rest))
        ]
  ]

  before_ahead : (a b : Entry W) → Before a b → Ahead a b
  before_ahead a b (inl l) = below_ahead G m a b l
  before_ahead a b (inr e) =
      let f : less_of G m a.key b.key ≡ false = le_of_eq G L (sym e.0) in
      let g : less_of G m b.key a.key ≡ false = le_of_eq G L e.0 in
      ap (λ t. cond t true (cond (less_of G m b.key a.key) false (ltb a.«package» b.«package»))) f
      ∙ ap (λ s. cond s false (ltb a.«package» b.«package»)) g ∙ lt-ltb _ _ e.1

  chain : (a b c : Entry W) → Before a b → Before b c → Before a c
  chain a b c (inl p) (inl q) = inl (lt_trans G L _ _ _ p q)
  chain a b c (inl p) (inr q) = inl (ap (G.less (m a.key)) (sym q.0) ∙ p)
  chain a b c (inr p) (inl q) = inl (ap (λ x. G.less x (m c.key)) p.0 ∙ q)
  chain a b c (inr p) (inr q) = inr (p.0 ∙ q.0, omega arith)

  never : (a : Entry W) → Before a a → ⊥
  never a (inl p) = lt_irrefl G L _ p
  never a (inr p) = omega arith

  -- neither comes first
  abbrev Level : Entry W → Entry W → Type 0
  Level a b = (m a.key ≡ m b.key) × (a.«package» ≡ b.«package»)

  either : (a b : Entry W) → Before a b ⊎ (Level a b ⊎ Before b a)
  either a b = ⊎_elim
      (λ p. inl (inl p))
      (⊎_elim
      (λ e. ⊎_elim (λ z. inr (inl (e, z))) (⊎_elim (λ l. inl (inr (e, l))) (λ l. inr (inr (inr (sym e, l))))) (cases_order a.«package» b.«package»))
      (λ p. inr (inr (inl p))))
      (three_ways G L (m a.key) (m b.key))

  level : (a b c : Entry W) → Level a b → Before c a → Before c b
  level a b c l (inl p) = inl (ap (G.less (m c.key)) (sym l.0) ∙ p)
  level a b c l (inr p) = inr (p.0 ∙ l.0, omega arith)

  -- a stands over b unless b comes first
  over_unless : (a b : Entry W) → (Before b a → ⊥) → Over a b
  over_unless a b h = elim (cases_Bool (order.ahead_of G m b a)) [ inl t ↦ absurd (h (ahead_before b a t)) | inr f ↦ f ]

  pub over_not : (a b : Entry W) → Over a b → Before b a → ⊥
  over_not a b h k = both_ways _ h (before_ahead b a k)

  pub over_same : (a : Entry W) → Over a a
  over_same a = over_unless a a (never a)

  pub over_ahead : (a b : Entry W) → Ahead a b → Over a b
  over_ahead a b h = over_unless a b (λ k. never a (chain a b a (ahead_before a b h) k))

  pub over_chain : (a b c : Entry W) → Over a b → Over b c → Over a c
  over_chain a b c p q = over_unless a c (λ r. ⊎_elim
      (λ s. over_not b c q (chain c a b r s))
      (⊎_elim (λ l. over_not b c q (level a b c l r)) (over_not a b p))
      (either a b))

  -- the child of i that comes first stands over both
  pub first_child : (xs : List (Entry W)) (i r : ℕ) → (length xs ≤ 2 * i + 2 → r ≡ 2 * i + 1)
      → ((d : Entry W) → 2 * i + 2 < length xs → r ≡ cond (order.ahead_of G m (get_or xs (2 * i + 2) d) (get_or xs (2 * i + 1) d)) (2 * i + 2) (2 * i + 1))
      → (d : Entry W) (k : ℕ) → 0 < k → k < length xs → parent k ≡ i → Over (get_or xs r d) (get_or xs k d)
  first_child xs i r only pick d k pos in' is =
      let at : (c j : ℕ) → r ≡ c → k ≡ j → Over (get_or xs c d) (get_or xs j d) → Over (get_or xs r d) (get_or xs k d) =
      λ c j e z. subst₂ (λ x y. Over (get_or xs x d) (get_or xs y d)) (sym e) (sym z) in
      ⊎_elim
      (λ (l : 2 * i + 2 < length xs). elim (cases_Bool (order.ahead_of G m (get_or xs (2 * i + 2) d) (get_or xs (2 * i + 1) d))) [
        | inl t ↦
            let e : r ≡ 2 * i + 2 = pick d l ∙ ap (λ b. cond b (2 * i + 2) (2 * i + 1)) t in
            ⊎_elim
            (λ (z : k ≡ 2 * i + 2). at _ _ e z (over_same _))
            (λ (z : k ≡ 2 * i + 2 → ⊥). at _ (2 * i + 1) e (omega arith) (over_ahead _ _ t))
            (cases_eq k (2 * i + 2))
        | inr f ↦
            let e : r ≡ 2 * i + 1 = pick d l ∙ ap (λ b. cond b (2 * i + 2) (2 * i + 1)) f in
            ⊎_elim
            (λ (z : k ≡ 2 * i + 1). at _ _ e z (over_same _))
            (λ (z : k ≡ 2 * i + 1 → ⊥). at _ (2 * i + 2) e (omega arith) f)
            (cases_eq k (2 * i + 1))
      ])
      (λ (l : length xs ≤ 2 * i + 2). at (2 * i + 1) (2 * i + 1) (only l) (omega arith) (over_same _))
      (cases_lt (2 * i + 2) (length xs))
