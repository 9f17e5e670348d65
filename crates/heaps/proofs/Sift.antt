-- The steps of a sift, over what stands at each place.
use Rattle.std.proofs.Common.{◌≡◌, ℕ, zero, suc, ◌<◌, ◌≤◌, sym, refl, ap, ◌∙◌, subst₂, ⊎_elim, arith}
use Rattle.std.proofs.lemmas.List.Edits.{Swapped}
use Rattle.std.proofs.lemmas.Bool.{cases_eq}
use Rattle.heaps.specs.Heap.{parent, Up, Down}

module _ {X : Type 0} (L : X → X → Type 0) where
  by : {a b x y : X} → a ≡ x → b ≡ y → L x y → L a b
  by p q h = subst₂ L (sym p) (sym q) h

  module _ (chain : (x y z : X) → L x y → L y z → L x z) (f g : ℕ → X) (n p i : ℕ) (s : Swapped f g p i) where
    at : (h : ℕ → X) {a b : ℕ} → a ≡ b → h a ≡ h b
    at h e = ap h e

    -- the element at i has changed places with that at its parent p
    pub up_step : 0 < i → i < n → p ≡ parent i → L (f i) (f p) → Up L f n i → Up L g n p
    up_step pos in' is t u = (
      λ k a b ne. ⊎_elim
          (λ (e : k ≡ i). by (let e' : parent k ≡ p = omega arith in at g e' ∙ s.0) (at g e ∙ s.1) t)
          (λ (v : k ≡ i → ⊥). ⊎_elim
          (λ (e : parent k ≡ i). by (at g e ∙ s.1) (s.2 k ne v) (by (at f is) refl (u.1 k pos a b e)))
          (λ (w : parent k ≡ i → ⊥). ⊎_elim
          (λ (e : parent k ≡ p). by (at g e ∙ s.0) (s.2 k ne v) (chain _ _ _ t (by (at f (sym e)) refl (u.0 k a b v))))
          (λ (z : parent k ≡ p → ⊥). by (s.2 _ z w) (s.2 k ne v) (u.0 k a b v))
          (cases_eq (parent k) p))
          (cases_eq (parent k) i))
          (cases_eq k i),
      λ k up a b e.
          let over = u.0 p up (omega arith) (omega arith) in
          let top = s.2 (parent p) (omega arith) (omega arith) in
          ⊎_elim
          (λ (c : k ≡ i). by top (at g c ∙ s.1) over)
          (λ (v : k ≡ i → ⊥). by top (s.2 k (omega arith) v) (chain _ _ _ over (by (at f (sym e)) refl (u.0 k a b v))))
          (cases_eq k i),
    )

  module _ (f : ℕ → X) (n i : ℕ) where
    -- the element at i has come to its place
    pub up_rests : (0 < i → L (f (parent i)) (f i)) → Up L f n i → (k : ℕ) → 0 < k → k < n → L (f (parent k)) (f k)
    up_rests t u k a b = ⊎_elim
        (λ (e : k ≡ i). by (ap (λ m. f (parent m)) e) (ap f e) (t (omega arith)))
        (λ (v : k ≡ i → ⊥). u.0 k a b v)
        (cases_eq k i)

    -- the element at i has come to its place
    pub down_rests : ((k : ℕ) → 0 < k → k < n → parent k ≡ i → L (f i) (f k)) → Down L f n i → (k : ℕ) → 0 < k → k < n → L (f (parent k)) (f k)
    down_rests over u k a b = ⊎_elim
        (λ (e : parent k ≡ i). by (ap f e) refl (over k a b e))
        (λ (w : parent k ≡ i → ⊥). u.0 k a b w)
        (cases_eq (parent k) i)

  -- the element at i has changed places with that at c, the child that may stand over the other
  module _ (f g : ℕ → X) (n i c : ℕ) (s : Swapped f g i c) where
    pub down_step : 0 < c → c < n → parent c ≡ i → L (f c) (f i) → ((k : ℕ) → 0 < k → k < n → parent k ≡ i → L (f c) (f k)) → Down L f n i → Down L g n c
    down_step pos in' is t best u = (
      λ k a b ne. ⊎_elim
          (λ (e : parent k ≡ i). ⊎_elim
          (λ (z : k ≡ c). by (ap g e ∙ s.0) (ap g z ∙ s.1) t)
          (λ (v : k ≡ c → ⊥). by (ap g e ∙ s.0) (s.2 k (omega arith) v) (best k a b e))
          (cases_eq k c))
          (λ (w : parent k ≡ i → ⊥). ⊎_elim
          (λ (e : k ≡ i). by (s.2 _ w ne ∙ ap (λ m. f (parent m)) e) (ap g e ∙ s.0) (u.1 c (omega arith) pos in' is))
          (λ (v : k ≡ i → ⊥). by (s.2 _ w ne) (s.2 k v (omega arith)) (u.0 k a b w))
          (cases_eq k i))
          (cases_eq (parent k) i),
      λ k up a b e. by (ap g is ∙ s.0) (s.2 k (omega arith) (omega arith)) (by (ap f (sym e)) refl (u.0 k a b (omega arith))),
    )

  -- the top stands over every element
  module _ (same : (x : X) → L x x) (chain : (x y z : X) → L x y → L y z → L x z) (f : ℕ → X) (n : ℕ) (h : (k : ℕ) → 0 < k → k < n → L (f (parent k)) (f k)) where
    pub top : (fuel k : ℕ) → k ≤ fuel → k < n → L (f 0) (f k)
    top zero k a b = let e : k ≡ 0 = omega arith in by refl (ap f e) (same (f 0))
    top (suc fuel) k a b = ⊎_elim
        (λ (e : k ≡ 0). by refl (ap f e) (same (f 0)))
        (λ (v : k ≡ 0 → ⊥). chain _ _ _ (top fuel (parent k) (omega arith) (omega arith)) (h k (omega arith) b))
        (cases_eq k 0)
