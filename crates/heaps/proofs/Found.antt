-- What is found in a list with no number twice.
use Rattle.std.proofs.Common.{◌≡◌, ℕ, zero, suc, ◌<◌, cond, eqb, ◌⊎◌, List, [], ◌∷◌, length, get_or, set, Some, None, Option, sym, refl, ap, ◌∙◌, subst, inl, inr, ⊎_elim, arith, length-set}
use Rattle.std.proofs.lemmas.Bool.{cases_eq, eq-eqb, ne_eqb}
use Rattle.std.proofs.lemmas.List.{get_or-set_same, get_or-set_other}
use Rattle.std.proofs.lemmas.List.Edits.{Swapped, swapped_from_swap, length-swap}
use Rattle.std.proofs.ByRecursion.{has_get_or, has_shuffled}
use Rattle.std.proofs.lemmas.List.Sorted.{IsPermutation-sym, IsPermutation-keeps, length_permutation}
use Rattle.std.specs.List.{ContainsAt as Has, swap}
use Rattle.std.specs.List.Sorted.{IsPermutation}
use Rattle.heaps.specs.Found as specs

module _ {X : Type 0} (number : X → ℕ) where
  abbrev Apart : List X → Type 0
  Apart xs = specs.Apart number xs

  abbrev Lacks : List X → ℕ → Type 0
  Lacks xs p = specs.Lacks number xs p

  pub apart_tail : (x : X) (xs : List X) → Apart (x ∷ xs) → Apart xs
  apart_tail x xs h d i j a b p = let z : suc i ≡ suc j = h d (suc i) (suc j) (omega arith) (omega arith) p in omega arith

  pub apart_head : (x : X) (xs : List X) → Apart (x ∷ xs) → Lacks xs (number x)
  apart_head x xs h d k a p = let z : zero ≡ suc k = h d zero (suc k) (omega arith) (omega arith) (sym p) in omega arith

  pub apart_cons : (x : X) (xs : List X) → Apart xs → Lacks xs (number x) → Apart (x ∷ xs)
  apart_cons x xs h out d zero zero a b p = refl
  apart_cons x xs h out d zero (suc j) a b p = absurd (out d j (omega arith) (sym p))
  apart_cons x xs h out d (suc i) zero a b p = absurd (out d i (omega arith) p)
  apart_cons x xs h out d (suc i) (suc j) a b p = ap suc (h d i j (omega arith) (omega arith) p)

  -- the place that an exchange of a and b brings to m
  module _ (f g : ℕ → X) (a b n : ℕ) (a< : a < n) (b< : b < n) (s : Swapped f g a b) where
    abbrev From : ℕ → Type 0
    From m = (k : ℕ) × (k < n) × (g m ≡ f k) × (((m ≡ a) × (k ≡ b)) ⊎ (((m ≡ b) × (k ≡ a)) ⊎ ((m ≡ a → ⊥) × (m ≡ b → ⊥) × (k ≡ m))))

    from : (m : ℕ) → m < n → From m
    from m h = ⊎_elim
        (λ (e : m ≡ a). (b, b<, ap g e ∙ s.0, inl (e, refl)))
        (λ (u : m ≡ a → ⊥). ⊎_elim
        (λ (e : m ≡ b). (a, a<, ap g e ∙ s.1, inr (inl (e, refl))))
        (λ (v : m ≡ b → ⊥). (m, h, s.2 m u v, inr (inr (u, v, refl))))
        (cases_eq m b))
        (cases_eq m a)

    one_place : ((i j : ℕ) → i < n → j < n → number (f i) ≡ number (f j) → i ≡ j) → (i j : ℕ) → i < n → j < n → number (g i) ≡ number (g j) → i ≡ j
    one_place h i j p q e =
        let x = from i p in
        let y = from j q in
        let same : x.0 ≡ y.0 = h x.0 y.0 x.1 y.1 (ap number (sym x.2) ∙ e ∙ ap number y.2) in
        let u = x.3 in
        let v = y.3 in
        omega arith

  apart_exchanged : (l : List X) (i j : ℕ) → i < length l → j < length l → Apart l → Apart (swap l i j)
  apart_exchanged l i j a b h d = subst
      (λ n. (x y : ℕ) → x < n → y < n → number (get_or (swap l i j) x d) ≡ number (get_or (swap l i j) y d) → x ≡ y)
      (sym (length-swap l i j))
      (one_place (λ k. get_or l k d) (λ k. get_or (swap l i j) k d) i j (length l) a b (swapped_from_swap l (swap l i j) i j d a b refl) (h d))

  pub apart_shuffled : (xs ys : List X) → IsPermutation xs ys → Apart xs → Apart ys
  apart_shuffled xs ys s h = IsPermutation-keeps xs Apart h apart_exchanged ys s

  -- another element with the same number at i
  module _ (xs : List X) (i : ℕ) (e : X) (in' : i < length xs) (is : (d : X) → number (get_or xs i d) ≡ number e) where
    same_number : (d : X) (k : ℕ) → number (get_or (set xs i e) k d) ≡ number (get_or xs k d)
    same_number d k = ⊎_elim
        (λ (z : k ≡ i). ap (λ m. number (get_or (set xs i e) m d)) z ∙ ap number (get_or-set_same xs i e d in') ∙ sym (is d) ∙ ap (λ m. number (get_or xs m d)) (sym z))
        (λ (v : k ≡ i → ⊥). ap number (get_or-set_other xs i k e d v))
        (cases_eq k i)

    pub apart_set : Apart xs → Apart (set xs i e)
    apart_set h d j k a b p = h d j k (rw length-set at a) (rw length-set at b) (sym (same_number d j) ∙ p ∙ same_number d k)

  -- a place at which the number p stands
  abbrev pub Place : List X → ℕ → X → Type 0
  Place xs p d = (k : ℕ) × (k < length xs) × (number (get_or xs k d) ≡ p)

  pub locate : (xs : List X) (p : ℕ) (d : X) → Place xs p d ⊎ ((k : ℕ) → k < length xs → number (get_or xs k d) ≡ p → ⊥)
  locate [] p d = inr (λ k a. absurd (omega arith))
  locate (x ∷ xs) p d = ⊎_elim
      (λ e. inl (zero, omega arith, e))
      (λ v. ⊎_elim (λ w. inl (suc w.0, omega arith, w.2)) (λ w. inr (go v w)) (locate xs p d))
      (cases_eq (number x) p)
    where
      go : (number x ≡ p → ⊥) → ((k : ℕ) → k < length xs → number (get_or xs k d) ≡ p → ⊥) → (k : ℕ) → k < length (x ∷ xs) → number (get_or (x ∷ xs) k d) ≡ p → ⊥
      go v w zero a e = v e
      go v w (suc k) a e = w k (omega arith) e

  module _ {K : Type 0} (key : X → K) where
    abbrev found : List X → ℕ → Option K
    found xs p = specs.found number key xs p

    pub found_here : (x : X) (xs : List X) (p : ℕ) → number x ≡ p → found (x ∷ xs) p ≡ Some (key x)
    found_here x xs p is = ap (λ b. cond b (Some (key x)) (found xs p)) (eq-eqb (number x) p is)

    pub found_passed : (x : X) (xs : List X) (p : ℕ) → (number x ≡ p → ⊥) → found (x ∷ xs) p ≡ found xs p
    found_passed x xs p ne = ap (λ b. cond b (Some (key x)) (found xs p)) (ne_eqb (number x) p ne)

    pub found_at : (xs : List X) → Apart xs → (d : X) (k : ℕ) → k < length xs → found xs (number (get_or xs k d)) ≡ Some (key (get_or xs k d))
    found_at [] h d k a = absurd (omega arith)
    found_at (x ∷ xs) h d zero a = found_here x xs (number x) refl
    found_at (x ∷ xs) h d (suc k) a = found_passed x xs _ (λ p. apart_head x xs h d k (omega arith) (sym p)) ∙ found_at xs (apart_tail x xs h) d k (omega arith)

    -- the first place of the number p
    pub found_first : (xs : List X) (p : ℕ) (d : X) (k : ℕ) → k < length xs → number (get_or xs k d) ≡ p → ((j : ℕ) → j < k → number (get_or xs j d) ≡ p → ⊥) → found xs p ≡ Some (key (get_or xs k d))
    found_first [] p d k a is before = absurd (omega arith)
    found_first (x ∷ xs) p d zero a is before = found_here x xs p is
    found_first (x ∷ xs) p d (suc k) a is before = found_passed x xs p (before zero (omega arith)) ∙ found_first xs p d k (omega arith) is (λ j l. before (suc j) (omega arith))

    pub found_none : (xs : List X) (p : ℕ) (d : X) → ((k : ℕ) → k < length xs → number (get_or xs k d) ≡ p → ⊥) → found xs p ≡ None
    found_none [] p d h = refl
    found_none (x ∷ xs) p d h = found_passed x xs p (h zero (omega arith)) ∙ found_none xs p d (λ k a. h (suc k) (omega arith))

    same_found : (xs ys : List X) → IsPermutation xs ys → Apart xs → X → (p : ℕ) → found ys p ≡ found xs p
    same_found xs ys s h d p = ⊎_elim
        (λ (w : Place xs p d).
        let x = get_or xs w.0 d in
        let in' : Has ys x = has_shuffled xs ys x s (has_get_or xs w.0 d w.1) in
        let is = in'.2 d in
        let there = found_at ys (apart_shuffled xs ys s h) d in'.0 in'.1 in
        let moved : found ys p ≡ Some (key (get_or ys in'.0 d)) = ap (found ys) (sym w.2 ∙ ap number (sym is)) ∙ there in
        moved ∙ ap (λ z. Some (key z)) is ∙ sym (found_at xs h d w.0 w.1) ∙ ap (found xs) w.2)
        (λ v. found_none ys p d (λ k a e.
        let in' : Has xs (get_or ys k d) = has_shuffled ys xs (get_or ys k d) (IsPermutation-sym xs ys s) (has_get_or ys k d a) in
        v in'.0 in'.1 (ap number (in'.2 d) ∙ e))
        ∙ sym (found_none xs p d v))
        (locate xs p d)

    -- the order of the elements does not matter
    pub found_shuffled : (xs ys : List X) → IsPermutation xs ys → Apart xs → (p : ℕ) → found ys p ≡ found xs p
    found_shuffled [] [] s h p = refl
    found_shuffled [] (y ∷ ys) s h p = let z = length_permutation [] (y ∷ ys) s in absurd (omega arith)
    found_shuffled (x ∷ xs) ys s h p = same_found (x ∷ xs) ys s h x p

    -- another element with the same number at i
    pub found_set : (xs : List X) (i : ℕ) (e : X) → i < length xs → ((d : X) → number (get_or xs i d) ≡ number e) → (p : ℕ) → (p ≡ number e → ⊥) → found (set xs i e) p ≡ found xs p
    found_set [] i e a is p ne = refl
    found_set (x ∷ xs) zero e a is p ne = found_passed e xs p (λ z. ne (sym z)) ∙ sym (found_passed x xs p (λ z. ne (sym z ∙ is e)))
    found_set (x ∷ xs) (suc i) e a is p ne = ap (λ o. cond (eqb (number x) p) (Some (key x)) o) (found_set xs i e (omega arith) is p ne)
