-- The steps of a sift, over lists.
use Rattle.std.proofs.Common.{◌≡◌, ℕ, ◌+◌, ◌-◌, ◌<◌, ◌≤◌, List, [], ◌∷◌, ◌++◌, length, get_or, take, set, sym, refl, ap, ◌∙◌, subst, subst₂, ⊎_elim, arith, length-append, length-set}
use Rattle.std.proofs.lemmas.List.{get_or-set_same, get_or-set_other, get_or_append_left, get_or-take, length-take-le, take_all, take_at, take_more, take_more_set}
use Rattle.std.proofs.lemmas.Bool.{cases_eq}
use Rattle.std.proofs.lemmas.List.Sorted.{IsPermutation-trans, IsPermutation-to_front, IsPermutation-cons, length_permutation}
use Rattle.std.specs.List.Sorted.{IsPermutation}
use Rattle.std.proofs.lemmas.List.Edits.{swapped_from_swap}
use Rattle.std.specs.List.{swap}
use Rattle.heaps.specs.Heap.{parent, Heap, Up, Down, Rising, Sinking}
use Rattle.heaps.proofs.Sift as sift

-- the last element is e
pub set_last : {X : Type 0} (xs : List X) (e : X) → 0 < length xs → set xs (length xs - 1) e ≡ take (length xs - 1) xs ++ e ∷ []
set_last xs e some =
    let n = length xs - 1 in
    let long : length (set xs n e) ≡ n + 1 = length-set xs n e ∙ omega arith in
    sym (take_all (n + 1) (set xs n e) (omega arith)) ∙ take_more_set xs n e (omega arith)

module _ {X : Type 0} (L : X → X → Type 0) where
  module _ (xs ys : List X) (i j : ℕ) (a : i < length xs) (b : j < length xs) (is : ys ≡ swap xs i j) (len : length ys ≡ length xs) where
    pub rise_step : ((x y z : X) → L x y → L y z → L x z) → 0 < j → i ≡ parent j → ((d : X) → L (get_or xs j d) (get_or xs i d)) → Rising L xs j → Rising L ys i
    rise_step chain pos p t u d = subst (λ n. Up L (λ k. get_or ys k d) n i) (sym len)
        (sift.up_step L chain (λ k. get_or xs k d) (λ k. get_or ys k d) (length xs) i j (swapped_from_swap xs ys i j d a b is) pos b p (t d) (u d))

    pub sink_step : 0 < j → parent j ≡ i → ((d : X) → L (get_or xs j d) (get_or xs i d)) → ((d : X) (k : ℕ) → 0 < k → k < length xs → parent k ≡ i → L (get_or xs j d) (get_or xs k d)) → Sinking L xs i → Sinking L ys j
    sink_step pos p t best u d = subst (λ n. Down L (λ k. get_or ys k d) n j) (sym len)
        (sift.down_step L (λ k. get_or xs k d) (λ k. get_or ys k d) (length xs) i j (swapped_from_swap xs ys i j d a b is) pos b p (t d) (best d) (u d))

  pub rise_rests : (xs : List X) (i : ℕ) → ((d : X) → 0 < i → L (get_or xs (parent i) d) (get_or xs i d)) → Rising L xs i → Heap L xs
  rise_rests xs i t u d = sift.up_rests L (λ k. get_or xs k d) (length xs) i (t d) (u d)

  pub sink_rests : (xs : List X) (i : ℕ) → ((d : X) (k : ℕ) → 0 < k → k < length xs → parent k ≡ i → L (get_or xs i d) (get_or xs k d)) → Sinking L xs i → Heap L xs
  sink_rests xs i over u d = sift.down_rests L (λ k. get_or xs k d) (length xs) i (over d) (u d)

  by : {a b x y : X} → a ≡ x → b ≡ y → L x y → L a b
  by p q h = subst₂ L (sym p) (sym q) h

  -- one more at the end
  rise_push : (xs : List X) (e : X) → Heap L xs → Rising L (xs ++ e ∷ []) (length xs)
  rise_push xs e h d =
      let long : length (xs ++ e ∷ []) ≡ length xs + 1 = length-append xs (e ∷ []) in (
        λ k a b ne. let in' : k < length xs = omega arith in by (get_or_append_left xs (e ∷ []) d (parent k) (omega arith)) (get_or_append_left xs (e ∷ []) d k in') (h d k a in'),
        λ k up a b p. absurd (omega arith),
      )

  -- the same, where a place for it is at hand
  pub rise_last : (xs : List X) (e : X) → 0 < length xs → Heap L (take (length xs - 1) xs) → Rising L (set xs (length xs - 1) e) (length xs - 1)
  rise_last xs e some h =
      let n = length xs - 1 in
      subst₂ (Rising L) (sym (set_last xs e some)) (length-take-le n xs (omega arith)) (rise_push (take n xs) e h)

  -- another at i, which may stand over the one that was there
  pub rise_set : ((x y z : X) → L x y → L y z → L x z) → (xs : List X) (i : ℕ) (e : X) → i < length xs → ((d : X) → L e (get_or xs i d)) → Heap L xs → Rising L (set xs i e) i
  rise_set chain xs i e in' over h d =
      let long : length (set xs i e) ≡ length xs = length-set xs i e in (
        λ k a b ne. ⊎_elim
            (λ (z : parent k ≡ i). by (ap (λ m. get_or (set xs i e) m d) z ∙ get_or-set_same xs i e d in') (get_or-set_other xs i k e d ne) (chain _ _ _ (over d) (by (ap (λ m. get_or xs m d) (sym z)) refl (h d k a (omega arith)))))
            (λ (v : parent k ≡ i → ⊥). by (get_or-set_other xs i (parent k) e d v) (get_or-set_other xs i k e d ne) (h d k a (omega arith)))
            (cases_eq (parent k) i),
        λ k up a b z. by (get_or-set_other xs i (parent i) e d (omega arith)) (get_or-set_other xs i k e d (omega arith))
            (chain _ _ _ (h d i up in') (by (ap (λ m. get_or xs m d) (sym z)) refl (h d k a (omega arith)))),
      )

  -- the last in the place of the first
  pub sink_last : (xs ys : List X) (n : ℕ) → length xs ≡ n + 1 → ys ≡ swap xs 0 n → length ys ≡ length xs → Heap L xs → Sinking L (take n ys) 0
  sink_last xs ys n long is len h d =
      let s = swapped_from_swap xs ys 0 n d (omega arith) (omega arith) is in
      let short : length (take n ys) ≡ n = length-take-le n ys (omega arith) in (
        λ k a b ne. by (get_or-take n ys (parent k) d (omega arith) ∙ s.2 (parent k) ne (omega arith)) (get_or-take n ys k d (omega arith) ∙ s.2 k (omega arith) (omega arith)) (h d k a (omega arith)),
        λ k up a b z. absurd (omega arith),
      )

module _ {X : Type 0} where
  -- the first is out, and what is left is in some order
  pub popped : (xs ys ts : List X) (x : X) (n : ℕ) → length xs ≡ n + 1 → ys ≡ swap xs 0 n → length ys ≡ length xs → x ≡ get_or xs 0 x → IsPermutation xs ys → IsPermutation (take n ys) ts → IsPermutation xs (x ∷ ts)
  popped xs ys ts x n long is len first s t =
      let w = swapped_from_swap xs ys 0 n x (omega arith) (omega arith) is in
      let last : get_or ys n x ≡ x = w.1 ∙ sym first in
      let whole : ys ≡ take n ys ++ x ∷ [] = sym (take_all (n + 1) ys (omega arith)) ∙ take_more ys n x (omega arith) ∙ ap (λ y. take n ys ++ y ∷ []) last in
      let P : List X → Type 0 = IsPermutation xs in
      IsPermutation-trans xs (take n ys ++ x ∷ []) (x ∷ ts) (subst P whole s)
      (IsPermutation-trans (take n ys ++ x ∷ []) (x ∷ take n ys) (x ∷ ts) (IsPermutation-to_front (take n ys) x) (IsPermutation-cons x (take n ys) ts t))

  -- the part before what was not lent
  pub taken_back : (ts rest : List X) (us : List X) (n : ℕ) → IsPermutation (take n us) ts → n ≤ length us → take n (ts ++ rest) ≡ ts
  taken_back ts rest us n s le = take_at ts rest n (length_permutation (take n us) ts s ∙ length-take-le n us le)
