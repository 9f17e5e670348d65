-- What is found after an element is lowered, added or taken out, and the others are shuffled.
use Rattle.std.proofs.Common.{◌≡◌, ℕ, suc, ◌<◌, List, [], ◌∷◌, ◌++◌, length, get_or, set, Some, None, Option, sym, refl, ap, ◌∙◌, subst₂, ⊎_elim, arith, length-set}
use Rattle.std.proofs.lemmas.List.{get_or-set_same}
use Rattle.std.proofs.ByRecursion.{has_get_or, has_shuffled}
use Rattle.std.proofs.lemmas.List.Sorted.{IsPermutation-sym, IsPermutation-trans, IsPermutation-to_front}
use Rattle.std.specs.List.{ContainsAt as Has}
use Rattle.std.specs.List.Sorted.{IsPermutation}
use Rattle.heaps.specs.Heap.{Heap}
use Rattle.heaps.specs.Found as specs
use Rattle.heaps.proofs.Found.{Place, locate, apart_head, apart_tail, apart_cons, apart_set, apart_shuffled, found_here, found_passed, found_at, found_none, found_set, found_shuffled}
use Rattle.heaps.proofs.Sift.{top}

module _ {X K : Type 0} (number : X → ℕ) (key : X → K) where
  abbrev Apart : List X → Type 0
  Apart xs = specs.Apart number xs

  abbrev found : List X → ℕ → Option K
  found xs p = specs.found number key xs p

  -- ys holds e, and what xs holds of other numbers
  pub record Stored (xs ys : List X) (e : X) : Type 0 where
    pub apart : Apart ys
    pub here : found ys (number e) ≡ Some (key e)
    pub others : (p : ℕ) → (p ≡ number e → ⊥) → found ys p ≡ found xs p

  -- e in the place of the element with its number
  pub set_stores : (xs ys : List X) (i : ℕ) (e : X) → Apart xs → i < length xs → ((d : X) → number (get_or xs i d) ≡ number e) → IsPermutation (set xs i e) ys → Stored xs ys e
  set_stores xs ys i e h in' is s =
      let zs = set xs i e in
      let again = apart_set number xs i e in' is h in
      let same = found_shuffled number key zs ys s again in
      let at = get_or-set_same xs i e e in' in
      let long : length zs ≡ length xs = length-set xs i e in
      let new : found zs (number e) ≡ Some (key e) = ap (λ y. found zs (number y)) (sym at) ∙ found_at number key zs again e i (omega arith) ∙ ap (λ y. Some (key y)) at in
      record {
        apart = apart_shuffled number zs ys s again;
        here = same (number e) ∙ new;
        others = λ p ne. same p ∙ found_set number key xs i e in' is p ne;
      }

  -- e behind the others, which lack its number
  pub push_stores : (xs ys : List X) (e : X) → Apart xs → specs.Lacks number xs (number e) → IsPermutation (xs ++ e ∷ []) ys → Stored xs ys e
  push_stores xs ys e h out s =
      let t : IsPermutation (e ∷ xs) ys = IsPermutation-trans (e ∷ xs) (xs ++ e ∷ []) ys (IsPermutation-sym (xs ++ e ∷ []) (e ∷ xs) (IsPermutation-to_front xs e)) s in
      let all = apart_cons number e xs h out in
      let same = found_shuffled number key (e ∷ xs) ys t all in
      record {
        apart = apart_shuffled number (e ∷ xs) ys t all;
        here = same (number e) ∙ found_here number key e xs (number e) refl;
        others = λ p ne. same p ∙ found_passed number key e xs p (λ z. ne (sym z));
      }

  -- ys holds what xs holds but e
  pub record Taken (xs ys : List X) (e : X) : Type 0 where
    pub apart : Apart ys
    pub gone : found ys (number e) ≡ None
    pub others : (p : ℕ) → (p ≡ number e → ⊥) → found ys p ≡ found xs p

  pub taken : (xs ys : List X) (e : X) → Apart xs → IsPermutation xs (e ∷ ys) → Taken xs ys e
  taken xs ys e h s =
      let all = apart_shuffled number xs (e ∷ ys) s h in
      let same = found_shuffled number key xs (e ∷ ys) s h in
      record {
        apart = apart_tail number e ys all;
        gone = found_none number key ys (number e) e (apart_head number e ys all e);
        others = λ p ne. sym (found_passed number key e ys p (λ z. ne (sym z))) ∙ same p;
      }

  -- The top of a heap may stand over each element that is found once it is out.
  module _ (L : X → X → Type 0) (same : (x : X) → L x x) (chain : (x y z : X) → L x y → L y z → L x z) where
    pub top_over : (xs ys : List X) (e : X) → Apart xs → Heap L xs → e ≡ get_or xs 0 e → IsPermutation xs (e ∷ ys) → (p : ℕ) (k : K) → found ys p ≡ Some k → (y : X) × (number y ≡ p) × (key y ≡ k) × L e y
    top_over xs ys e h heap first s p k is = ⊎_elim
        (λ (w : Place number ys p e).
        let all = apart_shuffled number xs (e ∷ ys) s h in
        let y = get_or ys w.0 e in
        let e' : Some (key y) ≡ Some k = sym (found_at number key ys (apart_tail number e ys all) e w.0 w.1) ∙ ap (found ys) w.2 ∙ is in
        let z : key y ≡ k = cc in
        let in' : Has xs y = has_shuffled (e ∷ ys) xs y (IsPermutation-sym xs (e ∷ ys) s) (has_get_or (e ∷ ys) (suc w.0) e (omega arith)) in
        let over : L (get_or xs 0 e) (get_or xs in'.0 e) = top L same chain (λ j. get_or xs j e) (length xs) (heap e) in'.0 in'.0 (omega arith) in'.1 in
        (y, w.2, z, subst₂ L (sym first) (in'.2 e) over))
        (λ v. let z : None ≡ Some k = sym (found_none number key ys p e v) ∙ is in let no : ◌≡◌ {A = ℕ} 0 1 = cc in absurd (omega arith))
        (locate number ys p e)
