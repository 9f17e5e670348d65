-- Least and greatest elements: at most one, and one in every list that is not empty.
use Rattle.std.proofs.Common.{◌≡◌, List, [], ◌∷◌, sym, refl, inl, inr}
use mathlib.Core.List.Memᴰ
use Rattle.worth.specs.Group.{Group, Laws}
use Rattle.worth.specs.Least.{Least, Greatest, Among}
use Rattle.worth.proofs.Orders.{le_of_eq, le_trans, le_antisym, le_total}

module _ (G : Group) (L : Laws G) where
  open G use {Carrier}

  pub least_unique : (P : Carrier → Type 0) (x y : Carrier) → Least G P x → Least G P y → x ≡ y
  least_unique P x y h k = le_antisym G L x y (h.least y k.has) (k.least x h.has)

  pub greatest_unique : (P : Carrier → Type 0) (x y : Carrier) → Greatest G P x → Greatest G P y → x ≡ y
  greatest_unique P x y h k = le_antisym G L x y (k.greatest x h.has) (h.greatest y k.has)

  -- one more element, where the least of the others is known
  least_more : (x y : Carrier) (xs : List Carrier) → Least G (Among xs) y → (z : Carrier) × Least G (Among (x ∷ xs)) z
  least_more x y xs h = elim (le_total G L x y) [
    | inl k ↦ (
      x,
      record {
        has = Memᴰ.head refl;
        least = λ z m. elim (Memᴰ.cases_cons m) [ inl e ↦ le_of_eq G L (sym e) | inr n ↦ le_trans G L x y z k (h.least z n) ];
      },
    )
    | inr k ↦ (
      y,
      record {
        has = Memᴰ.tail h.has;
        least = λ z m. elim (Memᴰ.cases_cons m) [ inl e ↦ rw e k | inr n ↦ h.least z n ];
      },
    )
  ]

  -- the least element of a list
  pub least_of : (x : Carrier) (xs : List Carrier) → (y : Carrier) × Least G (Among (x ∷ xs)) y
  least_of x [] = (x, record { has = Memᴰ.head refl; least = λ z m. le_of_eq G L (sym (Memᴰ.eq_of_singleton m)) })
  least_of x (w ∷ ws) = let rest = least_of w ws in least_more x rest.0 (w ∷ ws) rest.1

  -- one more element, where the greatest of the others is known
  greatest_more : (x y : Carrier) (xs : List Carrier) → Greatest G (Among xs) y → (z : Carrier) × Greatest G (Among (x ∷ xs)) z
  greatest_more x y xs h = elim (le_total G L y x) [
    | inl k ↦ (
      x,
      record {
        has = Memᴰ.head refl;
        greatest = λ z m. elim (Memᴰ.cases_cons m) [ inl e ↦ le_of_eq G L e | inr n ↦ le_trans G L z y x (h.greatest z n) k ];
      },
    )
    | inr k ↦ (
      y,
      record {
        has = Memᴰ.tail h.has;
        greatest = λ z m. elim (Memᴰ.cases_cons m) [ inl e ↦ rw e k | inr n ↦ h.greatest z n ];
      },
    )
  ]

  -- the greatest element of a list
  pub greatest_of : (x : Carrier) (xs : List Carrier) → (y : Carrier) × Greatest G (Among (x ∷ xs)) y
  greatest_of x [] = (x, record { has = Memᴰ.head refl; greatest = λ z m. le_of_eq G L (Memᴰ.eq_of_singleton m) })
  greatest_of x (w ∷ ws) = let rest = greatest_of w ws in greatest_more x rest.0 (w ∷ ws) rest.1
