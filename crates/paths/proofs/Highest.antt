-- The greatest of finitely many values, one after the other.
use Rattle.std.proofs.Common.{◌≡◌, ℕ, zero as nought, suc, ◌+◌, ◌<◌, ◌⊎◌, refl, ap, ◌∙◌, inl, inr, add-one, arith}
use native.Mathlib.Decide.{ℕ_discrete}
use Rattle.worth.specs.Group.{Group, Laws}
use Rattle.worth.specs.Says.{AtMost}
use Rattle.worth.specs.Least.{Greatest}
use Rattle.worth.proofs.Orders.{le_refl, le_total}
use Rattle.paths.specs.Values.{ValueBelow}
use Rattle.paths.proofs.OneMore.{greatest_kept, greatest_raised}

module _ (G : Group) (L : Laws G) (f : ℕ → G.Carrier) where
  open G use {Carrier}

  -- r is the greatest of f 0, .., f (n - 1)
  abbrev Highest : ℕ → Carrier → Type 0
  Highest n r = Greatest G (ValueBelow f n) r

  pub highest_one : Highest 1 (f 0)
  highest_one = record {
    has = (0, omega arith, refl);
    greatest = λ y v. let e : v.0 ≡ 0 = omega (arith, v.1) in rw (v.2, e) (le_refl G L (f 0));
  }

  old_or_last : (n : ℕ) (y : Carrier) → ValueBelow f (n + 1) y → ValueBelow f n y ⊎ (y ≡ f n)
  old_or_last n y v = elim (ℕ_discrete v.0 n) [ yes e ↦ inr (v.2 ∙ ap f e) | no e ↦ inl (v.0, omega (arith, v.1), v.2) ]

  -- one value more, which is no higher
  pub highest_kept : (n : ℕ) (r : Carrier) → Highest n r → AtMost G (f n) r → Highest (n + 1) r
  highest_kept n r h k = greatest_kept G L _ _ (f n) (old_or_last n) r (λ y v. (v.0, omega (arith, v.1), v.2)) h k

  -- or is
  pub highest_raised : (n : ℕ) (r : Carrier) → Highest n r → AtMost G r (f n) → Highest (n + 1) (f n)
  highest_raised n r h k = greatest_raised G L _ _ (f n) (old_or_last n) r (n, omega arith, refl) h k

  pub highest : (n : ℕ) → 0 < n → (r : Carrier) × Highest n r
  highest nought pos = absurd (omega arith)
  highest (suc nought) pos = (f 0, highest_one)
  highest (suc (suc n)) pos =
      let h = highest (suc n) (omega arith) in
      elim (le_total G L h.0 (f (suc n))) [
        | inl k ↦ (f (suc n), rw add-one at (highest_raised (suc n) h.0 h.1 k))
        | inr k ↦ (h.0, rw add-one at (highest_kept (suc n) h.0 h.1 k))
      ]
