-- The least and the greatest, where one value v more is allowed.
use Rattle.std.proofs.Common.{◌≡◌, ◌⊎◌, sym, inl, inr}
use Rattle.worth.specs.Group.{Group, Laws}
use Rattle.worth.specs.Says.{AtMost}
use Rattle.worth.specs.Least.{Least, Greatest}
use Rattle.worth.proofs.Orders.{le_of_eq, le_trans}

module _ (G : Group) (L : Laws G) (P Q : G.Carrier → Type 0) (v : G.Carrier) (split : (y : G.Carrier) → Q y → P y ⊎ (y ≡ v)) (x : G.Carrier) where
  pub least_kept : ((y : G.Carrier) → P y → Q y) → Least G P x → AtMost G x v → Least G Q x
  least_kept old h k = record { has = old x h.has; least = λ y q. elim (split y q) [ inl p ↦ h.least y p | inr e ↦ rw e k ] }

  pub least_lowered : Q v → Least G P x → AtMost G v x → Least G Q v
  least_lowered new h k = record { has = new; least = λ y q. elim (split y q) [ inl p ↦ le_trans G L v x y k (h.least y p) | inr e ↦ le_of_eq G L (sym e) ] }

  pub greatest_kept : ((y : G.Carrier) → P y → Q y) → Greatest G P x → AtMost G v x → Greatest G Q x
  greatest_kept old h k = record { has = old x h.has; greatest = λ y q. elim (split y q) [ inl p ↦ h.greatest y p | inr e ↦ rw e k ] }

  pub greatest_raised : Q v → Greatest G P x → AtMost G x v → Greatest G Q v
  greatest_raised new h k = record { has = new; greatest = λ y q. elim (split y q) [ inl p ↦ le_trans G L y x v (h.greatest y p) k | inr e ↦ le_of_eq G L e ] }
