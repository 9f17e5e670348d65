-- A dealing meets no early refusal exactly when it passes every check.
use Rattle.std.proofs.Common.{◌≡◌, ℕ, ◌≤◌, Bool, true, false, ltb, List, [], ◌∷◌, Some, None, Option, refl, arith}
use Rattle.std.proofs.lemmas.Bool.{ltb-false, le-ltb, or_parts, or_from}
use Rattle.std.specs.List.{AllByRecursion}
use Rattle.ledger.specs.Judging.{first, unless, too_high, early, Consistent, Judged, met}
use Rattle.ledger.specs.Ledger.{Dealing, Ledger}
use Rattle.ledger.specs.declared.refusal.Refusal.{Refusal}
use Rattle.worth.specs.Group.{Group}

-- a refusal is not none
pub no_refusal : {X : Type 0} (r : Refusal) → ◌≡◌ {A = Option Refusal} (Some r) None → X
no_refusal r h = let z : ◌≡◌ {A = ℕ} 0 1 = cc in absurd (omega arith)

-- every check on a list is passed
abbrev pub Passed : List (Option Refusal) → Type 0
Passed = AllByRecursion (λ o. o ≡ None)

pub first_passed : (os : List (Option Refusal)) → first os ≡ None → Passed os
first_passed [] h = tt
first_passed (None ∷ os) h = (refl, first_passed os h)
first_passed (Some r ∷ os) h = no_refusal r h

pub passed_first : (os : List (Option Refusal)) → Passed os → first os ≡ None
passed_first [] h = refl
passed_first (None ∷ os) h = passed_first os h.1
passed_first (Some r ∷ os) h = h.0

pub test_passed : (b : Bool) (r : Refusal) → unless b r ≡ None → b ≡ true
test_passed true r h = refl
test_passed false r h = no_refusal r h

pub passes : (b : Bool) (r : Refusal) → b ≡ true → unless b r ≡ None
passes b r h = rw h refl

-- no price is too high
pub low_bounded : (prices : List ℕ) → too_high prices ≡ false → AllByRecursion (λ p. p ≤ 1000000000) prices
low_bounded [] h = tt
low_bounded (p ∷ prices) h = let e = or_parts (ltb 1000000000 p) (too_high prices) h in (ltb-false 1000000000 p e.0, low_bounded prices e.1)

pub bounded_low : (prices : List ℕ) → AllByRecursion (λ p. p ≤ 1000000000) prices → too_high prices ≡ false
bounded_low [] h = refl
bounded_low (p ∷ prices) h = or_from (ltb 1000000000 p) (too_high prices) (le-ltb 1000000000 p h.0) (bounded_low prices h.1)

module _ (G : Group) where
  pub met_passed : {l : Ledger} {d : Dealing} → Judged G l d None → (early l d ≡ None) × Consistent G l d
  met_passed (met e c) = (e, c)
