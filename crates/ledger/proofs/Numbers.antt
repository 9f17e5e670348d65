-- The checks of a dealing stand in the order of their numbers, which are below 12.
use Rattle.std.proofs.Common.{◌≡◌, ℕ, ◌≤◌, Bool, true, false, ◌↔◌, List, [], ◌∷◌, IfSome, Some, None, Option, sym, refl, ap, ◌∙◌, arith}
use Rattle.std.proofs.ByRecursion.{All-weaker}
use Rattle.std.specs.List.{AllByRecursion}
use Rattle.ledger.proofs.Checks.{no_refusal}
use Rattle.ledger.specs.Judging.{unless, refused, first, own_checks, checks, early, Consistent, Judged, met, contradicts, barred}
use Rattle.ledger.specs.Ledger.{Dealing, opening, offering, confirming, withdrawing, closing, reading_sheet, reading_roll, Ledger}
use Rattle.ledger.specs.Refusals.{refusal_number}
use Rattle.ledger.specs.Table.{cell}
use Rattle.ledger.specs.declared.refusal.Refusal.{Refusal}
use Rattle.ledger.specs.declared.refusal.Refusal.TheVariants.{BadProducts, ShortMemory, RowLength, TooManyRounds, PriceTooHigh, PriceFell, SlipMisfit, Contradiction}
use Rattle.ledger.specs.declared.state.Call.TheVariants as call
use Rattle.ledger.specs.declared.state.State.{State}
use Rattle.ledger.specs.declared.state.State.TheVariants.{Shut, Open, Trial, Done}
use Rattle.worth.specs.Group.{Group}

-- what holds of a refusal, if there is one
abbrev Told : (Refusal → Type 0) → Option Refusal → Type 0
Told P o = IfSome o P

told_weaker : (P Q : Refusal → Type 0) → ((r : Refusal) → P r → Q r) → (o : Option Refusal) → Told P o → Told Q o
told_weaker P Q f None h = tt
told_weaker P Q f (Some r) h = f r h

-- none, or a number from lo to hi
abbrev Between : ℕ → ℕ → Option Refusal → Type 0
Between lo hi = Told (λ r. (lo ≤ refusal_number r) × (refusal_number r ≤ hi))

-- numbers from lo to 11, each at least those before it
data InOrder : ℕ → List (Option Refusal) → Type 0 where
  ended : {lo : ℕ} → InOrder lo []
  then : {lo : ℕ} {o : Option Refusal} {os : List (Option Refusal)} (hi : ℕ) → (lo ≤ hi) × (hi ≤ 11) → Between lo hi o → InOrder hi os → InOrder lo (o ∷ os)

test_between : (b : Bool) (r : Refusal) (lo : ℕ) → lo ≤ refusal_number r → Between lo (refusal_number r) (unless b r)
test_between true r lo h = tt
test_between false r lo h = (h, omega arith)

open_cell : (s : State) → Between 4 5 (refused (cell s call.Open))
open_cell Shut = tt
open_cell Open = omega arith
open_cell Trial = omega arith
open_cell Done = omega arith

offer_cell : (s : State) → Between 3 11 (refused (cell s call.Offer))
offer_cell Shut = omega arith
offer_cell Open = tt
offer_cell Trial = omega arith
offer_cell Done = omega arith

confirm_cell : (s : State) → Between 2 10 (refused (cell s call.Confirm))
confirm_cell Shut = omega arith
confirm_cell Open = omega arith
confirm_cell Trial = tt
confirm_cell Done = omega arith

withdraw_cell : (s : State) → Between 2 10 (refused (cell s call.Withdraw))
withdraw_cell Shut = omega arith
withdraw_cell Open = omega arith
withdraw_cell Trial = tt
withdraw_cell Done = omega arith

close_cell : (s : State) → Between 2 9 (refused (cell s call.Close))
close_cell Shut = omega arith
close_cell Open = tt
close_cell Trial = omega arith
close_cell Done = tt

own_in_order : (l : Ledger) (d : Dealing) → InOrder 2 (own_checks l d)
own_in_order l (opening prices) =
    then 3 (omega arith) (test_between _ RowLength 2 (omega arith))
    (then 4 (omega arith) (test_between _ TooManyRounds 3 (omega arith))
    (then 5 (omega arith) (open_cell l.state)
    (then 6 (omega arith) (test_between _ PriceTooHigh 5 (omega arith))
    (then 7 (omega arith) (test_between _ PriceFell 6 (omega arith))
    ended))))
own_in_order l (offering row heap chain) =
    then 3 (omega arith) (test_between _ RowLength 2 (omega arith))
    (then 11 (omega arith) (offer_cell l.state)
    ended)
own_in_order l (confirming slip) =
    then 10 (omega arith) (confirm_cell l.state)
    (then 10 (omega arith) (test_between _ SlipMisfit 10 (omega arith))
    ended)
own_in_order l (withdrawing slip) =
    then 10 (omega arith) (withdraw_cell l.state)
    (then 10 (omega arith) (test_between _ SlipMisfit 10 (omega arith))
    ended)
own_in_order l closing = then 9 (omega arith) (close_cell l.state) ended
own_in_order l (reading_sheet memory) = ended
own_in_order l (reading_roll memory) = ended

checks_in_order : (l : Ledger) (d : Dealing) → InOrder 1 (checks l d)
checks_in_order l d =
    then 1 (omega arith) (test_between _ BadProducts 1 (omega arith))
    (then 2 (omega arith) (test_between _ ShortMemory 1 (omega arith))
    (own_in_order l d))

at_least : {lo : ℕ} {os : List (Option Refusal)} → InOrder lo os → AllByRecursion (Told (λ s. lo ≤ refusal_number s)) os
at_least ended = tt
at_least (then {o = o} {os = os} hi up here rest) =
    (told_weaker _ _ (λ r b. b.0) o here, All-weaker _ _ (λ p. told_weaker _ _ (λ r b. omega arith) p) os (at_least rest))

first_lowest : {lo : ℕ} (os : List (Option Refusal)) (r : Refusal) → InOrder lo os → first os ≡ Some r → AllByRecursion (Told (λ s. refusal_number r ≤ refusal_number s)) os
first_lowest [] r ended e = no_refusal r (sym e)
first_lowest (None ∷ os) r (then hi up here rest) e = (tt, first_lowest os r rest e)
first_lowest (Some q ∷ os) r (then hi up here rest) e =
    let is : q ≡ r = cc in
    let same = ap refusal_number is in
    (omega arith, All-weaker _ _ (λ p. told_weaker _ _ (λ s b. omega arith) p) os (at_least rest))

first_below : {lo : ℕ} (os : List (Option Refusal)) (r : Refusal) → InOrder lo os → first os ≡ Some r → refusal_number r ≤ 11
first_below [] r ended e = no_refusal r (sym e)
first_below (None ∷ os) r (then hi up here rest) e = first_below os r rest e
first_below (Some q ∷ os) r (then hi up here rest) e = let is : q ≡ r = cc in omega (arith, ap refusal_number is)

pub lowest : (l : Ledger) (d : Dealing) (r : Refusal) → early l d ≡ Some r → AllByRecursion (λ o. IfSome o (λ s. refusal_number r ≤ refusal_number s)) (checks l d)
lowest l d r e = first_lowest (checks l d) r (checks_in_order l d) e

module _ (G : Group) where
  only_contradicts : (l : Ledger) (d : Dealing) (o : Option Refusal) → o ≡ Some Contradiction → Judged G l d o → (early l d ≡ None) × ¬ Consistent G l d
  only_contradicts l d o is (met e c) = no_refusal Contradiction (sym is)
  only_contradicts l d o is (contradicts e c) = (e, c)
  only_contradicts l d o is (barred {r} e) = absurd (omega (arith, first_below (checks l d) Contradiction (checks_in_order l d) (e ∙ is)))

  -- a contradiction is told exactly when nothing earlier is and no worths explain
  pub contradiction : (l : Ledger) (d : Dealing) → Judged G l d (Some Contradiction) ↔ ((early l d ≡ None) × ¬ Consistent G l d)
  contradiction l d = (λ j. only_contradicts l d (Some Contradiction) refl j, λ h. contradicts h.0 h.1)
