-- Steps are small, whatever their places and rounds.
use Rattle.std.proofs.Common.{◌≡◌, ℕ, zero, suc, ◌^◌, ◌<◌, ◌≤◌, List, [], ◌∷◌, length, pos, ◌-ℤ◌, nat_abs, IfSome, Some, None, Option, refl, ap, ◌∙◌, subst, inl, inr, arith}
use Rattle.std.proofs.lemmas.List.{get_or_past}
use Rattle.std.proofs.lemmas.Int.{ints}
use Rattle.std.proofs.lemmas.Bool.{cases_lt}
use Rattle.chains.proofs.Costs.{cost_bound}
use Rattle.chains.proofs.Places.{on_roll}
use Rattle.chains.proofs.Rolls.{roll_stood}
use Rattle.chains.specs.Places.{package_at, graph_of}
use Rattle.chains.specs.Rounds.{Round, round, Stood, roll, Package, Prices, Sale}
use Rattle.chains.specs.Rows.{cost}
use Rattle.chains.specs.Steps.{step_at}
use Rattle.paths.specs.Searching.{SmallSteps}
use Rattle.worth.specs.Group.{Group, Laws}

-- the rows of a sale, round by round
sale_prices : (n : ℕ) (R : List Round) → Sale n R → (t : ℕ) → t < length R → Prices n (round R t).prices
sale_prices n [] sale t h = absurd (omega arith)
sale_prices n (r ∷ R) sale zero h = sale.0.0
sale_prices n (r ∷ R) sale (suc t) h = sale_prices n R sale.1 t (omega arith)

bid_package : (n : ℕ) (b : Option (List ℕ)) (x : List ℕ) → b ≡ Some x → IfSome b (Package n) → Package n x
bid_package n b x e h = subst (λ o. IfSome o (Package n)) e h

sale_package : (n : ℕ) (R : List Round) → Sale n R → (t : ℕ) (x : List ℕ) → Stood R t x → Package n x
sale_package n [] sale t x h = let z : ◌≡◌ {A = ℕ} 0 1 = cc in absurd (omega arith)
sale_package n (r ∷ R) sale zero x h = bid_package n r.bid x h sale.0.1
sale_package n (r ∷ R) sale (suc t) x h = sale_package n R sale.1 t x h

-- nothing costs nothing, and no prices are no cost
cost_of_none : (prices : List ℕ) → cost [] prices ≡ 0
unfolding cost
cost_of_none prices = refl

cost_at_none : (x : List ℕ) → cost x [] ≡ 0
unfolding cost
cost_at_none [] = refl
cost_at_none (q ∷ x) = refl

module _ (n : ℕ) (few : n ≤ 16) (R : List Round) (sale : Sale n R) where
  cost_small : (a t : ℕ) → cost (package_at R a) (round R t).prices ≤ 2 ^ 44
  cost_small a t = elim (cases_lt a (length (roll R))) [
    | inl on ↦ elim (cases_lt t (length R)) [
      | inl l ↦
          let s = roll_stood R (package_at R a) (on_roll R a on) in
          cost_bound n (package_at R a) (round R t).prices few (sale_package n R sale s.0 (package_at R a) s.1) (sale_prices n R sale t l)
      | inr l ↦
          let none : cost (package_at R a) (round R t).prices ≡ 0 = ap (λ r. cost (package_at R a) r.prices) (get_or_past R t (record { prices = []; bid = None }) l) ∙ cost_at_none (package_at R a) in
          omega arith
    ]
    | inr off ↦
        let none : cost (package_at R a) (round R t).prices ≡ 0 = ap (λ x. cost x (round R t).prices) (get_or_past (roll R) a [] off) ∙ cost_of_none (round R t).prices in
        omega arith
  ]

  module _ (G : Group) (L : Laws G) where
    step_small : (x y prices : List ℕ) → cost x prices ≤ 2 ^ 44 → cost y prices ≤ 2 ^ 44 → G.size (step_at G x y prices) ≤ 2 ^ 45
    unfolding step_at
    step_small x y prices hx hy =
        let d = pos (cost y prices) -ℤ pos (cost x prices) in
        let far : nat_abs d ≤ 2 ^ 44 = omega (arith, ints) in
        let more = L.amount_size d (omega arith) in
        let less = L.notch_size in
        let neg = L.size_neg G.notch in
        let sum = L.size_add (G.amount d) (G.neg G.notch) in
        omega arith

    pub small_steps : SmallSteps G (graph_of G R)
    small_steps a b t = step_small (package_at R a) (package_at R b) (round R t).prices (cost_small a t) (cost_small b t)
