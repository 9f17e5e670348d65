-- Rounds in which the same packages stood, at the same prices.
use Rattle.std.proofs.Common.{◌≡◌, ℕ, zero, suc, true, List, [], ◌∷◌, ◌++◌, None, sym, refl, ap, subst, arith}
use Rattle.chains.proofs.Rolls.{roll_round}
use Rattle.chains.specs.Chains.{Chain, stay, onward, Inner}
use Rattle.chains.specs.Rounds.{Round, round, Stood, listed, roll}
use Rattle.chains.specs.Steps.{step_at}
use Rattle.worth.specs.Group.{Group}

module _ (G : Group) (R S : List Round) (same_roll : roll S ≡ roll R) (there : (t : ℕ) (x : List ℕ) → Stood R t x → Stood S t x)
    (prices : (t : ℕ) (x : List ℕ) → Stood R t x → (round S t).prices ≡ (round R t).prices) where
  pub chain_there : {x y : List ℕ} {s : G.Carrier} → Chain G R x y s → Chain G S x y s
  chain_there stay = stay
  chain_there (onward {x = x} {y = y} {z = z} {s = s} t c stood on other) =
      subst (λ v. Chain G S x z (G.add s v)) (ap (step_at G y z) (prices t y stood))
      (onward t (chain_there c) (there t y stood) (subst (λ ys. listed ys z ≡ true) (sym same_roll) on) other)

module _ (G : Group) (R S : List Round) (same_roll : roll S ≡ roll R) (there : (t : ℕ) (x : List ℕ) → Stood R t x → Stood S t x)
    (back : (t : ℕ) (x : List ℕ) → Stood S t x → Stood R t x) (prices : (t : ℕ) (x : List ℕ) → Stood R t x → (round S t).prices ≡ (round R t).prices) where
  -- the inner worths are the same
  pub inner_there : (y : List ℕ) (g : G.Carrier) → Inner G R y g → Inner G S y g
  inner_there y g h = record {
    has = (h.has.0, chain_there G R S same_roll there prices h.has.1);
    least = λ s c. h.least s (c.0, chain_there G S R (sym same_roll) back (λ t x stood. sym (prices t x (back t x stood))) c.1);
  }

-- one more round, with no bid
module _ (prices : List ℕ) where
  pub opened_roll : (R : List Round) → roll (R ++ record { prices = prices; bid = None } ∷ []) ≡ roll R
  opened_roll R = roll_round R (record { prices = prices; bid = None })

  pub opened_stood : (R : List Round) (t : ℕ) (x : List ℕ) → Stood R t x → Stood (R ++ record { prices = prices; bid = None } ∷ []) t x
  opened_stood [] t x h = let z : ◌≡◌ {A = ℕ} 0 1 = cc in absurd (omega arith)
  opened_stood (r ∷ R) zero x h = h
  opened_stood (r ∷ R) (suc t) x h = opened_stood R t x h

  pub stood_opened : (R : List Round) (t : ℕ) (x : List ℕ) → Stood (R ++ record { prices = prices; bid = None } ∷ []) t x → Stood R t x
  stood_opened [] zero x h = let z : ◌≡◌ {A = ℕ} 0 1 = cc in absurd (omega arith)
  stood_opened [] (suc t) x h = let z : ◌≡◌ {A = ℕ} 0 1 = cc in absurd (omega arith)
  stood_opened (r ∷ R) zero x h = h
  stood_opened (r ∷ R) (suc t) x h = stood_opened R t x h

  pub opened_prices : (R : List Round) (t : ℕ) (x : List ℕ) → Stood R t x → (round (R ++ record { prices = prices; bid = None } ∷ []) t).prices ≡ (round R t).prices
  opened_prices [] t x h = let z : ◌≡◌ {A = ℕ} 0 1 = cc in absurd (omega arith)
  opened_prices (r ∷ R) zero x h = refl
  opened_prices (r ∷ R) (suc t) x h = opened_prices R t x h
