-- How many numbers below n pass a test.
use Rattle.std.proofs.Common.{◌≡◌, ℕ, zero, suc, ◌+◌, ◌<◌, ◌≤◌, Bool, true, false, cond, not, ◌≢◌, refl, ap, ◌∙◌, subst, arith}
use native.Mathlib.Decide.{ℕ_discrete}
use Rattle.paths.specs.Counts.{tally}

-- tests that agree below n
pub tally_same : (f h : ℕ → Bool) (n : ℕ) → ((w : ℕ) → w < n → f w ≡ h w) → tally f n ≡ tally h n
unfolding tally
tally_same f h zero e = refl
tally_same f h (suc n) e = rw (e n (omega arith), tally_same f h n (λ w l. e w (omega arith)))

-- one number y that passed fails now
pub tally_less : (f h : ℕ → Bool) (y n : ℕ) → y < n → f y ≡ true → h y ≡ false → ((w : ℕ) → w < n → w ≢ y → h w ≡ f w) → tally f n ≡ tally h n + 1
unfolding tally
tally_less f h y zero l a b e = absurd (omega arith)
tally_less f h y (suc n) l a b e = elim (ℕ_discrete n y) [
  | yes q ↦ let s = tally_same h f n (λ w k. e w (omega arith) (omega arith)) in rw (q, a, b, ← q, s) (omega arith)
  | no q ↦ let r = tally_less f h y n (omega arith) a b (λ w k. e w (omega arith)) in rw (r, e n (omega arith) q) (omega arith)
]

-- those that pass and those that fail
pub tally_not : (f : ℕ → Bool) (n : ℕ) → tally f n + tally (λ w. not (f w)) n ≡ n
unfolding tally
tally_not f zero = refl
tally_not f (suc n) = go (f n) (tally_not f n)
  where
    go : (b : Bool) → tally f n + tally (λ w. not (f w)) n ≡ n → (cond b 1 0 + tally f n) + (cond (not b) 1 0 + tally (λ w. not (f w)) n) ≡ suc n
    go true k = omega arith
    go false k = omega arith

pub tally_le : (f : ℕ → Bool) (n : ℕ) → tally f n ≤ n
unfolding tally
tally_le f zero = omega arith
tally_le f (suc n) = go (f n) (tally_le f n)
  where
    go : (b : Bool) → tally f n ≤ n → cond b 1 0 + tally f n ≤ suc n
    go true k = omega arith
    go false k = omega arith

pub tally_all : (f : ℕ → Bool) (n : ℕ) → ((w : ℕ) → w < n → f w ≡ true) → tally f n ≡ n
unfolding tally
tally_all f zero e = refl
tally_all f (suc n) e = let r = tally_all f n (λ w l. e w (omega arith)) in rw (e n (omega arith), r) (omega arith)

pub tally_none : (n : ℕ) → tally (λ v. false) n ≡ 0
unfolding tally
tally_none zero = refl
tally_none (suc n) = rw (tally_none n) refl

pub tally_zero : (f : ℕ → Bool) (n : ℕ) → tally f n ≡ 0 → (w : ℕ) → w < n → f w ≡ true → ⊥
unfolding tally
tally_zero f zero e w l h = omega arith
tally_zero f (suc n) e w l h = elim (ℕ_discrete w n) [
  | yes q ↦ let g : f n ≡ true = subst (λ v. f v ≡ true) q h in let k : ◌≡◌ {A = ℕ} (cond (f n) 1 0) 1 = rw g refl in omega arith
  | no q ↦ tally_zero f n (omega arith) w (omega arith) h
]

-- one more number that does not pass
pub tally_skip : (f : ℕ → Bool) (n : ℕ) → f n ≡ false → tally f (n + 1) ≡ tally f n
unfolding tally
tally_skip f n e =
    let next : n + 1 ≡ suc n = omega arith in
    ap (tally f) next ∙ rw e (omega arith)
