-- How many elements with different numbers there can be.
use Rattle.std.proofs.Common.{◌≡◌, ℕ, zero, suc, ◌<◌, ◌≤◌, cond, eqb, ◌⊎◌, List, ◌∷◌, length, get_or, ap, inl, inr, ⊎_elim, arith}
use Rattle.std.proofs.lemmas.Bool.{cases_eq, eq-eqb, ne_eqb}
use Rattle.heaps.specs.Found.{Apart, Lacks}
use Rattle.heaps.proofs.Found.{apart_cons}

-- f without the value n, in the place of which it takes v
abbrev without : (ℕ → ℕ) → ℕ → ℕ → ℕ → ℕ
without f n v i = cond (eqb (f i) n) v (f i)

without_cases : (f : ℕ → ℕ) (n v i : ℕ) → ((f i ≡ n) × (without f n v i ≡ v)) ⊎ ((f i ≡ n → ⊥) × (without f n v i ≡ f i))
without_cases f n v i = ⊎_elim
    (λ (e : f i ≡ n). inl (e, ap (λ b. cond b v (f i)) (eq-eqb (f i) n e)))
    (λ (u : f i ≡ n → ⊥). inr (u, ap (λ b. cond b v (f i)) (ne_eqb (f i) n u)))
    (cases_eq (f i) n)

-- numbers below n that stand at m places, each at one, fill no more than n places
pigeonhole : (n m : ℕ) (f : ℕ → ℕ) → ((i : ℕ) → i < m → f i < n) → ((i j : ℕ) → i < m → j < m → f i ≡ f j → i ≡ j) → m ≤ n
pigeonhole n zero f low apart = omega arith
pigeonhole zero (suc m) f low apart = let l = low 0 (omega arith) in absurd (omega arith)
pigeonhole (suc n) (suc m) f low apart =
    let rest : m ≤ n = pigeonhole n m (without f n (f m)) low' apart' in
    omega arith
  where
    differ : (i j : ℕ) → i < suc m → j < suc m → (i ≡ j) ⊎ (f i ≡ f j → ⊥)
    differ i j a b = ⊎_elim (λ e. inl (apart i j a b e)) inr (cases_eq (f i) (f j))

    low' : (i : ℕ) → i < m → without f n (f m) i < n
    low' i a =
        let w = without_cases f n (f m) i in
        let l = low i (omega arith) in
        let last = low m (omega arith) in
        let d = differ i m (omega arith) (omega arith) in
        omega arith

    apart' : (i j : ℕ) → i < m → j < m → without f n (f m) i ≡ without f n (f m) j → i ≡ j
    apart' i j a b e =
        let u = without_cases f n (f m) i in
        let v = without_cases f n (f m) j in
        let x = differ i j (omega arith) (omega arith) in
        let y = differ i m (omega arith) (omega arith) in
        let z = differ j m (omega arith) (omega arith) in
        omega arith

module _ {X : Type 0} (number : X → ℕ) where
  -- where all numbers are below n, and that of e is none of them, there are fewer than n
  pub fewer : (xs : List X) (e : X) (n : ℕ) → Apart number xs → Lacks number xs (number e) → ((k : ℕ) → k < length xs → number (get_or xs k e) < n) → number e < n → length xs < n
  fewer xs e n h out low new =
      let more : length (e ∷ xs) ≤ n = pigeonhole n (length (e ∷ xs)) (λ i. number (get_or (e ∷ xs) i e)) at (apart_cons number e xs h out e) in
      omega arith
    where
      at : (i : ℕ) → i < length (e ∷ xs) → number (get_or (e ∷ xs) i e) < n
      at zero a = new
      at (suc i) a = low i (omega arith)
