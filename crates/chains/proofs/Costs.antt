-- Laws of cost, from its text; everything else rests on these alone.
use Rattle.std.proofs.Common.{◌≡◌, ℕ, ◌+◌, ◌*◌, ◌^◌, ◌<◌, ◌≤◌, min, List, [], ◌∷◌, length, get_or, take, drop, sym, refl, ap, ◌∙◌, inl, inr, arith}
use Rattle.std.proofs.lemmas.Nat.{mul-le}
use Rattle.std.proofs.lemmas.List.{drop_all, drop_more, get_or-take, length-take, take_all}
use Rattle.std.proofs.lemmas.Bool.{cases_lt}
use Rattle.std.specs.List.{AllByRecursion}
use Rattle.chains.specs.Rounds.{Package, Prices}
use Rattle.chains.specs.Rows.{cost}

-- the next product
pub cost_more : (quantities prices : List ℕ) (i : ℕ) → i < length quantities → i < length prices
    → cost (drop i quantities) (drop i prices) ≡ get_or quantities i 0 * get_or prices i 0 + cost (drop (i + 1) quantities) (drop (i + 1) prices)
unfolding cost
cost_more quantities prices i h k = rw (drop_more quantities i 0 h, drop_more prices i 0 k) refl

-- no product is left
pub cost_end : (quantities prices : List ℕ) (i : ℕ) → length quantities ≤ i → cost (drop i quantities) (drop i prices) ≡ 0
unfolding cost
cost_end quantities prices i h = rw (drop_all i quantities h) refl

-- the first n of 16 cells, where a count above 16 takes them all
pub first_cells : (cells : List ℕ) (n k : ℕ) → length cells ≡ 16 → k ≡ min n 16 → take k cells ≡ take n cells
first_cells cells n k long e = elim (cases_lt n 16) [
  | inl few ↦ ap (λ m. take m cells) (omega arith)
  | inr many ↦ take_all k cells (omega arith) ∙ sym (take_all n cells (omega arith))
]

-- the next product of rows that are the first n of 16 cells
pub cost_next : (quantities prices : List ℕ) (n i : ℕ) → length quantities ≡ 16 → length prices ≡ 16 → i < min n 16
    → cost (drop i (take n quantities)) (drop i (take n prices))
    ≡ get_or quantities i 0 * get_or prices i 0 + cost (drop (i + 1) (take n quantities)) (drop (i + 1) (take n prices))
cost_next quantities prices n i lq lp h =
    let q = get_or-take n quantities i 0 (omega arith) in
    let p = get_or-take n prices i 0 (omega arith) in
    let rest = cost (drop (i + 1) (take n quantities)) (drop (i + 1) (take n prices)) in
    cost_more (take n quantities) (take n prices) i (omega (arith, length-take n quantities)) (omega (arith, length-take n prices))
    ∙ ap (λ x. x * get_or (take n prices) i 0 + rest) q ∙ ap (λ x. get_or quantities i 0 * x + rest) p

-- a cost is at most as many times 255 * 2 ^ 32 as there are products
cost_each : (x prices : List ℕ) → AllByRecursion (λ q. q ≤ 255) x → AllByRecursion (λ p. p < 2 ^ 32) prices → cost x prices ≤ length x * (255 * 2 ^ 32)
unfolding cost
cost_each [] prices hx hp = omega arith
cost_each (q ∷ x) [] hx hp = omega arith
cost_each (q ∷ x) (p ∷ prices) hx hp =
    let one = mul-le q p 255 (2 ^ 32) hx.0 (omega (arith, hp.0)) in
    let more = cost_each x prices hx.1 hp.1 in
    omega arith

-- a cost is never above 2 ^ 44
pub cost_bound : (n : ℕ) (x prices : List ℕ) → n ≤ 16 → Package n x → Prices n prices → cost x prices ≤ 2 ^ 44
cost_bound n x prices few hx hp = let each = cost_each x prices hx.1 hp.1 in omega (arith, hx.0, each)
