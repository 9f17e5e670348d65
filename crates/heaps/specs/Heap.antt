-- Binary heaps in lists, over any relation L: L x y says that x may stand over y.
use Rattle.std.specs.Prelude.{◌≡◌, ℕ, ◌-◌, ◌/◌, ◌<◌, List, length, get_or, ◌≢◌, slice_index_or}

-- the place above the place k
abbrev pub parent : ℕ → ℕ
parent k = (k - 1) / 2

module _ {X : Type 0} (L : X → X → Type 0) where
  -- each element may stand under its parent
  abbrev pub Heap : List X → Type 0
  Heap xs = (d : X) (k : ℕ) → 0 < k → k < length xs → L (slice_index_or xs (parent k) d) (slice_index_or xs k d)

  -- f tells what stands at each of n places. A heap but between i and its parent, which may stand over the children of i
  abbrev pub Up : (ℕ → X) → ℕ → ℕ → Type 0
  Up f n i = ((k : ℕ) → 0 < k → k < n → (k ≢ i) → L (f (parent k)) (f k))
      × ((k : ℕ) → 0 < i → 0 < k → k < n → parent k ≡ i → L (f (parent i)) (f k))

  -- a heap but between i and its children, over which its parent may stand
  abbrev pub Down : (ℕ → X) → ℕ → ℕ → Type 0
  Down f n i = ((k : ℕ) → 0 < k → k < n → (parent k ≢ i) → L (f (parent k)) (f k))
      × ((k : ℕ) → 0 < i → 0 < k → k < n → parent k ≡ i → L (f (parent i)) (f k))

  -- a heap in which the element at i may have to rise
  abbrev pub Rising : List X → ℕ → Type 0
  Rising xs i = (d : X) → Up (λ k. get_or xs k d) (length xs) i

  -- a heap in which the element at i may have to sink
  abbrev pub Sinking : List X → ℕ → Type 0
  Sinking xs i = (d : X) → Down (λ k. get_or xs k d) (length xs) i
