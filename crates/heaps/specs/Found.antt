-- A list read as a finite map: each element has a number, by which it is found, and a key.
use Rattle.std.specs.Prelude.{◌≡◌, ℕ, ◌<◌, cond, List, [], ◌∷◌, length, Some, None, Option, ◌==◌, ◌≢◌, slice_index_or}

-- the key of the first element with the number p
abbrev pub found : {X K : Type 0} (number : X → ℕ) (key : X → K) → List X → ℕ → Option K
found number key [] p = None
found number key (x ∷ xs) p = cond (number x == p) (Some (key x)) (found number key xs p)

-- no two elements have one number
abbrev pub Apart : {X : Type 0} (number : X → ℕ) → List X → Type 0
Apart {X} number xs = (d : X) (i j : ℕ) → i < length xs → j < length xs → number (slice_index_or xs i d) ≡ number (slice_index_or xs j d) → i ≡ j

-- none of the first n elements has the number p
abbrev pub Absent : {X : Type 0} (number : X → ℕ) → List X → ℕ → ℕ → Type 0
Absent {X} number xs n p = (d : X) (k : ℕ) → k < n → number (slice_index_or xs k d) ≢ p

-- no element has it
abbrev pub Lacks : {X : Type 0} (number : X → ℕ) → List X → ℕ → Type 0
Lacks number xs p = Absent number xs (length xs) p
