-- What writing into a lent buffer does.
use Rattle.std.specs.Prelude.{◌≡◌, ℕ, ◌+◌, ◌<◌, ◌≤◌, List, [], ◌∷◌, length, Some, None, Option, slice_set}

-- a buffer with bytes laid over it from a place on
abbrev pub laid : List ℕ → ℕ → List ℕ → List ℕ
laid buf at [] = buf
laid buf at (b ∷ bs) = laid (slice_set buf at b) (at + 1) bs

-- bytes were to be written into buf from a place on: they are there, nothing else has changed,
-- and the place behind them is answered; or the buffer is too short and has not changed
abbrev pub Wrote : List ℕ → ℕ → List ℕ → Option ℕ → List ℕ → Type 0
Wrote buf at bytes (Some end) after = (at + length bytes ≤ length buf) × (end ≡ at + length bytes) × (after ≡ laid buf at bytes)
Wrote buf at bytes None after = (length buf < at + length bytes) × (after ≡ buf)
