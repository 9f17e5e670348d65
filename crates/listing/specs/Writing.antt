-- What writing a line into lent memory does.
use Rattle.std.specs.Prelude.{◌≡◌, ℕ, ◌+◌, ◌<◌, ◌≤◌, List, length, Some, None, Option}
use Rattle.tape.specs.Writing.{laid}

-- text was written into a line from a place on, and the place behind it is answered
abbrev pub Put : List ℕ → ℕ → List ℕ → ℕ → List ℕ → Type 0
Put before at text end after = (end ≡ at + length text) × (after ≡ laid before at text)

-- text was to be written from the start of memory that holds a line's 256 bytes: it is there, nothing else has changed,
-- and its length is answered; or the memory is shorter and has not changed
abbrev pub Lined : List ℕ → List ℕ → Option ℕ → List ℕ → Type 0
Lined before text (Some n) after = (256 ≤ length before) × (n ≤ 256) × (n ≡ length text) × (after ≡ laid before 0 text)
Lined before text None after = (length before < 256) × (after ≡ before)
