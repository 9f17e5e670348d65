-- The worths that a search starts from.
use Rattle.std.specs.Prelude.{ℕ, ◌*◌, ◌^◌, ◌≤◌, List}
use Rattle.chains.specs.Places.{Earlier}
use Rattle.chains.specs.Rounds.{Round}
use Rattle.tables.specs.Known.{worths}
use Rattle.worth.specs.Group.{Group}

-- the worths of the packages that stood before the latest round are small
abbrev pub SmallBefore : (G : Group) {X : Type 0} → (X → G.Carrier) → List Round → List X → Type 0
SmallBefore G m R values = (s a : ℕ) → Earlier R s a → G.size (worths G m values a) ≤ 2 ^ 45 * 128
