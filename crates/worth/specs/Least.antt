-- Least and greatest elements.
use Rattle.std.specs.Prelude.{List}
use mathlib.Core.List.{Memᴰ}
use Rattle.worth.specs.Group.{Group}
use Rattle.worth.specs.Says.{AtMost}

-- x has P, and is at most every y that has it
pub record Least (G : Group) (P : G.Carrier → Type 0) (x : G.Carrier) : Type 0 where
  pub has : P x
  pub least : (y : G.Carrier) → P y → AtMost G x y

-- x has P, and every y that has it is at most x
pub record Greatest (G : Group) (P : G.Carrier → Type 0) (x : G.Carrier) : Type 0 where
  pub has : P x
  pub greatest : (y : G.Carrier) → P y → AtMost G y x

-- x is an element of the list
abbrev pub Among : {X : Type 0} → List X → X → Type 0
Among xs x = Memᴰ x xs
