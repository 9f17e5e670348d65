-- The inner worths of a sale's packages as a program holds them, and what the sheet is computed from.
use Rattle.std.specs.Prelude.{◌≡◌, ℕ, ◌*◌, ◌^◌, ◌<◌, ◌≤◌, cond, List, [], map, length, take, Some, None, Option, slice_index_or}
use Rattle.chains.specs.Chains.{Inner}
use Rattle.chains.specs.Places.{package_at}
use Rattle.chains.specs.Rounds.{Round, Stood, roll}
use Rattle.chains.specs.Sheet.{paid, Rise, Sheet}
use Rattle.worth.specs.Group.{Group}
use Rattle.worth.specs.Least.{Greatest}

-- m is what the values mean
module _ (G : Group) {X : Type 0} (m : X → G.Carrier) where
  -- the worth at place y of a row of values, and zero past its end
  abbrev pub worths : List X → ℕ → G.Carrier
  worths xs y = slice_index_or (map m xs) y G.zero

  -- the values are the inner worths of the packages on the roll
  pub record Known (rounds : List Round) (values : List X) : Type 0 where
    pub inner : (y : ℕ) → y < length (roll rounds) → Inner G rounds (package_at rounds y) (worths values y)
    pub small : (y : ℕ) → y < length (roll rounds) → G.size (worths values y) ≤ 2 ^ 45 * 128
    pub many : length (roll rounds) ≤ length values

  -- the larger of two values that are there, and the first where they are equal
  abbrev pub larger_of : Option X → Option X → Option X
  larger_of None b = b
  larger_of (Some x) None = Some x
  larger_of (Some x) (Some y) = Some (cond (G.less (m x) (m y)) y x)

  module _ (rounds : List Round) where
    -- v is what the bid of round t costs there, less the inner worth of its package
    abbrev pub Lead : ℕ → G.Carrier → Type 0
    Lead t v = (x : List ℕ) × (g : G.Carrier) × Stood rounds t x × Inner G rounds x g × (v ≡ G.add (paid G rounds t x) (G.neg g))

    -- the lead of round t, or none exactly where no package stood there
    abbrev pub LeadAt : ℕ → Option X → Type 0
    LeadAt t (Some r) = Lead t (m r) × (G.size (m r) ≤ 2 ^ 45 * 129)
    LeadAt t None = (x : List ℕ) → ¬ Stood rounds t x

    -- the greatest lead of the first n rounds, or none exactly where no package stood in them
    abbrev pub GreatestLead : ℕ → Option X → Type 0
    GreatestLead n (Some r) = Greatest G (λ v. (t : ℕ) × (t < n) × Lead t v) (m r) × (G.size (m r) ≤ 2 ^ 45 * 129)
    GreatestLead n None = (t : ℕ) → t < n → (x : List ℕ) → ¬ Stood rounds t x

    -- the rise, or none exactly where no package stands
    abbrev pub RiseIs : Option X → Type 0
    RiseIs (Some r) = Rise G rounds (m r) × (G.size (m r) ≤ 2 ^ 45 * 129)
    RiseIs None = roll rounds ≡ []

    -- the first n of these values are the sheet, and each is small
    pub record SheetWritten (n : ℕ) (values : List X) : Type 0 where
      pub count : n ≡ length (roll rounds)
      pub sheet : Sheet G rounds (map m (take n values))
      pub small : (y : ℕ) → y < n → G.size (worths values y) ≤ 2 ^ 45 * 257
