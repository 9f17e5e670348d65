-- The sheet: a worth for each package on the roll.
use Rattle.std.specs.Prelude.{◌≡◌, ℕ, ◌<◌, false, List, [], length, pos, slice_index_or}
use Rattle.chains.specs.Chains.{Inner}
use Rattle.chains.specs.Rounds.{Round, round, Stood, listed, roll}
use Rattle.chains.specs.Rows.{cost}
use Rattle.worth.specs.Group.{Group}
use Rattle.worth.specs.Least.{Greatest}

module _ (G : Group) (rounds : List Round) where
  open G use {Carrier, zero, add as ◌⊕◌, neg as ⊖◌, amount}

  infixl 65 ◌⊕◌
  infix 70 ⊖◌
  -- what package x costs in round t, as an amount
  abbrev pub paid : ℕ → List ℕ → Carrier
  paid t x = amount (pos (cost x (round rounds t).prices))

  -- r: the greatest, over all standing bids, of the amount of the bid's cost in its round less the inner worth of
  -- the bid's package
  abbrev pub Rise : Carrier → Type 0
  Rise r = Greatest G (λ v. (t : ℕ) × (x : List ℕ) × (g : Carrier) × Stood rounds t x × Inner G rounds x g × (v ≡ paid t x ⊕ ⊖ g)) r

  -- the sheet: each package on the roll has its inner worth plus r; over no standing bid it is empty
  pub record Sheet (sheet : List Carrier) : Type 0 where
    pub long : length sheet ≡ length (roll rounds)
    pub worths : (y : ℕ) → y < length sheet → (g : Carrier) × (r : Carrier) × Inner G rounds (slice_index_or (roll rounds) y []) g × Rise r × (slice_index_or sheet y zero ≡ g ⊕ r)

  -- the worths v are those of the sheet, for each package on the roll
  abbrev pub ReadOff : List Carrier → (List ℕ → Carrier) → Type 0
  ReadOff sheet v = (y : ℕ) → y < length (roll rounds) → v (slice_index_or (roll rounds) y []) ≡ slice_index_or sheet y zero

  -- they are nought for every package not on the roll
  abbrev pub NoughtOff : (List ℕ → Carrier) → Type 0
  NoughtOff v = (q : List ℕ) → listed (roll rounds) q ≡ false → v q ≡ zero
