-- What is true of the standing bids of every sale, at every lawful kind.
use Rattle.std.specs.Prelude.{◌≡◌, ℕ, ◌≤◌, ◌↔◌, List}
use Rattle.chains.specs.Chains.{step, Chain, EndsAt, Explains, Explained, Inner}
use Rattle.chains.specs.Rounds.{Round, Stood, OnRoll, Package, Sale}
use Rattle.chains.specs.Sheet.{Sheet, ReadOff, NoughtOff}
use Rattle.worth.specs.Group.{Group}
use Rattle.worth.specs.Says.{AtMost, Below}

module _ (G : Group) (rounds : List Round) where
  open G use {Carrier, zero, add as ◌⊕◌, notch}

  infixl 65 ◌⊕◌
  -- a chain around from x sums below zero
  abbrev pub AroundBelow : List ℕ → Type 0
  AroundBelow x = (s : Carrier) × Chain G rounds x x s × Below G s zero

  pub record ChainLaws : Type 0 where
    -- some worths explain the bids exactly when no chain around is below zero
    pub exactly : Explained G rounds ↔ ((x : List ℕ) → ¬ AroundBelow x)
    -- a package has at most one inner worth
    pub unique : (y : List ℕ) (g h : Carrier) → Inner G rounds y g → Inner G rounds y h → g ≡ h
    -- where the bids are explained, each package on the roll has its inner worth
    pub exists : Explained G rounds → (y : List ℕ) → OnRoll rounds y → (g : Carrier) × Inner G rounds y g
    -- the inner worths explain the bids
    pub explains : (d : List ℕ → Carrier) → ((y : List ℕ) → OnRoll rounds y → Inner G rounds y (d y)) → Explains G rounds d
    -- worths that explain the bids, none above zero, each the sum of a chain to its package, are the inner worths
    pub certified : (d : List ℕ → Carrier) → Explains G rounds d → ((y : List ℕ) → OnRoll rounds y → AtMost G (d y) zero)
        → ((y : List ℕ) → OnRoll rounds y → EndsAt G rounds y (d y)) → (y : List ℕ) → OnRoll rounds y → Inner G rounds y (d y)

  pub record SheetLaws : Type 0 where
    -- there is at most one sheet
    pub unique : (s t : List Carrier) → Sheet G rounds s → Sheet G rounds t → s ≡ t
    -- the sheet's worths make every standing bid a best choice
    pub explains : (sheet : List Carrier) → Sheet G rounds sheet → (v : List ℕ → Carrier) → ReadOff G rounds sheet v → Explains G rounds v
    -- where the notch is zero, the sheet, with nought for every package not on it, makes each standing bid a best
    -- choice among all packages that exist
    pub best : notch ≡ zero → (n : ℕ) → n ≤ 16 → Sale n rounds → (sheet : List Carrier) → Sheet G rounds sheet
        → (v : List ℕ → Carrier) → ReadOff G rounds sheet v → NoughtOff G rounds v
        → (t : ℕ) (x : List ℕ) → Stood rounds t x → (q : List ℕ) → Package n q → AtMost G (v q) (v x ⊕ step G rounds x q t)
