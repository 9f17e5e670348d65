-- The theorems that stand on contracts.
use Rattle.std.specs.Prelude.{ℕ, ◌≤◌, List, ℤ}
use Rattle.chains.specs.Chains.{step}
use Rattle.chains.specs.Rounds.{Round, Stood, Package, Sale}
use Rattle.chains.specs.Sheet.{Sheet, ReadOff, NoughtOff}
use Rattle.chains.specs.Theorems.{ChainLaws, SheetLaws}
use Rattle.worth.specs.Group.{Group}
use Rattle.worth.specs.Models.{plain}
use Rattle.worth.specs.Says.{AtMost}

-- the laws of chains and of the sheet, over the rounds of every sale
pub record BidsStand (G : Group) : Type 0 where
  pub chains : (rounds : List Round) → ChainLaws G rounds
  pub sheets : (rounds : List Round) → SheetLaws G rounds

-- At plain money: the sheet, with nought for every package not on it, makes each standing bid a best choice among all
-- packages that exist.
abbrev pub PlainSheet : Type 0
PlainSheet = (rounds : List Round) (n : ℕ) → n ≤ 16 → Sale n rounds → (sheet : List ℤ) → Sheet plain rounds sheet
    → (v : List ℕ → ℤ) → ReadOff plain rounds sheet v → NoughtOff plain rounds v
    → (t : ℕ) (x : List ℕ) → Stood rounds t x → (q : List ℕ) → Package n q → AtMost plain (v q) (plain.add (v x) (step plain rounds x q t))
