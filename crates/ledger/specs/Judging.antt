-- Which dealings are refused, and under which number, read over what the ledger keeps.
use Rattle.std.specs.Prelude.{◌≡◌, ℕ, ◌-◌, Bool, true, false, cond, not, ◌&&◌, ◌||◌, List, [], ◌∷◌, length, Some, None, Ok, Err, Option, Result, ◌==◌, nat_le, nat_lt}
use Rattle.ledger.specs.Ledger.{Making, Slip, Dealing, opening, offering, confirming, withdrawing, closing, reading_sheet, reading_roll, Ledger}
use Rattle.ledger.specs.Table.{cell}
use Rattle.ledger.specs.declared.refusal.Refusal.{Refusal}
use Rattle.ledger.specs.declared.refusal.Refusal.TheVariants.{BadProducts, ShortMemory, RowLength, TooManyRounds, PriceTooHigh, PriceFell, SlipMisfit, Contradiction}
use Rattle.ledger.specs.declared.state.Call.TheVariants as call
use Rattle.ledger.specs.declared.state.State.{State}
use Rattle.chains.specs.Chains.{Explained}
use Rattle.chains.specs.Rounds.{Round, round, offered}
use Rattle.worth.specs.Group.{Group}

-- 1 to 16 products
abbrev pub right_products : Making → Bool
right_products m = nat_le 1 m.products && nat_le m.products 16

-- a column of at least 256 worths
abbrev pub long_column : Making → Bool
long_column m = nat_le 256 m.column

-- a book that is fit; an unfit one refuses every call
abbrev pub fit : Making → Bool
fit m = right_products m && long_column m

-- every memory that is handed in has its figure: entries of the heap, records of the chain, worths, bytes
abbrev pub enough_memory : Dealing → Bool
enough_memory (opening prices) = true
enough_memory (offering row heap chain) = nat_le 128 heap && nat_le 128 chain
enough_memory (confirming slip) = true
enough_memory (withdrawing slip) = true
enough_memory closing = true
enough_memory (reading_sheet memory) = nat_le 128 memory
enough_memory (reading_roll memory) = nat_le 2048 memory

-- one entry for each product
abbrev pub right_length : Ledger → List ℕ → Bool
right_length l row = length row == l.making.products

-- some price is above 1,000,000,000
abbrev pub too_high : List ℕ → Bool
too_high [] = false
too_high (p ∷ prices) = nat_lt 1000000000 p || too_high prices

-- some price is below the old price of the same product
abbrev pub fell : List ℕ → List ℕ → Bool
fell [] prices = false
fell (o ∷ old) [] = false
fell (o ∷ old) (p ∷ prices) = nat_lt p o || fell old prices

-- the round opened last; before the first one, a round with no prices and no bid
abbrev pub latest : List Round → Round
latest rounds = round rounds (length rounds - 1)

-- a slip that fits while a trial stands: the book's number, and the present round, counted from 1
abbrev pub fits : Ledger → Slip → Bool
fits l slip = slip.book == l.making.book && slip.round == length l.rounds

-- this refusal unless the test passes
abbrev pub unless : Bool → Refusal → Option Refusal
unless test r = cond test None (Some r)

-- the refusal in a cell of the state table
abbrev pub refused : Result State Refusal → Option Refusal
refused (Ok s) = None
refused (Err r) = Some r

-- the first refusal on a list, if there is one
abbrev pub first : List (Option Refusal) → Option Refusal
first [] = None
first (None ∷ rest) = first rest
first (Some r ∷ rest) = Some r

-- the checks of a dealing beside those of the making and the memories, in the order of the numbers
abbrev pub own_checks : Ledger → Dealing → List (Option Refusal)
own_checks l (opening prices) =
    unless (right_length l prices) RowLength
    ∷ unless (nat_lt (length l.rounds) 128) TooManyRounds
    ∷ refused (cell l.state call.Open)
    ∷ unless (not (too_high prices)) PriceTooHigh
    ∷ unless (not (fell (latest l.rounds).prices prices)) PriceFell
    ∷ []
own_checks l (offering row heap chain) = unless (right_length l row) RowLength ∷ refused (cell l.state call.Offer) ∷ []
own_checks l (confirming slip) = refused (cell l.state call.Confirm) ∷ unless (fits l slip) SlipMisfit ∷ []
own_checks l (withdrawing slip) = refused (cell l.state call.Withdraw) ∷ unless (fits l slip) SlipMisfit ∷ []
own_checks l closing = refused (cell l.state call.Close) ∷ []
own_checks l (reading_sheet memory) = []
own_checks l (reading_roll memory) = []

-- all checks of a dealing but that for a contradiction, in the order of the numbers
abbrev pub checks : Ledger → Dealing → List (Option Refusal)
checks l d =
    unless (right_products l.making) BadProducts
    ∷ unless (long_column l.making && enough_memory d) ShortMemory
    ∷ own_checks l d

-- the lowest refusal that fits the dealing, contradictions apart
abbrev pub early : Ledger → Dealing → Option Refusal
early l d = first (checks l d)

module _ (G : Group) where
  -- some worths make all confirmed bids, and the offered row as the bid of the latest round, best choices
  abbrev pub Consistent : Ledger → Dealing → Type 0
  Consistent l (opening prices) = Unit {0}
  Consistent l (offering row heap chain) = Explained G (offered l.rounds row)
  Consistent l (confirming slip) = Unit {0}
  Consistent l (withdrawing slip) = Unit {0}
  Consistent l closing = Unit {0}
  Consistent l (reading_sheet memory) = Unit {0}
  Consistent l (reading_roll memory) = Unit {0}

  -- how a dealing is judged: it is met, it is a contradiction, or an earlier refusal is told
  pub data Judged (l : Ledger) (d : Dealing) : Option Refusal → Type 0 where
    met : early l d ≡ None → Consistent l d → Judged l d None
    contradicts : early l d ≡ None → ¬ Consistent l d → Judged l d (Some Contradiction)
    barred : {r : Refusal} → early l d ≡ Some r → Judged l d (Some r)
