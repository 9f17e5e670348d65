-- What is true of every ledger, at every kind.
use Rattle.std.specs.Prelude.{◌≡◌, ℕ, ◌+◌, ◌<◌, ◌≤◌, true, false, ◌↔◌, List, length, is_some, IfSome, Some, None, Option}
use Rattle.std.specs.List.{AllByRecursion}
use Rattle.ledger.specs.Cleaning.{clean, settled, remade, Meets}
use Rattle.ledger.specs.Feeding.{Fed, Feeds}
use Rattle.ledger.specs.Judging.{fit, fell, latest, checks, early, Consistent, Judged}
use Rattle.ledger.specs.Ledger.{Making, Alike, Dealing, Ledger, new}
use Rattle.ledger.specs.Refusals.{refusal_number}
use Rattle.ledger.specs.declared.refusal.Refusal.{Refusal}
use Rattle.ledger.specs.declared.refusal.Refusal.TheVariants.{Contradiction}
use Rattle.ledger.specs.declared.state.State.{State}
use Rattle.ledger.specs.declared.state.State.TheVariants.{Shut, Open, Trial, Done}
use Rattle.chains.specs.Chains.{Explained}
use Rattle.chains.specs.Rounds.{Round, round, offered}
use Rattle.worth.specs.Group.{Group}

-- a round in a sale with n products: n prices of at most 1,000,000,000, and a bid, if any, of n quantities
pub record LawfulRound (n : ℕ) (r : Round) : Type 0 where
  pub priced : length r.prices ≡ n
  pub bounded : AllByRecursion (λ p. p ≤ 1000000000) r.prices
  pub sized : IfSome r.bid (λ row. length row ≡ n)

-- no price falls from one round to the next
abbrev pub Rising : List Round → Type 0
Rising rounds = (t : ℕ) → t + 1 < length rounds → fell (round rounds t).prices (round rounds (t + 1)).prices ≡ false

-- there is a round, and the latest one has no bid
abbrev pub LatestUnbid : List Round → Type 0
LatestUnbid rounds = (0 < length rounds) × ((latest rounds).bid ≡ None)

-- there is a round, and the latest one has a bid
abbrev pub LatestBid : List Round → Type 0
LatestBid rounds = (0 < length rounds) × (is_some (latest rounds).bid ≡ true)

module _ (G : Group) where
  -- a row that is rightly on trial: its length is right, and it and the confirmed bids are explained
  pub record Tried (n : ℕ) (rounds : List Round) (row : List ℕ) : Type 0 where
    pub sized : length row ≡ n
    pub explained : Explained G (offered rounds row)

  -- what a state says of the rounds and the trial
  abbrev pub Stands : ℕ → State → List Round → Option (List ℕ) → Type 0
  Stands n Shut rounds trial = trial ≡ None
  Stands n Open rounds trial = (trial ≡ None) × LatestUnbid rounds
  Stands n Trial rounds trial = (row : List ℕ) × (trial ≡ Some row) × LatestUnbid rounds × Tried n rounds row
  Stands n Done rounds trial = (trial ≡ None) × LatestBid rounds

  -- what a ledger keeps is a lawful sale
  pub record Lawful (l : Ledger) : Type 0 where
    pub few : length l.rounds ≤ 128
    pub rounds : AllByRecursion (LawfulRound l.making.products) l.rounds
    pub rising : Rising l.rounds
    -- the confirmed bids are explained
    pub explained : Explained G l.rounds
    pub stands : Stands l.making.products l.state l.rounds l.trial

  pub record LedgerLaws : Type 0 where
    -- a dealing is judged in one way
    pub one_judgement : (l : Ledger) (d : Dealing) (o p : Option Refusal) → Judged G l d o → Judged G l d p → o ≡ p
    -- and it is always judged
    pub decided : (l : Ledger) (d : Dealing) → (o : Option Refusal) × Judged G l d o
    -- of the refusals that fit a dealing, the one with the lowest number is told
    pub lowest : (l : Ledger) (d : Dealing) (r : Refusal) → early l d ≡ Some r
        → AllByRecursion (λ o. IfSome o (λ s. refusal_number r ≤ refusal_number s)) (checks l d)
    -- a contradiction is told exactly when nothing earlier is and no worths explain
    pub contradiction : (l : Ledger) (d : Dealing) → Judged G l d (Some Contradiction) ↔ ((early l d ≡ None) × ¬ Consistent G l d)
    -- fit books made alike judge alike
    pub alike : (l : Ledger) (n : Making) → fit l.making ≡ true → fit n ≡ true → Alike l.making n
        → (d : Dealing) (o : Option Refusal) → Judged G l d o → Judged G (remade n l) d o
    -- a ledger knows how its book was made, whatever it was told
    pub same_making : (m : Making) (ds : List Dealing) (l : Ledger) → Feeds G (new m) ds l → l.making ≡ m
    -- what it keeps is a lawful sale, and stays one with each dealing
    pub kept : (l next : Ledger) (d : Dealing) → Lawful l → Fed G l d next → Lawful next
    pub lawful : (m : Making) (ds : List Dealing) (l : Ledger) → Feeds G (new m) ds l → Lawful l
    -- at a fit book made alike, every entry of the clean list is met, and leaves the ledger without its trial
    pub clean_meets : (m n : Making) → fit n ≡ true → Alike m n → (ds : List Dealing) (l : Ledger)
        → Feeds G (new m) ds l → Meets G (new n) (clean l) (remade n (settled l))
    -- that is the ledger itself where nothing is on trial
    pub untried : (l : Ledger) → Lawful l → l.trial ≡ None → settled l ≡ l
