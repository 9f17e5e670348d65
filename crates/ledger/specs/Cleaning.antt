-- The clean list of a ledger: the same book, dealt with as little as can be.
use Rattle.std.specs.Prelude.{◌≡◌, ℕ, ◌≤◌, Bool, true, false, cond, List, [], ◌∷◌, ◌++◌, length, Some, None, Option}
use Rattle.ledger.specs.Judging.{Judged}
use Rattle.ledger.specs.Ledger.{Making, Slip, opening, offering, confirming, closing, Ledger, opened, tried, confirmed, closed}
use Rattle.ledger.specs.declared.state.State.{State}
use Rattle.ledger.specs.declared.state.State.TheVariants.{Shut, Open, Trial, Done}
use Rattle.chains.specs.Rounds.{Round}
use Rattle.worth.specs.Group.{Group}

-- an entry of a clean list; a bid stands for its offer and for the confirmation with the slip of this offer
pub data Entry : Type 0 where
  opens : (prices : List ℕ) → Entry
  bids : (row : List ℕ) → Entry
  shuts : Entry

abbrev pub bid_entries : Option (List ℕ) → List Entry
bid_entries None = []
bid_entries (Some row) = bids row ∷ []

-- the opening of a round, and its bid if it has one
abbrev pub round_entries : Round → List Entry
round_entries r = opens r.prices ∷ bid_entries r.bid

-- all rounds in order; every one but the last is shut, and the last one if `shut` says so
abbrev pub entries : Bool → List Round → List Entry
entries shut [] = []
entries shut (r ∷ []) = round_entries r ++ cond shut (shuts ∷ []) []
entries shut (r ∷ (s ∷ rounds)) = round_entries r ++ shuts ∷ entries shut (s ∷ rounds)

abbrev pub is_shut : State → Bool
is_shut Shut = true
is_shut Open = false
is_shut Trial = false
is_shut Done = false

-- the clean list
abbrev pub clean : Ledger → List Entry
clean l = entries (is_shut l.state) l.rounds

-- the state without the trial
abbrev pub settled_state : State → State
settled_state Shut = Shut
settled_state Open = Open
settled_state Trial = Open
settled_state Done = Done

-- the ledger without its trial
abbrev pub settled : Ledger → Ledger
settled l = record { making = l.making; state = settled_state l.state; rounds = l.rounds; trial = None }

-- the same ledger, of a book that was made otherwise
abbrev pub remade : Making → Ledger → Ledger
remade m l = record { making = m; state = l.state; rounds = l.rounds; trial = l.trial }

module _ (G : Group) where
  -- a bid that is met: its offer with every memory of at least the figure, and its confirmation with every slip of the
  -- book's number and the present round
  pub record BidMet (l : Ledger) (row : List ℕ) : Type 0 where
    pub offer : (heap chain : ℕ) → 128 ≤ heap → 128 ≤ chain → Judged G l (offering row heap chain) None
    pub confirmation : (slip : Slip) → slip.book ≡ l.making.book → slip.round ≡ length l.rounds → Judged G (tried l row) (confirming slip) None

  -- every entry of a list is met, from the ledger l on, which is at last the third
  pub data Meets : Ledger → List Entry → Ledger → Type 0 where
    all_met : {l : Ledger} → Meets l [] l
    opens_met : {l last : Ledger} {prices : List ℕ} {rest : List Entry}
        → Judged G l (opening prices) None → Meets (opened l prices) rest last → Meets l (opens prices ∷ rest) last
    bids_met : {l last : Ledger} {row : List ℕ} {rest : List Entry}
        → BidMet l row → Meets (confirmed (tried l row)) rest last → Meets l (bids row ∷ rest) last
    shuts_met : {l last : Ledger} {rest : List Entry}
        → Judged G l closing None → Meets (closed l) rest last → Meets l (shuts ∷ rest) last
