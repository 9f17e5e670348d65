-- What a ledger is told and what it keeps.
use Rattle.std.specs.Prelude.{◌≡◌, ℕ, List, [], ◌∷◌, ◌++◌, Some, None, Option}
use Rattle.ledger.specs.declared.state.State.{State}
use Rattle.ledger.specs.declared.state.State.TheVariants.{Shut, Open, Trial, Done}
use Rattle.chains.specs.Rounds.{Round, offered}

-- how a book was made: its number, its number of products, and how many worths its column has
pub record Making : Type 0 where
  pub book : ℕ
  pub products : ℕ
  pub column : ℕ

-- two books made alike; their columns may differ
pub record Alike (m n : Making) : Type 0 where
  pub book : m.book ≡ n.book
  pub products : m.products ≡ n.products

-- what a slip bears: the book's number, the round's number, the package's number on the roll, and the moved count
pub record Slip : Type 0 where
  pub book : ℕ
  pub round : ℕ
  pub «package» : ℕ
  pub moved : ℕ

-- a call to a book with everything that it is handed: rows, the lengths of memories, slips
pub data Dealing : Type 0 where
  opening : (prices : List ℕ) → Dealing
  offering : (row : List ℕ) (heap chain : ℕ) → Dealing
  confirming : (slip : Slip) → Dealing
  withdrawing : (slip : Slip) → Dealing
  closing : Dealing
  reading_sheet : (memory : ℕ) → Dealing
  reading_roll : (memory : ℕ) → Dealing

-- A ledger follows a book from the outside: it is told every dealing, and never what the book answers.
pub record Ledger : Type 0 where
  pub making : Making
  pub state : State
  -- the opened rounds with their confirmed bids, the oldest first
  pub rounds : List Round
  -- the row on trial
  pub trial : Option (List ℕ)

-- the ledger of a new book
abbrev pub new : Making → Ledger
new m = record { making = m; state = Shut; rounds = []; trial = None }

-- the same book's ledger with another state, other rounds and another trial
abbrev pub stand : Ledger → State → List Round → Option (List ℕ) → Ledger
stand l s rounds trial = record { making = l.making; state = s; rounds = rounds; trial = trial }

-- a round is added, without a bid, and is open
abbrev pub opened : Ledger → List ℕ → Ledger
opened l prices = stand l Open (l.rounds ++ record { prices = prices; bid = None } ∷ []) l.trial

-- a row is on trial
abbrev pub tried : Ledger → List ℕ → Ledger
tried l row = stand l Trial l.rounds (Some row)

-- the rounds with the trial, if there is one, as the bid of the latest
abbrev pub with_trial : List Round → Option (List ℕ) → List Round
with_trial rounds None = rounds
with_trial rounds (Some row) = offered rounds row

-- the trial becomes the confirmed bid of the latest round
abbrev pub confirmed : Ledger → Ledger
confirmed l = stand l Done (with_trial l.rounds l.trial) None

-- the trial is dropped
abbrev pub withdrawn : Ledger → Ledger
withdrawn l = stand l Open l.rounds None

-- the round is shut
abbrev pub closed : Ledger → Ledger
closed l = stand l Shut l.rounds l.trial

-- what a dealing that is met does
abbrev pub moved : Ledger → Dealing → Ledger
moved l (opening prices) = opened l prices
moved l (offering row heap chain) = tried l row
moved l (confirming slip) = confirmed l
moved l (withdrawing slip) = withdrawn l
moved l closing = closed l
moved l (reading_sheet memory) = l
moved l (reading_roll memory) = l
