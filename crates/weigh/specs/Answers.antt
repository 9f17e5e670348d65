-- The answers of weighing: which reasons there are not to hold a bid, and their numbers.
use Rattle.std.specs.Prelude.{ℕ, cond, List, length, Some, None, Ok, Err, Option, Result, ◌==◌, nat_lt}
use Rattle.chains.specs.Rounds.{Round}
use Rattle.tables.specs.Changes.{takes_bid}
use Rattle.tables.specs.declared.table.errors.BidError.{BidError}
use Rattle.tables.specs.declared.table.errors.BidError.TheVariants as bid_errors
use Rattle.weigh.specs.declared.answer.Held.{Held}
use Rattle.weigh.specs.declared.answer.Refused.{Refused}
use Rattle.weigh.specs.declared.answer.Refused.TheVariants.{ShortMemory, RowLength, NoRound, BidStands, Contradiction}

-- the number of each refusal, as the house counts them
abbrev pub refused_number : Refused → ℕ
refused_number ShortMemory = 2
refused_number RowLength = 3
refused_number NoRound = 8
refused_number BidStands = 11
refused_number (Contradiction steps) = 12

-- What an answer says.
pub record Values : Type 0 where
  -- the number of the refusal, if it is one
  pub refusal : Option ℕ
  -- of a bid that is held, the package's number on the roll and how many inner worths fell
  pub «package» : ℕ
  pub moved : ℕ
  -- of a contradiction, how many steps of a chain were written
  pub steps : ℕ

abbrev pub steps_of : Refused → ℕ
steps_of ShortMemory = 0
steps_of RowLength = 0
steps_of NoRound = 0
steps_of BidStands = 0
steps_of (Contradiction steps) = steps

abbrev pub values : Result Held Refused → Values
values (Ok held) = record { refusal = None; «package» = held.«package»; moved = held.moved; steps = 0 }
values (Err e) = record { refusal = Some (refused_number e); «package» = 0; moved = 0; steps = steps_of e }

-- why a table for n products with these rounds does not take this row as the bid of its latest round
abbrev pub reason : ℕ → List Round → List ℕ → Refused
reason n rounds row = cond (length row == n) (cond (nat_lt 0 (length rounds)) BidStands NoRound) RowLength

-- the reason that is told where a table does not take the bid
abbrev pub refusal_of : BidError → Refused
refusal_of bid_errors.RowLength = RowLength
refusal_of bid_errors.NoRound = NoRound
refusal_of bid_errors.BidStands = BidStands

-- the reason not to weigh, if there is one: `shortest` is how long the shortest memory is
abbrev pub unfit : ℕ → List Round → List ℕ → ℕ → Option Refused
unfit n rounds row shortest = cond (nat_lt shortest 128) (Some ShortMemory) (cond (takes_bid n rounds row) None (Some (reason n rounds row)))
