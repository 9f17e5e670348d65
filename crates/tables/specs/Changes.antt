-- What the calls that change a table ask and do, by its rounds.
use Rattle.std.specs.Prelude.{ℕ, ◌-◌, Bool, not, ◌&&◌, List, [], ◌∷◌, ◌++◌, length, is_some, Some, None, Option, ◌==◌, nat_lt, if◌then◌else◌}
use Rattle.chains.specs.Rounds.{Round, round}
use Rattle.tables.specs.declared.table.errors.BidError.{BidError}
use Rattle.tables.specs.declared.table.errors.BidError.TheVariants.{NoRound, BidStands}
use Rattle.tables.specs.declared.table.errors.BidError.TheVariants as bid_errors
use Rattle.tables.specs.declared.table.errors.RoundError.{RoundError}
use Rattle.tables.specs.declared.table.errors.RoundError.TheVariants.{TooManyRounds}
use Rattle.tables.specs.declared.table.errors.RoundError.TheVariants as round_errors

-- one more round, at these prices, with no bid yet
abbrev pub opened : List Round → List ℕ → List Round
opened rounds prices = rounds ++ record { prices = prices; bid = None } ∷ []

-- the same rounds, with no bid in the latest one
abbrev pub unbid : List Round → List Round
unbid [] = []
unbid (r ∷ []) = record { prices = r.prices; bid = None } ∷ []
unbid (r ∷ (s ∷ rounds)) = r ∷ unbid (s ∷ rounds)

-- whether there is a round and the latest one has a bid
abbrev pub has_bid : List Round → Bool
has_bid rounds = is_some (round rounds (length rounds - 1)).bid

-- whether a table for n products takes one more round at these prices
abbrev pub takes_round : ℕ → List Round → List ℕ → Bool
takes_round n rounds prices = length prices == n && nat_lt (length rounds) 128

-- why it does not, if it does not: the row's length is looked at first
abbrev pub round_error : ℕ → List Round → List ℕ → Option RoundError
round_error n rounds prices = if length prices == n then (if nat_lt (length rounds) 128 then None else Some TooManyRounds) else Some round_errors.RowLength

-- whether it takes this bid in its latest round
abbrev pub takes_bid : ℕ → List Round → List ℕ → Bool
takes_bid n rounds row = length row == n && (nat_lt 0 (length rounds) && not (has_bid rounds))

-- why it does not, if it does not: the row's length is looked at first, then whether there is a round
abbrev pub bid_error : ℕ → List Round → List ℕ → Option BidError
bid_error n rounds row = if length row == n then (if nat_lt 0 (length rounds) then (if has_bid rounds then Some BidStands else None) else Some NoRound) else Some bid_errors.RowLength
