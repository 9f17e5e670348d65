-- The refusals and their numbers.
use Rattle.std.specs.Prelude.{ℕ}
use Rattle.ledger.specs.declared.refusal.Refusal.{Refusal}
use Rattle.ledger.specs.declared.refusal.Refusal.TheVariants.{BadProducts, ShortMemory, RowLength, TooManyRounds, RoundOpen, PriceTooHigh, PriceFell, NoRoundOpen, TrialStands, SlipMisfit, BidConfirmed, Contradiction}

-- the number under which a refusal is told; of several that fit a call, the lowest is told
abbrev pub refusal_number : Refusal → ℕ
refusal_number BadProducts = 1
refusal_number ShortMemory = 2
refusal_number RowLength = 3
refusal_number TooManyRounds = 4
refusal_number RoundOpen = 5
refusal_number PriceTooHigh = 6
refusal_number PriceFell = 7
refusal_number NoRoundOpen = 8
refusal_number TrialStands = 9
refusal_number SlipMisfit = 10
refusal_number BidConfirmed = 11
refusal_number Contradiction = 12
