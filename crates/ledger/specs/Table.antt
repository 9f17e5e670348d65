-- The state table: for each state and each call, the next state or the refusal.
use Rattle.std.specs.Prelude.{Ok, Err, Result}
use Rattle.ledger.specs.declared.refusal.Refusal.{Refusal}
use Rattle.ledger.specs.declared.refusal.Refusal.TheVariants.{RoundOpen, NoRoundOpen, TrialStands, SlipMisfit, BidConfirmed}
use Rattle.ledger.specs.declared.state.Call.{Call}
use Rattle.ledger.specs.declared.state.Call.TheVariants as call
use Rattle.ledger.specs.declared.state.State.{State}
use Rattle.ledger.specs.declared.state.State.TheVariants.{Shut, Open, Trial, Done}

-- An offer in an open round goes to trial; that it may be a contradiction instead is judged beside the table.
abbrev pub cell : State → Call → Result State Refusal
cell Shut call.Open = Ok Open
cell Open call.Open = Err RoundOpen
cell Trial call.Open = Err RoundOpen
cell Done call.Open = Err RoundOpen
cell Shut call.Offer = Err NoRoundOpen
cell Open call.Offer = Ok Trial
cell Trial call.Offer = Err TrialStands
cell Done call.Offer = Err BidConfirmed
cell Shut call.Confirm = Err SlipMisfit
cell Open call.Confirm = Err SlipMisfit
cell Trial call.Confirm = Ok Done
cell Done call.Confirm = Err SlipMisfit
cell Shut call.Withdraw = Err SlipMisfit
cell Open call.Withdraw = Err SlipMisfit
cell Trial call.Withdraw = Ok Open
cell Done call.Withdraw = Err SlipMisfit
cell Shut call.Close = Err NoRoundOpen
cell Open call.Close = Ok Shut
cell Trial call.Close = Err TrialStands
cell Done call.Close = Ok Shut
