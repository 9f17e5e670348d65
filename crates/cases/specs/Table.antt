-- The table of the worked cases.
use Rattle.std.specs.Prelude.{ℕ, pred, List, [], ◌∷◌, ℤ, pos, neg_ℤ, Some, None}
use Rattle.std.specs.List.{AllByRecursion}
use Rattle.cases.specs.Claims.{Money, plain_money, strict_money, Value, Grounds, Verdict, met, held, refused, contradicts, Line, Claim, costs, sums, pairs_sum, sheet_is, judges, Holds}
use Rattle.chains.specs.Rounds.{Round, offered}
use Rattle.ledger.specs.Ledger.{Making, Dealing, opening, offering, closing, Ledger, new}
use Rattle.ledger.specs.declared.state.State.TheVariants.{Open}
use Rattle.paths.specs.declared.Step.{Step}

-- the step a>b@t as a merchant reads it, with packages and rounds numbered from 1
infix 70 ◌to◌at◌
abbrev pub ◌to◌at◌ : ℕ → ℕ → ℕ → Step
a to b at t = record { from = pred a; to = pred b; round = pred t }

-- a whole number below zero
abbrev pub minus : ℕ → ℤ
minus n = neg_ℤ (pos n)

-- a round at these prices, with a bid and without one
abbrev pub bidding : (prices row : List ℕ) → Round
bidding prices row = record { prices = prices; bid = Some row }

abbrev pub unbid : (prices : List ℕ) → Round
unbid prices = record { prices = prices; bid = None }

-- a fit book
abbrev pub book_of : (products : ℕ) → Making
book_of products = record { book = 7; products = products; column = 256 }

-- its ledger, where the latest of these rounds is open and has no bid yet
abbrev pub open_in : (products : ℕ) → List Round → Ledger
open_in products rounds = record { making = book_of products; state = Open; rounds = rounds; trial = None }

-- an offer with fit memory
abbrev pub Offer : (row : List ℕ) → Dealing
Offer row = offering row 128 128

-- a dealing and its verdict
infix 68 ◌is◌
abbrev pub ◌is◌ : {k : Money} → Dealing → Verdict k → Line k
d is v = record { dealing = d; verdict = v }

-- what shows a sheet: inner worths, chains to them, and the number and a round of the package with the greatest lead
abbrev pub grounds : {k : Money} → List (Value k) → List (List Step) → (number round : ℕ) → Grounds k
grounds inner chains number round = record { inner = inner; chains = chains; top_package = pred number; top_round = pred round }

-- over no bids there is nothing to show
abbrev pub no_grounds : {k : Money} → Grounds k
no_grounds = grounds [] [] 0 0

-- three rounds, before the bid of the third
abbrev pub three_rounds : List Round
three_rounds = bidding (10 ∷ 20 ∷ []) (2 ∷ 0 ∷ []) ∷ bidding (15 ∷ 22 ∷ []) (0 ∷ 1 ∷ []) ∷ unbid (16 ∷ 30 ∷ []) ∷ []

-- the listing: in the third round package 1 is bid again
abbrev pub listing : List Round
listing = offered three_rounds (2 ∷ 0 ∷ [])

-- where 3 0 is offered there instead, a chain around below zero
abbrev pub two_steps : List Step
two_steps = 3 to 1 at 3 ∷ 1 to 3 at 1 ∷ []

-- openings of a sale with one product
abbrev pub openings : List (Line plain_money)
openings =
    opening (1000000001 ∷ []) is refused 6
    ∷ opening (1000000000 ∷ []) is met
    ∷ closing is met
    ∷ opening (1000000000 ∷ []) is met
    ∷ closing is met
    ∷ opening (999999999 ∷ []) is refused 7
    ∷ []

-- two rounds at the same prices, before the bid of the second
abbrev pub two_alike : List Round
two_alike = bidding (10 ∷ 20 ∷ []) (2 ∷ 0 ∷ []) ∷ unbid (10 ∷ 20 ∷ []) ∷ []

-- three rounds with three products, before the bid of the third
abbrev pub three_products : List Round
three_products = bidding (10 ∷ 10 ∷ 10 ∷ []) (1 ∷ 0 ∷ 0 ∷ []) ∷ bidding (11 ∷ 10 ∷ 14 ∷ []) (0 ∷ 1 ∷ 0 ∷ []) ∷ unbid (15 ∷ 11 ∷ 14 ∷ []) ∷ []

-- where 0 0 1 is offered there, a chain around below zero
abbrev pub three_steps : List Step
three_steps = 3 to 2 at 3 ∷ 2 to 1 at 2 ∷ 1 to 3 at 1 ∷ []

-- the cases, each with its claims below it
unfoldable pub table : List Claim
table =
    -- at prices 10, 20 the package 2 0 costs 20
    costs (10 ∷ 20 ∷ []) (2 ∷ 0 ∷ []) 20
    -- in the listing the step from package 2 to package 1 at round 2 is 8
    ∷ sums plain_money listing (2 to 1 at 2 ∷ []) (pos 8 ∷ []) (pos 8)
    -- where 3 0 is offered in round 3, the chain 3>1@3 1>3@1 has the steps -16 and 10 and sums to -6; the offer is refused
    ∷ sums plain_money (offered three_rounds (3 ∷ 0 ∷ [])) two_steps (minus 16 ∷ pos 10 ∷ []) (minus 6)
    ∷ judges plain_money (open_in 2 three_rounds) (Offer (3 ∷ 0 ∷ []) is contradicts two_steps ∷ [])
    -- A price of 1,000,000,001 is refused with 6, and one of 1,000,000,000 passes. A price equal to the last passes, and one
    -- that is 1 less is refused with 7.
    ∷ judges plain_money (new (book_of 1)) openings
    -- the listing's last sheet is 32 and 30 at plain money, and 32/0 and 30/-1 at strict money
    ∷ sheet_is plain_money listing (pos 32 ∷ pos 30 ∷ []) (grounds (pos 0 ∷ minus 2 ∷ []) ([] ∷ (1 to 2 at 3 ∷ []) ∷ []) 1 3)
    ∷ sheet_is strict_money listing ((pos 32, pos 0) ∷ (pos 30, minus 1) ∷ []) (grounds ((pos 0, pos 0) ∷ (minus 2, minus 1) ∷ []) ([] ∷ (1 to 2 at 3 ∷ []) ∷ []) 1 3)
    -- a new book's sheet is empty, and an offer in its first open round is held
    ∷ sheet_is plain_money (new (book_of 1)).rounds [] no_grounds
    ∷ sheet_is strict_money (new (book_of 1)).rounds [] no_grounds
    ∷ judges plain_money (new (book_of 1)) (opening (5 ∷ []) is met ∷ Offer (0 ∷ []) is held (pos 0 ∷ []) ∷ [])
    ∷ judges strict_money (new (book_of 1)) (opening (5 ∷ []) is met ∷ Offer (0 ∷ []) is held ((pos 0, pos 0) ∷ []) ∷ [])
    -- at prices 10, 20 in two rounds, with bid 2 0 in the first, plain money holds the offer 0 1, and strict money refuses it
    ∷ judges plain_money (open_in 2 two_alike) (Offer (0 ∷ 1 ∷ []) is held (pos 0 ∷ pos 0 ∷ []) ∷ [])
    ∷ judges strict_money (open_in 2 two_alike) (Offer (0 ∷ 1 ∷ []) is contradicts (2 to 1 at 2 ∷ 1 to 2 at 1 ∷ []) ∷ [])
    -- With bids 1 0 0 and 0 1 0 and the offer 0 0 1 every step between two packages and the step back sum to 1. Yet the chain
    -- 3>2@3 2>1@2 1>3@1 sums to -2: refused, at both kinds.
    ∷ pairs_sum plain_money (offered three_products (0 ∷ 0 ∷ 1 ∷ [])) (pos 1)
    ∷ sums plain_money (offered three_products (0 ∷ 0 ∷ 1 ∷ [])) three_steps (minus 3 ∷ pos 1 ∷ pos 0 ∷ []) (minus 2)
    ∷ judges plain_money (open_in 3 three_products) (Offer (0 ∷ 0 ∷ 1 ∷ []) is contradicts three_steps ∷ [])
    ∷ judges strict_money (open_in 3 three_products) (Offer (0 ∷ 0 ∷ 1 ∷ []) is contradicts three_steps ∷ [])
    ∷ []

-- every case of the table holds
abbrev pub CasesHold : Type 0
CasesHold = AllByRecursion Holds table
