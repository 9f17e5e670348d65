-- The check of a claim: a test that computes.
use Rattle.std.specs.Prelude.{ℕ, zero as nought, suc, Bool, true, false, not, ◌&&◌, ◌||◌, List, [], ◌∷◌, map, length, Some, None, Option, ◌==◌, nat_lt, slice_index_or}
use Rattle.cases.specs.Claims.{Money, group_of, Verdict, met, held, refused, contradicts, Line, Claim, costs, sums, pairs_sum, sheet_is, judges}
use Rattle.chains.specs.Chains.{step}
use Rattle.chains.specs.Places.{package_at, graph_of, bids_of}
use Rattle.chains.specs.Rounds.{Round, round, same, roll, offered}
use Rattle.chains.specs.Rows.{cost}
use Rattle.chains.specs.Sheet.{paid}
use Rattle.ledger.specs.Feeding.{after}
use Rattle.ledger.specs.Judging.{early}
use Rattle.ledger.specs.Ledger.{Dealing, opening, offering, confirming, withdrawing, closing, reading_sheet, reading_roll, Ledger}
use Rattle.ledger.specs.Refusals.{refusal_number}
use Rattle.ledger.specs.declared.refusal.Refusal.{Refusal}
use Rattle.ledger.specs.declared.refusal.Refusal.TheVariants.{Contradiction}
use Rattle.paths.specs.Route.{value_of, sum_of}
use Rattle.paths.specs.declared.Step.{Step}
use Rattle.worth.specs.Group.{Group}

-- the test passes at each number below n
abbrev pub all_below : ℕ → (ℕ → Bool) → Bool
all_below nought test = true
all_below (suc n) test = test n && all_below n test

-- where the steps start, and where they end; at a if there is none
abbrev pub start : List Step → ℕ → ℕ
start [] a = a
start (l ∷ ls) a = l.from

abbrev pub finish : List Step → ℕ → ℕ
finish [] a = a
finish (l ∷ ls) a = finish ls l.to

module _ (rounds : List Round) where
  -- how many packages are on the roll
  abbrev pub count : ℕ
  count = length (roll rounds)

  -- in round t, the package at place a stood
  abbrev pub stands : ℕ → ℕ → Bool
  stands t a = nat_lt t (length rounds) && (bids_of rounds).test t a

  -- the steps lead from a to b
  abbrev pub leads : ℕ → List Step → ℕ → Bool
  leads a [] b = a == b
  leads a (l ∷ ls) b =
      (l.from == a) && (stands l.round l.from && (nat_lt l.to count && (not (l.to == l.from) && leads l.to ls b)))

module _ (G : Group) where
  open G use {Carrier, zero, add as ◌⊕◌, neg as ⊖◌, less}

  infixl 65 ◌⊕◌
  infix 70 ⊖◌
  -- whether two values, and two lists of values, are the same
  abbrev pub equal : Carrier → Carrier → Bool
  equal x y = not (less x y) && not (less y x)

  abbrev pub equals : List Carrier → List Carrier → Bool
  equals [] [] = true
  equals [] (y ∷ ys) = false
  equals (x ∷ xs) [] = false
  equals (x ∷ xs) (y ∷ ys) = equal x y && equals xs ys

  -- the worth of the package at place a
  abbrev pub worth_in : List Carrier → ℕ → Carrier
  worth_in worths a = slice_index_or worths a zero

  module _ (rounds : List Round) where
    -- the steps are a chain, with these values and this sum
    abbrev pub is_chain : List Step → List Carrier → Carrier → Bool
    is_chain ls values s =
        leads rounds (start ls 0) ls (finish ls (start ls 0))
        && (equals (map (value_of G (graph_of G rounds)) ls) values && equal (sum_of G (graph_of G rounds) ls) s)

    -- where both rounds have bids, the step from one to the other and the step back sum to s
    abbrev pub pair_is : Carrier → ℕ → ℕ → Option (List ℕ) → Option (List ℕ) → Bool
    pair_is s t u None bid = true
    pair_is s t u (Some x) None = true
    pair_is s t u (Some x) (Some y) = same y x || equal (step G rounds x y t ⊕ step G rounds y x u) s

    -- so it is for all rounds
    abbrev pub pairs_are : Carrier → Bool
    pairs_are s = all_below (length rounds) (λ t. all_below (length rounds) (λ u. pair_is s t u (round rounds t).bid (round rounds u).bid))

    -- the worths make each standing bid a best choice
    abbrev pub explain : List Carrier → Bool
    explain worths = all_below (length rounds) (λ t. all_below (count rounds) (λ a. all_below (count rounds) (λ b.
        not (stands rounds t a) || (b == a || not (less (worth_in worths a ⊕ (graph_of G rounds).step a b t) (worth_in worths b))))))

    -- they are at most zero, and each is the sum of the chain given for it
    abbrev pub attained : List Carrier → List (List Step) → Bool
    attained worths chains = all_below (count rounds) (λ a.
        not (less zero (worth_in worths a))
        && (leads rounds (start (slice_index_or chains a []) a) (slice_index_or chains a []) a && equal (sum_of G (graph_of G rounds) (slice_index_or chains a [])) (worth_in worths a)))

    -- what the package at place a costs in round t, less its inner worth
    abbrev pub lead : List Carrier → ℕ → ℕ → Carrier
    lead inner t a = paid G rounds t (package_at rounds a) ⊕ ⊖ worth_in inner a

    -- no standing bid has a greater lead
    abbrev pub highest : List Carrier → Carrier → Bool
    highest inner r = all_below (length rounds) (λ u. all_below (count rounds) (λ b. not (stands rounds u b) || not (less r (lead inner u b))))

    -- each worth on the sheet is the inner worth and the lead of the bid for a in round t
    abbrev pub raised : List Carrier → List Carrier → ℕ → ℕ → Bool
    raised sheet inner t a = all_below (length sheet) (λ b. stands rounds t a && equal (slice_index_or sheet b zero) (worth_in inner b ⊕ lead inner t a))

    -- the sheet is right, on these grounds
    abbrev pub is_sheet : List Carrier → List Carrier → List (List Step) → ℕ → ℕ → Bool
    is_sheet sheet inner chains t a =
        (length sheet == count rounds)
        && (explain inner && (attained inner chains && (highest inner (lead inner t a) && raised sheet inner t a)))

    -- the steps are a chain around below zero
    abbrev pub falls : List Step → Bool
    falls ls = leads rounds (start ls 0) ls (start ls 0) && less (sum_of G (graph_of G rounds) ls) zero

-- the row that a dealing offers
abbrev pub row_offered : Dealing → Option (List ℕ)
row_offered (opening prices) = None
row_offered (offering row heap chain) = Some row
row_offered (confirming slip) = None
row_offered (withdrawing slip) = None
row_offered closing = None
row_offered (reading_sheet memory) = None
row_offered (reading_roll memory) = None

module _ (k : Money) where
  -- what the verdict shows of an offer, where no refusal below 12 is told
  abbrev pub shows : List Round → Option (List ℕ) → Verdict k → Bool
  shows rounds None met = true
  shows rounds None (held worths) = false
  shows rounds None (refused n) = false
  shows rounds None (contradicts chain) = false
  shows rounds (Some row) met = false
  shows rounds (Some row) (held worths) = explain (group_of k) (offered rounds row) worths
  shows rounds (Some row) (refused n) = false
  shows rounds (Some row) (contradicts chain) = falls (group_of k) (offered rounds row) chain

  -- the verdict is this refusal
  abbrev pub says : Refusal → Verdict k → Bool
  says r met = false
  says r (held worths) = false
  says r (refused n) = refusal_number r == n
  says r (contradicts chain) = false

  -- the verdict fits, where this is the lowest refusal below 12
  abbrev pub judged : Ledger → Dealing → Verdict k → Option Refusal → Bool
  judged l d v None = shows l.rounds (row_offered d) v
  judged l d v (Some r) = says r v

  -- what a verdict that fits answers, where this is the lowest refusal below 12
  abbrev pub answer : Verdict k → Option Refusal → Option Refusal
  answer v (Some r) = Some r
  answer met None = None
  answer (held worths) None = None
  answer (refused n) None = None
  answer (contradicts chain) None = Some Contradiction

  -- the verdicts fit, one after another
  abbrev pub all_judged : Ledger → List (Line k) → Bool
  all_judged l [] = true
  all_judged l (line ∷ lines) =
      judged l line.dealing line.verdict (early l line.dealing)
      && all_judged (after l line.dealing (answer line.verdict (early l line.dealing))) lines

-- whether a claim passes the check
abbrev pub passes : Claim → Bool
passes (costs prices row n) = cost row prices == n
passes (sums k rounds ls values s) = is_chain (group_of k) rounds ls values s
passes (pairs_sum k rounds s) = pairs_are (group_of k) rounds s
passes (sheet_is k rounds sheet g) = is_sheet (group_of k) rounds sheet g.inner g.chains g.top_round g.top_package
passes (judges k l lines) = all_judged k l lines

-- whether every claim of a list does
abbrev pub all_pass : List Claim → Bool
all_pass [] = true
all_pass (c ∷ cs) = passes c && all_pass cs
