-- What a case claims, and what its claim means.
use Rattle.std.specs.Prelude.{◌≡◌, ℕ, ◌≢◌, List, [], ◌∷◌, map, Some, None, Option}
use Rattle.chains.specs.Chains.{step}
use Rattle.chains.specs.Places.{graph_of, bids_of}
use Rattle.chains.specs.Rounds.{Round, Stood}
use Rattle.chains.specs.Rows.{cost}
use Rattle.chains.specs.Sheet.{Sheet}
use Rattle.ledger.specs.Feeding.{after}
use Rattle.ledger.specs.Judging.{Judged}
use Rattle.ledger.specs.Ledger.{Dealing, Ledger}
use Rattle.ledger.specs.Refusals.{refusal_number}
use Rattle.ledger.specs.declared.refusal.Refusal.{Refusal}
use Rattle.paths.specs.Bids.{StoodIn}
use Rattle.paths.specs.Route.{Leads, value_of, sum_of}
use Rattle.paths.specs.declared.Step.{Step}
use Rattle.worth.specs.Group.{Group}
use Rattle.worth.specs.Models.{plain, strict}

-- the two kinds of money, by name
pub data Money : Type 0 where
  plain_money : Money
  strict_money : Money

-- what a kind of money means
abbrev pub group_of : Money → Group
group_of plain_money = plain
group_of strict_money = strict

-- a worth at a kind of money
abbrev pub Value : Money → Type 0
Value k = (group_of k).Carrier

-- what shows that a sheet is right
pub record Grounds (k : Money) : Type 0 where
  -- the inner worths, package by package
  pub inner : List (Value k)
  -- for each package a chain that ends there and sums to its inner worth
  pub chains : List (List Step)
  -- a package and a round in which it stood, where cost less inner worth is greatest
  pub top_package : ℕ
  pub top_round : ℕ

-- how a dealing is judged, and where it is an offer, what shows it
pub data Verdict (k : Money) : Type 0 where
  met : Verdict k
  -- an offer is met: these worths explain the bids
  held : (worths : List (Value k)) → Verdict k
  -- refused under a number
  refused : ℕ → Verdict k
  -- an offer is refused under number 12: this chain around is below zero
  contradicts : (chain : List Step) → Verdict k

-- a dealing with its verdict
pub record Line (k : Money) : Type 0 where
  pub dealing : Dealing
  pub verdict : Verdict k

-- What is handed to the check alone, grounds, worths and chains around, is no part of what a claim means.
pub data Claim : Type 0 where
  -- at these prices the package costs n
  costs : (prices row : List ℕ) → ℕ → Claim
  -- the steps are a chain, come to these values one by one, and sum to s
  sums : (k : Money) → List Round → List Step → List (Value k) → (s : Value k) → Claim
  -- each step between two packages and each step back sum to s
  pairs_sum : (k : Money) → List Round → (s : Value k) → Claim
  -- the sheet is this one
  sheet_is : (k : Money) → List Round → (sheet : List (Value k)) → Grounds k → Claim
  -- the ledger judges these dealings, told one after another, as said
  judges : (k : Money) → Ledger → List (Line k) → Claim

-- the number that a verdict says, if it is a refusal
abbrev pub number_said : {k : Money} → Verdict k → Option ℕ
number_said met = None
number_said (held worths) = None
number_said (refused n) = Some n
number_said (contradicts chain) = Some 12

-- the number under which a refusal, if there is one, is told
abbrev pub number_told : Option Refusal → Option ℕ
number_told None = None
number_told (Some r) = Some (refusal_number r)

module _ (G : Group) (rounds : List Round) where
  open G use {Carrier, add as ◌⊕◌}

  infixl 65 ◌⊕◌
  -- The steps lead from one package to another, each from where the one before ended and in a round in which the package
  -- that it leaves stood. They come to these values one by one, and to s together.
  abbrev pub IsChain : List Step → List Carrier → Carrier → Type 0
  IsChain ls values s =
      (a : ℕ) × (b : ℕ) × Leads G (graph_of G rounds) (StoodIn (bids_of rounds)) a ls b
      × (map (value_of G (graph_of G rounds)) ls ≡ values) × (sum_of G (graph_of G rounds) ls ≡ s)

  -- wherever two packages stood, the step from the one to the other and the step back sum to s
  abbrev pub PairsAre : Carrier → Type 0
  PairsAre s = (t u : ℕ) (x y : List ℕ) → Stood rounds t x → Stood rounds u y → y ≢ x → step G rounds x y t ⊕ step G rounds y x u ≡ s

  -- this is the sheet, and no other list is
  abbrev pub TheSheet : List Carrier → Type 0
  TheSheet sheet = Sheet G rounds sheet × ((other : List Carrier) → Sheet G rounds other → other ≡ sheet)

-- each dealing is judged in its turn, met or refused under the number that its verdict says
abbrev pub JudgesSo : (k : Money) → Ledger → List (Line k) → Type 0
JudgesSo k l [] = Unit {0}
JudgesSo k l (line ∷ lines) =
    (o : Option Refusal) × Judged (group_of k) l line.dealing o × (number_told o ≡ number_said line.verdict)
    × JudgesSo k (after l line.dealing o) lines

-- what a claim means
abbrev pub Holds : Claim → Type 0
Holds (costs prices row n) = cost row prices ≡ n
Holds (sums k rounds ls values s) = IsChain (group_of k) rounds ls values s
Holds (pairs_sum k rounds s) = PairsAre (group_of k) rounds s
Holds (sheet_is k rounds sheet grounds) = TheSheet (group_of k) rounds sheet
Holds (judges k l lines) = JudgesSo k l lines
