-- What weighing one more bid promises.
use Rattle.std.specs.Prelude.{◌≡◌, ℕ, ◌-◌, ◌<◌, ◌≤◌, min, ◌⊎◌, List, length, take, drop, Some, None, Err, Option, Result}
use Rattle.chains.specs.Chains.{Explained}
use Rattle.chains.specs.Numbers.{Forbids, Moved}
use Rattle.chains.specs.Rounds.{Round, Placed, roll, offered}
use Rattle.paths.specs.declared.Step.{Step}
use Rattle.queue.specs.declared.Entry.{Entry}
use Rattle.tables.specs.Known.{Known}
use Rattle.tables.specs.View.{rounds}
use Rattle.tables.specs.declared.table.Table.{Table}
use Rattle.weigh.specs.Answers.{Values, unfit, values}
use Rattle.weigh.specs.declared.answer.Held.{Held}
use Rattle.weigh.specs.declared.answer.Refused.{Refused}
use Rattle.worth.specs.Group.{Group}

-- k is the number of the package `row` on the roll
abbrev pub NumberOn : List Round → List ℕ → ℕ → Type 0
NumberOn rounds row k = (1 ≤ k) × Placed (roll rounds) row (Some (k - 1))

-- The memories of a weighing: chain memory and the memory for the new inner worths.
pub record Memories (X : Type 0) : Type 0 where
  pub chain : List Step
  pub worths : List X

-- `later` are the rounds with the bid in the latest one, before and after are the memories, v the answer's values.
module _ {X : Type 0} (later : List Round) (row : List ℕ) (before after : Memories X) (v : Values) where
  -- A bid that is held has its package's number; the new worths are written from the start, one a package, and no chain.
  pub record HeldWrites : Type 0 where
    pub number : NumberOn later row v.«package»
    -- the offered package itself never falls
    pub few : v.moved < length (roll later)
    pub long : length after.worths ≡ length before.worths
    pub rest : drop (length (roll later)) after.worths ≡ drop (length (roll later)) before.worths
    pub chain : after.chain ≡ before.chain

  -- Of a contradiction only the steps of the chain are written.
  pub record ChainWrites : Type 0 where
    pub few : v.steps ≤ 128
    pub long : length after.chain ≡ length before.chain
    pub rest : drop v.steps after.chain ≡ drop v.steps before.chain
    pub worths : after.worths ≡ before.worths

  -- The bid is held, or refused under number 12.
  pub record Writes : Type 0 where
    pub either : (v.refusal ≡ None) ⊎ (v.refusal ≡ Some 12)
    pub held : v.refusal ≡ None → HeldWrites
    pub contradiction : v.refusal ≡ Some 12 → ChainWrites

  -- It is held where some worths make all bids and this one best choices, with the new inner worths and the moved
  -- count; otherwise no worths do, and a chain forbids it. `earlier` are the rounds without the bid.
  pub record Decides (G : Group) (m : X → G.Carrier) (earlier : List Round) : Type 0 where
    pub held : v.refusal ≡ None → Explained G later × Known G m later after.worths × Moved G earlier later v.moved
    pub contradiction : v.refusal ≡ Some 12 → (¬ Explained G later) × ((k : ℕ) → NumberOn later row k → Forbids G later k (take v.steps after.chain))

-- What `weigh` promises of the table T, the row, the worths in hand and the memories.
module _ (G : Group) {X : Type 0} (m : X → G.Carrier) (T : Table) (row : List ℕ) (inner : List X) (heap heap' : List (Entry X)) (before after : Memories X) (r : Result Held Refused) where
  -- the reason not to weigh, if there is one
  abbrev pub barred : Option Refused
  barred = unfit T.products (rounds T) row (min (length inner) (min (length heap) (min (length before.chain) (length before.worths))))

  pub record Weighs : Type 0 where
    -- the reason not to weigh is told, and nothing is written
    pub refused : (e : Refused) → barred ≡ Some e → (r ≡ Err e) × (heap' ≡ heap) × (after ≡ before)
    -- otherwise the bid is weighed; heap memory may then hold anything
    pub writes : barred ≡ None → Writes (offered (rounds T) row) row before after (values r)
    -- and where the worths in hand are the inner worths of the bids that stand, the answer is right
    pub decides : barred ≡ None → Known G m (rounds T) inner → Decides (offered (rounds T) row) row before after (values r) G m (rounds T)
