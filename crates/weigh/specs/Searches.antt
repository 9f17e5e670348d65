-- What the parts of the search promise, over the rounds of a table.
use Rattle.std.specs.Prelude.{◌≡◌, ℕ, ◌-◌, ◌<◌, is_err, IfErr, Some, None, Ok, Err, Option, Result}
use Rattle.chains.specs.Places.{graph_of, Earlier}
use Rattle.paths.specs.Looks.{Looks, LooksAll, QueueLooks, QueueLooksAll}
use Rattle.paths.specs.Searching.{Begun}
use Rattle.paths.specs.Weighs.{Known, IsHeldAt, IsAround}
use Rattle.tables.specs.Known.{worths}
use Rattle.tables.specs.View.{rounds}
use Rattle.tables.specs.declared.table.Table.{Table}
use Rattle.weigh.specs.Queues.{keys}
use Rattle.weigh.specs.Reads.{state}
use Rattle.weigh.specs.declared.search.Closing.{Closing}
use Rattle.weigh.specs.declared.search.Search.{Search}
use Rattle.worth.specs.Group.{Group}

-- what the outcome of a search names is in the table
abbrev pub Inside : Table → Result ℕ Closing → Type 0
Inside T (Ok moved) = moved < T.packages
Inside T (Err closing) = (closing.last < T.packages) × (closing.round < T.rounds)

-- the round of the step that closes a chain around, if one does
abbrev pub closed_in : {X : Type 0} → Result X Closing → Option ℕ
closed_in (Ok x) = None
closed_in (Err closing) = Some closing.round

-- the search is for the same bid, from the same worths
pub record Same {X : Type 0} {w : _} (search search' : Search X w) : Type 0 where
  pub trial : search'.trial ≡ search.trial
  pub before : search'.before ≡ search.before

module _ (G : Group) {X : Type 0} (m : X → G.Carrier) {w : _} (search : Search X w) where
  -- nothing but the bid's package is finished, at the worths before, and nothing waits
  pub record Fresh : Type 0 where
    pub begun : Begun G (graph_of G (rounds search.trial.table.now)) (worths G m search.before.now) search.trial.place (state G m search.marks.now)
    pub empty : (y : ℕ) → keys G m search.queue y ≡ None

  module _ (search' : Search X w) where
    -- the steps from place a in round s were looked at
    pub record Looked (a s : ℕ) (r : Result (Unit {0}) Closing) : Type 0 where
      pub same : Same search search'
      pub turns : (y : ℕ) → (state G m search'.marks.now).turn y ≡ (state G m search.marks.now).turn y
      pub closing : IfErr r (λ closing. (closing.last ≡ a) × (closing.round ≡ s))
      pub looks : Looks G (graph_of G (rounds search.trial.table.now)) (Earlier (rounds search.trial.table.now)) search.trial.place (state G m search.marks.now) (state G m search'.marks.now) a s (is_err r)
      pub queues : QueueLooks G (graph_of G (rounds search.trial.table.now)) (Earlier (rounds search.trial.table.now)) search.trial.place (worths G m search.before.now) (state G m search.marks.now) (state G m search'.marks.now) (keys G m search.queue) (keys G m search'.queue) a s (is_err r)

    -- the steps from place y were looked at, in every round before the latest in which its package stood
    pub record LookedAll (y : ℕ) (r : Result (Unit {0}) Closing) : Type 0 where
      pub same : Same search search'
      pub turns : (z : ℕ) → (state G m search'.marks.now).turn z ≡ (state G m search.marks.now).turn z
      pub closing : IfErr r (λ closing. (closing.last ≡ y) × (closing.round < search.trial.table.now.rounds))
      pub looks : LooksAll G (graph_of G (rounds search.trial.table.now)) (Earlier (rounds search.trial.table.now)) search.trial.place (state G m search.marks.now) (state G m search'.marks.now) y (search.trial.table.now.rounds - 1) (closed_in r)
      pub queues : QueueLooksAll G (graph_of G (rounds search.trial.table.now)) (Earlier (rounds search.trial.table.now)) search.trial.place (worths G m search.before.now) (state G m search.marks.now) (state G m search'.marks.now) (keys G m search.queue) (keys G m search'.queue) y (closed_in r)

    -- how a search ended, for the bid of the latest round
    abbrev pub Ended : Result ℕ Closing → Type 0
    Ended (Ok moved) = IsHeldAt G (graph_of G (rounds search.trial.table.now)) (Earlier (rounds search.trial.table.now)) (worths G m search.before.now) search.trial.place (search.trial.table.now.rounds - 1) (state G m search'.marks.now) moved
    Ended (Err closing) = IsAround G (graph_of G (rounds search.trial.table.now)) (Earlier (rounds search.trial.table.now)) (worths G m search.before.now) search.trial.place (search.trial.table.now.rounds - 1) (state G m search'.marks.now) closing.last closing.round

    -- where the worths before are the inner worths of the earlier bids
    abbrev pub Searched : Result ℕ Closing → Type 0
    Searched r = Known G (graph_of G (rounds search.trial.table.now)) (Earlier (rounds search.trial.table.now)) (worths G m search.before.now) → Ended r
