-- What weighing the bid of a trial promises, by places.
use Rattle.std.specs.Prelude.{◌≡◌, ℕ, ◌+◌, ◌-◌, ◌<◌, ◌≤◌, Bool, true, ◌≢◌, List, length, take, drop, Ok, Err, Result}
use Rattle.chains.specs.Places.{graph_of, Earlier}
use Rattle.chains.specs.Rounds.{Round, roll}
use Rattle.paths.specs.Entry.{Entry}
use Rattle.paths.specs.Searching.{State}
use Rattle.paths.specs.Weighs.{Known, IsHeldAt, IsAround}
use Rattle.paths.specs.declared.Step.{Step}
use Rattle.tables.specs.Known.{worths}
use Rattle.weigh.specs.Starts.{SmallBefore}
use Rattle.weigh.specs.Traces.{TracedOut}
use Rattle.weigh.specs.Weighing.{Memories}
use Rattle.weigh.specs.declared.answer.Held.{Held}
use Rattle.weigh.specs.declared.answer.Refused.{Refused}
use Rattle.weigh.specs.declared.answer.Refused.TheVariants.{ShortMemory, RowLength, NoRound, BidStands, Contradiction}
use Rattle.worth.specs.Group.{Group}

module _ (G : Group) {X : Type 0} (m : X → G.Carrier) (R : List Round) (x : ℕ) (new : Bool) (inner : List X) where
  -- the worths d that the search starts from
  pub record Before (d : ℕ → G.Carrier) : Type 0 where
    pub same : (y : ℕ) → y < 128 → (new ≡ true → y ≢ x) → d y ≡ worths G m inner y
    pub entry : new ≡ true → SmallBefore G m R inner → Entry G (graph_of G R) (Earlier R) (worths G m inner) x (d x)

  -- the worths d and the search's end st are those of a bid that is held, and st is what is written
  pub record TrialHeld (d : ℕ → G.Carrier) (st : State G) (moved : ℕ) (written : List X) : Type 0 where
    pub dists : (y : ℕ) → y < length (roll R) → worths G m written y ≡ st.dist y
    pub held : Known G (graph_of G R) (Earlier R) d → IsHeldAt G (graph_of G R) (Earlier R) d x (length R - 1) st moved

  -- or of one that is not, and a chain around is written
  pub record TrialAround (d : ℕ → G.Carrier) (st : State G) (written : List Step) : Type 0 where
    pub around : Known G (graph_of G R) (Earlier R) d → (last : ℕ) × (round : ℕ) × IsAround G (graph_of G R) (Earlier R) d x (length R - 1) st last round
    pub traced : Known G (graph_of G R) (Earlier R) d → TracedOut G R x (length R - 1) written

  module _ (before after : Memories X) where
    abbrev pub WeighsTrial : Result Held Refused → Type 0
    WeighsTrial (Ok held) =
        (held.«package» ≡ x + 1) × (held.moved < length (roll R)) × (after.chain ≡ before.chain) × (length after.worths ≡ length before.worths) × (drop (length (roll R)) after.worths ≡ drop (length (roll R)) before.worths)
        × ((d : ℕ → G.Carrier) × (st : State G) × Before d × TrialHeld d st held.moved after.worths)
    WeighsTrial (Err (Contradiction steps)) =
        (steps ≤ 128) × (drop steps after.chain ≡ drop steps before.chain) × (length after.chain ≡ length before.chain) × (after.worths ≡ before.worths)
        × ((d : ℕ → G.Carrier) × (st : State G) × Before d × TrialAround d st (take steps after.chain))
    WeighsTrial (Err ShortMemory) = ⊥
    WeighsTrial (Err RowLength) = ⊥
    WeighsTrial (Err NoRound) = ⊥
    WeighsTrial (Err BidStands) = ⊥
