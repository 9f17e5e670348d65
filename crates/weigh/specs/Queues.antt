-- The queue of the packages that wait.
use Rattle.std.specs.Prelude.{◌≡◌, ℕ, ◌<◌, ◌≤◌, true, is_some, Option}
use Rattle.std.specs.Option.{option_map}
use Rattle.queue.specs.Contents.{key_of, room}
use Rattle.queue.specs.Order.{Sound}
use Rattle.queue.specs.declared.Queue.{Queue}
use Rattle.worth.specs.Group.{Group}

-- m is what the keys mean
module _ (G : Group) {X : Type 0} (m : X → G.Carrier) where
  -- the key with which each package waits, by its meaning
  abbrev pub keys : Queue X → ℕ → Option G.Carrier
  keys q p = option_map m (key_of q p)

  -- a queue that has room for n packages, and in which only packages below n wait
  pub record Fit (n : ℕ) (q : Queue X) : Type 0 where
    pub sound : Sound G m q
    pub roomy : n ≤ room q
    pub only : (p : ℕ) → is_some (key_of q p) ≡ true → p < n
