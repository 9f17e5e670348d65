-- The answers to `put`: which one is given, and what each means.
use Rattle.std.specs.Prelude.{ℕ, Bool, true, false, cond, Some, None, Option, Ok, Err, Result}
use Rattle.worth.specs.Group.{Group}
use Rattle.worth.specs.Says.{less_of}
use Rattle.queue.specs.declared.Full.{Full}
use Rattle.queue.specs.declared.Put.{Put}
use Rattle.queue.specs.declared.Put.TheVariants.{Added, Lowered, Kept}

-- the refusal: the memory is full
abbrev pub full_refusal : Result Put Full
full_refusal = Err (record {})

-- the answer, by the key with which the package waits, the new key, and whether all of the memory waits
abbrev pub answer_of : (G : Group) {W : Type 0} (m : W → G.Carrier) → Option W → W → Bool → Result Put Full
answer_of G m None new full = cond full full_refusal (Ok Added)
answer_of G m (Some old) new full = Ok (cond (less_of G m new old) Lowered Kept)

-- What an answer means.
pub record Outcome (W : Type 0) : Type 0 where
  -- yes or no: whether the package waits now
  pub waits : Bool
  -- whether anything changed
  pub changed : Bool
  -- how many more packages wait
  pub more : ℕ
  -- the key with which the package waits
  pub key : Option W

-- old is the key with which the package waited, new the one that it was put in with
abbrev pub outcome : {W : Type 0} → Result Put Full → Option W → W → Outcome W
outcome (Ok Added) old new = record { waits = true; changed = true; more = 1; key = Some new }
outcome (Ok Lowered) old new = record { waits = true; changed = true; more = 0; key = Some new }
outcome (Ok Kept) old new = record { waits = true; changed = false; more = 0; key = old }
outcome (Err refused) old new = record { waits = false; changed = false; more = 0; key = None }
