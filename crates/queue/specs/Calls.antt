-- What each call promises. The promises about what waits rest on a queue that is sound, as every queue is that was
-- made by `new` and changed by these calls alone.
use Rattle.std.specs.Prelude.{◌≡◌, ℕ, ◌+◌, ◌<◌, ◌≤◌, true, false, List, drop, is_some, Some, None, Result, ◌==◌, ◌≢◌}
use Rattle.worth.specs.Group.{Group}
use Rattle.worth.specs.Says.{AtMost}
use Rattle.queue.specs.Contents.{memory, room, count, key_of}
use Rattle.queue.specs.Order.{Sound}
use Rattle.queue.specs.Answers.{answer_of, outcome}
use Rattle.queue.specs.declared.Entry.{Entry}
use Rattle.queue.specs.declared.Full.{Full}
use Rattle.queue.specs.declared.Put.{Put}
use Rattle.queue.specs.declared.Queue.{Queue}

-- every package but p waits as before
abbrev pub Others : {W : Type 0} → Queue W → ℕ → Queue W → Type 0
Others before p after = (q : ℕ) → (q ≢ p) → key_of after q ≡ key_of before q

-- entries of the memory past the first n are as before
abbrev pub Past : {W : Type 0} → ℕ → Queue W → Queue W → Type 0
Past n before after = drop n (memory after) ≡ drop n (memory before)

module _ (G : Group) {W : Type 0} (m : W → G.Carrier) where
  -- What `new` makes of the memory mem.
  pub record Made (mem : List (Entry W)) (q : Queue W) : Type 0 where
    pub same : memory q ≡ mem
    pub none : (p : ℕ) → key_of q p ≡ None
    pub count : count q ≡ 0
    pub sound : Sound G m q

  -- What `put` does in a sound queue to the package p, which is put in with a new key.
  pub record Stored (before : Queue W) (p : ℕ) (new : W) (r : Result Put Full) (after : Queue W) : Type 0 where
    pub sound : Sound G m after
    pub key : key_of after p ≡ (outcome r (key_of before p) new).key
    pub others : Others before p after
    -- memory for n packages is never full where their numbers are below n
    pub enough : (n : ℕ) → n ≤ room before → p < n → ((q : ℕ) → is_some (key_of before q) ≡ true → q < n) → (outcome r (key_of before p) new).waits ≡ true

  -- What `put` does in any queue.
  pub record PutIn (before : Queue W) (p : ℕ) (new : W) (r : Result Put Full) (after : Queue W) : Type 0 where
    pub answer : r ≡ answer_of G m (key_of before p) new (count before == room before)
    pub same : (outcome r (key_of before p) new).changed ≡ false → after ≡ before
    pub past : Past (count after) before after
    pub stored : Sound G m before → Stored before p new r after
    pub room : room after ≡ room before
    pub count : count after ≡ count before + (outcome r (key_of before p) new).more

  -- What `take` does in a sound queue: e comes first of all that wait, and waits no more.
  pub record First (before : Queue W) (e : Entry W) (after : Queue W) : Type 0 where
    pub sound : Sound G m after
    pub gone : key_of after e.«package» ≡ None
    pub others : Others before e.«package» after
    -- no key that is left is below that of e
    pub least : (p : ℕ) (k : W) → key_of after p ≡ Some k → AtMost G (m e.key) (m k)
    -- and where one means the same, its package has the higher number
    pub lowest : (p : ℕ) (k : W) → key_of after p ≡ Some k → m e.key ≡ m k → e.«package» < p

  -- What `take` does in any queue: e comes out.
  pub record TakenOut (before : Queue W) (e : Entry W) (after : Queue W) : Type 0 where
    pub was : key_of before e.«package» ≡ Some e.key
    pub past : Past (count before) before after
    pub first : Sound G m before → First before e after
    pub room : room after ≡ room before
    pub count : count before ≡ count after + 1

-- What `take` does in any queue with nothing to take.
pub record Nothing {W : Type 0} (before after : Queue W) : Type 0 where
  pub same : after ≡ before
  pub count : count before ≡ 0
