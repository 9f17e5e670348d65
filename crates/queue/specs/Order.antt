-- In which order packages come out.
use Rattle.std.specs.Prelude.{◌≡◌, Bool, true, false, cond, nat_lt, List}
use Rattle.worth.specs.Group.{Group}
use Rattle.worth.specs.Says.{less_of}
use Rattle.heaps.specs.Heap.{Heap}
use Rattle.heaps.specs.Found.{Apart}
use Rattle.queue.specs.Contents.{waiting}
use Rattle.queue.specs.declared.Entry.{Entry}
use Rattle.queue.specs.declared.Queue.{Queue}

-- m is what the keys mean
module _ (G : Group) {W : Type 0} (m : W → G.Carrier) where
  -- whether a comes out before b: by the keys, and where these mean the same by the numbers of the packages
  abbrev pub ahead_of : Entry W → Entry W → Bool
  ahead_of a b = cond (less_of G m a.key b.key) true (cond (less_of G m b.key a.key) false (nat_lt a.«package» b.«package»))

  -- a may stand over b in the heap
  abbrev pub Over : Entry W → Entry W → Type 0
  Over a b = ahead_of b a ≡ false

  -- entries in the places of a heap
  abbrev pub Heaped : List (Entry W) → Type 0
  Heaped es = Heap Over es

  -- What a new queue is, and what calls keep.
  pub record Sound (q : Queue W) : Type 0 where
    -- the entries are a heap
    pub heap : Heaped (waiting q)
    -- no package waits twice
    pub apart : Apart (λ e. e.«package») (waiting q)
