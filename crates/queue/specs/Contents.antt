-- What a queue holds.
use Rattle.std.specs.Prelude.{ℕ, List, length, take, Option}
use Rattle.heaps.specs.Found.{found}
use Rattle.queue.specs.declared.Entry.{Entry}
use Rattle.queue.specs.declared.Queue.{Queue}

module _ {W : Type 0} where
  -- the memory that was lent
  abbrev pub memory : Queue W → List (Entry W)
  memory q = q.entries.now

  -- how many packages can wait in it
  abbrev pub room : Queue W → ℕ
  room q = length (memory q)

  -- the entries that wait
  abbrev pub waiting : Queue W → List (Entry W)
  waiting q = take q.len (memory q)

  -- how many packages wait
  abbrev pub count : Queue W → ℕ
  count q = q.len

  -- the key with which the package p waits, if it does
  abbrev pub key_of : Queue W → ℕ → Option W
  key_of q p = found (λ e. e.«package») (λ e. e.key) (waiting q) p
