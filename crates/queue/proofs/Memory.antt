-- Which part of the memory waits.
use Rattle.std.proofs.Common.{◌≡◌, ℕ, ◌≤◌, cond, eqb, ltb, List, ◌++◌, length, drop, Some, None, Option, ap, ◌∙◌, sym, take, inl, inr, arith, length-append, length-drop, length-take}
use Rattle.std.specs.List.{position, position_or_len}
use Rattle.std.proofs.lemmas.List.{take-append-le}
use Rattle.std.proofs.lemmas.List.Sums.{fails_before_first}
use Rattle.std.proofs.lemmas.Slice.{drop-append-drop}
use Rattle.std.proofs.lemmas.Bool.{cases_Bool, eqb-false, ltb-false}
use Rattle.heaps.specs.Found.{Lacks}
use Rattle.queue.specs.Contents.{memory, room, waiting, count}
use Rattle.queue.specs.Calls.{Past}
use Rattle.queue.specs.declared.Entry.{Entry}
use Rattle.queue.specs.declared.Queue.{Queue}

module _ {W : Type 0} where
  abbrev pub number : Entry W → ℕ
  number e = e.«package»

  abbrev pub key : Entry W → W
  key e = e.key

  pub count_waiting : (q : Queue W) → length (waiting q) ≡ count q
  count_waiting q = let cut = length-take q.len (memory q) in omega (arith, q.within)

  -- a package at no position is that of no entry
  pub lacks_unplaced : (xs : List (Entry W)) (p : ℕ) → position (λ e. eqb (number e) p) xs ≡ None → Lacks number xs p
  lacks_unplaced xs p none d k in' =
      let at = position_or_len (λ e. eqb (number e) p) xs in
      elim (cases_Bool (ltb at (length xs))) [
        | inl t ↦ let e : ◌≡◌ {A = Option ℕ} (Some at) None = ap (λ b. cond b (Some at) None) (sym t) ∙ none in let z : ◌≡◌ {A = ℕ} 0 1 = cc in absurd (omega arith)
        | inr f ↦ eqb-false _ _ (fails_before_first (λ e. eqb (number e) p) xs k d (omega (arith, ltb-false _ _ f)))
      ]

  -- Entries ts in the first k places, and the others as before.
  module _ (before after : Queue W) (ts : List (Entry W)) (k : ℕ) (long : length ts ≡ k) (in' : k ≤ room before) (is : memory after ≡ ts ++ drop k (memory before)) where
    pub room_kept : room after ≡ room before
    room_kept = let more = length-append ts (drop k (memory before)) in let rest = length-drop k (memory before) in let all = ap length is in omega arith

    pub past_kept : Past k before after
    past_kept = ap (drop k) is ∙ drop-append-drop k (memory before) ts k (omega arith) long

    -- the first n of them wait
    pub waiting_after : count after ≤ k → waiting after ≡ take (count after) ts
    waiting_after le = ap (take (count after)) is ∙ take-append-le (count after) ts _ (omega arith)
