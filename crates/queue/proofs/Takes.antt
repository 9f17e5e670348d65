-- What is so once the first entry is taken.
use Rattle.std.proofs.Common.{◌≡◌, ℕ, ◌-◌, ◌<◌, List, ◌∷◌, ◌++◌, length, get_or, take, drop, is_some, Some, sym, refl, ap, ◌∙◌, subst, inl, inr, arith}
use Rattle.std.specs.List.Sorted.{IsPermutation}
use Rattle.std.proofs.lemmas.Bool.{both_ways, cases_order}
use Rattle.worth.specs.Group.{Group, Laws}
use Rattle.worth.specs.Says.{less_of, AtMost}
use Rattle.worth.proofs.Orders.{le_or_lt}
use Rattle.heaps.proofs.Found.{found_first}
use Rattle.heaps.proofs.Moves as moves
use Rattle.queue.specs.Contents.{memory, waiting, count, key_of}
use Rattle.queue.specs.Order.{Over, Heaped, Sound}
use Rattle.queue.specs.Calls.{TakenOut}
use Rattle.queue.specs.declared.Entry.{Entry}
use Rattle.queue.specs.declared.Queue.{Queue}
use Rattle.queue.proofs.Memory.{number, key, count_waiting, room_kept, past_kept, waiting_after}
use Rattle.queue.proofs.Orders.{over_not, over_same, over_chain}

module _ (G : Group) {W : Type 0} (m : W → G.Carrier) where
  -- The first of the entries is taken.
  module _ (before after : Queue W) (e : Entry W) (ts : List (Entry W)) (pos : 0 < count before)
      (now : memory after ≡ ts ++ drop (count before) (memory before)) (len : count after ≡ count before - 1)
      (top : e ≡ get_or (waiting before) 0 e)
      (s : IsPermutation (waiting before) (e ∷ take (length (waiting before) - 1) ts)) (size : length ts ≡ length (waiting before)) where
    count_ts : length ts ≡ count before
    count_ts = size ∙ count_waiting before

    remains : waiting after ≡ take (length (waiting before) - 1) ts
    remains = waiting_after before after ts _ count_ts before.within now (omega arith) ∙ ap (λ j. take j ts) (omega (arith, count_waiting before))

    gone : IsPermutation (waiting before) (e ∷ waiting after)
    gone = subst (λ ys. IsPermutation (waiting before) (e ∷ ys)) (sym remains) s

    -- the entry taken is that of the top
    module _ (L : Laws G) (law : Sound G m before) where
      rest : moves.Taken number key (waiting before) (waiting after) e
      rest = moves.taken number key (waiting before) (waiting after) e law.apart gone

      over : (p : ℕ) (k : W) → key_of after p ≡ Some k → (y : Entry W) × (y.«package» ≡ p) × (y.key ≡ k) × Over G m e y
      over = moves.top_over number key (Over G m) (over_same G L m) (over_chain G L m) (waiting before) (waiting after) e law.apart law.heap top gone

      least : (p : ℕ) (k : W) → key_of after p ≡ Some k → AtMost G (m e.key) (m k)
      least p k is = let y = over p k is in elim (le_or_lt G L (m e.key) (m k)) [
        | inl h ↦ h
        | inr h ↦ absurd (over_not G L m e y.0 y.3 (inl (ap (λ x. less_of G m x e.key) y.2 ∙ h)))
      ]

      lowest : (p : ℕ) (k : W) → key_of after p ≡ Some k → m e.key ≡ m k → e.«package» < p
      lowest p k is same = let y = over p k is in elim (cases_order e.«package» p) [
        | inl z ↦ absurd (both_ways _ (ap is_some (ap (key_of after) (sym z) ∙ rest.gone)) (ap is_some is))
        | inr o ↦ elim o [ inl l ↦ l | inr l ↦ absurd (over_not G L m e y.0 y.3 (inr (ap m y.2 ∙ sym same, omega (arith, y.1)))) ]
      ]

    pub taken : Laws G → (Heaped G m (waiting before) → Heaped G m (take (length (waiting before) - 1) ts)) → TakenOut G m before e after
    taken L sink = record {
      was = ap (λ (x : Entry W). key_of before x.«package») top ∙ found_first number key (waiting before) _ e 0 (omega (arith, count_waiting before)) refl (λ j l. absurd (omega arith)) ∙ ap (λ (x : Entry W). Some x.key) (sym top);
      past = past_kept before after ts _ count_ts before.within now;
      first = λ law. record {
        sound = record { heap = subst (Heaped G m) (sym remains) (sink law.heap); apart = (rest L law).apart };
        gone = (rest L law).gone;
        others = (rest L law).others;
        least = least L law;
        lowest = lowest L law;
      };
      room = room_kept before after ts _ count_ts before.within now;
      count = omega arith;
    }
