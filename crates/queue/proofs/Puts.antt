-- What each answer of `put` says is so.
use Rattle.std.proofs.Common.{◌≡◌, ℕ, ◌+◌, ◌-◌, ◌<◌, Bool, true, false, cond, eqb, List, [], ◌∷◌, ◌++◌, length, get_or, take, drop, set, is_some, Some, None, Option, Ok, Result, sym, refl, ap, ◌∙◌, subst, arith, length-append, length-set, length-take}
use Rattle.std.specs.List.Sorted.{IsPermutation}
use Rattle.std.proofs.lemmas.List.{get_or_read, get_or-take, take_all, take-take}
use Rattle.std.specs.List.{position}
use Rattle.std.proofs.lemmas.List.Quantifiers.{position-Some}
use Rattle.std.proofs.lemmas.List.Sorted.{length_permutation}
use Rattle.std.proofs.lemmas.Bool.{eqb-true, eqb-false, eq-eqb, ne_eqb, true≢false}
use Rattle.worth.specs.Group.{Group}
use Rattle.worth.specs.Says.{less_of}
use Rattle.heaps.specs.Found.{found, Apart, Lacks}
use Rattle.heaps.proofs.Found.{found_first, found_none, found_at}
use Rattle.heaps.proofs.Moves as moves
use Rattle.heaps.proofs.Places.{fewer}
use Rattle.queue.specs.Contents.{memory, room, waiting, count, key_of}
use Rattle.queue.specs.Order.{ahead_of, Heaped}
use Rattle.queue.specs.Answers.{full_refusal, answer_of, outcome}
use Rattle.queue.specs.Calls.{Past, Stored, PutIn}
use Rattle.queue.specs.declared.Entry.{Entry}
use Rattle.queue.specs.declared.Full.{Full}
use Rattle.queue.specs.declared.Put.{Put}
use Rattle.queue.specs.declared.Put.TheVariants.{Added, Lowered, Kept}
use Rattle.queue.specs.declared.Queue.{Queue}
use Rattle.queue.proofs.Memory.{number, key, count_waiting, room_kept, past_kept, waiting_after}
use Rattle.queue.proofs.Orders.{below_ahead}

module _ (G : Group) {W : Type 0} (m : W → G.Carrier) where
  answer_none : (old : Option W) (new : W) (full b : Bool) → old ≡ None → full ≡ b → answer_of G m old new full ≡ cond b full_refusal (Ok Added)
  answer_none old new full b e f = ap (λ o. answer_of G m o new full) e ∙ ap (λ t. cond t full_refusal (Ok Added)) f

  answer_some : (old : Option W) (was new : W) (full b : Bool) → old ≡ Some was → less_of G m new was ≡ b → answer_of G m old new full ≡ Ok (cond b Lowered Kept)
  answer_some old was new full b e f = ap (λ o. answer_of G m o new full) e ∙ ap (λ t. Ok (cond t Lowered Kept)) f

  -- what is stored in place of, or behind, what waited
  stored : (before after : Queue W) (e : Entry W) (r : Result Put Full) (ts : List (Entry W)) → waiting after ≡ ts → Heaped G m ts → moves.Stored number key (waiting before) ts e
      → (outcome r (key_of before e.«package») e.key).key ≡ Some e.key → (outcome r (key_of before e.«package») e.key).waits ≡ true → Stored G m before e.«package» e.key r after
  stored before after e r ts is heap t new waits =
      let back = sym is in
      record {
        sound = record { heap = subst (Heaped G m) back heap; apart = subst (Apart number) back t.apart };
        key = ap (λ l. found number key l e.«package») is ∙ t.here ∙ sym new;
        others = λ p ne. ap (λ l. found number key l p) is ∙ t.others p ne;
        enough = λ n fits low all. waits;
      }

  -- A package that does not wait.
  module _ (before : Queue W) (e : Entry W) (lacks : Lacks number (waiting before) e.«package») where
    none : key_of before e.«package» ≡ None
    none = found_none number key (waiting before) e.«package» e (lacks e)

    pub full : count before ≡ room before → PutIn G m before e.«package» e.key full_refusal before
    full all = record {
      answer = sym (answer_none _ e.key _ true none (eq-eqb _ _ all));
      same = λ _. refl;
      past = refl;
      stored = λ law. record {
        sound = law;
        key = none;
        others = λ p ne. refl;
        enough = λ n fits low below.
            let few = fewer number (waiting before) e n law.apart lacks
            (λ k a. below _ (ap is_some (found_at number key (waiting before) law.apart e k a))) low in
            absurd (omega (arith, count_waiting before));
      };
      room = refl;
      count = omega arith;
    }

    module _ (after : Queue W) (ts : List (Entry W)) (in' : count before < room before)
        (is : memory after ≡ ts ++ drop (count before + 1) (memory before)) (len : count after ≡ count before + 1)
        (s : IsPermutation (take (length (take (count before + 1) (memory before)) - 1) (take (count before + 1) (memory before)) ++ e ∷ []) ts) where
      part : take (length (take (count before + 1) (memory before)) - 1) (take (count before + 1) (memory before)) ≡ waiting before
      part =
          let mem = memory before in
          let k = count before + 1 in
          let long = length-take k mem in
          ap (λ j. take j (take k mem)) (omega arith) ∙ take-take (count before) k mem (omega arith)

      shuffled : IsPermutation (waiting before ++ e ∷ []) ts
      shuffled = subst (λ l. IsPermutation (l ++ e ∷ []) ts) part s

      long : length ts ≡ count before + 1
      long = length_permutation _ ts shuffled ∙ length-append (waiting before) (e ∷ []) ∙ ap (λ j. j + 1) (count_waiting before)

      wait : waiting after ≡ ts
      wait = waiting_after before after ts _ long (omega arith) is (omega arith) ∙ take_all (count after) ts (omega (arith, long))

      pub added : (Heaped G m (take (length (take (count before + 1) (memory before)) - 1) (take (count before + 1) (memory before))) → Heaped G m ts) → PutIn G m before e.«package» e.key (Ok Added) after
      added rise = record {
        answer = sym (answer_none _ e.key _ false none (ne_eqb _ _ (omega arith)));
        same = λ b. absurd (true≢false b);
        past = subst (λ j. Past j before after) (sym len) (past_kept before after ts _ long (omega arith) is);
        stored = λ law. stored before after e (Ok Added) ts wait (rise (subst (Heaped G m) (sym part) law.heap)) (moves.push_stores number key (waiting before) ts e law.apart lacks shuffled) refl refl;
        room = room_kept before after ts _ long (omega arith) is;
        count = len;
      }

  -- A package that waits, first at i.
  module _ (before : Queue W) (e old : Entry W) (i : ℕ) (at : position (λ x. eqb (number x) e.«package») (waiting before) ≡ Some i) (is : old ≡ get_or (memory before) i old) where
    in' : i < count before
    in' = omega (arith, (position-Some _ (waiting before) i old at).0, count_waiting before)

    reads : (x : Entry W) → get_or (waiting before) i x ≡ old
    reads x = get_or-take (count before) (memory before) i x in' ∙ sym (get_or_read (memory before) i old (omega (arith, in', before.within)) is x)

    there : (x : Entry W) → (get_or (waiting before) i x).«package» ≡ e.«package»
    there x = eqb-true _ _ (position-Some _ (waiting before) i x at).1

    some : key_of before e.«package» ≡ Some old.key
    some = found_first number key (waiting before) e.«package» e i (position-Some _ (waiting before) i e at).0 (there e) (λ j l. eqb-false _ _ ((position-Some _ (waiting before) i e at).2 j l)) ∙ ap (λ x. Some (key x)) (reads e)

    pub kept : less_of G m e.key old.key ≡ false → PutIn G m before e.«package» e.key (Ok Kept) before
    kept larger = record {
      answer = sym (answer_some _ old.key e.key _ false some larger);
      same = λ _. refl;
      past = refl;
      stored = λ law. record { sound = law; key = refl; others = λ p ne. refl; enough = λ n fits low below. refl };
      room = refl;
      count = omega arith;
    }

    module _ (after : Queue W) (ts : List (Entry W)) (now : memory after ≡ ts ++ drop (count before) (memory before)) (len : count after ≡ count before)
        (s : IsPermutation (set (waiting before) i e) ts) where
      size : length ts ≡ count before
      size = length_permutation _ ts s ∙ length-set (waiting before) i e ∙ count_waiting before

      holds : waiting after ≡ ts
      holds = waiting_after before after ts _ size before.within now (omega arith) ∙ take_all (count after) ts (omega (arith, size))

      pub lowered : less_of G m e.key old.key ≡ true → (((x : Entry W) → ahead_of G m e (get_or (waiting before) i x) ≡ true) → Heaped G m (waiting before) → Heaped G m ts)
          → PutIn G m before e.«package» e.key (Ok Lowered) after
      lowered smaller rise =
          let ahead : (x : Entry W) → ahead_of G m e (get_or (waiting before) i x) ≡ true = λ x.
          below_ahead G m e _ (ap (λ (y : Entry W). less_of G m e.key y.key) (reads x) ∙ smaller) in
          record {
            answer = sym (answer_some _ old.key e.key _ true some smaller);
            same = λ b. absurd (true≢false b);
            past = subst (λ j. Past j before after) (sym len) (past_kept before after ts _ size before.within now);
            stored = λ law. stored before after e (Ok Lowered) ts holds (rise ahead law.heap) (moves.set_stores number key (waiting before) ts i e law.apart (omega (arith, in', count_waiting before)) there s) refl refl;
            room = room_kept before after ts _ size before.within now;
            count = omega arith;
          }
