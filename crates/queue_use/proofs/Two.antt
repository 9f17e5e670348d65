-- Two packages in, and both out.
use Rattle.std.proofs.Common.{◌≡◌, ℕ, ◌≤◌, true, false, cond, ◌⊎◌, List, length, is_some, Some, None, Ok, Result, sym, ap, ◌∙◌, inl, inr, ⊎_elim, arith}
use Rattle.std.proofs.lemmas.Bool.{both_ways, cases_eq}
use Rattle.worth.specs.Group.{Group, Laws}
use Rattle.worth.specs.Says.{less_of}
use Rattle.worth.proofs.Orders.{lt_or_eq}
use Rattle.queue.specs.Contents.{room, count, key_of}
use Rattle.queue.specs.Calls.{Made, PutIn, First, TakenOut}
use Rattle.queue.specs.Order.{Sound}
use Rattle.queue.specs.declared.Entry.{Entry}
use Rattle.queue.specs.declared.Full.{Full}
use Rattle.queue.specs.declared.Put.{Put}
use Rattle.queue.specs.declared.Put.TheVariants.{Added}
use Rattle.queue.specs.declared.Queue.{Queue}
use Rattle.queue.proofs.Uses.{put_new, put_taken}
use Rattle.queue_use.specs.Order.{order_of}

module _ (G : Group) (L : Laws G) {W : Type 0} (m : W → G.Carrier) (one two : W) where
  -- 1 and 2 wait in q, and nothing else
  pub record Both (q : Queue W) : Type 0 where
    pub count : count q ≡ 2
    pub first : key_of q 1 ≡ Some one
    pub second : key_of q 2 ≡ Some two
    pub others : (p : ℕ) → (p ≡ 1 → ⊥) → (p ≡ 2 → ⊥) → key_of q p ≡ None
    pub sound : Sound G m q

  -- what two answers leave: 1 is added to a new queue, and then 2
  both_in : (mem : List (Entry W)) (made between after : Queue W) → Made G m mem made → PutIn G m made 1 one (Ok Added) between → PutIn G m between 2 two (Ok Added) after → Both after
  both_in mem made between after new fst snd =
      let one' = fst.stored new.sound in
      let two' = snd.stored one'.sound in
      record {
        first = two'.others 1 (omega arith) ∙ one'.key;
        second = two'.key;
        others = λ p a b. two'.others p b ∙ one'.others p a ∙ new.none p;
        sound = two'.sound;
        count = omega (arith, new.count, fst.count, snd.count);
      }

  -- 2 does not wait once 1 is added
  out_of : (mem : List (Entry W)) (made between : Queue W) → Made G m mem made → PutIn G m made 1 one (Ok Added) between → key_of between 2 ≡ None
  out_of mem made between new fst = (fst.stored new.sound).others 2 (omega arith) ∙ new.none 2

  -- where there is room for two
  pub both : (mem : List (Entry W)) (made between after : Queue W) (r s : Result Put Full) → 2 ≤ length mem → Made G m mem made → PutIn G m made 1 one r between → PutIn G m between 2 two s after → Both after
  both mem made between after r s long new p q =
      let fits : room made ≡ length mem = ap length new.same in
      let fst = put_new G m made 1 one r between p (new.none 1) (omega (arith, new.count)) in
      let snd = put_new G m between 2 two s after q (out_of mem made between new fst) (omega (arith, new.count, fst.count, fst.room)) in
      both_in mem made between after new fst snd

  -- where neither is refused
  pub both_taken : (mem : List (Entry W)) (made between after : Queue W) (r s : Result Put Full) (x y : Put) → r ≡ Ok x → s ≡ Ok y → Made G m mem made → PutIn G m made 1 one r between → PutIn G m between 2 two s after → Both after
  both_taken mem made between after r s x y in_one in_two new p q =
      let fst = put_taken G m made 1 one r between p (new.none 1) x in_one in
      let snd = put_taken G m between 2 two s after q (out_of mem made between new fst) y in_two in
      both_in mem made between after new fst snd

  module _ (q mid last : Queue W) (e f : Entry W) (b : Both q) (t : TakenOut G m q e mid) (u : TakenOut G m mid f last) where
    first : First G m q e mid
    first = t.first b.sound

    either : (e.«package» ≡ 1) ⊎ (e.«package» ≡ 2)
    either = ⊎_elim inl (λ x. ⊎_elim inr (λ y. absurd (both_ways _ (ap is_some (b.others e.«package» x y)) (ap is_some t.was))) (cases_eq e.«package» 2)) (cases_eq e.«package» 1)

    keyed : (p : ℕ) (k : W) → e.«package» ≡ p → key_of q p ≡ Some k → e.key ≡ k
    keyed p k is h = let z : Some e.key ≡ Some k = sym t.was ∙ ap (key_of q) is ∙ h in cc

    -- where e is the package p, the package o is left, and comes next
    next : (p o : ℕ) (k : W) → e.«package» ≡ p → (o ≡ p → ⊥) → key_of q o ≡ Some k → ((x : ℕ) → (x ≡ p → ⊥) → (x ≡ o → ⊥) → key_of q x ≡ None) → (key_of mid o ≡ Some k) × (f.«package» ≡ o)
    next p o k is ne key none = (
      first.others o (λ z. ne (z ∙ is)) ∙ key,
      elim (cases_eq f.«package» o) [
        | inl z ↦ z
        | inr z ↦ absurd (both_ways _ (ap is_some (elim (cases_eq f.«package» p) [
          | inl y ↦ ap (key_of mid) (y ∙ sym is) ∙ first.gone
          | inr y ↦ first.others f.«package» (λ x. y (x ∙ is)) ∙ none f.«package» y z
        ])) (ap is_some u.was))
      ],
    )

    pub order : (e.«package», f.«package») ≡ order_of G m one two
    order = elim either [
      | inl i ↦
          let k = keyed 1 one i b.first in
          let n = next 1 2 two i (omega arith) b.second b.others in
          let pair : (e.«package», f.«package») ≡ (1, 2) = cc (i, n.1) in
          let z : less_of G m two one ≡ false = ap (less_of G m two) (sym k) ∙ first.least 2 two n.0 in
          pair ∙ sym (ap (λ t. cond t (2, 1) (1, 2)) z)
      | inr i ↦
          let k = keyed 2 two i b.second in
          let n = next 2 1 one i (omega arith) b.first (λ x y z. b.others x z y) in
          let pair : (e.«package», f.«package») ≡ (2, 1) = cc (i, n.1) in
          let le : less_of G m one two ≡ false = ap (less_of G m one) (sym k) ∙ first.least 1 one n.0 in
          let z : less_of G m two one ≡ true = ⊎_elim
          (λ (l : less_of G m two one ≡ true). l)
          (λ (l : m two ≡ m one). let h = first.lowest 1 one n.0 (ap m k ∙ l) in absurd (omega (arith, i)))
          (lt_or_eq G L (m two) (m one) le) in
          pair ∙ sym (ap (λ t. cond t (2, 1) (1, 2)) z)
    ]
