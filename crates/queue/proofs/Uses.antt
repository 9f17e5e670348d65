-- For those who use a queue.
use Rattle.std.proofs.Common.{◌≡◌, ℕ, ◌<◌, cond, eqb, None, Ok, Result, sym, ap, ◌∙◌, subst, inl, inr, arith}
use Rattle.std.proofs.lemmas.List.{nil_from_length}
use Rattle.std.proofs.lemmas.Bool.{cases_Bool, ne_eqb}
use Rattle.worth.specs.Group.{Group}
use Rattle.heaps.specs.Found.{found}
use Rattle.queue.specs.Contents.{room, waiting, count, key_of}
use Rattle.queue.specs.Answers.{full_refusal, answer_of}
use Rattle.queue.specs.Calls.{PutIn}
use Rattle.queue.specs.declared.Full.{Full}
use Rattle.queue.specs.declared.Put.{Put}
use Rattle.queue.specs.declared.Put.TheVariants.{Added}
use Rattle.queue.specs.declared.Queue.{Queue}
use Rattle.queue.proofs.Memory.{number, key, count_waiting}

module _ (G : Group) {W : Type 0} (m : W → G.Carrier) (before : Queue W) (p : ℕ) (new : W) (r : Result Put Full) (after : Queue W) where
  -- a package that does not wait is added where there is room
  pub put_new : PutIn G m before p new r after → key_of before p ≡ None → count before < room before → PutIn G m before p new (Ok Added) after
  put_new done none free =
      let is : r ≡ Ok Added = done.answer ∙ ap (λ o. answer_of G m o new (eqb (count before) (room before))) none ∙ ap (λ b. cond b full_refusal (Ok Added)) (ne_eqb (count before) (room before) (omega arith)) in
      subst (λ s. PutIn G m before p new s after) is done

  -- and where it is not refused
  pub put_taken : PutIn G m before p new r after → key_of before p ≡ None → (x : Put) → r ≡ Ok x → PutIn G m before p new (Ok Added) after
  put_taken done none x took =
      let is : r ≡ cond (eqb (count before) (room before)) full_refusal (Ok Added) = done.answer ∙ ap (λ o. answer_of G m o new (eqb (count before) (room before))) none in
      elim (cases_Bool (eqb (count before) (room before))) [
        | inl t ↦ let no : Ok x ≡ full_refusal = sym took ∙ is ∙ ap (λ b. cond b full_refusal (Ok Added)) t in let z : ◌≡◌ {A = ℕ} 0 1 = cc in absurd (omega arith)
        | inr f ↦ subst (λ s. PutIn G m before p new s after) (is ∙ ap (λ b. cond b full_refusal (Ok Added)) f) done
      ]

-- where none is counted, no package waits
pub none_waits : {W : Type 0} (q : Queue W) → count q ≡ 0 → (p : ℕ) → key_of q p ≡ None
none_waits q z p = ap (λ l. found number key l p) (nil_from_length (waiting q) (count_waiting q ∙ z))
