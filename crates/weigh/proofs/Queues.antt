-- The foremost of the packages that wait leaves the queue.
use Rattle.std.proofs.Common.{◌≡◌, ℕ, Some, None, Option, MatchOption, sym, refl, ap, ◌∙◌, subst, arith}
use native.Mathlib.Decide.{ℕ_discrete}
use Rattle.std.specs.Option.{option_map}
use Rattle.paths.specs.Queued.{Leaves}
use Rattle.queue.proofs.Uses.{none_waits}
use Rattle.queue.specs.Calls.{Nothing, TakenOut}
use Rattle.queue.specs.Contents.{key_of}
use Rattle.queue.specs.declared.Entry.{Entry}
use Rattle.queue.specs.declared.Queue.{Queue}
use Rattle.weigh.specs.Queues.{Fit, keys}
use Rattle.worth.proofs.Orders.{le_refl}
use Rattle.worth.specs.Group.{Group, Laws}
use Rattle.worth.specs.Says.{AtMost}

mapped_back : {X Y : Type 0} (f : X → Y) (o : Option X) (y : Y) → option_map f o ≡ Some y → (x : X) × (o ≡ Some x) × (f x ≡ y)
mapped_back f None y h = let z : ◌≡◌ {A = ℕ} 0 1 = cc in absurd (omega arith)
mapped_back f (Some x) y h = (x, refl, cc)

module _ (G : Group) {X : Type 0} (m : X → G.Carrier) where
  module _ (n : ℕ) (q q' : Queue X) (fit : Fit G m n q) where
    pub take_leaves : Laws G → (e : Entry X) → TakenOut G m q e q' → Leaves G (keys G m q) (keys G m q') (Some e.«package»)
    take_leaves L e done =
        let first = done.first fit.sound in (
          m e.key,
          record {
            was = ap (option_map m) done.was;
            least = λ w l h. elim (ℕ_discrete w e.«package») [
              | yes i ↦
                  let b = mapped_back m (key_of q w) l h in
                  let same : Some b.0 ≡ Some e.key = sym b.1 ∙ ap (key_of q) i ∙ done.was in
                  let is : b.0 ≡ e.key = cc in
                  subst (λ u. AtMost G (m e.key) u) (ap m (sym is) ∙ b.2) (le_refl G L (m e.key))
              | no i ↦
                  let b = mapped_back m (key_of q w) l h in
                  subst (λ u. AtMost G (m e.key) u) b.2 (first.least w b.0 (first.others w i ∙ b.1))
            ];
            gone = ap (option_map m) first.gone;
            else = λ w i. ap (option_map m) (first.others w i);
          },
        )

    -- the foremost leaves, if any package waits
    pub taken_leaves : Laws G → (o : Option (Entry X)) → MatchOption o (Nothing q q') (λ e. TakenOut G m q e q') → Leaves G (keys G m q) (keys G m q') (option_map (λ e. e.«package») o)
    taken_leaves L None none = λ w. ap (option_map m) (none_waits q none.count w)
    taken_leaves L (Some e) done = take_leaves L e done
