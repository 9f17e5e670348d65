-- From the search's end, by places, to what weighing promises of rounds and packages.
use Rattle.std.proofs.Common.{◌≡◌, ℕ, ◌+◌, ◌-◌, ◌*◌, ◌^◌, ◌<◌, ◌≤◌, Bool, true, false, eqb, List, length, take, Some, None, Ok, Err, Option, Result, sym, refl, ap, ◌∙◌, subst, inl, inr, arith, eq-eqb, eqb-true}
use Rattle.std.proofs.lemmas.Bool.{cases_Bool}
use Rattle.chains.proofs.Offers.{earlier_stood, inner_before, new_place, no_shorter, offered_long, stays}
use Rattle.chains.proofs.Outcomes.{forbids, held_explained, held_inner, held_moved, held_small, not_explained}
use Rattle.chains.proofs.Places.{inner_by_place, within}
use Rattle.chains.proofs.Rolls.{roll_distinct}
use Rattle.chains.proofs.Sizes.{small_steps}
use Rattle.chains.specs.Chains.{Inner}
use Rattle.chains.specs.Numbers.{Forbids}
use Rattle.chains.specs.Places.{package_at, graph_of, Earlier}
use Rattle.chains.specs.Rounds.{Round, round, listed, enrolled, roll, offered, Placed, Sale}
use Rattle.paths.proofs.Enter.{inner_known}
use Rattle.paths.specs.Entry.{Entry}
use Rattle.paths.specs.Weighs as search
use Rattle.tables.specs.Known.{Known, worths}
use Rattle.weigh.specs.Answers.{values}
use Rattle.weigh.specs.Trials.{Before, WeighsTrial}
use Rattle.weigh.specs.Weighing.{Decides, Memories, NumberOn, Writes}
use Rattle.weigh.specs.declared.answer.Held.{Held}
use Rattle.weigh.specs.declared.answer.Refused.{Refused}
use Rattle.weigh.specs.declared.answer.Refused.TheVariants.{ShortMemory, RowLength, NoRound, BidStands, Contradiction}
use Rattle.worth.specs.Group.{Group, Laws}

-- 12 is not nothing
some_none : {Z : Type 0} → ◌≡◌ {A = Option ℕ} (Some 12) None → Z
some_none e = let z : ◌≡◌ {A = ℕ} 0 1 = cc in absurd (omega arith)

none_some : {Z : Type 0} → ◌≡◌ {A = Option ℕ} None (Some 12) → Z
none_some e = let z : ◌≡◌ {A = ℕ} 0 1 = cc in absurd (omega arith)

module _ (G : Group) (L : Laws G) {X : Type 0} (m : X → G.Carrier) (R : List Round) (row : List ℕ) (n : ℕ) (few : n ≤ 16) (sale : Sale n (offered R row))
    (some : 0 < length R) (free : (round R (length R - 1)).bid ≡ None) (enrols : roll (offered R row) ≡ enrolled (roll R) (Some row))
    (x : ℕ) (place : Placed (roll (offered R row)) row (Some x)) (few_packages : length (roll (offered R row)) ≤ 128) (new : Bool) (New-is : new ≡ eqb x (length (roll R)))
    (inner : List X) (before after : Memories X) (room : length (roll (offered R row)) ≤ length before.worths) where
  abbrev R' : List Round
  R' = offered R row

  abbrev t : ℕ
  t = length R' - 1

  latest : t + 1 ≡ length R
  latest = omega (arith, offered_long R row)

  free_t : (round R t).bid ≡ None
  free_t = ap (λ k. (round R k).bid) (omega (arith, offered_long R row)) ∙ free

  pub number : NumberOn R' row (x + 1)
  number = (omega arith, subst (λ k. Placed (roll R') row (Some k)) (omega arith) place)

  only_number : (k : ℕ) → NumberOn R' row k → k ≡ x + 1
  only_number k h = let same = roll_distinct R' (k - 1) x h.1.0 place.0 (h.1.1 ∙ sym place.1) in let one = h.0 in omega arith

  pub writes : (r : Result Held Refused) → WeighsTrial G m R' x new inner before after r → Writes R' row before after (values r)
  writes (Ok held) w = record {
    either = inl refl;
    held = λ _. record { number = rw w.0 number; few = w.1; long = w.3; rest = w.4; chain = w.2 };
    contradiction = λ e. none_some e;
  }
  writes (Err (Contradiction steps)) w = record {
    either = inr refl;
    held = λ e. some_none e;
    contradiction = λ _. record { few = w.0; rest = w.1; long = w.2; worths = w.3 };
  }
  writes (Err ShortMemory) w = absurd w
  writes (Err RowLength) w = absurd w
  writes (Err NoRound) w = absurd w
  writes (Err BidStands) w = absurd w

  new_unlisted : new ≡ true → listed (roll R) row ≡ false
  new_unlisted h = elim (cases_Bool (listed (roll R) row)) [
    | inl on ↦ let is = eqb-true x (length (roll R)) (sym New-is ∙ h) in let l = place.0 in absurd (omega (arith, ap length (stays R row t latest free_t enrols on)))
    | inr off ↦ off
  ]

  unlisted_new : listed (roll R) row ≡ false → (x ≡ length (roll R)) × (new ≡ true)
  unlisted_new h = let is = new_place R row t latest free_t enrols h x place in (is, New-is ∙ eq-eqb x (length (roll R)) is)

  module _ (known : Known G m R inner) (d : ℕ → G.Carrier) (start : Before G m R' x new inner d) where
    same : (y : ℕ) → y < length (roll R) → d y ≡ worths G m inner y
    same y on = start.same y (omega (arith, no_shorter R row t latest free_t enrols)) (λ is_new e. let is = (unlisted_new (new_unlisted is_new)).0 in omega arith)

    small : (s a : ℕ) → Earlier R' s a → G.size (worths G m inner a) ≤ 2 ^ 45 * 128
    small s a old = known.small a (within R s a (earlier_stood R row t latest free_t enrols s a old))

    entry : listed (roll R) row ≡ false → Entry G (graph_of G R') (Earlier R') (worths G m inner) (length (roll R)) (d (length (roll R)))
    entry h = let is = unlisted_new h in subst (λ k. Entry G (graph_of G R') (Earlier R') (worths G m inner) k (d k)) is.0 (start.entry is.1 small)

    known_before : search.Known G (graph_of G R') (Earlier R') d
    known_before =
        inner_known G L (graph_of G R') (Earlier R') few_packages (small_steps n few R' sale G L) (λ s a old. within R' s a old.1) d
        (inner_before R row t latest free_t enrols G L (worths G m inner) d (λ y on. inner_by_place R G y (worths G m inner y) on (known.inner y on)) same entry)

    inner_d : (y : ℕ) → y < length (roll R) → Inner G R (package_at R y) (d y)
    inner_d y on = subst (λ v. Inner G R (package_at R y) v) (sym (same y on)) (known.inner y on)

  pub decides : (r : Result Held Refused) → WeighsTrial G m R' x new inner before after r → Known G m R inner → Decides R' row before after (values r) G m R
  decides (Ok held) w known =
      let d = w.5.0 in
      let st = w.5.1 in
      let h = w.5.3.held (known_before known d w.5.2) in
      let dists = w.5.3.dists in
      let long = w.3 in
      record {
        held = λ _. (
          held_explained G L R row t latest free_t enrols x place d st held.moved h,
          record {
            inner = λ y on. subst (λ v. Inner G R' (package_at R' y) v) (sym (dists y on)) (held_inner G L R row t latest free_t enrols x place d st held.moved h y on);
            small = λ y on. subst (λ v. G.size v ≤ 2 ^ 45 * 128) (sym (dists y on)) (held_small G L R row t latest free_t enrols x place d st held.moved h few_packages (small_steps n few R' sale G L) y on);
            many = omega arith;
          },
          held_moved G L R row t latest free_t enrols x place d st held.moved h (inner_d known d w.5.2),
        );
        contradiction = λ e. none_some e;
      }
  decides (Err (Contradiction steps)) w known =
      let d = w.4.0 in
      let st = w.4.1 in
      let k = known_before known d w.4.2 in
      let around = w.4.3.around k in
      let traced = w.4.3.traced k in
      record {
        held = λ e. some_none e;
        contradiction = λ _. (
          not_explained G L R row t latest free_t enrols x place d st around.0 around.1 around.2,
          (λ j on. subst (λ i. Forbids G R' i (take steps after.chain)) (sym (only_number j on)) (subst (λ ls. Forbids G R' (x + 1) ls) (sym traced.numbers) (forbids G L R row t latest free_t enrols x place d st traced.steps traced.route))),
        );
      }
  decides (Err ShortMemory) w known = absurd w
  decides (Err RowLength) w known = absurd w
  decides (Err NoRound) w known = absurd w
  decides (Err BidStands) w known = absurd w
