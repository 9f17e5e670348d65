-- Rounds with one more bid, in the latest one, beside the same rounds without it.
use Rattle.std.proofs.Common.{◌≡◌, ℕ, zero, suc, ◌+◌, ◌<◌, ◌≤◌, true, false, List, [], ◌∷◌, ◌++◌, length, get_or, Some, None, sym, refl, ap, ◌∙◌, subst, inl, inr, arith, length-append}
use native.Mathlib.Decide.{ℕ_discrete, dec_lt}
use Rattle.std.proofs.lemmas.Bool.{cases_Bool}
use Rattle.chains.proofs.Places.{package_stood, place_stood, placed, stood_before, within}
use Rattle.chains.proofs.Rolls.{getD_end, get_d_front, roll_distinct, stood_on_roll}
use Rattle.chains.specs.Chains.{step}
use Rattle.chains.specs.Places.{package_at, bids_of, graph_of, Earlier}
use Rattle.chains.specs.Steps.{step_at}
use Rattle.chains.specs.Rounds.{Round, round, Stood, listed, enrolled, roll, offered, Placed}
use Rattle.paths.proofs.Chains.{inner_same}
use Rattle.paths.proofs.Enter.{entered}
use Rattle.paths.specs.Bids.{StoodIn, Within, New}
use Rattle.paths.specs.Entry.{Entry}
use Rattle.paths.specs.Graph.{AreInner, Includes, IsInner}
use Rattle.worth.specs.Group.{Group, Laws}

-- the rounds, one by one
pub offered_long : (R : List Round) (row : List ℕ) → length (offered R row) ≡ length R
offered_long [] row = refl
offered_long (r ∷ []) row = refl
offered_long (r ∷ (s ∷ R)) row = ap suc (offered_long (s ∷ R) row)

pub offered_prices : (R : List Round) (row : List ℕ) (t : ℕ) → (round (offered R row) t).prices ≡ (round R t).prices
offered_prices [] row t = refl
offered_prices (r ∷ []) row zero = refl
offered_prices (r ∷ []) row (suc t) = refl
offered_prices (r ∷ (s ∷ R)) row zero = refl
offered_prices (r ∷ (s ∷ R)) row (suc t) = offered_prices (s ∷ R) row t

offered_before : (R : List Round) (row : List ℕ) (t : ℕ) → t + 1 < length R → (round (offered R row) t).bid ≡ (round R t).bid
offered_before [] row t h = refl
offered_before (r ∷ []) row t h = absurd (omega arith)
offered_before (r ∷ (s ∷ R)) row zero h = refl
offered_before (r ∷ (s ∷ R)) row (suc t) h = offered_before (s ∷ R) row t (omega arith)

offered_at : (R : List Round) (row : List ℕ) (t : ℕ) → t + 1 ≡ length R → (round (offered R row) t).bid ≡ Some row
offered_at [] row t h = absurd (omega arith)
offered_at (r ∷ []) row t h = let e : t ≡ 0 = omega arith in rw e refl
offered_at (r ∷ (s ∷ R)) row zero h = absurd (omega arith)
offered_at (r ∷ (s ∷ R)) row (suc t) h = offered_at (s ∷ R) row t (omega arith)

module _ (R : List Round) (row : List ℕ) (t : ℕ) (latest : t + 1 ≡ length R) (free : (round R t).bid ≡ None)
    (enrols : roll (offered R row) ≡ enrolled (roll R) (Some row)) where
  abbrev R' : List Round
  R' = offered R row

  abbrev count : ℕ
  count = length (roll R)

  -- the roll stays, or the row comes last
  pub stays : listed (roll R) row ≡ true → roll R' ≡ roll R
  stays h = enrols ∙ rw h refl

  pub grows : listed (roll R) row ≡ false → roll R' ≡ roll R ++ row ∷ []
  grows h = enrols ∙ rw h refl

  pub grown_by_one : listed (roll R) row ≡ false → length (roll R') ≡ count + 1
  grown_by_one h = ap length (grows h) ∙ length-append (roll R) (row ∷ [])

  pub no_shorter : count ≤ length (roll R')
  no_shorter = elim (cases_Bool (listed (roll R) row)) [
    | inl h ↦ omega (arith, ap length (stays h))
    | inr h ↦ omega (arith, grown_by_one h)
  ]

  -- a row that was not on the roll has the place past it
  pub new_place : listed (roll R) row ≡ false → (x : ℕ) → Placed (roll R') row (Some x) → x ≡ count
  new_place h x place =
      roll_distinct R' x count place.0 (omega (arith, grown_by_one h)) (place.1 ∙ sym (ap (λ ys. get_or ys count []) (grows h) ∙ getD_end (roll R) row))

  -- a package keeps its place
  pub same_package : (a : ℕ) → a < count → package_at R' a ≡ package_at R a
  same_package a on = elim (cases_Bool (listed (roll R) row)) [
    | inl h ↦ ap (λ ys. get_or ys a []) (stays h)
    | inr h ↦ ap (λ ys. get_or ys a []) (grows h) ∙ get_d_front (roll R) row a on
  ]

  -- the bids before the latest round are those that stood
  pub earlier_stood : (s a : ℕ) → Earlier R' s a → StoodIn (bids_of R) s a
  earlier_stood s a old =
      let p = package_stood R' s a old.1 in
      let before : Stood R s (package_at R' a) = sym (offered_before R row s (let l = old.0 in omega (arith, offered_long R row))) ∙ p.1 in
      let b = placed R (package_at R' a) (stood_on_roll R s (package_at R' a) before) in
      let same : b.0 ≡ a = roll_distinct R' b.0 a (omega (arith, no_shorter, b.1)) p.0 (same_package b.0 b.1 ∙ b.2) in
      let here : Stood R s (package_at R b.0) = before ∙ ap Some (sym b.2) in
      subst (λ c. StoodIn (bids_of R) s c) same (place_stood R s b.0 b.1 here)

  pub stood_earlier : (s a : ℕ) → StoodIn (bids_of R) s a → Earlier R' s a
  stood_earlier s a old =
      let p = package_stood R s a old in
      let early : s + 1 < length R = elim (ℕ_discrete s t) [
        | yes e ↦
            let both : Some (package_at R a) ≡ None = sym p.1 ∙ ap (λ k. (round R k).bid) e ∙ free in
            let z : ◌≡◌ {A = ℕ} 0 1 = cc in absurd (omega arith)
        | no e ↦ let l = stood_before R s (package_at R a) p.1 in omega arith
      ] in
      let there : Stood R' s (package_at R' a) = offered_before R row s early ∙ p.1 ∙ ap Some (sym (same_package a p.0)) in
      (omega (arith, offered_long R row), place_stood R' s a (omega (arith, no_shorter, p.0)) there)

  -- and with the new bid they are all that stand
  module _ (x : ℕ) (place : Placed (roll R') row (Some x)) where
    pub new_stood : (s a : ℕ) → New (Earlier R') x t s a → StoodIn (bids_of R') s a
    new_stood s a (inl old) = old.1
    new_stood s a (inr new) = rw (new.0, new.1) (place_stood R' t x place.0 (offered_at R row t latest ∙ ap Some (sym place.1)))

    pub stood_new : (s a : ℕ) → StoodIn (bids_of R') s a → New (Earlier R') x t s a
    stood_new s a h = elim (dec_lt (s + 1) (length R')) [
      | yes early ↦ inl (early, h)
      | no late ↦
          let p = package_stood R' s a h in
          let l = h.0 in
          let is : s ≡ t = omega (arith, offered_long R row) in
          let both : Some (package_at R' a) ≡ Some row = sym p.1 ∙ ap (λ k. (round R' k).bid) is ∙ offered_at R row t latest in
          let same : package_at R' a ≡ row = cc in
          inr (is, roll_distinct R' a x p.0 place.0 (same ∙ sym place.1))
    ]

  module _ (G : Group) where
    same_step : (a b s : ℕ) → a < count → b < count → (graph_of G R').step a b s ≡ (graph_of G R).step a b s
    same_step a b s ha hb =
        ap (λ v. step G R' v (package_at R' b) s) (same_package a ha) ∙ ap (λ v. step G R' (package_at R a) v s) (same_package b hb)
        ∙ ap (λ v. step_at G (package_at R a) (package_at R b) v) (offered_prices R row s)

    -- the graph before has the same steps
    pub includes : Includes G (graph_of G R) (graph_of G R') (StoodIn (bids_of R)) (Earlier R')
    includes = record { count = no_shorter; stood = stood_earlier; step = λ s a b old on. same_step a b s (within R s a old) on }

    before_within : Within count (Earlier R')
    before_within s a old = within R s a (earlier_stood s a old)

    module _ (L : Laws G) (d d' : ℕ → G.Carrier) (inner : AreInner G (graph_of G R) (StoodIn (bids_of R)) d) (same : (y : ℕ) → y < count → d' y ≡ d y)
        (entry : listed (roll R) row ≡ false → Entry G (graph_of G R') (Earlier R') d count (d' count)) where
      -- the inner worths of the earlier bids, over the larger roll
      pub inner_before : AreInner G (graph_of G R') (Earlier R') d'
      inner_before = elim (cases_Bool (listed (roll R) row)) [
        | inl h ↦
            let long = ap length (stays h) in
            let back : Includes G (graph_of G R') (graph_of G R) (Earlier R') (StoodIn (bids_of R)) = record {
              count = omega arith;
              stood = earlier_stood;
              step = λ s a b old on. sym (same_step a b s (before_within s a old) (omega arith));
            } in
            let all = inner_same G (graph_of G R) (graph_of G R') (StoodIn (bids_of R)) (Earlier R') includes back d inner in
            λ y on. subst (λ v. IsInner G (graph_of G R') (Earlier R') y v) (sym (same y (omega arith))) (all y on)
        | inr h ↦
            let there : Includes G (graph_of G R) (graph_of G R) (StoodIn (bids_of R)) (Earlier R') = record { count = omega arith; stood = stood_earlier; step = λ s a b old on. refl } in
            let back : Includes G (graph_of G R) (graph_of G R) (Earlier R') (StoodIn (bids_of R)) = record { count = omega arith; stood = earlier_stood; step = λ s a b old on. refl } in
            let wider : Includes G (graph_of G R) (graph_of G R') (Earlier R') (Earlier R') = record { count = no_shorter; stood = λ s a old. old; step = λ s a b old on. same_step a b s (before_within s a old) on } in
            entered G L (graph_of G R) (graph_of G R') (Earlier R') d d' before_within
            (inner_same G (graph_of G R) (graph_of G R) (StoodIn (bids_of R)) (Earlier R') there back d inner) (grown_by_one h) wider same (entry h)
      ]
