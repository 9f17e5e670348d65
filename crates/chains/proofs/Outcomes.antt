-- What a bid that was weighed by places comes to, in the words of rounds and packages.
use Rattle.std.proofs.Common.{◌≡◌, ℕ, ◌+◌, ◌-◌, ◌*◌, ◌^◌, ◌<◌, ◌≤◌, Bool, false, List, [], ◌∷◌, map, length, Some, None, sym, refl, ap, ◌∙◌, subst, inl, inr, arith}
use Rattle.std.proofs.lemmas.Bool.{cases_Bool}
use Rattle.chains.proofs.Laws.{chain_laws}
use Rattle.chains.proofs.Offers.{grown_by_one, new_place, new_stood, no_shorter, offered_long, same_package, stays, stood_new}
use Rattle.chains.proofs.Places.{explained_by_place, explained_by_row, inner_by_row, package_stood, within}
use Rattle.chains.specs.Chains.{Explained, Inner}
use Rattle.chains.specs.Numbers.{in_numbers, package_of, Leads, worth_of, chain_sum, Forbids, Moved}
use Rattle.chains.specs.Places.{package_at, bids_of, graph_of, Earlier}
use Rattle.chains.specs.Rounds.{Round, round, listed, enrolled, roll, offered, Placed}
use Rattle.paths.proofs.Chains.{inner_same}
use Rattle.paths.proofs.Counts.{tally_same, tally_skip}
use Rattle.paths.proofs.Enter.{inner_known}
use Rattle.paths.specs.Bids.{StoodIn, New}
use Rattle.paths.specs.Counts.{tally}
use Rattle.paths.specs.Graph as by_place
use Rattle.paths.specs.Route as by_place_route
use Rattle.paths.specs.Searching.{State, SmallSteps}
use Rattle.paths.specs.Weighs.{IsHeldAt, IsAround}
use Rattle.paths.specs.declared.Step.{Step}
use Rattle.worth.specs.Group.{Group, Laws}

-- a chain of places, in the numbers that a merchant sees
module _ (G : Group) (R : List Round) where
  abbrev StepsByPlace : ℕ → List Step → ℕ → Type 0
  StepsByPlace = by_place_route.Leads G (graph_of G R) (StoodIn (bids_of R))

  less_one : (k : ℕ) → k + 1 - 1 ≡ k
  less_one k = omega arith

  named : (k : ℕ) → package_of R (k + 1) ≡ package_at R k
  named k = ap (package_at R) (less_one k)

  leads_in_numbers : (x y : ℕ) (ls : List Step) → StepsByPlace x ls y → Leads R (x + 1) (map in_numbers ls) (y + 1)
  leads_in_numbers x y [] h = ap (λ k. k + 1) h
  leads_in_numbers x y (l ∷ ls) h =
      let p = package_stood R l.round l.from h.1 in
      let to_on = h.2 in
      let from_on = p.0 in (
        ap (λ k. k + 1) h.0,
        (omega arith, omega arith),
        omega arith,
        rw (less_one l.round, named l.from) p.1,
        (omega arith, omega arith),
        (λ e. h.3 (omega arith)),
        leads_in_numbers l.to y ls h.4,
      )

  avoids_in_numbers : (a : ℕ) (ls : List Step) → by_place_route.Avoids a ls → by_place_route.Avoids (a + 1) (map in_numbers ls)
  avoids_in_numbers a [] h = tt
  avoids_in_numbers a (l ∷ ls) h = ((λ e. h.0 (omega arith)), avoids_in_numbers a ls h.1)

  apart_in_numbers : (ls : List Step) → by_place_route.Apart ls → by_place_route.Apart (map in_numbers ls)
  apart_in_numbers [] h = tt
  apart_in_numbers (l ∷ ls) h = (avoids_in_numbers l.from ls h.0, apart_in_numbers ls h.1)

  first_in_numbers : (t : ℕ) (ls : List Step) → by_place_route.First t ls → by_place_route.First (t + 1) (map in_numbers ls)
  first_in_numbers t [] h = h
  first_in_numbers t (l ∷ ls) h = ap (λ k. k + 1) h

  worth_in_numbers : (l : Step) → worth_of G R (in_numbers l) ≡ by_place_route.value_of G (graph_of G R) l
  worth_in_numbers l = rw (less_one l.from, less_one l.to, less_one l.round) refl

  sum_in_numbers : (ls : List Step) → chain_sum G R (map in_numbers ls) ≡ by_place_route.sum_of G (graph_of G R) ls
  sum_in_numbers [] = refl
  sum_in_numbers (l ∷ ls) = rw (worth_in_numbers l, sum_in_numbers ls) refl

module _ (G : Group) (L : Laws G) (R : List Round) (row : List ℕ) (t : ℕ) (latest : t + 1 ≡ length R) (free : (round R t).bid ≡ None)
    (enrols : roll (offered R row) ≡ enrolled (roll R) (Some row)) (x : ℕ) (place : Placed (roll (offered R row)) row (Some x)) where
  abbrev R' : List Round
  R' = offered R row

  abbrev N : by_place.Graph G
  N = graph_of G R'

  there : by_place.Includes G N N (New (Earlier R') x t) (StoodIn (bids_of R'))
  there = record { count = omega arith; stood = new_stood R row t latest free enrols x place; step = λ s a b h on. refl }

  back : by_place.Includes G N N (StoodIn (bids_of R')) (New (Earlier R') x t)
  back = record { count = omega arith; stood = stood_new R row t latest free enrols x place; step = λ s a b h on. refl }

  module _ (d : ℕ → G.Carrier) (st : State G) where
    -- a chain around is below zero
    module _ (last round_back : ℕ) (around : IsAround G N (Earlier R') d x t st last round_back) where
      pub not_explained : ¬ Explained G R'
      not_explained e =
          let w = explained_by_place R' G e in
          around.none (w.0, λ s a b new on other. w.1 s a b (there.stood s a new) on other)

    pub forbids : (ls : List Step) → by_place_route.Route G N (New (Earlier R') x t) x t ls → Forbids G R' (x + 1) (map in_numbers ls)
    forbids ls route = record {
      first = subst (λ k. by_place_route.First k (map in_numbers ls)) (latest ∙ sym (offered_long R row)) (first_in_numbers G R' t ls route.first);
      around = leads_in_numbers G R' x x ls (leads_there x ls route.leads);
      apart = apart_in_numbers G R' ls route.apart;
      falls = rw (sum_in_numbers G R' ls) route.falls;
    }
      where
        leads_there : (y : ℕ) (ls : List Step) → by_place_route.Leads G N (New (Earlier R') x t) y ls x → StepsByPlace G R' y ls x
        leads_there y [] h = h
        leads_there y (l ∷ ls) h = (h.0, there.stood l.round l.from h.1, h.2, h.3, leads_there l.to ls h.4)

    -- nothing waits
    module _ (moved : ℕ) (held : IsHeldAt G N (Earlier R') d x t st moved) where
      inner_all : by_place.AreInner G N (StoodIn (bids_of R')) st.dist
      inner_all = inner_same G N N (New (Earlier R') x t) (StoodIn (bids_of R')) there back st.dist held.held.inner

      pub held_explained : Explained G R'
      held_explained = explained_by_row R' G (st.dist, λ s a b h on other. held.held.explains s a b (back.stood s a h) on other)

      pub held_inner : (y : ℕ) → y < length (roll R') → Inner G R' (package_at R' y) (st.dist y)
      held_inner y on = inner_by_row R' G y (st.dist y) on (inner_all y on)

      pub held_small : length (roll R') ≤ 128 → SmallSteps G N → (y : ℕ) → y < length (roll R') → G.size (st.dist y) ≤ 2 ^ 45 * 128
      held_small few steps y on = (inner_known G L N (StoodIn (bids_of R')) few steps (within R') st.dist inner_all).small y on

      -- the moved count, where d are the inner worths before
      module _ (inner : (y : ℕ) → y < length (roll R) → Inner G R (package_at R y) (d y)) where
        abbrev fell : ℕ → Bool
        fell y = G.less (st.dist y) (d y)

        over_roll : moved ≡ tally fell (length (roll R))
        over_roll = elim (cases_Bool (listed (roll R) row)) [
          | inl h ↦ held.held.moves ∙ ap (tally fell) (ap length (stays R row t latest free enrols h))
          | inr h ↦
              let grown = grown_by_one R row t latest free enrols h in
              held.held.moves ∙ ap (tally fell) grown ∙ tally_skip fell (length (roll R)) (subst (λ k. fell k ≡ false) (new_place R row t latest free enrols h x place) (ap (λ u. G.less u (d x)) held.root ∙ L.less_irrefl (d x)))
        ]

        pub held_moved : Moved G R R' moved
        held_moved e f inner_e inner_f = over_roll ∙ tally_same fell (λ y. G.less (f y) (e y)) (length (roll R)) (λ y on.
            let before : d y ≡ e y = (chain_laws G L R).unique (package_at R y) (d y) (e y) (inner y on) (inner_e y on) in
            let here = subst (λ p. Inner G R' p (st.dist y)) (same_package R row t latest free enrols y on) (held_inner y (omega (arith, no_shorter R row t latest free enrols))) in
            let after : st.dist y ≡ f y = (chain_laws G L R').unique (package_at R y) (st.dist y) (f y) here (inner_f y on) in
            ap (λ u. G.less (st.dist y) u) before ∙ ap (λ u. G.less u (e y)) after)
