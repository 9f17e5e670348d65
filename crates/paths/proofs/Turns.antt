-- The turns of the search: the foremost that waits is finished, and the steps from it are looked at.
use Rattle.std.proofs.Common.{◌≡◌, ℕ, ◌+◌, ◌<◌, ◌≤◌, eqb, ◌≢◌, sym, refl, ap, ◌∙◌, subst, inl, inr, arith, eq-eqb, ne_eqb}
use native.Mathlib.Decide.{ℕ_discrete}
use Rattle.worth.specs.Group.{Group, Laws}
use Rattle.worth.specs.Says.{Below}
use Rattle.worth.proofs.Orders.{lt_irrefl, le_trans, le_of_eq}
use Rattle.paths.specs.Graph.{Graph, Explains}
use Rattle.paths.specs.Searching.{State, Finish, Waits, Searching, Small, unfinished, Foremost, Ready, Relaxed, Picked, Spent, Weighing, Begun}
use Rattle.paths.proofs.Counts.{tally_same, tally_less, tally_all, tally_zero}
use Rattle.paths.proofs.Moves.{finish_keeps, finish_floor, finish_met, not_root, lower_refl, lower_trans, lower_floor, lower_met}

-- how many packages are not finished
module _ (G : Group) (N : Graph G) (st st' : State G) where
  open N use {count}

  unfinished_same : ((w : ℕ) → st'.turn w ≡ st.turn w) → unfinished G N st' ≡ unfinished G N st
  unfinished_same e = tally_same _ _ count (λ w l. ap (λ k. eqb k 0) (e w))

  unfinished_less : (y : ℕ) → y < count → st.turn y ≡ 0 → 0 < st'.turn y → ((w : ℕ) → w ≢ y → st'.turn w ≡ st.turn w) → unfinished G N st ≡ unfinished G N st' + 1
  unfinished_less y on o l e = tally_less _ _ y count on (eq-eqb _ 0 o) (ne_eqb _ 0 (λ k. omega arith)) (λ w k ne. ap (λ v. eqb v 0) (e w ne))

module _ (G : Group) (L : Laws G) (N : Graph G) (Old : ℕ → ℕ → Type 0) (x t : ℕ) (d : ℕ → G.Carrier) where
  open N use {count}

  -- the rounds in which y stood, one after the other
  module _ (st : State G) (next y j : ℕ) (h : Picked G N Old x t d st next y j) where
    pub spent_none : Spent G N Old x t d st st next y j 0
    spent_none = record { search = h.search; lower = lower_refl G L st; sized = h.sized; met = λ s l. absurd (omega arith) }

    module _ (st' : State G) (k : ℕ) (r : Spent G N Old x t d st st' next y j k) where
      done_now : 0 < st'.turn y
      done_now = rw (r.lower.turns y) h.done

      -- a round in which y did not stand is passed over
      pub spent_skip : (Old k y → ⊥) → Spent G N Old x t d st st' next y j (k + 1)
      spent_skip none = record {
        search = r.search;
        lower = r.lower;
        sized = r.sized;
        met = λ s l stood. elim (ℕ_discrete s k) [ yes e ↦ absurd (none (rw e at stood)) | no e ↦ r.met s (omega arith) stood ];
      }

      pub spent_ready : Old k y → Ready G N Old x t d st' next y k j
      spent_ready stood = record {
        search = r.search;
        on = h.on;
        done = done_now;
        stood = inl stood;
        first = λ e. absurd (h.apart e);
        floor = lower_floor G L N st st' r.lower d x y k h.done (h.floor k stood);
        known = h.known;
        sized = r.sized;
        near = rw (r.lower.done y h.done) h.near;
        far = h.far;
      }

      pub spent_more : (st'' : State G) → Relaxed G N Old x t d st' st'' next y k j count → Spent G N Old x t d st st'' next y j (k + 1)
      spent_more st'' q = record {
        search = q.search;
        lower = lower_trans G L st st' st'' r.lower q.lower;
        sized = q.sized;
        met = λ s l stood. elim (ℕ_discrete s k) [
          | yes e ↦ rw e q.met
          | no e ↦ lower_met G L N st' st'' q.lower y s done_now (r.met s (omega arith) stood)
        ];
      }

      pub spent_full : (i : ℕ) → k ≡ i → Spent G N Old x t d st st' next y j i
      spent_full i e = rw (← e) r

  -- the start
  module _ (st : State G) (b : Begun G N d x st) (x_on : x < count) (small : Small G N d 128) where
    only : (w : ℕ) → 0 < st.turn w → w ≡ x
    only w l = elim (ℕ_discrete w x) [ yes e ↦ e | no e ↦ let o = b.others w e in absurd (omega arith) ]

    begun_searching : Searching G N Old x t d st 2
    begun_searching = record {
      root = rw b.root (omega arith);
      root_dist = b.dists x;
      under = λ y on. le_of_eq G L (b.dists y);
      fell = λ y on ne l. absurd (ne (only y l));
      order = λ z w z_on w_on ne l o f. absurd (ne (only z l));
      linked = λ y on f. absurd (lt_irrefl G L (d y) (subst (λ u. Below G u (d y)) (b.dists y) f));
      turns = λ y. elim (ℕ_discrete y x) [ yes e ↦ rw (e, b.root) (omega arith) | no e ↦ rw (b.others y e) (omega arith) ];
    }

    pub begun_ready : Ready G N Old x t d st 2 x t 128
    begun_ready = record {
      search = begun_searching;
      on = x_on;
      done = rw b.root (omega arith);
      stood = inr (refl, refl);
      first = λ e. refl;
      floor = λ z w z_on w_on ne l other. absurd (ne (only z l));
      known = small;
      sized = λ y on. let k = small y on in rw (b.dists y) (omega arith);
      near = rw (b.dists x) (small x x_on);
      far = omega arith;
    }

    -- as many as there are packages, but one
    begun_counted : unfinished G N st + 1 ≡ count
    begun_counted =
        let none : State G = record { dist = st.dist; turn = λ w. 0; from = st.from; at = st.at } in
        sym (unfinished_less G N none st x x_on refl (rw b.root (omega arith)) b.others) ∙ tally_all _ count (λ w l. refl)

    pub begun_weighing : Explains G N Old d → (st' : State G) → Relaxed G N Old x t d st st' 2 x t 128 count → Weighing G N Old x t d st' 2
    begun_weighing ex st' r = record {
      search = r.search;
      known = small;
      sized = r.sized;
      met = λ s a stood l p p_on other.
          let e : a ≡ x = only a (rw (← r.lower.turns a) l) in
          let apart : p ≢ x = rw e at other in
          rw e (elim stood [
            | inl o ↦ rw r.search.root_dist (le_trans G L _ _ _ (r.search.under p p_on) (ex s x p (rw e at o) p_on apart))
            | inr o ↦ rw o.0 (r.met p p_on apart)
          ]);
      counted = let c = begun_counted in let k = unfinished_same G N st st' r.lower.turns in omega arith;
    }

  -- one turn
  module _ (st : State G) (next : ℕ) (h : Weighing G N Old x t d st next) (y : ℕ) (y_on : y < count) (waits : Waits G N d st y) (foremost : Foremost G N d st y)
      (st' : State G) (p : Finish G st st' y next) where
    finish_counted : unfinished G N st ≡ unfinished G N st' + 1
    finish_counted = unfinished_less G N st st' y y_on waits.0 (let l = h.search.turns x in rw p.here (omega arith)) p.else

    -- the turns are at most as many as the packages
    pub turn_early : next ≤ count
    turn_early = let c = h.counted in let k = finish_counted in omega arith

    pub turn_picked : count ≤ 128 → Explains G N Old d → Picked G N Old x t d st' (next + 1) y (next + 127)
    turn_picked few ex = record {
      search = finish_keeps G L N Old x t d st st' next h.search y y_on waits foremost p;
      on = y_on;
      done = let l = h.search.turns x in rw p.here (omega arith);
      apart = not_root G L N Old x t d st st' next h.search y y_on waits foremost p;
      floor = finish_floor G L N Old x t d st st' next h.search y y_on waits foremost p ex;
      known = h.known;
      sized = λ w on. let k = h.sized w on in rw (p.dists w) (omega arith);
      near = rw (p.dists y) (h.sized y y_on);
      far = let l = turn_early in omega arith;
    }

    pub turn_weighing : (rounds : ℕ) → ((s a : ℕ) → Old s a → s < rounds) → (st'' : State G) → Spent G N Old x t d st' st'' (next + 1) y (next + 127) rounds →
        Weighing G N Old x t d st'' (next + 1)
    turn_weighing rounds early st'' q = record {
      search = q.search;
      known = h.known;
      sized = λ w on. let k = q.sized w on in omega arith;
      met = λ s a stood l.
          let done : 0 < st'.turn a = rw (← q.lower.turns a) l in
          elim (ℕ_discrete a y) [
            | yes e ↦ elim stood [
              | inl o ↦ rw e (q.met s (early s a o) (rw e at o))
              | inr o ↦ absurd (not_root G L N Old x t d st st' next h.search y y_on waits foremost p (sym e ∙ o.1))
            ]
            | no e ↦
                let met = finish_met G L N Old x t d st st' next h.search y y_on waits foremost p a s (h.met s a stood (rw (← p.else a e) done)) in
                lower_met G L N st' st'' q.lower a s done met
          ];
      counted = let c = h.counted in let k = finish_counted in let e = unfinished_same G N st' st'' q.lower.turns in omega arith;
    }

  -- after as many turns as there are packages nothing waits
  pub none_waits : (st : State G) (next : ℕ) → Weighing G N Old x t d st next → count < next → (w : ℕ) → w < count → ¬ Waits G N d st w
  none_waits st next h late w on waits = let c = h.counted in tally_zero (λ v. eqb (st.turn v) 0) count (omega arith) w on (eq-eqb _ 0 waits.0)
