-- The moves of the search: a package is put lower, or the foremost that waits is finished. Each keeps what holds.
use Rattle.std.proofs.Common.{◌≡◌, ℕ, ◌+◌, ◌<◌, ◌≢◌, sym, refl, ◌∙◌, subst, arith}
use native.Mathlib.Decide.{ℕ_discrete}
use Rattle.worth.specs.Group.{Group, Laws}
use Rattle.worth.specs.Says.{AtMost, Below}
use Rattle.worth.proofs.Sums.{plain}
use Rattle.worth.proofs.Orders.{follows, add_le, le_refl, le_trans, lt_to_le, le_of_eq}
use Rattle.paths.specs.Bids.{New}
use Rattle.paths.specs.Graph.{Graph, Explains}
use Rattle.paths.specs.Searching.{State, Put, Finish, Lower, Waits, Linked, Searching, Floor, Met, Foremost}

module _ (G : Group) (L : Laws G) where
  pub lower_refl : (st : State G) → Lower G st st
  lower_refl st = record { turns = λ w. refl; done = λ w k. refl; down = λ w. le_refl G L _ }

  pub lower_trans : (p q r : State G) → Lower G p q → Lower G q r → Lower G p r
  lower_trans p q r f g = record {
    turns = λ w. g.turns w ∙ f.turns w;
    done = λ w k. g.done w (rw (f.turns w) k) ∙ f.done w k;
    down = λ w. le_trans G L _ _ _ (g.down w) (f.down w);
  }

  -- what lower worths keep
  module _ (N : Graph G) (st st' : State G) (l : Lower G st st') where
    pub lower_floor : (d : ℕ → G.Carrier) (x a s : ℕ) → 0 < st.turn a → Floor G N d x st a s → Floor G N d x st' a s
    lower_floor d x a s a_done f z w z_on w_on ne z_done other =
        let z_was : 0 < st.turn z = rw (← l.turns z) z_done in
        rw (l.done z z_was, l.done a a_done) (f z w z_on w_on ne z_was other)

    pub lower_met : (a s : ℕ) → 0 < st.turn a → Met G N st a s → Met G N st' a s
    lower_met a s a_done m b on other = rw (l.done a a_done) (le_trans G L _ _ _ (l.down b) (m b on other))

module _ (G : Group) (L : Laws G) (N : Graph G) (Old : ℕ → ℕ → Type 0) (x t : ℕ) (d : ℕ → G.Carrier) where
  open G use {Carrier, add as ◌⊕◌}
  open N use {count, step}

  infixl 65 ◌⊕◌
  module _ (st st' : State G) (next : ℕ) (h : Searching G N Old x t d st next) where
    -- z, which is not finished, is put lower, by a step from a in round s
    module _ (a s z : ℕ) (k : Carrier) (a_on : a < count) (a_done : 0 < st.turn a) (stood : New Old x t s a) (first : a ≡ x → s ≡ t) (floor : Floor G N d x st a s)
        (z_on : z < count) (other : z ≢ a) (open_z : st.turn z ≡ 0) (is : k ≡ st.dist a ⊕ step a z s) (falls : Below G k (st.dist z)) (p : Put G st st' z k a s) where
      same : (w : ℕ) → 0 < st.turn w → st'.dist w ≡ st.dist w
      same w l = p.dist_else w (λ e. let g : 0 < st.turn z = subst (λ v. 0 < st.turn v) e l in omega arith)

      pub put_lower : Lower G st st'
      put_lower = record {
        turns = p.turns;
        done = same;
        down = λ w. elim (ℕ_discrete w z) [
          | yes e ↦ rw (e, p.here) (lt_to_le G L _ _ falls)
          | no e ↦ le_of_eq G L (p.dist_else w e)
        ];
      }

      new_link : Linked G N Old x t d st' z
      new_link = record {
        done = rw (p.from_here, p.turns a) a_done;
        on = rw p.from_here a_on;
        apart = rw p.from_here other;
        stood = rw (p.from_here, p.at_here) stood;
        sum = p.here ∙ is ∙ rw (p.from_here, p.at_here, same a a_done) refl;
        before = λ l. let e = p.turns z in absurd (omega arith);
        first = rw (p.from_here, p.at_here) first;
      }

      old_link : (y : ℕ) → y ≢ z → Linked G N Old x t d st y → Linked G N Old x t d st' y
      old_link y e l = record {
        done = rw (p.from_else y e, p.turns (st.from y)) l.done;
        on = rw (p.from_else y e) l.on;
        apart = rw (p.from_else y e) l.apart;
        stood = rw (p.from_else y e, p.at_else y e) l.stood;
        sum = p.dist_else y e ∙ l.sum ∙ rw (p.from_else y e, p.at_else y e, same (st.from y) l.done) refl;
        before = rw (p.from_else y e, p.turns (st.from y), p.turns y) l.before;
        first = rw (p.from_else y e, p.at_else y e) l.first;
      }

      pub put_keeps : Searching G N Old x t d st' next
      put_keeps = record {
        root = rw (p.turns x) h.root;
        root_dist = same x h.root ∙ h.root_dist;
        under = λ y on. le_trans G L _ _ _ (put_lower.down y) (h.under y on);
        fell = λ y on ne l. let was : 0 < st.turn y = rw (← p.turns y) l in rw (same y was) (h.fell y on ne was);
        order = λ u w u_on w_on ne l o f.
            let was : 0 < st.turn u = rw (← p.turns u) l in
            elim (ℕ_discrete w z) [
              | yes e ↦ rw (same u was, e, p.here, is) (floor u z u_on z_on ne was other)
              | no e ↦ rw (same u was, p.dist_else w e) (h.order u w u_on w_on ne was (sym (p.turns w) ∙ o) (rw (← p.dist_else w e) f))
            ];
        linked = λ y on f. elim (ℕ_discrete y z) [
          | yes e ↦ rw e new_link
          | no e ↦ old_link y e (h.linked y on (rw (← p.dist_else y e) f))
        ];
        turns = λ y. rw (p.turns y) (h.turns y);
      }

    -- the foremost of those that wait is finished
    module _ (y : ℕ) (y_on : y < count) (waits : Waits G N d st y) (foremost : Foremost G N d st y) (p : Finish G st st' y next) where
      pub not_root : y ≢ x
      not_root e = let g : st.turn x ≡ 0 = subst (λ v. st.turn v ≡ 0) e waits.0 in let r = h.root in omega arith

      still : (w : ℕ) → 0 < st.turn w → w ≢ y
      still w l e = let g : 0 < st.turn y = subst (λ v. 0 < st.turn v) e l in let o = waits.0 in omega arith

      stays_done : (w : ℕ) → 0 < st.turn w → 0 < st'.turn w
      stays_done w l = rw (p.else w (still w l)) l

      -- another package that is finished now was finished before
      was_done : (w : ℕ) → w ≢ y → 0 < st'.turn w → 0 < st.turn w
      was_done w e l = rw (← p.else w e) l

      kept_link : (w : ℕ) → Linked G N Old x t d st w → Linked G N Old x t d st' w
      kept_link w l = record {
        done = rw (p.froms w) (stays_done (st.from w) l.done);
        on = rw (p.froms w) l.on;
        apart = rw (p.froms w) l.apart;
        stood = rw (p.froms w, p.ats w) l.stood;
        sum = p.dists w ∙ l.sum ∙ rw (p.froms w, p.ats w, p.dists (st.from w)) refl;
        before = λ b. rw (p.froms w, p.else (st.from w) (still (st.from w) l.done)) (elim (ℕ_discrete w y) [
          | yes e ↦ rw (e, p.here) (h.turns (st.from y))
          | no e ↦ rw (p.else w e) (l.before (was_done w e b))
        ]);
        first = rw (p.froms w, p.ats w) l.first;
      }

      pub finish_keeps : Searching G N Old x t d st' (next + 1)
      finish_keeps = record {
        root = stays_done x h.root;
        root_dist = p.dists x ∙ h.root_dist;
        under = λ w on. rw (p.dists w) (h.under w on);
        fell = λ w on ne l. rw (p.dists w) (elim (ℕ_discrete w y) [ yes e ↦ rw e waits.1 | no e ↦ h.fell w on ne (was_done w e l) ]);
        order = λ z w z_on w_on ne l o f.
            let apart : w ≢ y = λ e. let g : next ≡ 0 = sym p.here ∙ subst (λ v. st'.turn v ≡ 0) e o in let r = h.turns x in omega arith in
            let o_was : st.turn w ≡ 0 = sym (p.else w apart) ∙ o in
            let f_was : Below G (st.dist w) (d w) = rw (← p.dists w) f in
            rw (p.dists w, p.dists z) (elim (ℕ_discrete z y) [
              | yes e ↦ rw e (foremost w w_on (o_was, f_was))
              | no e ↦ h.order z w z_on w_on ne (was_done z e l) o_was f_was
            ]);
        linked = λ w on f. kept_link w (h.linked w on (rw (← p.dists w) f));
        turns = λ w. elim (ℕ_discrete w y) [ yes e ↦ rw (e, p.here) (omega arith) | no e ↦ let r = h.turns w in rw (p.else w e) (omega arith) ];
      }

      pub finish_floor : Explains G N Old d → (s : ℕ) → Old s y → Floor G N d x st' y s
      finish_floor ex s stood z w z_on w_on ne l other =
          let met = ex s y w stood w_on other in
          let order : AtMost G (st.dist z ⊕ d y) (st.dist y ⊕ d z) = elim (ℕ_discrete z y) [
            | yes e ↦ rw e (le_refl G L _)
            | no e ↦ h.order z y z_on y_on ne (was_done z e l) waits.0 waits.1
          ] in
          rw (p.dists z, p.dists y) (follows G L (add_le G L order met) (simp plain))

      pub finish_met : (a s : ℕ) → Met G N st a s → Met G N st' a s
      finish_met a s m b on other = rw (p.dists b, p.dists a) (m b on other)
