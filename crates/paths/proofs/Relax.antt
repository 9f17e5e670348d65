-- The steps from one package in one round are looked at, one after the other.
use Rattle.std.proofs.Common.{◌≡◌, ℕ, ◌+◌, ◌*◌, ◌^◌, ◌<◌, ◌≤◌, ◌≢◌, subst, arith}
use native.Mathlib.Decide.{ℕ_discrete}
use Rattle.worth.specs.Group.{Group, Laws}
use Rattle.worth.specs.Says.{AtMost, Below}
use Rattle.worth.proofs.Sums.{plain}
use Rattle.worth.proofs.Orders.{follows, not_le, le_of_eq}
use Rattle.paths.specs.Graph.{Graph}
use Rattle.paths.specs.Searching.{State, Put, Floor, Ready, Relaxed, Closes}
use Rattle.paths.proofs.Moves.{put_keeps, put_lower, lower_refl, lower_trans, lower_floor}

module _ (G : Group) (L : Laws G) (N : Graph G) (Old : ℕ → ℕ → Type 0) (x t : ℕ) (d : ℕ → G.Carrier) (st : State G) (next a s j : ℕ)
    (h : Ready G N Old x t d st next a s j) where
  open G use {Carrier, add as ◌⊕◌}
  open N use {count, step}

  infixl 65 ◌⊕◌
  abbrev Is : State G → ℕ → Type 0
  Is st' k = Relaxed G N Old x t d st st' next a s j k

  pub relax_none : Is st 0
  relax_none = record { search = h.search; lower = lower_refl G L st; sized = h.sized; met = λ b l. absurd (omega arith) }

  module _ (st' : State G) (k : ℕ) (r : Is st' k) where
    -- a itself is passed over
    pub relax_self : k ≡ a → Is st' (k + 1)
    relax_self e = record { search = r.search; lower = r.lower; sized = r.sized; met = λ b l ne. r.met b (omega arith) ne }

    pub relax_full : (i : ℕ) → k ≡ i → Is st' i
    relax_full i e = rw (← e) r

    -- the step to k leads to no less
    pub relax_over : AtMost G (st'.dist k) (st'.dist a ⊕ step a k s) → Is st' (k + 1)
    relax_over f = record {
      search = r.search;
      lower = r.lower;
      sized = r.sized;
      met = λ b l ne. elim (ℕ_discrete b k) [ yes e ↦ rw e f | no e ↦ r.met b (omega arith) ne ];
    }

    done_now : 0 < st'.turn a
    done_now = rw (r.lower.turns a) h.done

    floor_now : Floor G N d x st' a s
    floor_now = lower_floor G L N st st' r.lower d x a s h.done h.floor

    -- the step to k leads to less, to v
    module _ (k_on : k < count) (other : k ≢ a) (v : Carrier) (is : v ≡ st'.dist a ⊕ step a k s) (falls : Below G v (st'.dist k)) where
      pub closes : k ≡ x → Closes G N Old x t d st' next a s
      closes e = record {
        search = r.search;
        on = h.on;
        done = done_now;
        stood = h.stood;
        apart = subst (λ b. b ≢ a) e other;
        falls = subst (λ u. Below G (st'.dist a ⊕ step a x s) u) r.search.root_dist
            (subst (λ b. Below G (st'.dist a ⊕ step a b s) (st'.dist b)) e (subst (λ u. Below G u (st'.dist k)) is falls));
      }

      -- no finished package but x is led below
      pub not_done : k ≢ x → st'.turn k ≡ 0
      not_done ne = elim (ℕ_discrete (st'.turn k) 0) [
        | yes e ↦ e
        | no e ↦
            let up : AtMost G (st'.dist k) v = rw is (follows G L (floor_now k k k_on k_on ne (omega arith) other) (simp plain)) in
            absurd (not_le G L _ _ up falls)
      ]

      pub relax_put : k ≢ x → G.size v ≤ 2 ^ 45 * (j + 1) → (st'' : State G) → Put G st' st'' k v a s → Is st'' (k + 1)
      relax_put ne small st'' p =
          let o = not_done ne in
          let keeps = put_keeps G L N Old x t d st' st'' next r.search a s k v h.on done_now h.stood h.first floor_now k_on other o is falls p in
          let low = put_lower G L N Old x t d st' st'' next r.search a s k v h.on done_now h.stood h.first floor_now k_on other o is falls p in
          record {
            search = keeps;
            lower = lower_trans G L st st' st'' r.lower low;
            sized = λ y on. elim (ℕ_discrete y k) [ yes e ↦ rw (e, p.here) small | no e ↦ rw (p.dist_else y e) (r.sized y on) ];
            met = λ b l other_b. rw (low.done a done_now) (elim (ℕ_discrete b k) [
              | yes e ↦ rw (e, p.here) (le_of_eq G L is)
              | no e ↦ rw (p.dist_else b e) (r.met b (omega arith) other_b)
            ]);
          }
