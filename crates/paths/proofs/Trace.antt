-- The chain around that a search has closed is read off its links, from the last step to the first.
use Rattle.std.proofs.Common.{◌≡◌, ℕ, suc, ◌+◌, ◌<◌, ◌≤◌, ◌≢◌, List, [], ◌∷◌, length, sym, refl, ap, ◌∙◌, arith}
use Rattle.worth.specs.Group.{Group, Laws}
use Rattle.worth.proofs.Sums.{plain, add_assoc}
use Rattle.worth.proofs.Orders.{follows_lt}
use Rattle.worth.proofs.Totals.{total_one}
use Rattle.paths.specs.Bids.{New}
use Rattle.paths.specs.Graph.{Graph}
use Rattle.paths.specs.Searching.{State, Linked, Closes}
use Rattle.paths.specs.Route.{Avoids, Apart, value_of, sum_of, Route}
use Rattle.paths.specs.Tracing.{Rising, Traced}
use Rattle.paths.specs.declared.Step.{Step}

-- steps that leave packages of rising turns leave none twice
module _ (G : Group) (st : State G) where
  rising_lower : (j k : ℕ) (ls : List Step) → j ≤ k → Rising G st k ls → Rising G st j ls
  rising_lower j k [] l r = tt
  rising_lower j k (a ∷ ls) l r = (omega (arith, r.0), r.1)

  rising_avoids : (a k : ℕ) (ls : List Step) → st.turn a < k → Rising G st k ls → Avoids a ls
  rising_avoids a k [] l r = tt
  rising_avoids a k (b ∷ ls) l r = (
    λ e. let same : st.turn b.from ≡ st.turn a = ap st.turn e in omega (arith, r.0),
    rising_avoids a (suc (st.turn b.from)) ls (omega (arith, r.0)) r.1,
  )

  rising_apart : (k : ℕ) (ls : List Step) → Rising G st k ls → Apart ls
  rising_apart k [] r = tt
  rising_apart k (a ∷ ls) r = (rising_avoids a.from (suc (st.turn a.from)) ls (omega arith) r.1, rising_apart (suc (st.turn a.from)) ls r.1)

module _ (G : Group) (L : Laws G) (N : Graph G) (Old : ℕ → ℕ → Type 0) (x t : ℕ) (d : ℕ → G.Carrier) (st : State G) (next last round : ℕ)
    (h : Closes G N Old x t d st next last round) where
  open G use {zero, add as ◌⊕◌}
  open N use {count, step}

  infixl 65 ◌⊕◌
  abbrev Is : ℕ → List Step → Type 0
  Is = Traced G N Old x t st last round

  -- the step back to x
  pub trace_start : x < count → Is last (record { from = last; to = x; round = round } ∷ [])
  trace_start x_on = record {
    on = h.on;
    done = h.done;
    leads = (refl, h.stood, x_on, h.apart, refl);
    rising = (omega arith, tt);
    first = λ e. absurd (h.apart (sym e));
    sum = ap (λ u. st.dist last ⊕ u) (total_one G L (value_of G N) _);
    short = omega arith;
  }

  module _ (y : ℕ) (ls : List Step) (r : Is y ls) where
    link_of : y ≢ x → Linked G N Old x t d st y
    link_of ne = h.search.linked y r.on (h.search.fell y r.on ne r.done)

    -- the link to y
    pub trace_more : y ≢ x → Is (st.from y) (record { from = st.from y; to = y; round = st.at y } ∷ ls)
    trace_more ne =
        let l = link_of ne in
        let b = l.before r.done in
        record {
          on = l.on;
          done = l.done;
          leads = (refl, l.stood, r.on, l.apart, r.leads);
          rising = (omega arith, rising_lower G st (suc (st.turn (st.from y))) (st.turn y) ls (omega arith) r.rising);
          first = l.first;
          sum = sym (add_assoc G L _ _ _) ∙ ap (λ u. u ⊕ sum_of G N ls) (sym l.sum) ∙ r.sum;
          short = let s = r.short in omega arith;
        }

    -- the steps are fewer than the packages, until x is reached
    pub trace_short : next ≤ count + 1 → y ≢ x → length ls < count
    trace_short few ne =
        let l = link_of ne in
        let b = l.before r.done in
        let s = r.short in
        let k = h.search.turns last in
        omega arith

    -- the list, wherever it is held, is a route
    pub trace_route : (ms : List Step) → ms ≡ ls → y ≡ x → Route G N (New Old x t) x t ms
    trace_route ms same e =
        let root : st.dist y ≡ d x = ap st.dist e ∙ h.search.root_dist in
        let total : sum_of G N ls ⊕ d x ≡ zero ⊕ (st.dist last ⊕ step last x round) = rw (← r.sum, root) (simp plain) in
        rw same (record {
          leads = rw e at r.leads;
          apart = rising_apart G st (st.turn y) ls r.rising;
          first = r.first e;
          falls = follows_lt G L h.falls total;
        })

    pub route_short : next ≤ count + 1 → length ls ≤ count
    route_short few = let s = r.short in let p = r.done in let k = h.search.turns last in omega arith
