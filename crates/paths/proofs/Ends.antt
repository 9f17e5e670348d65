-- The two ends of the search: the bid is held, or a chain around is below zero.
use Rattle.std.proofs.Common.{◌≡◌, ℕ, ◌+◌, ◌-◌, ◌<◌, ◌≤◌, true, false, not, eqb, ◌≢◌, sym, refl, ap, ◌∙◌, inl, inr, arith, ne_eqb, eqb-true}
use native.Mathlib.Decide.{ℕ_discrete}
use borrow.Author.Tests.{eqb-false}
use Rattle.std.proofs.lemmas.Bool.{cases_Bool}
use Rattle.worth.specs.Group.{Group, Laws}
use Rattle.worth.specs.Says.{AtMost}
use Rattle.worth.proofs.Orders.{le_trans, le_or_lt, le_antisym}
use Rattle.paths.specs.Bids.{Within, New}
use Rattle.paths.specs.Graph.{Graph, Chain, Explains, EndsAt, AreInner}
use Rattle.paths.specs.Searching.{State, Waits, Weighing, Closes}
use Rattle.paths.specs.Weighs.{Known, IsHeld, IsHeldAt, IsAround}
use Rattle.paths.proofs.Chains.{join, wider, inner_low, certified, explains, around_none}
use Rattle.paths.proofs.Counts.{tally_less, tally_not}
use Rattle.paths.proofs.Links.{reached_fallen, around_below}

module _ (G : Group) (L : Laws G) (N : Graph G) (Old : ℕ → ℕ → Type 0) (d : ℕ → G.Carrier) (k : Known G N Old d) where
  open G use {Carrier, zero, less}
  open N use {count}

  pub known_explains : Explains G N Old d
  known_explains = explains G L N Old k.within d k.inner

  module _ (x t : ℕ) (x_on : x < count) (st : State G) (next : ℕ) where
    pub is_around : (last round : ℕ) → next ≤ count + 1 → Closes G N Old x t d st next last round → IsAround G N Old d x t st last round
    is_around last round few h =
        let a = around_below G L N Old x t d x_on st next last round h in
        record { closes = (next, few, h); falls = a; none = around_none G L N (New Old x t) a }

    module _ (h : Weighing G N Old x t d st next) (none : (w : ℕ) → w < count → ¬ Waits G N d st w) where
      -- what is not finished has not fallen
      kept : (a : ℕ) → a < count → AtMost G (d a) (st.dist a) → d a ≡ st.dist a
      kept a on up = le_antisym G L (d a) (st.dist a) up (h.search.under a on)

      held_explains : Explains G N (New Old x t) st.dist
      held_explains s a b stood on other = elim (ℕ_discrete (st.turn a) 0) [
        | yes o ↦ elim stood [
          | inl old ↦
              let same : d a ≡ st.dist a = elim (le_or_lt G L (d a) (st.dist a)) [
                | inl up ↦ kept a (k.within s a old) up
                | inr f ↦ absurd (none a (k.within s a old) (o, f))
              ] in
              rw (← same) (le_trans G L _ _ _ (h.search.under b on) (known_explains s a b old on other))
          | inr new ↦ let root : st.turn x ≡ 0 = rw new.1 at o in let r = h.search.root in absurd (omega arith)
        ]
        | no o ↦ h.met s a stood (omega arith) b on other
      ]

      within_new : Within count (New Old x t)
      within_new s a stood = elim stood [ inl old ↦ k.within s a old | inr new ↦ rw new.1 x_on ]

      widen : {y z : ℕ} {s : Carrier} → Chain G N Old y z s → Chain G N (New Old x t) y z s
      widen = wider G N N Old (New Old x t) (record { count = omega arith; stood = λ s a old. inl old; step = λ s a b old on. refl })

      -- each worth is as it was, or that of x and a chain of links
      seen : (y : ℕ) → y < count → EndsAt G N (New Old x t) y (st.dist y)
      seen y on = elim (le_or_lt G L (d y) (st.dist y)) [
        | inl up ↦ let i = (k.inner y on).has in (i.0, rw (← kept y on up) (widen i.1))
        | inr f ↦
            let i = (k.inner x x_on).has in
            let r = reached_fallen G L N Old x t d x_on st next h.search y on f in
            (i.0, rw r.is (join G L N (New Old x t) (widen i.1) r.chain))
      ]

      held_inner : AreInner G N (New Old x t) st.dist
      held_inner =
          let low : (y : ℕ) → y < count → AtMost G (st.dist y) zero = λ y on. le_trans G L _ _ _ (h.search.under y on) (inner_low G L N Old y (d y) (k.inner y on)) in
          certified G L N (New Old x t) within_new st.dist held_explains low seen

      -- the finished packages but x are those whose worth fell
      fell_done : (w : ℕ) → w < count → w ≢ x → less (st.dist w) (d w) ≡ not (eqb (st.turn w) 0)
      fell_done w on ne = elim (cases_Bool (eqb (st.turn w) 0)) [
        | inl e ↦ elim (cases_Bool (less (st.dist w) (d w))) [
          | inl f ↦ absurd (none w on (eqb-true (st.turn w) 0 e, f))
          | inr f ↦ f ∙ sym (ap not e)
        ]
        | inr e ↦ h.search.fell w on ne (let z = eqb-false (st.turn w) 0 e in omega arith) ∙ sym (ap not e)
      ]

      pub is_held : IsHeld G N Old d x t st (next - 2)
      is_held = record {
        explains = held_explains;
        inner = held_inner;
        moves =
            let done = tally_not (λ w. eqb (st.turn w) 0) count in
            let root : not (eqb (st.turn x) 0) ≡ true = ap not (ne_eqb (st.turn x) 0 (λ e. let r = h.search.root in omega arith)) in
            let root_kept : less (st.dist x) (d x) ≡ false = rw h.search.root_dist (L.less_irrefl (d x)) in
            let fell = tally_less (λ w. not (eqb (st.turn w) 0)) (λ w. less (st.dist w) (d w)) x count x_on root root_kept fell_done in
            let c = h.counted in
            omega arith;
      }

      pub is_held_at : IsHeldAt G N Old d x t st (next - 2)
      is_held_at = record { held = is_held; root = h.search.root_dist }
