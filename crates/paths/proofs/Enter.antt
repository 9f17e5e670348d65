-- A package that is new, and inner worths after a bid is held.
use Rattle.std.proofs.Common.{◌≡◌, ℕ, ◌+◌, ◌^◌, ◌<◌, ◌≤◌, ◌⊎◌, sym, refl, inl, inr, arith}
use native.Mathlib.Decide.{ℕ_discrete}
use Rattle.worth.specs.Group.{Group, Laws}
use Rattle.worth.specs.Says.{AtMost}
use Rattle.worth.proofs.Orders.{le_of_eq}
use Rattle.paths.specs.Bids.{Within, New}
use Rattle.paths.specs.Graph.{Graph, stay, onward, Explains, EndsAt, AreInner, Includes}
use Rattle.paths.specs.Searching.{State, SmallSteps}
use Rattle.paths.specs.Entry.{EntrySum, Entry}
use Rattle.paths.specs.Weighs.{Known, IsHeld}
use Rattle.paths.proofs.Chains.{certified, explains, inner_low, wider, inner_same}
use Rattle.paths.proofs.OneMore.{least_kept, least_lowered}
use Rattle.paths.proofs.Short.{inner_small}

-- the entry of x, one bid after the other
module _ (G : Group) (L : Laws G) (N : Graph G) (d : ℕ → G.Carrier) (x : ℕ) where
  open G use {Carrier, zero, add as ◌⊕◌}
  open N use {step}

  infixl 65 ◌⊕◌
  entry_sum_wider : (P Q : ℕ → ℕ → Type 0) → ((t a : ℕ) → P t a → Q t a) → (s : Carrier) → EntrySum G N P d x s → EntrySum G N Q d x s
  entry_sum_wider P Q f s (inl is) = inl is
  entry_sum_wider P Q f s (inr o) = inr (o.0, o.1, f o.0 o.1 o.2, o.3)

  -- the same bids, told in other words
  pub entry_same : (P Q : ℕ → ℕ → Type 0) → ((t a : ℕ) → P t a → Q t a) → ((t a : ℕ) → Q t a → P t a) → (g : Carrier) → Entry G N P d x g → Entry G N Q d x g
  entry_same P Q f k g entry = record { has = entry_sum_wider P Q f g entry.has; least = λ s e. entry.least s (entry_sum_wider Q P k s e) }

  module _ (Old : ℕ → ℕ → Type 0) where
    pub entry_none : ((t a : ℕ) → ¬ Old t a) → Entry G N Old d x zero
    entry_none none = record {
      has = inl refl;
      least = λ s e. elim e [ inl is ↦ le_of_eq G L (sym is) | inr o ↦ absurd (none o.0 o.1 o.2) ];
    }

    module _ (g : Carrier) (entry : Entry G N Old d x g) (a t : ℕ) where
      old_or_new : (s : Carrier) → EntrySum G N (New Old a t) d x s → EntrySum G N Old d x s ⊎ (s ≡ d a ⊕ step a x t)
      old_or_new s (inl is) = inl (inl is)
      old_or_new s (inr o) = elim o.2 [ inl old ↦ inl (inr (o.0, o.1, old, o.3)) | inr new ↦ inr (rw (new.0, new.1) at o.3) ]

      -- a bid that does not lower it
      pub entry_kept : AtMost G g (d a ⊕ step a x t) → Entry G N (New Old a t) d x g
      entry_kept k = least_kept G L _ _ _ old_or_new g (entry_sum_wider Old (New Old a t) (λ s b old. inl old)) entry k

      -- and one that does
      pub entry_lowered : AtMost G (d a ⊕ step a x t) g → Entry G N (New Old a t) d x (d a ⊕ step a x t)
      entry_lowered k = least_lowered G L _ _ _ old_or_new g (inr (t, a, inr (refl, refl), refl)) entry k

-- M has the packages and the steps of N, and one package more
module _ (G : Group) (L : Laws G) (N M : Graph G) (Old : ℕ → ℕ → Type 0) (d d' : ℕ → G.Carrier) (within : Within N.count Old) (inner : AreInner G N Old d)
    (grown : M.count ≡ N.count + 1) (includes : Includes G N M Old Old) (same : (y : ℕ) → y < N.count → d' y ≡ d y)
    (entry : Entry G M Old d N.count (d' N.count)) where
  open G use {zero}

  old_or_next : (y : ℕ) → y < M.count → (y < N.count) ⊎ (y ≡ N.count)
  old_or_next y on = elim (ℕ_discrete y N.count) [ yes e ↦ inr e | no e ↦ inl (omega arith) ]

  grown_explains : Explains G M Old d'
  grown_explains t a b stood on other =
      let a_on = within t a stood in
      elim (old_or_next b on) [
        | inl b_on ↦ rw (same b b_on, same a a_on, includes.step t a b stood b_on) (explains G L N Old within d inner t a b stood b_on other)
        | inr e ↦ rw (e, same a a_on) (entry.least _ (inr (t, a, stood, refl)))
      ]

  grown_low : (y : ℕ) → y < M.count → AtMost G (d' y) zero
  grown_low y on = elim (old_or_next y on) [
    | inl y_on ↦ rw (same y y_on) (inner_low G L N Old y (d y) (inner y y_on))
    | inr e ↦ rw e (entry.least zero (inl refl))
  ]

  grown_seen : (y : ℕ) → y < M.count → EndsAt G M Old y (d' y)
  grown_seen y on = elim (old_or_next y on) [
    | inl y_on ↦ let i = (inner y y_on).has in (i.0, rw (same y y_on) (wider G N M Old Old includes i.1))
    | inr e ↦ rw e (elim entry.has [
      | inl is ↦ (N.count, rw is stay)
      | inr o ↦
          let a_on = within o.0 o.1 o.2 in
          let i = (inner o.1 a_on).has in
          (i.0, rw o.3 (onward {z = N.count} (wider G N M Old Old includes i.1) o.2 (omega arith) (λ f. omega arith)))
    ])
  ]

  -- the inner worths are those before, and the entry
  pub entered : AreInner G M Old d'
  entered = certified G L M Old (λ s a old. let l = within s a old in omega arith) d' grown_explains grown_low grown_seen

-- inner worths are small, where the steps are and the packages are few
module _ (G : Group) (L : Laws G) (M : Graph G) (Then : ℕ → ℕ → Type 0) (few : M.count ≤ 128) (steps : SmallSteps G M) (within : Within M.count Then) where
  pub inner_known : (d : ℕ → G.Carrier) → AreInner G M Then d → Known G M Then d
  inner_known d inner = record {
    within = within;
    inner = inner;
    small = λ y on. let s = inner_small G L M Then within (2 ^ 45) steps d inner y on in omega arith;
  }

  -- so after a bid is held the worths are known again, at the same bound
  pub known_again : (N : Graph G) (Old : ℕ → ℕ → Type 0) (x t : ℕ) → Includes G N M (New Old x t) Then → Includes G M N Then (New Old x t) →
      (d : ℕ → G.Carrier) (st : State G) (moved : ℕ) → IsHeld G N Old d x t st moved → Known G M Then st.dist
  known_again N Old x t there back d st moved h = inner_known st.dist (inner_same G N M (New Old x t) Then there back st.dist h.inner)
