-- The table of least chain sums, in which one package more is allowed on the way at a time.
-- It shows that every package has an inner worth, or a chain around is below zero.
use Rattle.std.proofs.Common.{◌≡◌, ℕ, zero as nought, suc, ◌<◌, true, false, ◌≢◌, ◌⊎◌, refl, subst, inl, inr, arith}
use native.Mathlib.Decide.{ℕ_discrete, dec_lt}
use Rattle.std.proofs.lemmas.Bool.{cases_Bool, both_ways}
use Rattle.worth.specs.Group.{Group, Laws}
use Rattle.worth.specs.Says.{AtMost}
use Rattle.worth.proofs.Sums.{plain, zero_add}
use Rattle.worth.proofs.Orders.{le_refl, le_of_eq, le_trans, le_total, le_or_lt, add_le, follows}
use Rattle.paths.specs.Bids.{Within, Finite, Bids, StoodIn}
use Rattle.paths.specs.Graph.{Graph, Chain, stay, onward, AroundBelow, AreInner}
use Rattle.paths.specs.Theorems.{Decided}
use Rattle.paths.proofs.Chains.{join, starts, explains, around_none}

module _ (G : Group) (L : Laws G) (N : Graph G) (Stood : ℕ → ℕ → Type 0) where
  open G use {Carrier, zero, add as ◌⊕◌}
  open N use {count, step}

  infixl 65 ◌⊕◌
  infix 50 ◌≼◌
  abbrev ◌≼◌ : Carrier → Carrier → Type 0
  x ≼ y = AtMost G x y

  -- what the table has from x to y: nothing, or a chain
  data Cell (x y : ℕ) : Type 0 where
    far : Cell x y
    near : (s : Carrier) → Chain G N Stood x y s → Cell x y

  -- the cell has a chain of at most s
  abbrev CellAtMost : {x y : ℕ} → Cell x y → Carrier → Type 0
  CellAtMost far s = ⊥
  CellAtMost (near t c) s = t ≼ s

  up : {x y : ℕ} (a : Cell x y) {s u : Carrier} → CellAtMost a s → s ≼ u → CellAtMost a u
  up far h k = h
  up (near t c) h k = le_trans G L _ _ _ h k

  -- a chain of the first, then one of the second
  abbrev both : {x y z : ℕ} → Cell x y → Cell y z → Cell x z
  both far b = far
  both (near s c) far = far
  both (near s c) (near u d) = near (s ⊕ u) (join G L N Stood c d)

  both_in : {x y z : ℕ} (a : Cell x y) (b : Cell y z) (s u : Carrier) → CellAtMost a s → CellAtMost b u → CellAtMost (both a b) (s ⊕ u)
  both_in far b p q h k = h
  both_in (near s c) far p q h k = k
  both_in (near s c) (near u d) p q h k = add_le G L h k

  both_out : {x y z : ℕ} (a : Cell x y) (b : Cell y z) (s : Carrier) → CellAtMost (both a b) s → (p : Carrier) × (q : Carrier) × CellAtMost a p × CellAtMost b q × (p ⊕ q ≼ s)
  both_out far b s h = absurd h
  both_out (near p c) far s h = absurd h
  both_out (near p c) (near q d) s h = (p, q, le_refl G L p, le_refl G L q, h)

  -- the one with the lesser sum
  abbrev lesser_by : {x y : ℕ} {s u : Carrier} → Chain G N Stood x y s → Chain G N Stood x y u → (s ≼ u) ⊎ (u ≼ s) → Cell x y
  lesser_by {s = s} {u = u} c d (inl h) = near s c
  lesser_by {s = s} {u = u} c d (inr h) = near u d

  abbrev lesser : {x y : ℕ} → Cell x y → Cell x y → Cell x y
  lesser far b = b
  lesser (near s c) far = near s c
  lesser (near s c) (near u d) = lesser_by c d (le_total G L s u)

  lesser_left : {x y : ℕ} (a b : Cell x y) (s : Carrier) → CellAtMost a s → CellAtMost (lesser a b) s
  lesser_left far b s h = absurd h
  lesser_left (near p c) far s h = h
  lesser_left (near p c) (near q d) s h = elim (le_total G L p q) as (λ v. CellAtMost (lesser_by c d v) s) [ inl k ↦ h | inr k ↦ le_trans G L _ _ _ k h ]

  lesser_right : {x y : ℕ} (a b : Cell x y) (s : Carrier) → CellAtMost b s → CellAtMost (lesser a b) s
  lesser_right far b s h = h
  lesser_right (near p c) far s h = absurd h
  lesser_right (near p c) (near q d) s h = elim (le_total G L p q) as (λ v. CellAtMost (lesser_by c d v) s) [ inl k ↦ le_trans G L _ _ _ k h | inr k ↦ h ]

  lesser_out : {x y : ℕ} (a b : Cell x y) (s : Carrier) → CellAtMost (lesser a b) s → CellAtMost a s ⊎ CellAtMost b s
  lesser_out far b s = λ h. inr h
  lesser_out (near p c) far s = λ h. inl h
  lesser_out (near p c) (near q d) s = elim (le_total G L p q) as (λ v. CellAtMost (lesser_by c d v) s → (p ≼ s) ⊎ (q ≼ s)) [ inl k ↦ λ h. inl h | inr k ↦ λ h. inr h ]

  abbrev Table : Type 0
  Table = (x y : ℕ) → Cell x y

  -- by way of the package k too
  abbrev next : ℕ → Table → Table
  next k T x y = lesser (T x y) (both (T x k) (T k y))

  -- ways over packages below n are in the table
  abbrev Closed : Table → ℕ → Type 0
  Closed T n = (j x y : ℕ) (s u : Carrier) → j < n → CellAtMost (T x j) s → CellAtMost (T j y) u → CellAtMost (T x y) (s ⊕ u)

  module _ (T : Table) (k : ℕ) (closed : Closed T k) (rises : (s : Carrier) → CellAtMost (T k k) s → zero ≼ s) where
    -- a way over k
    abbrev By : ℕ → ℕ → Carrier → Type 0
    By x y s = (p : Carrier) × (q : Carrier) × CellAtMost (T x k) p × CellAtMost (T k y) q × (p ⊕ q ≼ s)

    out : (x y : ℕ) (s : Carrier) → CellAtMost (next k T x y) s → CellAtMost (T x y) s ⊎ By x y s
    out x y s h = elim (lesser_out (T x y) (both (T x k) (T k y)) s h) [ inl a ↦ inl a | inr b ↦ inr (both_out (T x k) (T k y) s b) ]

    old : (x y : ℕ) (s : Carrier) → CellAtMost (T x y) s → CellAtMost (next k T x y) s
    old x y s h = lesser_left (T x y) _ s h

    by : (x y : ℕ) (p q s : Carrier) → CellAtMost (T x k) p → CellAtMost (T k y) q → p ⊕ q ≼ s → CellAtMost (next k T x y) s
    by x y p q s a b h = lesser_right (T x y) _ s (up (both (T x k) (T k y)) (both_in (T x k) (T k y) p q a b) h)

    -- to k and from k the table stays as it was
    to : (x : ℕ) (s : Carrier) → CellAtMost (next k T x k) s → CellAtMost (T x k) s
    to x s h = elim (out x k s h) [ inl a ↦ a | inr w ↦ up (T x k) w.2 (follows G L (add_le G L (rises _ w.3) w.4) (simp plain)) ]

    from : (y : ℕ) (s : Carrier) → CellAtMost (next k T k y) s → CellAtMost (T k y) s
    from y s h = elim (out k y s h) [ inl a ↦ a | inr w ↦ up (T k y) w.3 (follows G L (add_le G L (rises _ w.2) w.4) (simp plain)) ]

    closed_next : Closed (next k T) (suc k)
    closed_next j x y s u within a b = elim (ℕ_discrete j k) [ yes e ↦ at_k e | no e ↦ below_k (omega arith) (out x j s a) (out j y u b) ]
      where
        at_k : j ≡ k → CellAtMost (next k T x y) (s ⊕ u)
        at_k e = by x y s u (s ⊕ u) (to x s (rw e at a)) (from y u (rw e at b)) (le_refl G L _)

        below_k : j < k → CellAtMost (T x j) s ⊎ By x j s → CellAtMost (T j y) u ⊎ By j y u → CellAtMost (next k T x y) (s ⊕ u)
        below_k h (inl a) (inl b) = old x y _ (closed j x y s u h a b)
        below_k h (inl a) (inr w) = by x y _ _ _ (closed j x k s w.0 h a w.2) w.3 (follows G L w.4 (simp plain))
        below_k h (inr v) (inl b) = by x y _ _ _ v.2 (closed j k y v.1 u h v.3 b) (follows G L v.4 (simp plain))
        below_k h (inr v) (inr w) =
            let loop = rises _ (closed j k k v.1 w.0 h v.3 w.2) in
            by x y _ _ _ v.2 w.3 (follows G L (add_le G L (add_le G L v.4 w.4) loop) (simp plain))

  -- every step is in the table
  abbrev Direct : Table → Type 0
  Direct T = (t x y : ℕ) → Stood t x → y < count → y ≢ x → CellAtMost (T x y) (step x y t)

  -- and so is every stay
  abbrev Home : Table → Type 0
  Home T = (x : ℕ) → CellAtMost (T x x) zero

  record Filled (n : ℕ) : Type 0 where
    T : Table
    closed : Closed T n
    direct : Direct T
    home : Home T

  abbrev when : {A : Type 0} {x y : ℕ} → Dec A → (A → Cell x y) → Cell x y
  when (yes a) f = f a
  when (no n) f = far

  when_at : {A : Type 0} {x y : ℕ} (d : Dec A) (f : A → Cell x y) (s : Carrier) → A → ((a : A) → CellAtMost (f a) s) → CellAtMost (when d f) s
  when_at (yes a) f s is h = h a
  when_at (no n) f s is h = n is

  module _ (finite : Finite Stood) where
    -- a step from x to y in round t
    abbrev Leaps : ℕ → ℕ → ℕ → Type 0
    Leaps x y t = Stood t x × (y < count) × (y ≢ x)

    dec_leaps : (x y t : ℕ) → Dec (Leaps x y t)
    dec_leaps x y t = go (finite.decided t x) (dec_lt y count) (ℕ_discrete y x)
      where
        go : Dec (Stood t x) → Dec (y < count) → Dec (y ≡ x) → Dec (Leaps x y t)
        go (no n) b c = no (λ h. n h.0)
        go (yes a) (no n) c = no (λ h. n h.1)
        go (yes a) (yes b) (yes e) = no (λ h. h.2 e)
        go (yes a) (yes b) (no n) = yes (a, b, n)

    abbrev leap : (x y t : ℕ) → Leaps x y t → Cell x y
    leap x y t h = near (zero ⊕ step x y t) (onward stay h.0 h.1 h.2)

    -- the least step in the rounds below n
    steps : (x y n : ℕ) → Cell x y
    steps x y nought = far
    steps x y (suc n) = lesser (steps x y n) (when (dec_leaps x y n) (leap x y n))

    steps_at : (t x y n : ℕ) → t < n → Stood t x → y < count → y ≢ x → CellAtMost (steps x y n) (step x y t)
    unfolding steps
    steps_at t x y nought early stands on other = absurd (omega arith)
    steps_at t x y (suc n) early stands on other = elim (ℕ_discrete t n) [
      | yes e ↦ rw e (lesser_right (steps x y n) _ _ (when_at (dec_leaps x y n) (leap x y n) _ (rw e at stands, on, other) λ _. le_of_eq G L (zero_add G L _)))
      | no e ↦ lesser_left (steps x y n) _ _ (steps_at t x y n (omega arith) stands on other)
    ]

    stays : (x y : ℕ) → Cell x y
    stays x y = when (ℕ_discrete x y) λ same. near zero (subst (λ z. Chain G N Stood x z zero) same stay)

    start : Table
    start x y = lesser (stays x y) (steps x y finite.rounds)

    start_filled : Filled 0
    unfolding start stays
    start_filled = record {
      T = start;
      closed = λ j x y s u h a b. absurd (omega arith);
      direct = λ t x y stands on other. lesser_right (stays x y) _ _ (steps_at t x y _ (finite.before t x stands) stands on other);
      home = λ x. lesser_left (stays x x) _ _ (when_at (ℕ_discrete x x) _ _ refl λ _. le_refl G L zero);
    }

    -- a chain around is below zero, or those of a cell are not
    rise : {k : ℕ} (a : Cell k k) → AroundBelow G N Stood k ⊎ ((s : Carrier) → CellAtMost a s → zero ≼ s)
    rise far = inr (λ s h. absurd h)
    rise (near s c) = elim (le_or_lt G L zero s) [ inl h ↦ inr (λ u g. le_trans G L _ _ _ h g) | inr f ↦ inl (s, c, f) ]

    abbrev Around : Type 0
    Around = (x : ℕ) × AroundBelow G N Stood x

    fill : (n : ℕ) → Around ⊎ Filled n
    fill nought = inr start_filled
    fill (suc n) = go (fill n)
      where
        go : Around ⊎ Filled n → Around ⊎ Filled (suc n)
        go (inl a) = inl a
        go (inr f) = elim (rise (f.T n n)) [
          | inl a ↦ inl (n, a)
          | inr rises ↦ inr (record {
            T = next n f.T;
            closed = closed_next f.T n f.closed rises;
            direct = λ t x y p q r. lesser_left (f.T x y) _ _ (f.direct t x y p q r);
            home = λ x. lesser_left (f.T x x) _ _ (f.home x);
          })
        ]

    module _ (within : Within count Stood) (f : Filled count) where
      -- the table holds every chain
      bound : {x y : ℕ} {s : Carrier} → Chain G N Stood x y s → CellAtMost (f.T x y) s
      bound {x = x} stay = f.home x
      bound {x = x} (onward {y = y} {z = z} {t = t} {s = s} c stands on other) = f.closed y x z s _ (within t y stands) (bound c) (f.direct t y z stands on other)

      -- the least of a column, from packages below n
      record Lowest (n y : ℕ) : Type 0 where
        start : ℕ
        sum : Carrier
        chain : Chain G N Stood start y sum
        least : (x : ℕ) (s : Carrier) → x < n → CellAtMost (f.T x y) s → sum ≼ s

      lowest : (n y : ℕ) → Lowest n y
      lowest nought y = record { start = y; sum = zero; chain = stay; least = λ x s h a. absurd (omega arith) }
      lowest (suc n) y = go (f.T n y) (λ s h. h) (lowest n y)
        where
          go : (a : Cell n y) → ((s : Carrier) → CellAtMost (f.T n y) s → CellAtMost a s) → Lowest n y → Lowest (suc n) y
          go far is l = record {
            start = l.start;
            sum = l.sum;
            chain = l.chain;
            least = λ x s h a. elim (ℕ_discrete x n) [ yes e ↦ absurd (is s (rw e at a)) | no e ↦ l.least x s (omega arith) a ];
          }
          go (near u c) is l = elim (le_total G L l.sum u) [
            | inl k ↦ record {
              start = l.start;
              sum = l.sum;
              chain = l.chain;
              least = λ x s h a. elim (ℕ_discrete x n) [ yes e ↦ le_trans G L _ _ _ k (is s (rw e at a)) | no e ↦ l.least x s (omega arith) a ];
            }
            | inr k ↦ record {
              start = n;
              sum = u;
              chain = c;
              least = λ x s h a. elim (ℕ_discrete x n) [ yes e ↦ is s (rw e at a) | no e ↦ le_trans G L _ _ _ k (l.least x s (omega arith) a) ];
            }
          ]

      inner : AreInner G N Stood (λ y. (lowest count y).sum)
      inner y on =
          let l = lowest count y in
          record { has = (l.start, l.chain); least = λ s c. l.least c.0 s (starts G L N Stood within c.1 on) (bound c.1) }

    module _ (within : Within count Stood) where
      pub inner_or_around : Around ⊎ ((d : ℕ → Carrier) × AreInner G N Stood d)
      inner_or_around = elim (fill count) [ inl a ↦ inl a | inr f ↦ inr (λ y. (lowest within f count y).sum, inner within f) ]

      pub decided : Decided G N Stood
      decided = record {
        either = inner_or_around;
        exactly = (
          λ e x a. around_none G L N Stood a e,
          λ none. elim inner_or_around [ inl a ↦ absurd (none a.0 a.1) | inr i ↦ (i.0, explains G L N Stood within i.0 i.1) ],
        );
      }

-- bids that a test tells are finite
pub told_finite : (bids : Bids) → Finite (StoodIn bids)
told_finite bids = record {
  rounds = bids.rounds;
  before = λ t a h. h.0;
  decided = λ t a. go t a (dec_lt t bids.rounds) (cases_Bool (bids.test t a));
}
  where
    go : (t a : ℕ) → Dec (t < bids.rounds) → (bids.test t a ≡ true) ⊎ (bids.test t a ≡ false) → Dec (StoodIn bids t a)
    go t a (no n) b = no (λ h. n h.0)
    go t a (yes early) (inl true_is) = yes (early, true_is)
    go t a (yes early) (inr false_is) = no (λ h. both_ways _ false_is h.1)
