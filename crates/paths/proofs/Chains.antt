-- What chains say of worths.
use Rattle.std.proofs.Common.{◌≡◌, ℕ, ◌<◌, arith}
use Rattle.worth.specs.Group.{Group, Laws}
use Rattle.worth.specs.Says.{AtMost}
use Rattle.worth.proofs.Sums.{plain, add_zero, add_assoc}
use Rattle.worth.proofs.Orders.{le_of_eq, add_le, follows, not_le}
use Rattle.worth.proofs.Leasts.{least_unique}
use Rattle.paths.specs.Bids.{Within}
use Rattle.paths.specs.Graph.{Graph, Chain, stay, onward, AroundBelow, Explains, Explained, EndsAt, IsInner, AreInner, Includes}
use Rattle.paths.specs.Theorems.{ChainLaws}

module _ (G : Group) (L : Laws G) (N : Graph G) where
  open G use {Carrier, zero, add as ◌⊕◌}
  open N use {count}

  infixl 65 ◌⊕◌
  infix 50 ◌≼◌
  abbrev ◌≼◌ : Carrier → Carrier → Type 0
  x ≼ y = AtMost G x y

  module _ (Stood : ℕ → ℕ → Type 0) where
    abbrev Way : ℕ → ℕ → Carrier → Type 0
    Way = Chain G N Stood

    -- along a chain worths rise by at most its sum
    pub along : (w : ℕ → Carrier) → Explains G N Stood w → {x y : ℕ} {s : Carrier} → Way x y s → w y ≼ w x ⊕ s
    along w e stay = le_of_eq G L (simp plain)
    along w e (onward {y = y} {z = z} {t = t} c stood on other) = follows G L (add_le G L (along w e c) (e t y z stood on other)) (simp plain)

    -- where some worths explain, no chain around is below zero
    pub around_up : (w : ℕ → Carrier) → Explains G N Stood w → {x : ℕ} {s : Carrier} → Way x x s → zero ≼ s
    around_up w e c = follows G L (along w e c) (simp plain)

    pub around_none : {x : ℕ} → AroundBelow G N Stood x → ¬ Explained G N Stood
    around_none a e = not_le G L zero a.0 (around_up e.0 e.1 a.1) a.2

    -- one amount added to all
    pub raised : (w : ℕ → Carrier) (r : Carrier) → Explains G N Stood w → Explains G N Stood (λ y. w y ⊕ r)
    raised w r e t a b stood on other = follows G L (e t a b stood on other) (simp plain)

    -- one chain after another
    pub join : {x y z : ℕ} {s u : Carrier} → Way x y s → Way y z u → Way x z (s ⊕ u)
    join c stay = rw (add_zero G L) c
    join c (onward e stood on other) = rw (← add_assoc G L) (onward (join c e) stood on other)

    pub unique : (y : ℕ) (g h : Carrier) → IsInner G N Stood y g → IsInner G N Stood y h → g ≡ h
    unique y g h = least_unique G L (EndsAt G N Stood y) g h

    -- an inner worth is at most zero
    pub inner_low : (y : ℕ) (g : Carrier) → IsInner G N Stood y g → g ≼ zero
    inner_low y g i = i.least zero (y, stay)

    module _ (within : Within count Stood) where
      pub starts : {x y : ℕ} {s : Carrier} → Way x y s → y < count → x < count
      starts stay on = on
      starts (onward {y = y} {t = t} c stood on other) last = starts c (within t y stood)

      -- worths that explain, none above zero, each the sum of a chain to its package, are the inner worths
      pub certified : (d : ℕ → Carrier) → Explains G N Stood d → ((y : ℕ) → y < count → d y ≼ zero) → ((y : ℕ) → y < count → EndsAt G N Stood y (d y)) → AreInner G N Stood d
      certified d e low seen y on = record {
        has = seen y on;
        least = λ s c. follows G L (add_le G L (along d e c.1) (low c.0 (starts c.1 on))) (simp plain);
      }

      pub explains : (d : ℕ → Carrier) → AreInner G N Stood d → Explains G N Stood d
      explains d inner t a b stood on other =
          let to = (inner a (within t a stood)).has in
          (inner b on).least _ (to.0, onward to.1 stood on other)

    pub chain_laws : ChainLaws G N Stood
    chain_laws = record {
      along = λ w e x y s c. along w e c;
      around = λ x a. around_none a;
      raised = raised;
      unique = unique;
      certified = certified;
      explains = explains;
    }

module _ (G : Group) (N M : Graph G) (P Q : ℕ → ℕ → Type 0) (includes : Includes G N M P Q) where
  -- the chains of fewer steps are chains of more
  pub wider : {x y : ℕ} {s : G.Carrier} → Chain G N P x y s → Chain G M Q x y s
  wider stay = stay
  wider (onward {y = y} {z = z} {t = t} c stood on other) =
      let few = includes.count in
      let z_on : z < M.count = omega arith in
      rw (← includes.step t y z stood on) (onward (wider c) (includes.stood t y stood) z_on other)

module _ (G : Group) (N M : Graph G) (P Q : ℕ → ℕ → Type 0) where
  -- the same steps have the same inner worths
  pub inner_same : Includes G N M P Q → Includes G M N Q P → (d : ℕ → G.Carrier) → AreInner G N P d → AreInner G M Q d
  inner_same there back d inner y on =
      let few = back.count in
      let i = inner y (omega arith) in
      record { has = (i.has.0, wider G N M P Q there i.has.1); least = λ s c. i.least s (c.0, wider G M N Q P back c.1) }
