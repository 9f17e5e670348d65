-- What chains say of worths, package by package.
use Rattle.std.proofs.Common.{ℕ, List, subst, inl, inr}
use Rattle.chains.proofs.Places.{placed, within, by_rows, inner_by_row, explained_by_place, explained_by_row}
use Rattle.chains.proofs.Rolls.{stood_on_roll}
use Rattle.chains.specs.Chains.{Chain, stay, onward, EndsAt, Explains, Explained, Inner}
use Rattle.chains.specs.Places.{graph_of, bids_of}
use Rattle.chains.specs.Rounds.{Round, OnRoll}
use Rattle.chains.specs.Theorems.{AroundBelow, ChainLaws}
use Rattle.paths.proofs.Table.{told_finite, decided}
use Rattle.paths.specs.Bids.{StoodIn}
use Rattle.paths.specs.Theorems.{Decided}
use Rattle.worth.proofs.Leasts.{least_unique}
use Rattle.worth.proofs.Orders.{add_le, follows, le_of_eq, not_le}
use Rattle.worth.proofs.Sums.{plain}
use Rattle.worth.specs.Group.{Group, Laws}
use Rattle.worth.specs.Says.{AtMost}

module _ (G : Group) (L : Laws G) (rounds : List Round) where
  open G use {Carrier, zero, add as ◌⊕◌}

  infixl 65 ◌⊕◌
  infix 50 ◌≼◌
  abbrev ◌≼◌ : Carrier → Carrier → Type 0
  x ≼ y = AtMost G x y

  -- along a chain worths rise by at most its sum
  pub along : (w : List ℕ → Carrier) → Explains G rounds w → {x y : List ℕ} {s : Carrier} → Chain G rounds x y s → w y ≼ w x ⊕ s
  along w e stay = le_of_eq G L (simp plain)
  along w e (onward {y = y} {z = z} t c h on other) = follows G L (add_le G L (along w e c) (e t y z h on other)) (simp plain)

  -- a chain that ends on the roll starts there
  starts : {x y : List ℕ} {s : Carrier} → Chain G rounds x y s → OnRoll rounds y → OnRoll rounds x
  starts stay on = on
  starts (onward {y = y} t c h on other) _ = starts c (stood_on_roll rounds t y h)

  pub not_around : Explained G rounds → (x : List ℕ) → ¬ AroundBelow G rounds x
  not_around e x a = not_le G L _ _ (follows G L (along e.0 e.1 a.1) (simp plain)) a.2

  pub explains : (d : List ℕ → Carrier) → ((y : List ℕ) → OnRoll rounds y → Inner G rounds y (d y)) → Explains G rounds d
  explains d inner t x y h on other =
      let at_x = inner x (stood_on_roll rounds t x h) in
      (inner y on).least _ (at_x.has.0, onward t at_x.has.1 h on other)

  pub certified : (d : List ℕ → Carrier) → Explains G rounds d → ((y : List ℕ) → OnRoll rounds y → d y ≼ zero)
      → ((y : List ℕ) → OnRoll rounds y → EndsAt G rounds y (d y)) → (y : List ℕ) → OnRoll rounds y → Inner G rounds y (d y)
  certified d e low met y on = record {
    has = met y on;
    least = λ s c. follows G L (add_le G L (along d e c.1) (low c.0 (starts c.1 on))) (simp plain);
  }

  -- by places it is decided whether some worths explain
  by_places : Decided G (graph_of G rounds) (StoodIn (bids_of rounds))
  by_places = decided G L (graph_of G rounds) (StoodIn (bids_of rounds)) (told_finite (bids_of rounds)) (within rounds)

  pub exists : Explained G rounds → (y : List ℕ) → OnRoll rounds y → (g : Carrier) × Inner G rounds y g
  exists e y on =
      let p = placed rounds y on in
      elim by_places.either [
        | inl a ↦ absurd (by_places.exactly.0 (explained_by_place rounds G e) a.0 a.1)
        | inr d ↦ (d.0 p.0, subst (λ x. Inner G rounds x (d.0 p.0)) p.2 (inner_by_row rounds G p.0 (d.0 p.0) p.1 (d.1 p.0 p.1)))
      ]

  pub explained_unless : ((x : List ℕ) → ¬ AroundBelow G rounds x) → Explained G rounds
  explained_unless none = explained_by_row rounds G (by_places.exactly.1 (λ a r. none _ (r.0, by_rows rounds G r.1, r.2)))

  pub chain_laws : ChainLaws G rounds
  chain_laws = record {
    exactly = (not_around, explained_unless);
    unique = λ y g h. least_unique G L (EndsAt G rounds y) g h;
    exists = exists;
    explains = explains;
    certified = certified;
  }
