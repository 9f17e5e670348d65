-- What the sheet gives.
use Rattle.std.proofs.Common.{◌≡◌, ℕ, zero as nought, suc, ◌^◌, ◌<◌, ◌≤◌, true, false, List, [], ◌∷◌, length, pos, ◌-ℤ◌, IfSome, sym, refl, ap, ◌∙◌, subst, inl, inr, arith}
use Rattle.std.proofs.lemmas.List.{get_or_default, same_lists}
use Rattle.std.proofs.lemmas.Option.{MatchOption-at_some}
use Rattle.std.proofs.lemmas.Int.{ints}
use Rattle.std.proofs.lemmas.Bool.{both_ways, cases_Bool}
use Rattle.chains.proofs.Costs.{cost_bound}
use Rattle.chains.proofs.Places.{placed, stood_before}
use Rattle.chains.proofs.Rolls.{same_eq, same_refl, stood_on_roll}
use Rattle.chains.specs.Chains.{step, onward, EndsAt, Explains, Inner}
use Rattle.chains.specs.Rounds.{Round, round, Stood, listed, roll, same, OnRoll, Package, Prices, Sale}
use Rattle.chains.specs.Rows.{cost}
use Rattle.chains.specs.Sheet.{paid, Rise, Sheet, ReadOff, NoughtOff}
use Rattle.chains.specs.Steps.{step_at}
use Rattle.chains.specs.Theorems.{SheetLaws}
use Rattle.worth.proofs.Amounts.{amount_le, amount_sub, amount_zero, zero_in_range}
use Rattle.worth.proofs.Leasts.{greatest_unique, least_unique}
use Rattle.worth.proofs.Orders.{add_le, follows, le_of_eq}
use Rattle.worth.proofs.Sums.{group, neg_zero, add_zero, plain}
use Rattle.worth.specs.Group.{Group, Laws, Amount}
use Rattle.worth.specs.Says.{AtMost}

module _ (G : Group) (L : Laws G) (rounds : List Round) where
  open G use {Carrier, zero, add as ◌⊕◌, neg as ⊖◌, amount, notch}

  infixl 65 ◌⊕◌
  infix 70 ⊖◌
  infix 50 ◌≼◌
  abbrev ◌≼◌ : Carrier → Carrier → Type 0
  x ≼ y = AtMost G x y

  -- there is one r
  rise_unique : (r s : Carrier) → Rise G rounds r → Rise G rounds s → r ≡ s
  rise_unique r s = greatest_unique G L _ r s

  inner_unique : (y : List ℕ) (g h : Carrier) → Inner G rounds y g → Inner G rounds y h → g ≡ h
  inner_unique y g h = least_unique G L (EndsAt G rounds y) g h

  -- a package on the roll, as the sheet has it
  pub record Priced (sheet : List Carrier) (v : List ℕ → Carrier) (y : List ℕ) : Type 0 where
    pub inner : Carrier
    pub rise : Carrier
    pub is_inner : Inner G rounds y inner
    pub is_rise : Rise G rounds rise
    pub worth : v y ≡ inner ⊕ rise

  priced : (sheet : List Carrier) → Sheet G rounds sheet → (v : List ℕ → Carrier) → ReadOff G rounds sheet v → (y : List ℕ) → OnRoll rounds y → Priced sheet v y
  priced sheet h v read y on =
      let p = placed rounds y on in
      let w = h.worths p.0 (omega (arith, p.1, h.long)) in
      record {
        inner = w.0;
        rise = w.1;
        is_inner = subst (λ x. Inner G rounds x w.0) p.2 w.2;
        is_rise = w.3;
        worth = ap v (sym p.2) ∙ read p.0 p.1 ∙ w.4;
      }

  pub explains : (sheet : List Carrier) → Sheet G rounds sheet → (v : List ℕ → Carrier) → ReadOff G rounds sheet v → Explains G rounds v
  explains sheet h v read t x y s on other =
      let px = priced sheet h v read x (stood_on_roll rounds t x s) in
      let py = priced sheet h v read y on in
      let low = py.is_inner.least _ (px.is_inner.has.0, onward t px.is_inner.has.1 s on other) in
      let one : py.rise ≡ px.rise = rise_unique _ _ py.is_rise px.is_rise in
      rw (px.worth, py.worth, one) (follows G L low (simp plain))

  pub unique : (s t : List Carrier) → Sheet G rounds s → Sheet G rounds t → s ≡ t
  unique s t hs ht = same_lists s t (hs.long ∙ sym ht.long) (λ k d l.
      let l' : k < length t = omega (arith, hs.long, ht.long) in
      let a = hs.worths k l in
      let b = ht.worths k l' in
      get_or_default s k d zero l ∙ a.4
      ∙ ap (λ g. g ⊕ a.1) (inner_unique _ _ _ a.2 b.2) ∙ ap (λ r. b.0 ⊕ r) (rise_unique _ _ a.3 b.3)
      ∙ sym b.4 ∙ sym (get_or_default t k d zero l'))

  -- a round of the sale
  sale_round : (n : ℕ) (rs : List Round) (t : ℕ) → t < length rs → Sale n rs → Prices n (round rs t).prices × IfSome (round rs t).bid (Package n)
  sale_round n [] t h sale = absurd (omega arith)
  sale_round n (r ∷ rs) nought h sale = sale.0
  sale_round n (r ∷ rs) (suc t) h sale = sale_round n rs t (omega arith) sale.1

  module _ (level : notch ≡ zero) (n : ℕ) (few : n ≤ 16) (sale : Sale n rounds) where
    -- what a package costs in a round is an amount, at or above zero
    module _ (t : ℕ) (opened : t < length rounds) (x : List ℕ) (is : Package n x) where
      bound : cost x (round rounds t).prices ≤ 2 ^ 44
      bound = cost_bound n x (round rounds t).prices few is (sale_round n rounds t opened sale).0

      pub in_range : Amount (pos (cost x (round rounds t).prices))
      in_range = let b = bound in omega (arith, ints)

      pub paid_up : zero ≼ paid G rounds t x
      paid_up = subst (λ z. z ≼ paid G rounds t x) (amount_zero G L) (amount_le G L (pos 0) (pos (cost x (round rounds t).prices)) zero_in_range in_range (omega (arith, ints)))

    -- with no notch a step is the difference of two costs
    step_paid : (t : ℕ) (opened : t < length rounds) (x y : List ℕ) → Package n x → Package n y → step G rounds x y t ≡ paid G rounds t y ⊕ ⊖ paid G rounds t x
    unfolding step_at
    step_paid t opened x y hx hy =
        let bx = bound t opened x hx in
        let by = bound t opened y hy in
        ap (λ z. amount (pos (cost y (round rounds t).prices) -ℤ pos (cost x (round rounds t).prices)) ⊕ ⊖ z) level
        ∙ ap (λ z. amount (pos (cost y (round rounds t).prices) -ℤ pos (cost x (round rounds t).prices)) ⊕ z) (neg_zero G L)
        ∙ add_zero G L _
        ∙ amount_sub G L (pos (cost y (round rounds t).prices)) (pos (cost x (round rounds t).prices)) (in_range t opened y hy) (in_range t opened x hx) (omega (arith, ints))

    module _ (sheet : List Carrier) (h : Sheet G rounds sheet) (v : List ℕ → Carrier) (read : ReadOff G rounds sheet v) (off : NoughtOff G rounds v) where
      pub best : (t : ℕ) (x : List ℕ) → Stood rounds t x → (q : List ℕ) → Package n q → v q ≼ v x ⊕ step G rounds x q t
      best t x s q is = elim (cases_Bool (listed (roll rounds) q)) [ inl on ↦ listed_too on | inr none ↦ elsewhere none ]
        where
          opened : t < length rounds
          opened = stood_before rounds t x s

          bid_is : Package n x
          bid_is = MatchOption-at_some (Unit {0}) (Package n) x s (sale_round n rounds t opened sale).1

          steps : step G rounds x q t ≡ paid G rounds t q ⊕ ⊖ paid G rounds t x
          steps = step_paid t opened x q bid_is is

          listed_too : OnRoll rounds q → v q ≼ v x ⊕ step G rounds x q t
          listed_too on = elim (cases_Bool (same q x)) [
            | inl one ↦ rw steps (subst (λ y. v y ≼ v x ⊕ (paid G rounds t y ⊕ ⊖ paid G rounds t x)) (sym (same_eq q x one)) (le_of_eq G L (simp group)))
            | inr two ↦ explains sheet h v read t x q s on (λ e. both_ways _ two (subst (λ y. same y x ≡ true) (sym e) (same_refl x)))
          ]

          elsewhere : listed (roll rounds) q ≡ false → v q ≼ v x ⊕ step G rounds x q t
          elsewhere none =
              let p = priced sheet h v read x (stood_on_roll rounds t x s) in
              let top : paid G rounds t x ⊕ ⊖ p.inner ≼ p.rise = p.is_rise.greatest _ (t, x, p.inner, s, p.is_inner, refl) in
              let up = paid_up t opened q is in
              rw (off q none, p.worth, steps) (follows G L (add_le G L top up) (simp group))

  pub sheet_laws : SheetLaws G rounds
  sheet_laws = record {
    unique = unique;
    explains = explains;
    best = λ level n few sale sheet h v read off. best level n few sale sheet h v read off;
  }
