-- Which package stood in a round, by the place that is read there.
use Rattle.std.proofs.Common.{◌≡◌, ℕ, ◌+◌, ◌<◌, ◌≢◌, List, length, true, false, eqb, Option, Some, None, sym, refl, ◌∙◌, subst, arith, eqb-true}
use borrow.Author.Tests.{eqb-false}
use Rattle.std.proofs.lemmas.Bool.{both_ways}
use Rattle.std.specs.Option.{option_eq}
use Rattle.chains.proofs.Places.{package_stood, place_stood}
use Rattle.chains.proofs.Rolls.{roll_distinct}
use Rattle.chains.specs.Places.{package_at, Earlier}
use Rattle.chains.specs.Rounds.{Round}
use Rattle.tables.specs.Readings.{BidAt}

module _ (R : List Round) (s : ℕ) where
  pub bid_earlier : (a : ℕ) → s + 1 < length R → BidAt R s (Some a) → Earlier R s a
  bid_earlier a early h = (early, place_stood R s a h.0 h.1)

  pub bid_other : (a y : ℕ) → a ≢ y → BidAt R s (Some a) → ¬ Earlier R s y
  bid_other a y ne h old =
      let p = package_stood R s y old.1 in
      let both : Some (package_at R a) ≡ Some (package_at R y) = sym h.1 ∙ p.1 in
      let same : package_at R a ≡ package_at R y = cc in
      ne (roll_distinct R a y h.0 p.0 same)

  pub bid_none : (y : ℕ) → BidAt R s None → ¬ Earlier R s y
  bid_none y h old =
      let p = package_stood R s y old.1 in
      let both : None ≡ Some (package_at R y) = sym h ∙ p.1 in
      let z : ◌≡◌ {A = ℕ} 0 1 = cc in
      omega arith

  -- whether the package that stood there, if any, is that at place y
  pub bid_is : (o : Option ℕ) (y : ℕ) → s + 1 < length R → BidAt R s o → true ≡ option_eq eqb o (Some y) → Earlier R s y
  bid_is None y early h is = absurd (both_ways true is refl)
  bid_is (Some a) y early h is = subst (λ b. Earlier R s b) (eqb-true a y (sym is)) (bid_earlier a early h)

  pub bid_not : (o : Option ℕ) (y : ℕ) → BidAt R s o → false ≡ option_eq eqb o (Some y) → ¬ Earlier R s y
  bid_not None y h not = bid_none y h
  bid_not (Some a) y h not = bid_other a y (eqb-false a y (sym not)) h
