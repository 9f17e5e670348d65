-- What the tests of the check say where they pass.
use Rattle.std.proofs.Common.{◌≡◌, ℕ, zero as nought, suc, ◌<◌, Bool, true, false, not, ◌||◌, ◌≢◌, List, [], ◌∷◌, length, sym, refl, subst, inl, inr, arith}
use Rattle.std.proofs.lemmas.Bool.{and_from, and_parts, lt-ltb, or_cases, not-true, both_ways, cases_Bool, eqb-true, eqb-false, ltb-true, cases_eq}
use Rattle.cases.specs.Check.{all_below, equal, equals, stands, leads}
use Rattle.chains.proofs.Rolls.{same_eq}
use Rattle.chains.specs.Places.{graph_of, bids_of}
use Rattle.chains.specs.Rounds.{Round, same}
use Rattle.paths.specs.Bids.{StoodIn}
use Rattle.paths.specs.Route.{Leads}
use Rattle.paths.specs.declared.Step.{Step}
use Rattle.worth.specs.Group.{Group, Laws}

-- a test that passes at each number below n
pub each_below : (n : ℕ) (test : ℕ → Bool) → all_below n test ≡ true → (i : ℕ) → i < n → test i ≡ true
each_below nought test h i l = absurd (omega arith)
each_below (suc n) test h i l =
    let p = and_parts (test n) (all_below n test) h in
    elim (cases_eq i n) [
      | inl e ↦ subst (λ k. test k ≡ true) (sym e) p.0
      | inr e ↦ each_below n test p.1 i (let k : i ≢ n = e in omega arith)
    ]

-- an alternative whose first part fails
pub unless_first : (x y : Bool) → x ≡ false → (x || y) ≡ true → y ≡ true
unless_first x y f h = elim (or_cases x y h) [ inl t ↦ absurd (both_ways x f t) | inr k ↦ k ]

-- what is asked where a test passes
pub where_passed : (x y : Bool) → x ≡ true → (not x || y) ≡ true → y ≡ true
where_passed x y t h = unless_first (not x) y (subst (λ z. not z ≡ false) (sym t) refl) h

-- two packages that are not one
pub not_same : (x y : List ℕ) → x ≢ y → same x y ≡ false
not_same x y other = elim (cases_Bool (same x y)) [ inl t ↦ absurd (other (same_eq x y t)) | inr f ↦ f ]

module _ (G : Group) (L : Laws G) where
  open G use {Carrier, less}

  -- values that pass as the same are
  pub equal_is : (x y : Carrier) → equal G x y ≡ true → x ≡ y
  equal_is x y h = let p = and_parts (not (less x y)) (not (less y x)) h in L.less_tie x y (not-true _ p.0) (not-true _ p.1)

  pub equals_are : (xs ys : List Carrier) → equals G xs ys ≡ true → xs ≡ ys
  equals_are [] [] h = refl
  equals_are [] (y ∷ ys) h = absurd (both_ways false refl h)
  equals_are (x ∷ xs) [] h = absurd (both_ways false refl h)
  equals_are (x ∷ xs) (y ∷ ys) h =
      let p = and_parts (equal G x y) (equals G xs ys) h in
      let first = equal_is x y p.0 in
      let rest = equals_are xs ys p.1 in
      cc

module _ (rounds : List Round) where
  -- the test of a bid, one way and the other
  pub stands_stood : (t a : ℕ) → stands rounds t a ≡ true → StoodIn (bids_of rounds) t a
  stands_stood t a h = let p = and_parts _ _ h in (ltb-true t (length rounds) p.0, p.1)

  pub stood_stands : (t a : ℕ) → StoodIn (bids_of rounds) t a → stands rounds t a ≡ true
  stood_stands t a h = and_from _ _ (lt-ltb t (length rounds) h.0) h.1

  -- steps that pass lead from a to b
  pub leads_so : (G : Group) (a : ℕ) (ls : List Step) (b : ℕ) → leads rounds a ls b ≡ true → Leads G (graph_of G rounds) (StoodIn (bids_of rounds)) a ls b
  leads_so G a [] b h = eqb-true a b h
  leads_so G a (l ∷ ls) b h =
      let p = and_parts _ _ h in
      let q = and_parts _ _ p.1 in
      let r = and_parts _ _ q.1 in
      let s = and_parts _ _ r.1 in (
        eqb-true _ _ p.0,
        stands_stood l.round l.from q.0,
        ltb-true _ _ r.0,
        eqb-false _ _ (not-true _ s.0),
        leads_so G l.to ls b s.1,
      )
