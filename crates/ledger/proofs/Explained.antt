-- Records that are explained stay explained with fewer bids.
use Rattle.std.proofs.Common.{◌≡◌, ℕ, zero, suc, true, false, ◌⊎◌, List, [], ◌∷◌, ◌++◌, length, Some, None, Option, sym, refl, ap, ◌∙◌, subst, inl, inr, arith, length-append}
use Rattle.std.proofs.lemmas.Bool.{both_ways, cases_Bool, cases_lt}
use Rattle.ledger.proofs.Rounds.{round_front, round_next}
use Rattle.chains.proofs.Places.{stood_before}
use Rattle.chains.proofs.Rolls.{same_eq, stood_on_roll}
use Rattle.chains.specs.Chains.{Explained}
use Rattle.chains.specs.Rounds.{Round, round, Stood, same, listed, enrolled, roll_on, OnRoll}
use Rattle.chains.specs.Steps.{step_at}
use Rattle.worth.specs.Group.{Group}
use Rattle.worth.specs.Says.{AtMost}

-- who is on a list of packages, and who was on it before one more bid
listed_last : (ys : List (List ℕ)) (z x : List ℕ) → listed (ys ++ z ∷ []) x ≡ true → (listed ys x ≡ true) ⊎ (z ≡ x)
listed_last [] z x h = elim (cases_Bool (same z x)) [
  | inl t ↦ inr (same_eq z x t)
  | inr f ↦ absurd (both_ways false refl (rw f at h))
]
listed_last (y ∷ ys) z x h = elim (cases_Bool (same y x)) [
  | inl t ↦ inl (rw t refl)
  | inr f ↦ rw f (listed_last ys z x (rw f at h))
]

enrolled_listed : (ys : List (List ℕ)) (b : Option (List ℕ)) (x : List ℕ) → listed (enrolled ys b) x ≡ true → (listed ys x ≡ true) ⊎ (b ≡ Some x)
enrolled_listed ys None x h = inl h
enrolled_listed ys (Some z) x h = elim (cases_Bool (listed ys z)) [
  | inl t ↦ inl (rw t at h)
  | inr f ↦ elim (listed_last ys z x (rw f at h)) [ inl l ↦ inl l | inr e ↦ inr (ap Some e) ]
]

rolled_stood : (ys : List (List ℕ)) (rounds : List Round) (x : List ℕ) → listed (roll_on ys rounds) x ≡ true → (listed ys x ≡ true) ⊎ ((t : ℕ) × Stood rounds t x)
rolled_stood ys [] x h = inl h
rolled_stood ys (r ∷ rounds) x h = elim (rolled_stood (enrolled ys r.bid) rounds x h) [
  | inl l ↦ elim (enrolled_listed ys r.bid x l) [ inl k ↦ inl k | inr e ↦ inr (zero, e) ]
  | inr s ↦ inr (suc s.0, s.1)
]

-- a package on the roll stood in some round
roll_stood : (rounds : List Round) (x : List ℕ) → OnRoll rounds x → (t : ℕ) × Stood rounds t x
roll_stood rounds x h = elim (rolled_stood [] rounds x h) [
  | inl l ↦ absurd (both_ways false refl l)
  | inr s ↦ s
]

module _ (G : Group) where
  -- where every bid of some rounds stood in others too, at the same prices, what explains the others explains these
  fewer : (rounds others : List Round) → ((t : ℕ) (x : List ℕ) → Stood rounds t x → round others t ≡ round rounds t) → Explained G others → Explained G rounds
  fewer rounds others kept e = (
    e.0,
    λ t x y s on other.
        let there : (t : ℕ) (x : List ℕ) → Stood rounds t x → Stood others t x = λ t x s. ap (λ r. r.bid) (kept t x s) ∙ s in
        let stood = roll_stood rounds y on in
        subst (λ r. AtMost G (e.0 y) (G.add (e.0 x) (step_at G x y r.prices))) (kept t x s)
        (e.1 t x y (there t x s) (stood_on_roll others stood.0 y (there stood.0 y stood.1)) other),
  )

  -- no rounds at all
  pub explained_none : Explained G []
  explained_none = ((λ x. G.zero), λ t x y s on other. absurd (let h = stood_before [] t x s in omega arith))

  -- later rounds are cut off
  pub explained_front : (rounds more : List Round) → Explained G (rounds ++ more) → Explained G rounds
  explained_front rounds more = fewer rounds (rounds ++ more) (λ t x s. round_front rounds more t (stood_before rounds t x s))

  -- a round with no bid is added
  pub explained_opened : (rounds : List Round) (prices : List ℕ) → Explained G rounds → Explained G (rounds ++ record { prices = prices; bid = None } ∷ [])
  explained_opened rounds prices =
      let r : Round = record { prices = prices; bid = None } in
      fewer (rounds ++ r ∷ []) rounds (λ t x s. elim (cases_lt t (length rounds)) [
        | inl l ↦ sym (round_front rounds (r ∷ []) t l)
        | inr g ↦
            let h = stood_before (rounds ++ r ∷ []) t x s in
            let k : t ≡ length rounds = omega (arith, length-append rounds (r ∷ [])) in
            let no : ◌≡◌ {A = Option (List ℕ)} None (Some x) = sym (ap (λ r. r.bid) (ap (round (rounds ++ r ∷ [])) k ∙ round_next rounds r [])) ∙ s in
            let z : ◌≡◌ {A = ℕ} 0 1 = cc in
            absurd (omega arith)
      ])
