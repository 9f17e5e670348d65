-- The roll: who is on it, each once, and what one more bid does to it.
use Rattle.std.proofs.Common.{◌≡◌, ℕ, zero, suc, ◌+◌, ◌<◌, true, false, eqb, ◌≢◌, ◌⊎◌, List, [], ◌∷◌, ◌++◌, length, get_or, Some, None, Option, sym, refl, ap, ◌∙◌, subst, inl, inr, arith, length-append, eq-eqb, eqb-true}
use Rattle.std.proofs.lemmas.List.{get_or_append_left, get_or_at}
use Rattle.std.proofs.lemmas.Bool.{both_ways, cases_Bool, cases_lt}
use Rattle.chains.specs.Rounds.{Round, Stood, same, listed, enrolled, roll_on, roll, OnRoll}

pub same_refl : (x : List ℕ) → same x x ≡ true
same_refl [] = refl
same_refl (p ∷ x) = rw (eq-eqb p p refl) (same_refl x)

-- what passes the test is one package
pub same_eq : (x y : List ℕ) → same x y ≡ true → x ≡ y
same_eq [] [] h = refl
same_eq [] (q ∷ y) h = let z : ◌≡◌ {A = ℕ} 0 1 = cc in absurd (omega arith)
same_eq (p ∷ x) [] h = let z : ◌≡◌ {A = ℕ} 0 1 = cc in absurd (omega arith)
same_eq (p ∷ x) (q ∷ y) h = elim (cases_Bool (eqb p q)) [
  | inl t ↦ let first = eqb-true p q t in let rest = same_eq x y (rw t at h) in cc
  | inr f ↦ absurd (both_ways false refl (rw f at h))
]

-- a list with a package that is listed
pub listed_place : (ys : List (List ℕ)) (x : List ℕ) → listed ys x ≡ true → (k : ℕ) × (k < length ys) × (get_or ys k [] ≡ x)
listed_place [] x h = let z : ◌≡◌ {A = ℕ} 0 1 = cc in absurd (omega arith)
listed_place (y ∷ ys) x h = elim (cases_Bool (same y x)) [
  | inl t ↦ (0, omega arith, same_eq y x t)
  | inr f ↦ let k = listed_place ys x (rw f at h) in (suc k.0, omega (arith, k.1), k.2)
]

pub place_listed : (ys : List (List ℕ)) (k : ℕ) → k < length ys → listed ys (get_or ys k []) ≡ true
place_listed [] k h = absurd (omega arith)
place_listed (y ∷ ys) zero h = rw (same_refl y) refl
place_listed (y ∷ ys) (suc k) h = elim (cases_Bool (same y (get_or ys k []))) [
  | inl t ↦ rw t refl
  | inr f ↦ rw f (place_listed ys k (omega arith))
]

-- no package is listed twice
abbrev pub Distinct : List (List ℕ) → Type 0
Distinct ys = (a b : ℕ) → a < length ys → b < length ys → get_or ys a [] ≡ get_or ys b [] → a ≡ b

-- one more package at the end
pub getD_end : (ys : List (List ℕ)) (x : List ℕ) → get_or (ys ++ x ∷ []) (length ys) [] ≡ x
getD_end ys x = get_or_at ys x [] [] (length ys) refl

pub get_d_front : (ys : List (List ℕ)) (x : List ℕ) (k : ℕ) → k < length ys → get_or (ys ++ x ∷ []) k [] ≡ get_or ys k []
get_d_front ys x k h = get_or_append_left ys (x ∷ []) [] k h

-- a package that is not listed is at no place
pub not_placed : (ys : List (List ℕ)) (x : List ℕ) → listed ys x ≡ false → (k : ℕ) → k < length ys → get_or ys k [] ≢ x
not_placed ys x new k h e = both_ways _ new (subst (λ y. listed ys y ≡ true) e (place_listed ys k h))

distinct_more : (ys : List (List ℕ)) (x : List ℕ) → listed ys x ≡ false → Distinct ys → Distinct (ys ++ x ∷ [])
distinct_more ys x new apart a b ha hb e =
    let long : length (ys ++ x ∷ []) ≡ length ys + 1 = length-append ys (x ∷ []) in
    elim (cases_lt a (length ys)) [
      | inl la ↦ elim (cases_lt b (length ys)) [
        | inl lb ↦ apart a b la lb (sym (get_d_front ys x a la) ∙ e ∙ get_d_front ys x b lb)
        | inr gb ↦ let is : b ≡ length ys = omega arith in
            absurd (not_placed ys x new a la (sym (get_d_front ys x a la) ∙ e ∙ ap (λ k. get_or (ys ++ x ∷ []) k []) is ∙ getD_end ys x))
      ]
      | inr ga ↦ elim (cases_lt b (length ys)) [
        | inl lb ↦ let is : a ≡ length ys = omega arith in
            absurd (not_placed ys x new b lb (sym (get_d_front ys x b lb) ∙ sym e ∙ ap (λ k. get_or (ys ++ x ∷ []) k []) is ∙ getD_end ys x))
        | inr gb ↦ omega arith
      ]
    ]

distinct_enrolled : (ys : List (List ℕ)) (b : Option (List ℕ)) → Distinct ys → Distinct (enrolled ys b)
distinct_enrolled ys None apart = apart
distinct_enrolled ys (Some x) apart = elim (cases_Bool (listed ys x)) [
  | inl t ↦ rw t apart
  | inr f ↦ rw f (distinct_more ys x f apart)
]

distinct_on : (ys : List (List ℕ)) (rounds : List Round) → Distinct ys → Distinct (roll_on ys rounds)
distinct_on ys [] apart = apart
distinct_on ys (r ∷ rounds) apart = distinct_on (enrolled ys r.bid) rounds (distinct_enrolled ys r.bid apart)

-- each package is on the roll once
pub roll_distinct : (rounds : List Round) → Distinct (roll rounds)
roll_distinct rounds = distinct_on [] rounds (λ a b ha hb e. absurd (omega arith))

-- what is listed stays listed
listed_more : (ys : List (List ℕ)) (z x : List ℕ) → listed ys x ≡ true → listed (ys ++ z ∷ []) x ≡ true
listed_more [] z x h = absurd (both_ways false refl h)
listed_more (y ∷ ys) z x h = elim (cases_Bool (same y x)) [
  | inl t ↦ rw t refl
  | inr f ↦ rw f (listed_more ys z x (rw f at h))
]

listed_enrolled : (ys : List (List ℕ)) (b : Option (List ℕ)) (x : List ℕ) → listed ys x ≡ true → listed (enrolled ys b) x ≡ true
listed_enrolled ys None x h = h
listed_enrolled ys (Some z) x h = elim (cases_Bool (listed ys z)) [
  | inl t ↦ rw t h
  | inr f ↦ rw f (listed_more ys z x h)
]

listed_on : (ys : List (List ℕ)) (rounds : List Round) (x : List ℕ) → listed ys x ≡ true → listed (roll_on ys rounds) x ≡ true
listed_on ys [] x h = h
listed_on ys (r ∷ rounds) x h = listed_on (enrolled ys r.bid) rounds x (listed_enrolled ys r.bid x h)

-- a bid is listed once it is enrolled
pub enrolled_bid : (ys : List (List ℕ)) (x : List ℕ) → listed (enrolled ys (Some x)) x ≡ true
enrolled_bid ys x = elim (cases_Bool (listed ys x)) [
  | inl t ↦ rw t t
  | inr f ↦ rw f (subst (λ y. listed (ys ++ x ∷ []) y ≡ true) (getD_end ys x) (place_listed (ys ++ x ∷ []) (length ys) (omega (arith, length-append ys (x ∷ [])))))
]

stood_on : (ys : List (List ℕ)) (rounds : List Round) (t : ℕ) (x : List ℕ) → Stood rounds t x → listed (roll_on ys rounds) x ≡ true
stood_on ys [] t x h = let z : ◌≡◌ {A = ℕ} 0 1 = cc in absurd (omega arith)
stood_on ys (r ∷ rounds) zero x h = listed_on (enrolled ys r.bid) rounds x (rw h (enrolled_bid ys x))
stood_on ys (r ∷ rounds) (suc t) x h = stood_on (enrolled ys r.bid) rounds t x h

-- a standing bid's package is on the roll
pub stood_on_roll : (rounds : List Round) (t : ℕ) (x : List ℕ) → Stood rounds t x → OnRoll rounds x
stood_on_roll rounds t x h = stood_on [] rounds t x h

roll_on_append : (ys : List (List ℕ)) (rounds more : List Round) → roll_on ys (rounds ++ more) ≡ roll_on (roll_on ys rounds) more
roll_on_append ys [] more = refl
roll_on_append ys (r ∷ rounds) more = roll_on_append (enrolled ys r.bid) rounds more

-- the roll with one more round
pub roll_round : (rounds : List Round) (r : Round) → roll (rounds ++ r ∷ []) ≡ enrolled (roll rounds) r.bid
roll_round rounds r = roll_on_append [] rounds (r ∷ [])

-- who is on a list with one more package
listed_last : (ys : List (List ℕ)) (z x : List ℕ) → listed (ys ++ z ∷ []) x ≡ true → (listed ys x ≡ true) ⊎ (z ≡ x)
listed_last [] z x h = elim (cases_Bool (same z x)) [
  | inl t ↦ inr (same_eq z x t)
  | inr f ↦ absurd (both_ways false refl (rw f at h))
]
listed_last (y ∷ ys) z x h = elim (cases_Bool (same y x)) [
  | inl t ↦ inl (rw t refl)
  | inr f ↦ elim (listed_last ys z x (rw f at h)) [
    | inl l ↦ inl (rw f l)
    | inr e ↦ inr e
  ]
]

enrolled_listed : (ys : List (List ℕ)) (b : Option (List ℕ)) (x : List ℕ) → listed (enrolled ys b) x ≡ true → (listed ys x ≡ true) ⊎ (b ≡ Some x)
enrolled_listed ys None x h = inl h
enrolled_listed ys (Some z) x h = elim (cases_Bool (listed ys z)) [
  | inl t ↦ inl (rw t at h)
  | inr f ↦ elim (listed_last ys z x (rw f at h)) [
    | inl l ↦ inl l
    | inr e ↦ inr (ap Some e)
  ]
]

roll_on_stood : (ys : List (List ℕ)) (rounds : List Round) (x : List ℕ) → listed (roll_on ys rounds) x ≡ true → (listed ys x ≡ true) ⊎ ((t : ℕ) × Stood rounds t x)
roll_on_stood ys [] x h = inl h
roll_on_stood ys (r ∷ rounds) x h = elim (roll_on_stood (enrolled ys r.bid) rounds x h) [
  | inl l ↦ elim (enrolled_listed ys r.bid x l) [
    | inl k ↦ inl k
    | inr e ↦ inr (zero, e)
  ]
  | inr s ↦ inr (suc s.0, s.1)
]

-- a package on the roll stood in some round
pub roll_stood : (rounds : List Round) (x : List ℕ) → listed (roll rounds) x ≡ true → (t : ℕ) × Stood rounds t x
roll_stood rounds x h = elim (roll_on_stood [] rounds x h) [
  | inl l ↦ absurd (both_ways false refl l)
  | inr s ↦ s
]
