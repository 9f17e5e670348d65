-- Chains, worths and inner worths are the same, whether packages go by their rows or by their places on the roll.
use Rattle.std.proofs.Common.{◌≡◌, ℕ, zero, suc, ◌<◌, true, false, cond, ltb, ◌≢◌, List, [], ◌∷◌, length, get_or, Some, None, Option, sym, refl, ap, ◌∙◌, subst, inl, inr, arith, ltb-true, lt-ltb}
use Rattle.std.proofs.lemmas.Bool.{both_ways, cases_Bool}
use Rattle.chains.proofs.Rolls.{listed_place, place_listed, roll_distinct, same_eq, same_refl, stood_on_roll}
use Rattle.chains.specs.Chains.{step, Chain, stay, onward, Explains, Explained, Inner}
use Rattle.chains.specs.Places.{package_at, bids_for, bids_of, graph_of}
use Rattle.chains.specs.Rounds.{Round, round, Stood, listed, roll, same, OnRoll}
use Rattle.paths.specs.Bids.{StoodIn, Within}
use Rattle.paths.specs.Graph as by_place
use Rattle.worth.specs.Group.{Group}
use Rattle.worth.specs.Says.{AtMost}

-- past the last round nothing stood
pub stood_before : (rounds : List Round) (t : ℕ) (x : List ℕ) → Stood rounds t x → t < length rounds
stood_before [] t x h = let z : ◌≡◌ {A = ℕ} 0 1 = cc in absurd (omega arith)
stood_before (r ∷ rounds) zero x h = omega arith
stood_before (r ∷ rounds) (suc t) x h = let k = stood_before rounds t x h in omega arith

bids_for_eq : (b : Option (List ℕ)) (y : List ℕ) → bids_for b y ≡ true → b ≡ Some y
bids_for_eq None y h = absurd (both_ways false refl h)
bids_for_eq (Some x) y h = ap Some (same_eq x y h)

-- the first place at which a package is listed
abbrev pub place_in : List (List ℕ) → List ℕ → ℕ
place_in [] y = 0
place_in (x ∷ xs) y = cond (same x y) 0 (suc (place_in xs y))

place_found : (ys : List (List ℕ)) (y : List ℕ) → listed ys y ≡ true → (place_in ys y < length ys) × (get_or ys (place_in ys y) [] ≡ y)
place_found [] y h = absurd (both_ways false refl h)
place_found (x ∷ xs) y h = elim (cases_Bool (same x y)) [
  | inl t ↦ rw t (omega arith, same_eq x y t)
  | inr f ↦ let more = place_found xs y (rw f at h) in rw f (omega (arith, more.0), more.1)
]

module _ (rounds : List Round) where
  abbrev count : ℕ
  count = length (roll rounds)

  abbrev at : ℕ → List ℕ
  at a = package_at rounds a

  -- a place stood where its package did
  pub place_stood : (t a : ℕ) → a < count → Stood rounds t (at a) → StoodIn (bids_of rounds) t a
  place_stood t a h s = (stood_before rounds t (at a) s, rw (lt-ltb a count h, s) (same_refl (at a)))

  pub package_stood : (t a : ℕ) → StoodIn (bids_of rounds) t a → (a < count) × Stood rounds t (at a)
  package_stood t a h = elim (cases_Bool (ltb a count)) [
    | inl l ↦ (ltb-true a count l, bids_for_eq (round rounds t).bid (at a) (rw l at h.1))
    | inr g ↦ absurd (both_ways false refl (rw g at h.1))
  ]

  pub within : Within count (StoodIn (bids_of rounds))
  within t a h = (package_stood t a h).0

  -- a package that is on the roll has a place
  pub placed : (y : List ℕ) → OnRoll rounds y → (a : ℕ) × (a < count) × (at a ≡ y)
  placed y h = listed_place (roll rounds) y h

  pub on_roll : (a : ℕ) → a < count → OnRoll rounds (at a)
  on_roll a h = place_listed (roll rounds) a h

  pub place_at : (a : ℕ) → a < count → place_in (roll rounds) (at a) ≡ a
  place_at a h =
      let found = place_found (roll rounds) (at a) (on_roll a h) in
      roll_distinct rounds _ a found.0 h found.1

  module _ (G : Group) where
    -- a chain of places is a chain of packages
    pub by_rows : {a b : ℕ} {s : G.Carrier} → by_place.Chain G (graph_of G rounds) (StoodIn (bids_of rounds)) a b s → Chain G rounds (at a) (at b) s
    by_rows by_place.stay = stay
    by_rows (by_place.onward {y = y} {z = z} {t = t} c h on other) =
        onward t (by_rows c) (package_stood t y h).1 (on_roll z on) (λ e. other (roll_distinct rounds z y on (within t y h) e))

    -- a chain of packages that ends on the roll is a chain of places
    pub by_places : {x y : List ℕ} {s : G.Carrier} → Chain G rounds x y s → (b : ℕ) → b < count → at b ≡ y
        → (a : ℕ) × by_place.Chain G (graph_of G rounds) (StoodIn (bids_of rounds)) a b s × (at a ≡ x)
    by_places stay b h e = (b, by_place.stay, e)
    by_places (onward {y = y} {z = z} {s = s} t c h on other) b l e =
        let p = placed y (stood_on_roll rounds t y h) in
        let a = p.0 in
        let before = by_places c a p.1 p.2 in
        let same_step : step G rounds (at a) (at b) t ≡ step G rounds y z t = ap (λ v. step G rounds v (at b) t) p.2 ∙ ap (λ v. step G rounds y v t) e in
        let there = subst (λ v. Stood rounds t v) (sym p.2) h in (
          before.0,
          subst (λ v. by_place.Chain G (graph_of G rounds) (StoodIn (bids_of rounds)) before.0 b (G.add s v)) same_step
              (by_place.onward before.1 (place_stood t a p.1 there) l (λ q. other (sym e ∙ ap at q ∙ p.2))),
          before.2,
        )

    -- worths by package make worths by place
    pub worths_by_place : (w : List ℕ → G.Carrier) → Explains G rounds w → by_place.Explains G (graph_of G rounds) (StoodIn (bids_of rounds)) (λ a. w (at a))
    worths_by_place w e t a b h l other =
        let p = package_stood t a h in
        e t (at a) (at b) p.1 (on_roll b l) (λ q. other (roll_distinct rounds b a l p.0 q))

    -- worths by place make worths by package
    pub worths_by_row : (w : ℕ → G.Carrier) → by_place.Explains G (graph_of G rounds) (StoodIn (bids_of rounds)) w → Explains G rounds (λ x. w (place_in (roll rounds) x))
    worths_by_row w e t x y h on other =
        let p = placed x (stood_on_roll rounds t x h) in
        let q = placed y on in
        let there = place_stood t p.0 p.1 (subst (λ v. Stood rounds t v) (sym p.2) h) in
        let apart : q.0 ≢ p.0 = λ k. other (sym q.2 ∙ ap at k ∙ p.2) in
        let x_at : p.0 ≡ place_in (roll rounds) x = sym (place_at p.0 p.1) ∙ ap (place_in (roll rounds)) p.2 in
        let y_at : q.0 ≡ place_in (roll rounds) y = sym (place_at q.0 q.1) ∙ ap (place_in (roll rounds)) q.2 in
        let steps : step G rounds (at p.0) (at q.0) t ≡ step G rounds x y t = ap (λ v. step G rounds v (at q.0) t) p.2 ∙ ap (λ v. step G rounds x v t) q.2 in
        subst (λ v. AtMost G (w (place_in (roll rounds) y)) (G.add (w (place_in (roll rounds) x)) v)) steps
        (subst (λ k. AtMost G (w (place_in (roll rounds) y)) (G.add (w k) (step G rounds (at p.0) (at q.0) t))) x_at
        (subst (λ k. AtMost G (w k) (G.add (w p.0) (step G rounds (at p.0) (at q.0) t))) y_at
        (e t p.0 q.0 there q.1 apart)))

    -- some worths explain by place just where some do by package
    pub explained_by_place : Explained G rounds → by_place.Explained G (graph_of G rounds) (StoodIn (bids_of rounds))
    explained_by_place h = ((λ a. h.0 (at a)), worths_by_place h.0 h.1)

    pub explained_by_row : by_place.Explained G (graph_of G rounds) (StoodIn (bids_of rounds)) → Explained G rounds
    explained_by_row h = ((λ x. h.0 (place_in (roll rounds) x)), worths_by_row h.0 h.1)

    -- an inner worth by place is one by package, and the other way round
    pub inner_by_row : (a : ℕ) (g : G.Carrier) → a < count → by_place.IsInner G (graph_of G rounds) (StoodIn (bids_of rounds)) a g → Inner G rounds (at a) g
    inner_by_row a g l h = record {
      has = (at h.has.0, by_rows h.has.1);
      least = λ s c. h.least s (let b = by_places c.1 a l refl in (b.0, b.1));
    }

    pub inner_by_place : (a : ℕ) (g : G.Carrier) → a < count → Inner G rounds (at a) g → by_place.IsInner G (graph_of G rounds) (StoodIn (bids_of rounds)) a g
    inner_by_place a g l h = record {
      has = let b = by_places h.has.1 a l refl in (b.0, b.1);
      least = λ s c. h.least s (at c.0, by_rows c.1);
    }
