-- The rise and the sheet, from the inner worths.
use Rattle.std.proofs.Common.{◌≡◌, ℕ, ◌+◌, ◌*◌, ◌^◌, ◌<◌, ◌≤◌, List, map, length, get_or, take, Some, None, Option, sym, ap, ◌∙◌, subst, inl, inr, arith}
use Rattle.std.proofs.lemmas.List.{get_or-map, get_or-take, length-map, length-take-le, nil_from_length}
use Rattle.std.proofs.lemmas.Bool.{cases_Bool, cases_eq, cases_lt}
use Rattle.chains.proofs.Places.{stood_before}
use Rattle.chains.proofs.Rolls.{place_listed, roll_stood}
use Rattle.chains.specs.Chains.{EndsAt, Inner}
use Rattle.chains.specs.Places.{package_at}
use Rattle.chains.specs.Rounds.{Round, Stood, roll}
use Rattle.chains.specs.Sheet.{paid, Sheet}
use Rattle.std.proofs.lemmas.Option.{same_Some}
use Rattle.tables.specs.Known.{worths, Known, larger_of, Lead, LeadAt, GreatestLead, RiseIs}
use Rattle.worth.proofs.Leasts.{least_unique}
use Rattle.worth.proofs.Orders.{le_of_eq, le_trans, lt_to_le}
use Rattle.worth.specs.Group.{Group, Laws}
use Rattle.worth.specs.Least.{Greatest}
use Rattle.worth.specs.Says.{AtMost, ExactDifference, ExactSum}

module _ (G : Group) (L : Laws G) {X : Type 0} (m : X → G.Carrier) (rounds : List Round) where
  open G use {Carrier, zero, add as ◌⊕◌, neg as ⊖◌, less, size}

  infixl 65 ◌⊕◌
  infix 70 ⊖◌
  -- a round has one lead
  lead_unique : (t : ℕ) (v w : Carrier) → Lead G m rounds t v → Lead G m rounds t w → v ≡ w
  lead_unique t v w a b =
      let one : a.0 ≡ b.0 = same_Some a.0 b.0 (sym a.2 ∙ b.2) in
      let there = subst (λ x. Inner G rounds x a.1) one a.3 in
      let inner : a.1 ≡ b.1 = least_unique G L (EndsAt G rounds b.0) a.1 b.1 there b.3 in
      a.4 ∙ ap (λ x. paid G rounds t x ⊕ ⊖ a.1) one ∙ ap (λ g. paid G rounds t b.0 ⊕ ⊖ g) inner ∙ sym b.4

  -- the lead of a round, from its bid's cost and inner worth
  pub lead_here : (values : List X) → Known G m rounds values → (t a : ℕ) → a < length (roll rounds) → Stood rounds t (package_at rounds a)
      → (cost inner r : X) → m cost ≡ paid G rounds t (package_at rounds a) → size (m cost) ≤ 2 ^ 44 → worths G m values a ≡ m inner
      → ExactDifference G m cost inner r → LeadAt G m rounds t (Some r)
  lead_here values known t a on stood cost inner r is-cost few read exact =
      let small = known.small a on in
      let same_size = ap size read in
      let less_inner : m r ≡ m cost ⊕ ⊖ m inner = exact (omega arith) in
      let sum = L.size_add (m cost) (⊖ m inner) in
      let opposite = L.size_neg (m inner) in
      let sized = ap size less_inner in (
        (package_at rounds a, worths G m values a, stood, known.inner a on, less_inner ∙ ap (λ c. c ⊕ ⊖ m inner) is-cost ∙ ap (λ g. paid G rounds t (package_at rounds a) ⊕ ⊖ g) (sym read)),
        omega arith,
      )

  -- a lead of the first n + 1 rounds is one of the first n, or that of round n
  module _ (n : ℕ) where
    abbrev SoFar : Carrier → Type 0
    SoFar v = (t : ℕ) × (t < n) × Lead G m rounds t v

    abbrev OneMore : Carrier → Type 0
    OneMore v = (t : ℕ) × (t < n + 1) × Lead G m rounds t v

    one_more : (r : Carrier) → OneMore r → ((v : Carrier) → SoFar v → AtMost G v r) → ((v : Carrier) → Lead G m rounds n v → AtMost G v r) → Greatest G OneMore r
    one_more r has before here = record {
      has = has;
      greatest = λ v h. elim (cases_eq h.0 n) [
        | inl e ↦ here v (subst (λ t. Lead G m rounds t v) e h.2)
        | inr ne ↦ before v (h.0, (let l = h.1 in omega arith), h.2)
      ];
    }

    later : (v : Carrier) → SoFar v → OneMore v
    later v h = (h.0, (let l = h.1 in omega arith), h.2)

    pub lead_more : (o p : Option X) → GreatestLead G m rounds n o → LeadAt G m rounds n p → GreatestLead G m rounds (n + 1) (larger_of G m o p)
    lead_more None None none out = λ t l x s. elim (cases_eq t n) [
      | inl e ↦ out x (subst (λ k. Stood rounds k x) e s)
      | inr ne ↦ none t (omega arith) x s
    ]
    lead_more None (Some r) none lead = (
      one_more (m r) (n, omega arith, lead.0) (λ v h. absurd (none h.0 h.1 h.2.0 h.2.2)) (λ v h. le_of_eq G L (lead_unique n v (m r) h lead.0)),
      lead.1,
    )
    lead_more (Some r) None most out = (
      one_more (m r) (later (m r) most.0.has) most.0.greatest (λ v h. absurd (out h.0 h.2)),
      most.1,
    )
    lead_more (Some r) (Some q) most lead = elim (cases_Bool (less (m r) (m q))) [
      | inl up ↦ rw up (
        one_more (m q) (n, omega arith, lead.0) (λ v h. le_trans G L v (m r) (m q) (most.0.greatest v h) (lt_to_le G L (m r) (m q) up))
            (λ v h. le_of_eq G L (lead_unique n v (m q) h lead.0)),
        lead.1,
      )
      | inr stays ↦ rw stays (
        one_more (m r) (later (m r) most.0.has) most.0.greatest (λ v h. subst (λ w. AtMost G w (m r)) (lead_unique n (m q) v lead.0 h) stays),
        most.1,
      )
    ]

  -- the greatest lead of all rounds is the rise
  pub rise_from_lead : (n : ℕ) (o : Option X) → length rounds ≤ n → GreatestLead G m rounds n o → RiseIs G m rounds o
  rise_from_lead n (Some r) long most = (
    record {
      has = let h = most.0.has in let lead = h.2 in (h.0, lead.0, lead.1, lead.2, lead.3, lead.4);
      greatest = λ v h. most.0.greatest v (h.0, (let l = stood_before rounds h.0 h.1 h.3 in omega arith), (h.1, h.2, h.3, h.4, h.5));
    },
    most.1,
  )
  rise_from_lead n None long none = elim (cases_lt 0 (length (roll rounds))) [
    | inl l ↦
        let s = roll_stood rounds _ (place_listed (roll rounds) 0 l) in
        absurd (none s.0 (let k = stood_before rounds s.0 _ s.1 in omega arith) _ s.1)
    | inr l ↦ nil_from_length (roll rounds) (omega arith)
  ]

  -- inner worths with the rise added make the sheet
  module _ (values sheet : List X) (r : X) (count : ℕ) (known : Known G m rounds values) (rise : RiseIs G m rounds (Some r)) (is : count ≡ length (roll rounds))
      (room : count ≤ length sheet) (sums : (k : ℕ) (d : X) → k < count → ExactSum G m (get_or values k d) r (get_or sheet k d)) where
    read : (y : ℕ) → y < count → worths G m values y ≡ m (get_or values y r)
    read y h = get_or-map m values y r zero (omega (arith, known.many))

    small_parts : (y : ℕ) → y < count → (size (m (get_or values y r)) ≤ 2 ^ 45 * 128) × (size (m r) ≤ 2 ^ 45 * 129)
    small_parts y h = let few = known.small y (omega arith) in (omega (arith, ap size (read y h)), rise.1)

    sum_is : (y : ℕ) → y < count → m (get_or sheet y r) ≡ worths G m values y ⊕ m r
    sum_is y h =
        let parts = small_parts y h in
        sums y r h (omega (arith, parts.0, parts.1)) ∙ ap (λ g. g ⊕ m r) (sym (read y h))

    pub sheet_from_sums : Sheet G rounds (map m (take count sheet))
    sheet_from_sums =
        let front = length-take-le count sheet room in
        let long : length (map m (take count sheet)) ≡ count = length-map (take count sheet) m ∙ front in
        record {
          long = long ∙ is;
          worths = λ y h.
              let l : y < count = omega arith in
              (worths G m values y, m r, known.inner y (omega arith), rise.0, get_or-map m (take count sheet) y r zero (omega arith) ∙ ap m (get_or-take count sheet y r l) ∙ sum_is y l);
        }

    -- its worths are small
    pub sheet_small : (y : ℕ) → y < count → size (worths G m sheet y) ≤ 2 ^ 45 * 257
    sheet_small y h =
        let parts = small_parts y h in
        let is_sum = ap size (get_or-map m sheet y r zero (omega arith) ∙ sum_is y h) in
        let inner = ap size (read y h) in
        omega (arith, L.size_add (worths G m values y) (m r), parts.0, parts.1)

-- values with the same added, written one after the other
module _ (G : Group) {X : Type 0} (m : X → G.Carrier) where
  abbrev pub Sums : List X → X → List X → ℕ → Type 0
  Sums values more out n = (j : ℕ) (d : X) → j < n → ExactSum G m (get_or values j d) more (get_or out j d)
