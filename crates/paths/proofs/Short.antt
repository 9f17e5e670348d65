-- Where some worths explain, every chain can be cut until it names no package twice. So an inner worth is the sum of few steps.
use Rattle.std.proofs.Common.{◌≡◌, ℕ, suc, ◌+◌, ◌*◌, ◌<◌, ◌≤◌, Bool, true, false, cond, eqb, ◌≢◌, List, [], ◌∷◌, length, sym, refl, ap, ◌∙◌, inl, inr, mul-le-mul_left, mul-one, mul-suc, arith, eq-eqb, ne_eqb, eqb-true}
use Rattle.std.proofs.lemmas.Bool.{cases_Bool, both_ways}
use Rattle.worth.specs.Group.{Group, Laws}
use Rattle.worth.specs.Says.{AtMost}
use Rattle.worth.proofs.Sums.{plain, add_zero, add_assoc}
use Rattle.worth.proofs.Orders.{follows, add_le, le_refl, le_antisym}
use Rattle.paths.specs.Bids.{Within}
use Rattle.paths.specs.Graph.{Graph, Chain, stay, onward, Explains, AreInner}
use Rattle.paths.specs.Counts.{tally}
use Rattle.paths.proofs.Counts.{tally_less, tally_le, tally_none}
use Rattle.paths.proofs.Chains.{around_up, explains, starts}

-- whether w is in the list
abbrev mem : List ℕ → ℕ → Bool
mem [] w = false
mem (a ∷ ns) w = cond (eqb w a) true (mem ns w)

module _ (G : Group) (L : Laws G) (N : Graph G) (Stood : ℕ → ℕ → Type 0) where
  open G use {Carrier, zero, add as ◌⊕◌, size}
  open N use {count, step}

  infixl 65 ◌⊕◌
  -- a chain that names the packages ns, none twice
  data Simple : ℕ → ℕ → Carrier → List ℕ → Type 0 where
    alone : {x : ℕ} → Simple x x zero (x ∷ [])
    more : {x y z t : ℕ} {s : Carrier} {ns : List ℕ} → Simple x y s ns → Stood t y → z < count → z ≢ y → mem ns z ≡ false → Simple x z (s ⊕ step y z t) (z ∷ ns)

  simple_chain : {x y : ℕ} {s : Carrier} {ns : List ℕ} → Simple x y s ns → Chain G N Stood x y s
  simple_chain alone = stay
  simple_chain (more c stood on other new) = onward (simple_chain c) stood on other

  -- a chain in two parts, the first of them simple
  record Cut (x y z : ℕ) (s : Carrier) : Type 0 where
    nodes : List ℕ
    before : Carrier
    after : Carrier
    short : Simple x z before nodes
    rest : Chain G N Stood z y after
    whole : s ≡ before ⊕ after

  cut_end : {x y : ℕ} {s : Carrier} {ns : List ℕ} → Simple x y s ns → Cut x y y s
  cut_end {s = s} {ns = ns} c = record { nodes = ns; before = s; after = zero; short = c; rest = stay; whole = sym (add_zero G L s) }

  -- at a package z that it names
  cut : {x y : ℕ} {s : Carrier} {ns : List ℕ} (z : ℕ) → Simple x y s ns → mem ns z ≡ true → Cut x y z s
  cut {x = x} z alone m = elim (cases_Bool (eqb z x)) [
    | inl e ↦ rw (eqb-true z x e) (cut_end alone)
    | inr e ↦ absurd (both_ways (cond (eqb z x) true false) (ap (λ b. cond b true false) e) m)
  ]
  cut z (more {y = y} {z = v} {t = t} {ns = ns} c stood on other new) m = elim (cases_Bool (eqb z v)) [
    | inl e ↦ rw (eqb-true z v e) (cut_end (more c stood on other new))
    | inr e ↦
        let r = cut z c (sym (ap (λ b. cond b true (mem ns z)) e) ∙ m) in
        record {
          nodes = r.nodes;
          before = r.before;
          after = r.after ⊕ step y v t;
          short = r.short;
          rest = onward r.rest stood on other;
          whole = ap (λ u. u ⊕ step y v t) r.whole ∙ add_assoc G L _ _ _;
        }
  ]

  -- what is left without a loop is no more
  loop_out : (whole before after last s : Carrier) → whole ≡ before ⊕ after → AtMost G whole s → AtMost G zero (after ⊕ last) → AtMost G before (s ⊕ last)
  loop_out whole before after last s e h k = follows G L (add_le G L h k) (rw e (simp plain))

  module _ (w : ℕ → Carrier) (ex : Explains G N Stood w) where
    -- a simple chain with the same ends, and no greater sum
    record Shorter (x y : ℕ) (s : Carrier) : Type 0 where
      nodes : List ℕ
      sum : Carrier
      short : Simple x y sum nodes
      low : AtMost G sum s

    -- a step on; where it leads back to a package of the chain, the loop is cut out
    shorter_on : {x y : ℕ} {s : Carrier} (z t : ℕ) → Stood t y → z < count → z ≢ y → Shorter x y s → Shorter x z (s ⊕ step y z t)
    shorter_on {y = y} z t stood on other r = elim (cases_Bool (mem r.nodes z)) [
      | inl m ↦
          let k = cut z r.short m in
          let loop = around_up G L N Stood w ex (onward k.rest stood on other) in
          record { nodes = k.nodes; sum = k.before; short = k.short; low = loop_out _ _ _ _ _ k.whole r.low loop }
      | inr m ↦ record {
        nodes = z ∷ r.nodes;
        sum = r.sum ⊕ step y z t;
        short = more r.short stood on other m;
        low = add_le G L r.low (le_refl G L _);
      }
    ]

    shorten : {x y : ℕ} {s : Carrier} → Chain G N Stood x y s → Shorter x y s
    shorten {x = x} stay = record { nodes = x ∷ []; sum = zero; short = alone; low = le_refl G L zero }
    shorten (onward {z = z} {t = t} c stood on other) = shorter_on z t stood on other (shorten c)

  module _ (within : Within count Stood) (u : ℕ) (steps : (a b t : ℕ) → size (step a b t) ≤ u) where
    -- the packages that are named are counted below `count`
    named : {x y : ℕ} {s : Carrier} {ns : List ℕ} → x < count → Simple x y s ns → tally (mem ns) count ≡ length ns
    named {x = x} on alone =
        let less = tally_less (mem (x ∷ [])) (λ v. false) x count on (ap (λ b. cond b true false) (eq-eqb x x refl)) refl (λ w l ne. sym (ap (λ b. cond b true false) (ne_eqb w x ne))) in
        less ∙ ap (λ k. k + 1) (tally_none count)
    named on (more {z = z} {ns = ns} c stood z_on other new) =
        let rest = named on c in
        let here : mem (z ∷ ns) z ≡ true = ap (λ b. cond b true (mem ns z)) (eq-eqb z z refl) in
        let less = tally_less (mem (z ∷ ns)) (mem ns) z count z_on here new (λ w l ne. sym (ap (λ b. cond b true (mem ns w)) (ne_eqb w z ne))) in
        omega arith

    sized : {x y : ℕ} {s : Carrier} {ns : List ℕ} → Simple x y s ns → size s + u ≤ u * length ns
    sized alone = let one = mul-one u in rw L.size_zero (omega arith)
    sized (more {y = y} {z = z} {t = t} {s = s} {ns = ns} c stood on other new) =
        let rest = sized c in
        let sum = L.size_add s (step y z t) in
        let last = steps y z t in
        let all : u * suc (length ns) ≡ u * length ns + u = mul-suc u (length ns) in
        omega arith

    -- an inner worth is at most as large as a step for every package but one
    pub inner_small : (d : ℕ → Carrier) → AreInner G N Stood d → (y : ℕ) → y < count → size (d y) + u ≤ u * count
    inner_small d inner y on =
        let i = inner y on in
        let r = shorten d (explains G L N Stood within d inner) i.has.1 in
        let same : d y ≡ r.sum = le_antisym G L (d y) r.sum (i.least _ (_, simple_chain r.short)) r.low in
        let few = tally_le (mem r.nodes) count in
        let all = named (starts G L N Stood within i.has.1 on) r.short in
        let size_sum = sized r.short in
        let most : u * length r.nodes ≤ u * count = mul-le-mul_left u (omega arith) in
        rw same (omega arith)
