-- A list of steps is a chain, and a chain is a list of steps.
use Rattle.std.proofs.Common.{◌≡◌, ℕ, ◌<◌, ◌≢◌, List, [], ◌∷◌, ◌++◌, refl, ap, ◌∙◌}
use Rattle.worth.specs.Group.{Group, Laws}
use Rattle.worth.proofs.Sums.{add_zero, add_assoc, zero_add}
use Rattle.worth.proofs.Totals.{total-++, total_one}
use Rattle.paths.specs.Graph.{Graph, Chain, stay, onward, AroundBelow}
use Rattle.paths.specs.Route.{Leads, value_of, sum_of, Route}
use Rattle.paths.specs.Theorems.{Lists}
use Rattle.paths.specs.declared.Step.{Step}
use Rattle.paths.proofs.Chains.{around_none}

module _ (G : Group) (L : Laws G) (N : Graph G) (Stood : ℕ → ℕ → Type 0) where
  open G use {Carrier, add as ◌⊕◌}
  open N use {count}

  infixl 65 ◌⊕◌
  -- steps after a chain
  lengthened : (z : ℕ) (ls : List Step) {x y : ℕ} {s : Carrier} → Chain G N Stood x y s → Leads G N Stood y ls z → Chain G N Stood x z (s ⊕ sum_of G N ls)
  lengthened z [] c h = rw (add_zero G L, ← h) c
  lengthened z (l ∷ ls) c h = rw (← add_assoc G L) (lengthened z ls (onward (rw h.0 c) h.1 h.2 h.3) h.4)

  pub chain_of : (x y : ℕ) (ls : List Step) → Leads G N Stood x ls y → Chain G N Stood x y (sum_of G N ls)
  chain_of x y ls h = rw zero_add at (lengthened y ls stay h)

  -- one step more at the end
  leads_more : (x y z t : ℕ) (ls : List Step) → Leads G N Stood x ls y → Stood t y → z < count → z ≢ y → Leads G N Stood x (ls ++ (record { from = y; to = z; round = t } ∷ [])) z
  leads_more x y z t [] h stood on other = (rw h refl, stood, on, other, refl)
  leads_more x y z t (l ∷ ls) h stood on other = (h.0, h.1, h.2, h.3, leads_more l.to y z t ls h.4 stood on other)

  pub steps_of : {x y : ℕ} {s : Carrier} → Chain G N Stood x y s → (ls : List Step) × Leads G N Stood x ls y × (sum_of G N ls ≡ s)
  steps_of stay = ([], refl, refl)
  steps_of {x = x} (onward {y = y} {z = z} {t = t} {s = s} c stood on other) =
      let before = steps_of c in
      let last : List Step = record { from = y; to = z; round = t } ∷ [] in (
        before.0 ++ last,
        leads_more x y z t before.0 before.1 stood on other,
        total-++ G L (value_of G N) before.0 last ∙ ap (λ u. u ⊕ sum_of G N last) before.2 ∙ ap (λ u. s ⊕ u) (total_one G L (value_of G N) _),
      )

  -- a route is a chain around below zero
  pub route_around : (x t : ℕ) (ls : List Step) → Route G N Stood x t ls → AroundBelow G N Stood x
  route_around x t ls r = (sum_of G N ls, chain_of x x ls r.leads, r.falls)

  pub lists : Lists G N Stood
  lists = record {
    chain_of = chain_of;
    steps_of = λ x y s c. steps_of c;
    refutes = λ x t ls r. around_none G L N Stood (route_around x t ls r);
  }
