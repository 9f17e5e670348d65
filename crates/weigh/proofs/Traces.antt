-- Steps written one after the other, from the last to the first.
use Rattle.std.proofs.Common.{◌≡◌, ℕ, ◌+◌, ◌<◌, List, [], ◌∷◌, reverse, length, take, set, ap, ◌∙◌, inl, inr, arith}
use Rattle.std.proofs.lemmas.List.{reverse-append, take_more_set}
use Rattle.chains.specs.Places.{graph_of, Earlier}
use Rattle.chains.specs.Rounds.{Round}
use Rattle.paths.specs.Searching.{State}
use Rattle.paths.specs.Tracing.{Traced}
use Rattle.paths.specs.declared.Step.{Step}
use Rattle.weigh.specs.Traces.{Few}
use Rattle.worth.specs.Group.{Group}

module _ {X : Type 0} where
  -- one more element
  pub written : (xs : List X) (n : ℕ) (v : X) → n < length xs → reverse (take (n + 1) (set xs n v)) ≡ v ∷ reverse (take n xs)
  written xs n v h = ap reverse (take_more_set xs n v h) ∙ reverse-append (take n xs) (v ∷ [])

  pub next_same : {x y : X} {xs ys : List X} → x ≡ y → xs ≡ ys → x ∷ xs ≡ y ∷ ys
  next_same e f = cc

-- the round of a step that is traced is one of few
module _ (G : Group) (R : List Round) (x t : ℕ) (few : Few R) (present : t < length R) (st : State G) (last round y : ℕ) where
  pub traced_round : (l : Step) (ls : List Step) → Traced G (graph_of G R) (Earlier R) x t st last round y (l ∷ ls) → l.round < 128
  traced_round l ls r =
      let all = few.rounds in
      elim r.leads.1 [ inl old ↦ let early = old.0 in omega arith | inr new ↦ let is = new.0 in omega arith ]
