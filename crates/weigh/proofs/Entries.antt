-- The worth with which a new package comes in, one round after the other.
use Rattle.std.proofs.Common.{◌≡◌, ℕ, ◌+◌, ◌<◌, false, cond, List, length, Some, None, sym, ap, ◌∙◌, subst, inl, inr, arith}
use native.Mathlib.Decide.{ℕ_discrete}
use Rattle.std.proofs.lemmas.Bool.{cases_Bool}
use Rattle.chains.specs.Places.{graph_of, Earlier}
use Rattle.chains.specs.Rounds.{Round}
use Rattle.paths.proofs.Enter.{entry_kept, entry_lowered, entry_none, entry_same}
use Rattle.paths.specs.Bids.{New}
use Rattle.paths.specs.Entry.{Entry}
use Rattle.tables.specs.Readings.{BidAt}
use Rattle.weigh.proofs.Bids.{bid_earlier, bid_none, bid_other}
use Rattle.worth.proofs.Orders.{lt_to_le}
use Rattle.worth.specs.Group.{Group, Laws}
use Rattle.worth.specs.Says.{less_of, smaller_of}

-- the bids before round k, and before the latest one
abbrev pub Upto : List Round → ℕ → ℕ → ℕ → Type 0
Upto R k s a = (s < k) × Earlier R s a

module _ (G : Group) (L : Laws G) (R : List Round) (d : ℕ → G.Carrier) (x : ℕ) where
  abbrev EntryUpto : ℕ → G.Carrier → Type 0
  EntryUpto k g = Entry G (graph_of G R) (Upto R k) d x g

  pub entry_start : EntryUpto 0 G.zero
  entry_start = entry_none G L (graph_of G R) d x (Upto R 0) (λ s a old. let l = old.0 in omega arith)

  -- a round with no bid
  pub entry_over : (k : ℕ) (g : G.Carrier) → BidAt R k None → EntryUpto k g → EntryUpto (k + 1) g
  entry_over k g none entry = entry_same G L (graph_of G R) d x (Upto R k) (Upto R (k + 1)) (λ s a old. let l = old.0 in (omega arith, old.1))
      (λ s a old. let l = old.0 in elim (ℕ_discrete s k) [
        | yes e ↦ absurd (bid_none R k a none (subst (λ t. Earlier R t a) e old.1))
        | no e ↦ (omega arith, old.1)
      ]) g entry

  -- a round with a bid, for place b
  module _ (k b : ℕ) (early : k + 1 < length R) (bid : BidAt R k (Some b)) where
    more : (g : G.Carrier) → Entry G (graph_of G R) (New (Upto R k) b k) d x g → EntryUpto (k + 1) g
    more = entry_same G L (graph_of G R) d x (New (Upto R k) b k) (Upto R (k + 1))
        (λ s a new. elim new [
          | inl old ↦ let l = old.0 in (omega arith, old.1)
          | inr here ↦ rw (here.0, here.1) (omega arith, bid_earlier R k b early bid)
        ])
        (λ s a old. let l = old.0 in elim (ℕ_discrete s k) [
          | yes e ↦ elim (ℕ_discrete b a) [
            | yes f ↦ inr (e, sym f)
            | no f ↦ absurd (bid_other R k b a f bid (subst (λ t. Earlier R t a) e old.1))
          ]
          | no e ↦ inl (omega arith, old.1)
        ])

    pub entry_bid : {X : Type 0} (m : X → G.Carrier) (least worth r : X) → m worth ≡ G.add (d b) ((graph_of G R).step b x k) → r ≡ smaller_of G m least worth → EntryUpto k (m least) → EntryUpto (k + 1) (m r)
    entry_bid m least worth r is smaller entry = elim (cases_Bool (less_of G m worth least)) [
      | inl below ↦
          let taken : r ≡ worth = smaller ∙ ap (λ c. cond c worth least) below in
          subst (λ g. EntryUpto (k + 1) g) (sym (ap m taken ∙ is))
          (more _ (entry_lowered G L (graph_of G R) d x (Upto R k) (m least) entry b k (subst (λ g. G.less (m least) g ≡ false) is (lt_to_le G L (m worth) (m least) below))))
      | inr above ↦
          let taken : r ≡ least = smaller ∙ ap (λ c. cond c worth least) above in
          subst (λ g. EntryUpto (k + 1) g) (sym (ap m taken))
          (more _ (entry_kept G L (graph_of G R) d x (Upto R k) (m least) entry b k (subst (λ g. G.less g (m least) ≡ false) is above)))
    ]

  -- all rounds but the latest
  pub entry_all : (k : ℕ) (g : G.Carrier) → k + 1 ≡ length R → EntryUpto k g → Entry G (graph_of G R) (Earlier R) d x g
  entry_all k g e entry = entry_same G L (graph_of G R) d x (Upto R k) (Earlier R) (λ s a old. old.1) (λ s a old. let l = old.0 in (omega arith, old)) g entry
