-- Inner worths that stay known: when a round is added, when a bid is taken back, when values are copied.
use Rattle.std.proofs.Common.{◌≡◌, ℕ, suc, ◌-◌, ◌*◌, ◌^◌, ◌<◌, ◌≤◌, List, [], ◌∷◌, ◌++◌, length, get_or, Some, None, Option, sym, refl, ap, ◌∙◌, subst, arith}
use Rattle.chains.proofs.SameBids.{inner_there, opened_prices, opened_roll, opened_stood, stood_opened}
use Rattle.chains.specs.Chains.{Inner}
use Rattle.chains.specs.Places.{package_at}
use Rattle.chains.specs.Rounds.{Round, round, roll, offered}
use Rattle.tables.proofs.Changes.{offered_latest, unbid_latest}
use Rattle.tables.specs.Changes.{opened, unbid}
use Rattle.tables.specs.Known.{Known, worths}
use Rattle.worth.specs.Group.{Group}

module _ (G : Group) {X : Type 0} (m : X → G.Carrier) where
  pub known_opened : (R : List Round) (prices : List ℕ) (values : List X) → Known G m R values → Known G m (opened R prices) values
  known_opened R prices values k =
      let same = opened_roll prices R in
      record {
        inner = λ y on.
            let there = inner_there G R (opened R prices) same (opened_stood prices R) (stood_opened prices R) (opened_prices prices R) in
            subst (λ ys. Inner G (opened R prices) (get_or ys y []) (worths G m values y)) (sym same) (there (package_at R y) (worths G m values y) (k.inner y (omega (arith, ap length same))));
        small = λ y on. k.small y (omega (arith, ap length same));
        many = let l = k.many in omega (arith, ap length same);
      }

  -- other values that mean the same
  pub known_copied : (R : List Round) (values copies : List X) → ((y : ℕ) → y < length (roll R) → worths G m copies y ≡ worths G m values y) → length (roll R) ≤ length copies → Known G m R values → Known G m R copies
  known_copied R values copies same long k = record {
    inner = λ y on. subst (λ v. Inner G R (package_at R y) v) (sym (same y on)) (k.inner y on);
    small = λ y on. subst (λ v. G.size v ≤ 2 ^ 45 * 128) (sym (same y on)) (k.small y on);
    many = long;
  }

  -- no round, no package
  pub known_none : (values : List X) → Known G m [] values
  known_none values = record { inner = λ y on. absurd (omega arith); small = λ y on. absurd (omega arith); many = omega arith }

-- rounds, up to the latest one
pub latest_apart : (R : List Round) → 0 < length R → (before : List Round) × (R ≡ before ++ round R (length R - 1) ∷ [])
latest_apart [] h = absurd (omega arith)
latest_apart (r ∷ []) h = ([], refl)
latest_apart (r ∷ (s ∷ R)) h =
    let more = latest_apart (s ∷ R) (omega arith) in
    let k : length (r ∷ (s ∷ R)) - 1 ≡ suc (length (s ∷ R) - 1) = omega arith in
    (r ∷ more.0, ap (λ rs. r ∷ rs) more.1 ∙ ap (λ q. r ∷ (more.0 ++ q ∷ [])) (sym (ap (round (r ∷ (s ∷ R))) k)))

bid_set : (r : Round) (b : Option (List ℕ)) → r.bid ≡ b → record { prices = r.prices; bid = b } ≡ r
bid_set r b h = ap (λ c. record { prices = r.prices; bid = c }) (sym h)

-- a bid that is offered and taken back
pub offered_taken : (R : List Round) (row : List ℕ) → 0 < length R → (round R (length R - 1)).bid ≡ None → unbid (offered R row) ≡ R
offered_taken R row h free =
    let p = latest_apart R h in
    let r = round R (length R - 1) in
    ap (λ rs. unbid (offered rs row)) p.1 ∙ ap unbid (offered_latest p.0 r row) ∙ unbid_latest p.0 _ ∙ ap (λ q. p.0 ++ q ∷ []) (bid_set r None free) ∙ sym p.1

-- and one that is taken back and offered again
pub taken_offered : (R : List Round) (row : List ℕ) → (round R (length R - 1)).bid ≡ Some row → offered (unbid R) row ≡ R
taken_offered [] row bid = refl
taken_offered (q ∷ R) row bid =
    let p = latest_apart (q ∷ R) (omega arith) in
    let r = round (q ∷ R) (length (q ∷ R) - 1) in
    ap (λ rs. offered (unbid rs) row) p.1 ∙ ap (λ rs. offered rs row) (unbid_latest p.0 r) ∙ offered_latest p.0 _ row ∙ ap (λ u. p.0 ++ u ∷ []) (bid_set r (Some row) bid) ∙ sym p.1
