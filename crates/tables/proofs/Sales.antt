-- The rounds of a table are those of a sale: rows of the right length, whose entries fit.
use Rattle.std.proofs.Common.{◌≡◌, ℕ, suc, ◌^◌, ◌<◌, ◌≤◌, true, ◌&&◌, eqb, ltb, List, [], ◌∷◌, length, get_or, IfSome, Some, None, Option, refl, arith, ltb-true, lt-ltb, eq-eqb}
use Rattle.std.proofs.lemmas.Bool.{and_from, and_parts, eqb-true}
use Rattle.std.specs.List.{AllByRecursion}
use Rattle.chains.specs.Rounds.{Round, Package, Sale, offered}
use Rattle.tables.specs.Changes.{opened, unbid}
use Rattle.tables.specs.Tables.{each_below, row_fits, bid_fits, rounds_fit}

-- a row whose entries are below a bound, place by place
each_by_place : (bound : ℕ) (row : List ℕ) → ((i : ℕ) → get_or row i 0 < bound) → each_below bound row ≡ true
each_by_place bound [] each = refl
each_by_place bound (x ∷ row) each = and_from (ltb x bound) _ (lt-ltb x bound (each 0)) (each_by_place bound row (λ i. each (suc i)))

pub row_fitting : (n bound : ℕ) (row : List ℕ) → length row ≡ n → ((i : ℕ) → get_or row i 0 < bound) → row_fits n bound row ≡ true
row_fitting n bound row long each = and_from (eqb (length row) n) _ (eq-eqb (length row) n long) (each_by_place bound row each)

module _ (n : ℕ) where
  pub opened_fit : (rounds : List Round) (prices : List ℕ) → row_fits n (2 ^ 32) prices ≡ true → rounds_fit n rounds ≡ true → rounds_fit n (opened rounds prices) ≡ true
  opened_fit [] prices fit h = and_from _ true (and_from (row_fits n (2 ^ 32) prices) true fit refl) refl
  opened_fit (r ∷ rounds) prices fit h = let both = and_parts _ (rounds_fit n rounds) h in and_from _ _ both.0 (opened_fit rounds prices fit both.1)

  pub offered_fit : (rounds : List Round) (row : List ℕ) → row_fits n 256 row ≡ true → rounds_fit n rounds ≡ true → rounds_fit n (offered rounds row) ≡ true
  offered_fit [] row fit h = refl
  offered_fit (r ∷ []) row fit h =
      let first = (and_parts (row_fits n (2 ^ 32) r.prices && bid_fits n r.bid) true h).0 in
      and_from _ true (and_from (row_fits n (2 ^ 32) r.prices) (row_fits n 256 row) (and_parts (row_fits n (2 ^ 32) r.prices) (bid_fits n r.bid) first).0 fit) refl
  offered_fit (r ∷ (s ∷ rounds)) row fit h = let both = and_parts _ (rounds_fit n (s ∷ rounds)) h in and_from _ _ both.0 (offered_fit (s ∷ rounds) row fit both.1)

  pub unbid_fit : (rounds : List Round) → rounds_fit n rounds ≡ true → rounds_fit n (unbid rounds) ≡ true
  unbid_fit [] h = refl
  unbid_fit (r ∷ []) h =
      let first = (and_parts (row_fits n (2 ^ 32) r.prices && bid_fits n r.bid) true h).0 in
      and_from _ true (and_from (row_fits n (2 ^ 32) r.prices) true (and_parts (row_fits n (2 ^ 32) r.prices) (bid_fits n r.bid) first).0 refl) refl
  unbid_fit (r ∷ (s ∷ rounds)) h = let both = and_parts _ (rounds_fit n (s ∷ rounds)) h in and_from _ _ both.0 (unbid_fit (s ∷ rounds) both.1)

  all_below : (bound : ℕ) (row : List ℕ) → each_below bound row ≡ true → AllByRecursion (λ x. x < bound) row
  all_below bound [] h = tt
  all_below bound (x ∷ row) h = let both = and_parts (ltb x bound) (each_below bound row) h in (ltb-true x bound both.0, all_below bound row both.1)

  all_bytes : (row : List ℕ) → each_below 256 row ≡ true → AllByRecursion (λ x. x ≤ 255) row
  all_bytes [] h = tt
  all_bytes (x ∷ row) h = let both = and_parts (ltb x 256) (each_below 256 row) h in let l = ltb-true x 256 both.0 in (omega arith, all_bytes row both.1)

  bid_package : (b : Option (List ℕ)) → bid_fits n b ≡ true → IfSome b (Package n)
  bid_package None h = tt
  bid_package (Some x) h = let both = and_parts (eqb (length x) n) (each_below 256 x) h in (eqb-true (length x) n both.0, all_bytes x both.1)

  -- what passes the test is a sale
  pub sale_of : (rounds : List Round) → rounds_fit n rounds ≡ true → Sale n rounds
  sale_of [] h = tt
  sale_of (r ∷ rounds) h =
      let both = and_parts (row_fits n (2 ^ 32) r.prices && bid_fits n r.bid) (rounds_fit n rounds) h in
      let here = and_parts (row_fits n (2 ^ 32) r.prices) (bid_fits n r.bid) both.0 in
      let row = and_parts (eqb (length r.prices) n) (each_below (2 ^ 32) r.prices) here.0 in
      (((eqb-true (length r.prices) n row.0, all_below (2 ^ 32) r.prices row.1), bid_package r.bid here.1), sale_of rounds both.1)
