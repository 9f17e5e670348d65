-- Rows of a table, cell by cell, and its packages, place by place.
use Rattle.std.proofs.Common.{◌≡◌, ℕ, ◌<◌, false, ◌≢◌, List, [], length, get_or, inl, inr, arith}
use Rattle.std.proofs.lemmas.List.FromFn.{get_or-map-range_with_len, length-map-range_with_len}
use Rattle.std.proofs.lemmas.Bool.{cases_Bool}
use Rattle.chains.proofs.Rolls.{listed_place}
use Rattle.chains.specs.Rounds.{listed}
use Rattle.tables.specs.Tables.{row_at, packages_of}

-- a list that has a package at no place does not list it
pub not_listed : (ys : List (List ℕ)) (x : List ℕ) → ((k : ℕ) → k < length ys → get_or ys k [] ≢ x) → listed ys x ≡ false
not_listed ys x none = elim (cases_Bool (listed ys x)) [
  | inl t ↦ let p = listed_place ys x t in absurd (none p.0 p.1 p.2)
  | inr f ↦ f
]

module _ (n : ℕ) (rows : List (List ℕ)) (k : ℕ) where
  pub packages_long : length (packages_of n rows k) ≡ k
  packages_long = length-map-range_with_len (row_at n rows) 0 k

  pub packages_at : (a : ℕ) → a < k → get_or (packages_of n rows k) a [] ≡ row_at n rows a
  packages_at a h = get_or-map-range_with_len (row_at n rows) 0 k a a [] h (omega arith)
