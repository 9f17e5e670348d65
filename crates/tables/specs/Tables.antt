-- The rounds of a sale as a program keeps them: tables of rows of 16 cells, of which the first n count.
use Rattle.std.specs.Prelude.{◌≡◌, ℕ, ◌^◌, ◌<◌, Bool, true, ◌&&◌, ◌≢◌, List, [], ◌∷◌, map, length, take, Some, None, Option, ◌==◌, nat_lt, slice_index_or}
use Rattle.std.specs.List.{range_with_len}
use Rattle.std.specs.Option.{option_map}
use Rattle.chains.specs.Rounds.{Round}
use Rattle.tables.specs.declared.table.Round.{Round as Played}

-- the package at place a of a table
abbrev pub row_at : ℕ → List (List ℕ) → ℕ → List ℕ
row_at n rows a = take n (slice_index_or rows a [])

-- the first k packages of a table
abbrev pub packages_of : ℕ → List (List ℕ) → ℕ → List (List ℕ)
packages_of n rows k = map (row_at n rows) (range_with_len 0 k)

-- where the first k packages of a table have x: the place that holds it, or none exactly where none does
abbrev pub Found : ℕ → List (List ℕ) → ℕ → List ℕ → Option ℕ → Type 0
Found n rows k x (Some a) = (a < k) × (row_at n rows a ≡ x)
Found n rows k x None = (a : ℕ) → a < k → row_at n rows a ≢ x

-- what is kept of a round that was not played
abbrev pub blank : Played
blank = record { prices = []; bid = None }

-- the cells of the prices of round t
abbrev pub prices_of : List Played → ℕ → List ℕ
prices_of played t = (slice_index_or played t blank).prices

-- the place of the package that was bid in round t, if any
abbrev pub bid_of : List Played → ℕ → Option ℕ
bid_of played t = (slice_index_or played t blank).bid

-- round t: its prices, and the package that was bid there, if any, by its place
abbrev pub round_at : ℕ → List (List ℕ) → List Played → ℕ → Round
round_at n rows played t = record { prices = take n (prices_of played t); bid = option_map (row_at n rows) (bid_of played t) }

-- the first k rounds
abbrev pub rounds_of : ℕ → List (List ℕ) → List Played → ℕ → List Round
rounds_of n rows played k = map (round_at n rows played) (range_with_len 0 k)

-- whether each entry of a row is below a bound
abbrev pub each_below : ℕ → List ℕ → Bool
each_below bound [] = true
each_below bound (x ∷ row) = nat_lt x bound && each_below bound row

-- whether a row has n entries, each below a bound
abbrev pub row_fits : ℕ → ℕ → List ℕ → Bool
row_fits n bound row = length row == n && each_below bound row

-- whether a bid, if there is one, is a row of n quantities
abbrev pub bid_fits : ℕ → Option (List ℕ) → Bool
bid_fits n None = true
bid_fits n (Some x) = row_fits n 256 x

-- whether rounds are those of a sale with n products: prices of 32 bits, quantities of 8
abbrev pub rounds_fit : ℕ → List Round → Bool
rounds_fit n [] = true
rounds_fit n (r ∷ rounds) = (row_fits n (2 ^ 32) r.prices && bid_fits n r.bid) && rounds_fit n rounds
