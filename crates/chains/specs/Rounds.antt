-- The rounds of a sale, their standing bids, and the roll.
-- Inside the definitions rounds and packages are counted from 0; the number that a merchant sees is one more.
use Rattle.std.specs.Prelude.{◌≡◌, ℕ, ◌^◌, ◌<◌, ◌≤◌, Bool, true, false, cond, List, [], ◌∷◌, ◌++◌, length, IfSome, Some, None, Option, ◌==◌, slice_index_or}
use Rattle.std.specs.List.{AllByRecursion}

-- a round: its prices, and its standing bid if it has one
pub record Round : Type 0 where
  pub prices : List ℕ
  pub bid : Option (List ℕ)

-- round t of a sale; past the last one, a round with no prices and no bid
abbrev pub round : List Round → ℕ → Round
round rounds t = slice_index_or rounds t (record { prices = []; bid = None })

-- package x is the standing bid of round t
abbrev pub Stood : List Round → ℕ → List ℕ → Type 0
Stood rounds t x = (round rounds t).bid ≡ Some x

-- whether two packages are the same
abbrev pub same : List ℕ → List ℕ → Bool
same [] [] = true
same [] (q ∷ y) = false
same (p ∷ x) [] = false
same (p ∷ x) (q ∷ y) = cond (p == q) (same x y) false

-- whether a package is on a list of packages
abbrev pub listed : List (List ℕ) → List ℕ → Bool
listed [] x = false
listed (y ∷ ys) x = cond (same y x) true (listed ys x)

-- a list of packages with one more bid: a package that is not on it yet comes last
abbrev pub enrolled : List (List ℕ) → Option (List ℕ) → List (List ℕ)
enrolled ys None = ys
enrolled ys (Some x) = cond (listed ys x) ys (ys ++ x ∷ [])

abbrev pub roll_on : List (List ℕ) → List Round → List (List ℕ)
roll_on ys [] = ys
roll_on ys (r ∷ rounds) = roll_on (enrolled ys r.bid) rounds

-- the roll: the packages with a standing bid, in the order of their first standing bids
abbrev pub roll : List Round → List (List ℕ)
roll rounds = roll_on [] rounds

-- package y is on the roll
abbrev pub OnRoll : List Round → List ℕ → Type 0
OnRoll rounds y = listed (roll rounds) y ≡ true

-- the same rounds, with x as the bid of the latest one
abbrev pub offered : List Round → List ℕ → List Round
offered [] x = []
offered (r ∷ []) x = record { prices = r.prices; bid = Some x } ∷ []
offered (r ∷ (s ∷ rounds)) x = r ∷ offered (s ∷ rounds) x

-- a package of a sale with n products: n quantities of 0 to 255
abbrev pub Package : ℕ → List ℕ → Type 0
Package n x = (length x ≡ n) × AllByRecursion (λ q. q ≤ 255) x

-- a row of prices in such a sale: n prices of 32 bits
abbrev pub Prices : ℕ → List ℕ → Type 0
Prices n prices = (length prices ≡ n) × AllByRecursion (λ p. p < 2 ^ 32) prices

-- the rounds of such a sale
abbrev pub Sale : ℕ → List Round → Type 0
Sale n rounds = AllByRecursion (λ r. Prices n r.prices × IfSome r.bid (Package n)) rounds

-- where a list has a package: the place that holds it, or none exactly when it is not listed
abbrev pub Placed : List (List ℕ) → List ℕ → Option ℕ → Type 0
Placed ys x (Some k) = (k < length ys) × (slice_index_or ys k [] ≡ x)
Placed ys x None = listed ys x ≡ false
