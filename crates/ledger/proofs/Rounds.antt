-- The rounds of a sale one by one, and the latest of them with a bid.
use Rattle.std.proofs.Common.{◌≡◌, ℕ, zero, suc, ◌-◌, ◌<◌, List, [], ◌∷◌, ◌++◌, length, Some, refl, ap, ◌∙◌, arith, length-append}
use Rattle.std.proofs.lemmas.List.{get_or_append_left, get_or_at}
use Rattle.std.specs.List.{AllByRecursion}
use Rattle.ledger.specs.Judging.{latest}
use Rattle.ledger.specs.Laws.{LawfulRound}
use Rattle.chains.specs.Rounds.{Round, round, offered}

-- the first rounds of a longer list, and the one after them
pub round_front : (rounds more : List Round) (t : ℕ) → t < length rounds → round (rounds ++ more) t ≡ round rounds t
round_front rounds more t h = get_or_append_left rounds more _ t h

pub round_next : (rounds : List Round) (r : Round) (more : List Round) → round (rounds ++ r ∷ more) (length rounds) ≡ r
round_next rounds r more = get_or_at rounds r more _ (length rounds) refl

-- the latest round
pub latest_last : (rounds : List Round) (r : Round) → latest (rounds ++ r ∷ []) ≡ r
latest_last rounds r = ap (round (rounds ++ r ∷ [])) (omega (arith, length-append rounds (r ∷ []))) ∙ round_next rounds r []

pub latest_cons : (r : Round) (rounds : List Round) → 0 < length rounds → latest (r ∷ rounds) ≡ latest rounds
latest_cons r rounds h = let k : length (r ∷ rounds) - 1 ≡ suc (length rounds - 1) = omega arith in ap (round (r ∷ rounds)) k

-- a bid in the latest round
pub offered_last : (rounds : List Round) (r : Round) (x : List ℕ) → offered (rounds ++ r ∷ []) x ≡ rounds ++ record { prices = r.prices; bid = Some x } ∷ []
offered_last [] r x = refl
offered_last (s ∷ []) r x = refl
offered_last (s ∷ (q ∷ rounds)) r x = ap (λ rs. s ∷ rs) (offered_last (q ∷ rounds) r x)

pub offered_long : (rounds : List Round) (x : List ℕ) → length (offered rounds x) ≡ length rounds
offered_long [] x = refl
offered_long (r ∷ []) x = refl
offered_long (r ∷ (s ∷ rounds)) x = ap suc (offered_long (s ∷ rounds) x)

pub offered_latest : (rounds : List Round) (x : List ℕ) → 0 < length rounds → (latest (offered rounds x)).bid ≡ Some x
offered_latest [] x h = absurd (omega arith)
offered_latest (r ∷ []) x h = refl
offered_latest (r ∷ (s ∷ rounds)) x h =
    ap (λ q. q.bid) (latest_cons r (offered (s ∷ rounds) x) (omega (arith, offered_long (s ∷ rounds) x))) ∙ offered_latest (s ∷ rounds) x (omega arith)

pub offered_prices : (rounds : List Round) (x : List ℕ) (t : ℕ) → (round (offered rounds x) t).prices ≡ (round rounds t).prices
offered_prices [] x t = refl
offered_prices (r ∷ []) x zero = refl
offered_prices (r ∷ []) x (suc t) = refl
offered_prices (r ∷ (s ∷ rounds)) x zero = refl
offered_prices (r ∷ (s ∷ rounds)) x (suc t) = offered_prices (s ∷ rounds) x t

pub offered_lawful : (n : ℕ) (rounds : List Round) (x : List ℕ) → length x ≡ n → AllByRecursion (LawfulRound n) rounds → AllByRecursion (LawfulRound n) (offered rounds x)
offered_lawful n [] x h all = all
offered_lawful n (r ∷ []) x h all = (record { priced = all.0.priced; bounded = all.0.bounded; sized = h }, tt)
offered_lawful n (r ∷ (s ∷ rounds)) x h all = (all.0, offered_lawful n (s ∷ rounds) x h all.1)
