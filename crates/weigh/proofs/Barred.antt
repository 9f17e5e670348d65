-- When a bid is weighed.
use Rattle.std.proofs.Common.{◌≡◌, ℕ, ◌-◌, ◌<◌, ◌≤◌, Bool, true, false, cond, not, ◌&&◌, eqb, ltb, List, length, is_some, Some, None, Option, sym, refl, ap, arith, if◌then◌else◌}
use Rattle.std.proofs.lemmas.Bool.{and_parts, both_ways, le-ltb, ltb-true, not-true}
use Rattle.chains.specs.Rounds.{Round, round}
use Rattle.tables.specs.Changes.{bid_error, has_bid, takes_bid}
use Rattle.tables.specs.declared.table.errors.BidError.{BidError}
use Rattle.tables.specs.declared.table.errors.BidError.TheVariants as bid_errors
use Rattle.weigh.specs.Answers.{reason, refusal_of, unfit}
use Rattle.weigh.specs.declared.answer.Refused.TheVariants.{BidStands, NoRound, RowLength}

none_of : {X : Type 0} (o : Option X) → is_some o ≡ false → o ≡ None
none_of None h = refl
none_of (Some x) h = absurd (both_ways true h refl)

pub same_some : {X : Type 0} {x y : X} → Some x ≡ Some y → x ≡ y
same_some e = cc

pub none_some : {X Z : Type 0} {x : X} (o : Option X) → o ≡ None → o ≡ Some x → Z
none_some o e f = let z : ◌≡◌ {A = ℕ} 0 1 = cc in absurd (omega arith)

module _ (n : ℕ) (R : List Round) (row : List ℕ) (shortest : ℕ) (long : 128 ≤ shortest) where
  pub fit_bid : takes_bid n R row ≡ true → unfit n R row shortest ≡ None
  fit_bid takes = rw (le-ltb shortest 128 long, takes) refl

  pub unfit_bid : takes_bid n R row ≡ false → unfit n R row shortest ≡ Some (reason n R row)
  unfit_bid takes = rw (le-ltb shortest 128 long, takes) refl

-- the reason that is told is that of the table's error
told : (a b c : Bool) (e : BidError) → Some e ≡ (if a then (if b then (if c then Some bid_errors.BidStands else None) else Some bid_errors.NoRound) else Some bid_errors.RowLength) → refusal_of e ≡ cond a (cond b BidStands NoRound) RowLength
told true true true e h = ap refusal_of (same_some h)
told true true false e h = none_some None refl (sym h)
told true false c e h = ap refusal_of (same_some h)
told false b c e h = ap refusal_of (same_some h)

pub refused_bid : (n : ℕ) (R : List Round) (row : List ℕ) (e : BidError) → Some e ≡ bid_error n R row → refusal_of e ≡ reason n R row
refused_bid n R row e h = told (eqb (length row) n) (ltb 0 (length R)) (has_bid R) e h

-- what a row that is taken says of the rounds
module _ (n : ℕ) (R : List Round) (row : List ℕ) (takes : takes_bid n R row ≡ true) where
  both : (ltb 0 (length R) ≡ true) × (not (has_bid R) ≡ true)
  both = and_parts (ltb 0 (length R)) (not (has_bid R)) (and_parts (eqb (length row) n) (ltb 0 (length R) && not (has_bid R)) takes).1

  pub takes_some : 0 < length R
  takes_some = ltb-true 0 (length R) both.0

  pub takes_free : (round R (length R - 1)).bid ≡ None
  takes_free = none_of (round R (length R - 1)).bid (not-true (has_bid R) both.1)
