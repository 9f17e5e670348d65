-- The clean list of a lawful ledger, told to a new ledger.
use Rattle.std.proofs.Common.{◌≡◌, ℕ, suc, ◌+◌, ◌-◌, ◌<◌, Bool, true, false, cond, not, ◌&&◌, eqb, ltb, leb, List, [], ◌∷◌, ◌++◌, length, is_some, IfSome, Some, None, Option, sym, refl, ap, ◌∙◌, subst, append_assoc, append-nil, arith, length-append}
use Rattle.std.proofs.ByRecursion.{All-get_or}
use Rattle.std.proofs.lemmas.Bool.{both_ways, lt-ltb, le-leb, eq-eqb, and_parts, and_from, not_from_false}
use Rattle.ledger.proofs.Checks.{Passed, passed_first, passes, bounded_low}
use Rattle.ledger.proofs.Explained.{explained_front}
use Rattle.ledger.proofs.Rounds.{round_front, round_next, latest_cons, offered_last}
use Rattle.ledger.specs.Cleaning.{Entry, opens, shuts, bid_entries, round_entries, entries, is_shut, clean, settled_state, settled, BidMet, Meets, all_met, opens_met, bids_met, shuts_met}
use Rattle.ledger.specs.Judging.{right_products, long_column, fit, enough_memory, too_high, fell, latest, fits, refused, own_checks, checks, Consistent, Judged, met}
use Rattle.ledger.specs.Laws.{LawfulRound, Stands, Lawful}
use Rattle.ledger.specs.Ledger.{Dealing, opening, offering, confirming, closing, Ledger, new, tried}
use Rattle.ledger.specs.Table.{cell}
use Rattle.ledger.specs.declared.refusal.Refusal.TheVariants.{BadProducts, ShortMemory, RowLength, TooManyRounds, PriceTooHigh, PriceFell, SlipMisfit}
use Rattle.ledger.specs.declared.state.Call.TheVariants as call
use Rattle.ledger.specs.declared.state.State.{State}
use Rattle.ledger.specs.declared.state.State.TheVariants.{Shut, Open, Trial, Done}
use Rattle.chains.specs.Chains.{Explained}
use Rattle.chains.specs.Rounds.{Round, round, offered}
use Rattle.worth.specs.Group.{Group}

-- the state of an open round with this bid
abbrev bid_state : Option (List ℕ) → State
bid_state None = Open
bid_state (Some row) = Done

-- the state after the entries of these rounds
abbrev state_after : Bool → List Round → State
state_after shut [] = Shut
state_after shut (r ∷ []) = cond shut Shut (bid_state r.bid)
state_after shut (r ∷ (s ∷ rounds)) = state_after shut (s ∷ rounds)

after_shut : (rounds : List Round) → state_after true rounds ≡ Shut
after_shut [] = refl
after_shut (r ∷ []) = refl
after_shut (r ∷ (s ∷ rounds)) = after_shut (s ∷ rounds)

after_open : (rounds : List Round) → 0 < length rounds → state_after false rounds ≡ bid_state (latest rounds).bid
after_open [] h = absurd (omega arith)
after_open (r ∷ []) h = refl
after_open (r ∷ (s ∷ rounds)) h = after_open (s ∷ rounds) (omega arith) ∙ ap (λ q. bid_state q.bid) (sym (latest_cons r (s ∷ rounds) (omega arith)))

bid_done : (b : Option (List ℕ)) → is_some b ≡ true → bid_state b ≡ Done
bid_done None h = absurd (both_ways false refl h)
bid_done (Some row) h = refl

module _ (G : Group) (l : Ledger) (fitting : fit l.making ≡ true) (lawful : Lawful G l) where
  abbrev whole : List Round
  whole = l.rounds

  -- the same book with these rounds and no trial
  abbrev at : State → List Round → Ledger
  at s rounds = record { making = l.making; state = s; rounds = rounds; trial = None }

  fit_products : right_products l.making ≡ true
  fit_products = (and_parts (right_products l.making) (long_column l.making) fitting).0

  fit_column : long_column l.making ≡ true
  fit_column = (and_parts (right_products l.making) (long_column l.making) fitting).1

  -- a dealing with enough memory that passes its own checks
  met_by : (k : Ledger) (d : Dealing) → k.making ≡ l.making → enough_memory d ≡ true → Passed (own_checks k d) → Consistent G k d → Judged G k d None
  met_by k d same enough own c =
      let products = passes (right_products k.making) BadProducts (ap right_products same ∙ fit_products) in
      let long = and_from (long_column k.making) (enough_memory d) (ap long_column same ∙ fit_column) enough in
      let memory = passes (long_column k.making && enough_memory d) ShortMemory long in
      met (passed_first (checks k d) (products, (memory, own))) c

  close_met : (s : State) (rounds : List Round) → refused (cell s call.Close) ≡ None → Judged G (at s rounds) closing None
  close_met s rounds e = met_by (at s rounds) closing refl refl (e, tt) tt

  -- round r, after the rounds done and before the rest
  module _ (done : List Round) (r : Round) (rest : List Round) (parts : whole ≡ done ++ r ∷ rest) where
    is_round : round whole (length done) ≡ r
    is_round = ap (λ rs. round rs (length done)) parts ∙ round_next done r rest

    whole_long : length whole ≡ length done + suc (length rest)
    whole_long = ap length parts ∙ length-append done (r ∷ rest)

    lawful_round : LawfulRound l.making.products r
    lawful_round = subst (LawfulRound l.making.products) is_round
        (All-get_or (LawfulRound l.making.products) whole (length done) _ (omega (arith, whole_long)) lawful.rounds)

    no_fall_after : 0 < length done → fell (latest done).prices r.prices ≡ false
    no_fall_after some =
        let k = length done - 1 in
        let here : round whole k ≡ latest done = ap (λ rs. round rs k) parts ∙ round_front done (r ∷ rest) k (omega arith) in
        let there : round whole (k + 1) ≡ r = ap (round whole) (omega arith) ∙ is_round in
        subst (λ q. fell q.prices r.prices ≡ false) here
        (subst (λ q. fell (round whole k).prices q.prices ≡ false) there (lawful.rising k (omega (arith, whole_long))))

    no_fall : fell (latest done).prices r.prices ≡ false
    no_fall = go done refl
      where
        go : (before : List Round) → done ≡ before → fell (latest before).prices r.prices ≡ false
        go [] e = refl
        go (q ∷ before) e = subst (λ rs. fell (latest rs).prices r.prices ≡ false) e (no_fall_after (omega (arith, ap length e)))

    open_met : Judged G (at Shut done) (opening r.prices) None
    open_met =
        let long = passes (eqb (length r.prices) l.making.products) RowLength (eq-eqb _ _ lawful_round.priced) in
        let room = passes (ltb (length done) 128) TooManyRounds (lt-ltb _ _ (omega (arith, whole_long, lawful.few))) in
        let low = passes (not (too_high r.prices)) PriceTooHigh (not_from_false _ (bounded_low r.prices lawful_round.bounded)) in
        let risen = passes (not (fell (latest done).prices r.prices)) PriceFell (not_from_false _ no_fall) in
        met_by (at Shut done) (opening r.prices) refl refl (long, (room, (refl, (low, (risen, tt))))) tt

    -- the rounds up to this one, which has no bid yet
    abbrev unbid : List Round
    unbid = done ++ record { prices = r.prices; bid = None } ∷ []

    explained_so_far : Explained G (done ++ r ∷ [])
    explained_so_far = explained_front G (done ++ r ∷ []) rest (subst (Explained G) (parts ∙ sym (append_assoc done (r ∷ []) rest)) lawful.explained)

    -- with its bid they are the rounds up to this one
    with_bid : (row : List ℕ) → r.bid ≡ Some row → offered unbid row ≡ done ++ r ∷ []
    with_bid row e = offered_last done _ row ∙ ap (λ (b : Option (List ℕ)). done ++ record { prices = r.prices; bid = b } ∷ []) (sym e)

    bid_met : (row : List ℕ) → r.bid ≡ Some row → BidMet G (at Open unbid) row
    bid_met row e =
        let sized = subst (λ b. IfSome b (λ x. length x ≡ l.making.products)) e lawful_round.sized in
        let long = passes (eqb (length row) l.making.products) RowLength (eq-eqb _ _ sized) in
        record {
          offer = λ heap chain h c. met_by (at Open unbid) (offering row heap chain) refl
              (and_from (leb 128 heap) (leb 128 chain) (le-leb 128 heap h) (le-leb 128 chain c))
              (long, (refl, tt))
              (subst (Explained G) (sym (with_bid row e)) explained_so_far);
          confirmation = λ slip book present.
              let same = and_from (eqb slip.book l.making.book) (eqb slip.round (length unbid)) (eq-eqb _ _ book) (eq-eqb _ _ present) in
              met_by (tried (at Open unbid) row) (confirming slip) refl refl (refl, (passes (fits (at Open unbid) slip) SlipMisfit same, tt)) tt;
        }

    -- the entries of the round, before others
    round_met : (more : List Entry) (last : Ledger) → Meets G (at (bid_state r.bid) (done ++ r ∷ [])) more last → Meets G (at Shut done) (round_entries r ++ more) last
    round_met more last next = go r.bid refl next
      where
        go : (b : Option (List ℕ)) → r.bid ≡ b → Meets G (at (bid_state b) (done ++ r ∷ [])) more last → Meets G (at Shut done) (opens r.prices ∷ bid_entries b ++ more) last
        go None e k = opens_met open_met (subst (λ b. Meets G (at Open (done ++ record { prices = r.prices; bid = b } ∷ [])) more last) e k)
        go (Some row) e k = opens_met open_met (bids_met (bid_met row e) (subst (λ rs. Meets G (at Done rs) more last) (sym (with_bid row e)) k))

  -- an open round can be shut
  bid_shuts : (b : Option (List ℕ)) (rounds : List Round) → Judged G (at (bid_state b) rounds) closing None
  bid_shuts None rounds = close_met Open rounds refl
  bid_shuts (Some row) rounds = close_met Done rounds refl

  -- the entries of the rest, after the rounds done
  rest_met : (shut : Bool) (done rest : List Round) → whole ≡ done ++ rest → Meets G (at Shut done) (entries shut rest) (at (state_after shut rest) whole)
  rest_met shut done [] parts = subst (λ rs. Meets G (at Shut done) [] (at Shut rs)) (sym (append-nil done) ∙ sym parts) all_met
  rest_met true done (r ∷ []) parts = round_met done r [] parts (shuts ∷ []) (at Shut whole)
      (subst (λ rs. Meets G (at (bid_state r.bid) (done ++ r ∷ [])) (shuts ∷ []) (at Shut rs)) (sym parts) (shuts_met (bid_shuts r.bid (done ++ r ∷ [])) all_met))
  rest_met false done (r ∷ []) parts = round_met done r [] parts [] (at (bid_state r.bid) whole)
      (subst (λ rs. Meets G (at (bid_state r.bid) (done ++ r ∷ [])) [] (at (bid_state r.bid) rs)) (sym parts) all_met)
  rest_met shut done (r ∷ (s ∷ rest)) parts = round_met done r (s ∷ rest) parts (shuts ∷ entries shut (s ∷ rest)) (at (state_after shut (s ∷ rest)) whole)
      (shuts_met (bid_shuts r.bid (done ++ r ∷ [])) (rest_met shut (done ++ r ∷ []) (s ∷ rest) (parts ∙ sym (append_assoc done (r ∷ []) (s ∷ rest)))))

-- the state after the clean list
state_settled : (G : Group) (n : ℕ) (s : State) (rounds : List Round) (trial : Option (List ℕ)) → Stands G n s rounds trial → state_after (is_shut s) rounds ≡ settled_state s
state_settled G n Shut rounds trial h = after_shut rounds
state_settled G n Open rounds trial h = after_open rounds h.1.0 ∙ ap bid_state h.1.1
state_settled G n Trial rounds trial h = after_open rounds h.2.0 ∙ ap bid_state h.2.1
state_settled G n Done rounds trial h = after_open rounds h.1.0 ∙ bid_done (latest rounds).bid h.1.1

-- at a fit book, every entry of a lawful ledger's clean list is met, and leaves the ledger without its trial
pub replay : (G : Group) (l : Ledger) → fit l.making ≡ true → Lawful G l → Meets G (new l.making) (clean l) (settled l)
replay G l fitting lawful =
    subst (λ s. Meets G (new l.making) (clean l) (record { making = l.making; state = s; rounds = l.rounds; trial = None }))
    (state_settled G l.making.products l.state l.rounds l.trial lawful.stands)
    (rest_met G l fitting lawful (is_shut l.state) [] l.rounds refl)

-- with nothing on trial no state changes
untried_state : (G : Group) (n : ℕ) (s : State) (rounds : List Round) (trial : Option (List ℕ)) → Stands G n s rounds trial → trial ≡ None → settled_state s ≡ s
untried_state G n Shut rounds trial h none = refl
untried_state G n Open rounds trial h none = refl
untried_state G n Trial rounds trial h none = let z : ◌≡◌ {A = ℕ} 0 1 = cc (h.1, none) in absurd (omega arith)
untried_state G n Done rounds trial h none = refl

pub untried : (G : Group) (l : Ledger) → Lawful G l → l.trial ≡ None → settled l ≡ l
untried G l lawful none =
    let state = untried_state G l.making.products l.state l.rounds l.trial lawful.stands none in
    λ i. record { making = l.making; state = state i; rounds = l.rounds; trial = sym none i }
