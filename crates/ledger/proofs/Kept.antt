-- What a ledger keeps stays a lawful sale, whatever it is told.
use Rattle.std.proofs.Common.{◌≡◌, ℕ, ◌+◌, ◌-◌, false, ltb, List, [], ◌∷◌, ◌++◌, length, is_some, Some, None, Option, sym, refl, ap, ◌∙◌, subst, inl, inr, arith, length-append}
use Rattle.std.proofs.ByRecursion.{All-push}
use Rattle.std.proofs.lemmas.Bool.{ltb-true, eqb-true, not-true, cases_lt}
use Rattle.ledger.proofs.Checks.{no_refusal, first_passed, test_passed, low_bounded, met_passed}
use Rattle.ledger.proofs.Explained.{explained_none, explained_opened}
use Rattle.ledger.proofs.Rounds.{round_front, round_next, latest_last, offered_long, offered_latest, offered_prices, offered_lawful}
use Rattle.ledger.specs.Feeding.{after, Fed, Feeds, nothing, told}
use Rattle.ledger.specs.Judging.{too_high, fell, latest, refused, checks, early, Consistent, Judged}
use Rattle.ledger.specs.Laws.{LawfulRound, Rising, LatestUnbid, Stands, Lawful}
use Rattle.ledger.specs.Ledger.{Making, Dealing, opening, offering, confirming, withdrawing, closing, reading_sheet, reading_roll, Ledger, new, stand, opened, tried, with_trial, confirmed, withdrawn, closed, moved}
use Rattle.ledger.specs.Table.{cell}
use Rattle.ledger.specs.declared.refusal.Refusal.{Refusal}
use Rattle.ledger.specs.declared.refusal.Refusal.TheVariants.{RowLength, TooManyRounds, RoundOpen, NoRoundOpen, TrialStands, SlipMisfit, BidConfirmed, PriceTooHigh, PriceFell}
use Rattle.ledger.specs.declared.state.Call.TheVariants as call
use Rattle.ledger.specs.declared.state.State.{State}
use Rattle.ledger.specs.declared.state.State.TheVariants.{Shut, Open, Trial, Done}
use Rattle.chains.specs.Rounds.{Round, round, offered}
use Rattle.worth.specs.Group.{Group}

rising_more : (rounds : List Round) (r : Round) → Rising rounds → fell (latest rounds).prices r.prices ≡ false → Rising (rounds ++ r ∷ [])
rising_more rounds r up next t h =
    let long = length-append rounds (r ∷ []) in
    let here : round (rounds ++ r ∷ []) t ≡ round rounds t = round_front rounds (r ∷ []) t (omega arith) in
    elim (cases_lt (t + 1) (length rounds)) [
      | inl l ↦ rw (here, round_front rounds (r ∷ []) (t + 1) l) (up t l)
      | inr g ↦
          let last : t ≡ length rounds - 1 = omega arith in
          let is : t + 1 ≡ length rounds = omega arith in
          let there : round (rounds ++ r ∷ []) (t + 1) ≡ r = ap (round (rounds ++ r ∷ [])) is ∙ round_next rounds r [] in
          let here' : round (rounds ++ r ∷ []) t ≡ latest rounds = here ∙ ap (round rounds) last in
          rw (here', there) next
    ]

rising_offered : (rounds : List Round) (x : List ℕ) → Rising rounds → Rising (offered rounds x)
rising_offered rounds x up t h =
    rw (offered_prices rounds x t, offered_prices rounds x (t + 1)) (up t (omega (arith, offered_long rounds x)))

module _ (G : Group) where
  -- where a round can open, nothing is on trial
  shut_untried : (n : ℕ) (s : State) (rounds : List Round) (trial : Option (List ℕ)) → refused (cell s call.Open) ≡ None → Stands G n s rounds trial → trial ≡ None
  shut_untried n Shut rounds trial e h = h
  shut_untried n Open rounds trial e h = no_refusal RoundOpen e
  shut_untried n Trial rounds trial e h = no_refusal RoundOpen e
  shut_untried n Done rounds trial e h = no_refusal RoundOpen e

  -- nor where one can close
  closing_untried : (n : ℕ) (s : State) (rounds : List Round) (trial : Option (List ℕ)) → refused (cell s call.Close) ≡ None → Stands G n s rounds trial → trial ≡ None
  closing_untried n Shut rounds trial e h = no_refusal NoRoundOpen e
  closing_untried n Open rounds trial e h = h.0
  closing_untried n Trial rounds trial e h = no_refusal TrialStands e
  closing_untried n Done rounds trial e h = h.0

  -- where a row can be offered, the open round has no bid
  open_unbid : (n : ℕ) (s : State) (rounds : List Round) (trial : Option (List ℕ)) → refused (cell s call.Offer) ≡ None → Stands G n s rounds trial → LatestUnbid rounds
  open_unbid n Shut rounds trial e h = no_refusal NoRoundOpen e
  open_unbid n Open rounds trial e h = h.1
  open_unbid n Trial rounds trial e h = no_refusal TrialStands e
  open_unbid n Done rounds trial e h = no_refusal BidConfirmed e

  -- where a slip can fit, a trial stands
  on_trial : (n : ℕ) (s : State) (rounds : List Round) (trial : Option (List ℕ)) → refused (cell s call.Confirm) ≡ None → Stands G n s rounds trial → Stands G n Trial rounds trial
  on_trial n Shut rounds trial e h = no_refusal SlipMisfit e
  on_trial n Open rounds trial e h = no_refusal SlipMisfit e
  on_trial n Trial rounds trial e h = h
  on_trial n Done rounds trial e h = no_refusal SlipMisfit e

  opening_kept : (l : Ledger) (prices : List ℕ) → Lawful G l → early l (opening prices) ≡ None → Lawful G (opened l prices)
  opening_kept l prices h e =
      let ok = (first_passed (checks l (opening prices)) e).1.1 in
      let r : Round = record { prices = prices; bid = None } in
      let room = ltb-true (length l.rounds) 128 (test_passed (ltb (length l.rounds) 128) TooManyRounds ok.1.0) in
      let long = length-append l.rounds (r ∷ []) in
      record {
        few = omega arith;
        rounds = All-push (LawfulRound l.making.products) l.rounds r h.rounds (record {
          priced = eqb-true (length prices) l.making.products (test_passed _ RowLength ok.0);
          bounded = low_bounded prices (not-true (too_high prices) (test_passed _ PriceTooHigh ok.1.1.1.0));
          sized = tt;
        });
        rising = rising_more l.rounds r h.rising (not-true _ (test_passed _ PriceFell ok.1.1.1.1.0));
        explained = explained_opened G l.rounds prices h.explained;
        stands = (
          shut_untried l.making.products l.state l.rounds l.trial ok.1.1.0 h.stands,
          (omega arith, ap (λ q. q.bid) (latest_last l.rounds r)),
        );
      }

  offering_kept : (l : Ledger) (row : List ℕ) (heap chain : ℕ) → Lawful G l → early l (offering row heap chain) ≡ None → Consistent G l (offering row heap chain) → Lawful G (tried l row)
  offering_kept l row heap chain h e c =
      let ok = (first_passed (checks l (offering row heap chain)) e).1.1 in
      record {
        few = h.few;
        rounds = h.rounds;
        rising = h.rising;
        explained = h.explained;
        stands = (
          row,
          refl,
          open_unbid l.making.products l.state l.rounds l.trial ok.1.0 h.stands,
          record { sized = eqb-true (length row) l.making.products (test_passed _ RowLength ok.0); explained = c },
        );
      }

  confirming_kept : (l : Ledger) → Lawful G l → refused (cell l.state call.Confirm) ≡ None → Lawful G (confirmed l)
  confirming_kept l h e =
      let trial = on_trial l.making.products l.state l.rounds l.trial e h.stands in
      let row = trial.0 in
      let long = offered_long l.rounds row in
      let kept : Lawful G (stand l Done (offered l.rounds row) None) = record {
        few = omega (arith, h.few);
        rounds = offered_lawful l.making.products l.rounds row trial.3.sized h.rounds;
        rising = rising_offered l.rounds row h.rising;
        explained = trial.3.explained;
        stands = (refl, (omega (arith, trial.2.0), ap is_some (offered_latest l.rounds row trial.2.0)));
      } in
      subst (λ t. Lawful G (stand l Done (with_trial l.rounds t) None)) (sym trial.1) kept

  withdrawing_kept : (l : Ledger) → Lawful G l → refused (cell l.state call.Confirm) ≡ None → Lawful G (withdrawn l)
  withdrawing_kept l h e = record {
    few = h.few;
    rounds = h.rounds;
    rising = h.rising;
    explained = h.explained;
    stands = (refl, (on_trial l.making.products l.state l.rounds l.trial e h.stands).2);
  }

  closing_kept : (l : Ledger) → Lawful G l → refused (cell l.state call.Close) ≡ None → Lawful G (closed l)
  closing_kept l h e = record {
    few = h.few;
    rounds = h.rounds;
    rising = h.rising;
    explained = h.explained;
    stands = closing_untried l.making.products l.state l.rounds l.trial e h.stands;
  }

  -- a slip to withdraw fits where one to confirm does
  same_cell : (s : State) → refused (cell s call.Withdraw) ≡ None → refused (cell s call.Confirm) ≡ None
  same_cell Shut e = e
  same_cell Open e = e
  same_cell Trial e = refl
  same_cell Done e = e

  met_kept : (l : Ledger) (d : Dealing) → Lawful G l → early l d ≡ None → Consistent G l d → Lawful G (moved l d)
  met_kept l (opening prices) h e c = opening_kept l prices h e
  met_kept l (offering row heap chain) h e c = offering_kept l row heap chain h e c
  met_kept l (confirming slip) h e c = confirming_kept l h (first_passed (checks l (confirming slip)) e).1.1.0
  met_kept l (withdrawing slip) h e c = withdrawing_kept l h (same_cell l.state (first_passed (checks l (withdrawing slip)) e).1.1.0)
  met_kept l closing h e c = closing_kept l h (first_passed (checks l closing) e).1.1.0
  met_kept l (reading_sheet memory) h e c = h
  met_kept l (reading_roll memory) h e c = h

  after_kept : (l : Ledger) (d : Dealing) (o : Option Refusal) → Judged G l d o → Lawful G l → Lawful G (after l d o)
  after_kept l d None j h = let ok = met_passed G j in met_kept l d h ok.0 ok.1
  after_kept l d (Some r) j h = h

  pub kept : (l next : Ledger) (d : Dealing) → Lawful G l → Fed G l d next → Lawful G next
  kept l next d h fed = subst (Lawful G) (sym fed.2) (after_kept l d fed.0 fed.1 h)

  feeds_kept : {l last : Ledger} {ds : List Dealing} → Feeds G l ds last → Lawful G l → Lawful G last
  feeds_kept nothing h = h
  feeds_kept (told {l} {next = next} {d = d} fed more) h = feeds_kept more (kept l next d h fed)

  new_lawful : (m : Making) → Lawful G (new m)
  new_lawful m = record { few = omega arith; rounds = tt; rising = λ t h. absurd (omega arith); explained = explained_none G; stands = refl }

  pub lawful : (m : Making) (ds : List Dealing) (l : Ledger) → Feeds G (new m) ds l → Lawful G l
  lawful m ds l f = feeds_kept f (new_lawful m)

  after_making : (l : Ledger) (d : Dealing) (o : Option Refusal) → (after l d o).making ≡ l.making
  after_making l (opening prices) None = refl
  after_making l (offering row heap chain) None = refl
  after_making l (confirming slip) None = refl
  after_making l (withdrawing slip) None = refl
  after_making l closing None = refl
  after_making l (reading_sheet memory) None = refl
  after_making l (reading_roll memory) None = refl
  after_making l d (Some r) = refl

  feeds_making : {l last : Ledger} {ds : List Dealing} → Feeds G l ds last → last.making ≡ l.making
  feeds_making nothing = refl
  feeds_making (told {l} {d = d} fed more) = feeds_making more ∙ ap (λ k. k.making) fed.2 ∙ after_making l d fed.0

  pub same_making : (m : Making) (ds : List Dealing) (l : Ledger) → Feeds G (new m) ds l → l.making ≡ m
  same_making m ds l f = feeds_making f
