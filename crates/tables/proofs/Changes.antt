-- What writes to the tables of a sale do to its rounds and its roll.
use Rattle.std.proofs.Common.{◌≡◌, ℕ, ◌+◌, ◌<◌, ◌≤◌, true, false, eqb, ltb, is_none, List, [], ◌∷◌, ◌++◌, map, length, take, set, Some, None, Option, sym, refl, ap, ◌∙◌, subst, inl, inr, arith, length-append, get_or-set_other, get_or-set_same}
use Rattle.std.proofs.lemmas.List.FromFn.{get_or-map-range_with_len, length-map-range_with_len, map-range_with_len_more}
use Rattle.std.proofs.lemmas.List.{same_lists}
use Rattle.std.proofs.lemmas.Bool.{cases_Bool, cases_eq}
use Rattle.std.specs.List.{range_with_len}
use Rattle.std.specs.Option.{option_map}
use Rattle.chains.proofs.Rolls.{roll_round}
use Rattle.chains.specs.Rounds.{Round, listed, enrolled, roll_on, roll, offered}
use Rattle.tables.proofs.Views.{rounds_long, rounds_more}
use Rattle.tables.specs.Changes.{bid_error, has_bid, round_error, takes_bid, takes_round, unbid}
use Rattle.tables.specs.Tables.{row_at, packages_of, blank, prices_of, bid_of, round_at, rounds_of}
use Rattle.tables.specs.declared.table.Round.{Round as Played}

-- prices are taken exactly where there is no reason against them
pub takes_round_unless : (n : ℕ) (rounds : List Round) (prices : List ℕ) → takes_round n rounds prices ≡ is_none (round_error n rounds prices)
takes_round_unless n rounds prices = elim (cases_Bool (eqb (length prices) n)) [
  | inl long ↦ elim (cases_Bool (ltb (length rounds) 128)) [
    | inl few ↦ rw (long, few) refl
    | inr many ↦ rw (long, many) refl
  ]
  | inr other ↦ rw other refl
]

-- a bid is taken exactly where there is no reason against it
pub takes_bid_unless : (n : ℕ) (rounds : List Round) (row : List ℕ) → takes_bid n rounds row ≡ is_none (bid_error n rounds row)
takes_bid_unless n rounds row = elim (cases_Bool (eqb (length row) n)) [
  | inl long ↦ elim (cases_Bool (ltb 0 (length rounds))) [
    | inl some ↦ elim (cases_Bool (has_bid rounds)) [
      | inl bid ↦ rw (long, some, bid) refl
      | inr free ↦ rw (long, some, free) refl
    ]
    | inr none ↦ rw (long, none) refl
  ]
  | inr other ↦ rw other refl
]

-- lists counted by functions that agree are one
counted_alike : {X : Type 0} (f g : ℕ → X) (k : ℕ) → ((t : ℕ) → t < k → f t ≡ g t) → map f (range_with_len 0 k) ≡ map g (range_with_len 0 k)
counted_alike f g k agree = same_lists _ _ (length-map-range_with_len f 0 k ∙ sym (length-map-range_with_len g 0 k)) (λ t d h.
    let l : t < k = omega (arith, length-map-range_with_len f 0 k) in
    get_or-map-range_with_len f 0 k t t d l (omega arith) ∙ agree t l ∙ sym (get_or-map-range_with_len g 0 k t t d l (omega arith)))

-- the latest round with a bid, and without one
pub offered_latest : (rounds : List Round) (r : Round) (x : List ℕ) → offered (rounds ++ r ∷ []) x ≡ rounds ++ record { prices = r.prices; bid = Some x } ∷ []
offered_latest [] r x = refl
offered_latest (s ∷ []) r x = refl
offered_latest (s ∷ (q ∷ rounds)) r x = ap (λ rs. s ∷ rs) (offered_latest (q ∷ rounds) r x)

pub unbid_latest : (rounds : List Round) (r : Round) → unbid (rounds ++ r ∷ []) ≡ rounds ++ record { prices = r.prices; bid = None } ∷ []
unbid_latest [] r = refl
unbid_latest (s ∷ []) r = refl
unbid_latest (s ∷ (q ∷ rounds)) r = ap (λ rs. s ∷ rs) (unbid_latest (q ∷ rounds) r)

enrolled_long : (ys : List (List ℕ)) (b : Option (List ℕ)) → length (enrolled ys b) ≤ length ys + 1
enrolled_long ys None = omega arith
enrolled_long ys (Some x) = elim (cases_Bool (listed ys x)) [
  | inl t ↦ rw t (omega arith)
  | inr f ↦ rw f (omega (arith, length-append ys (x ∷ [])))
]

roll_on_long : (ys : List (List ℕ)) (rounds : List Round) → length (roll_on ys rounds) ≤ length ys + length rounds
roll_on_long ys [] = omega arith
roll_on_long ys (r ∷ rounds) = omega (arith, roll_on_long (enrolled ys r.bid) rounds, enrolled_long ys r.bid)

-- the roll is no longer than the rounds
pub roll_few : (rounds : List Round) → length (roll rounds) ≤ length rounds
roll_few rounds = omega (arith, roll_on_long [] rounds)

-- one more package
pub packages_more : (n : ℕ) (rows : List (List ℕ)) (k : ℕ) → packages_of n rows (k + 1) ≡ packages_of n rows k ++ row_at n rows k ∷ []
packages_more n rows k = map-range_with_len_more (row_at n rows) 0 k k (omega arith)

-- one more package written
pub packages_written : (n : ℕ) (rows : List (List ℕ)) (k : ℕ) (cells : List ℕ) → k < length rows
    → packages_of n (set rows k cells) (k + 1) ≡ packages_of n rows k ++ take n cells ∷ []
packages_written n rows k cells h =
    packages_more n (set rows k cells) k
    ∙ ap (λ ys. ys ++ row_at n (set rows k cells) k ∷ [])
    (counted_alike (row_at n (set rows k cells)) (row_at n rows) k (λ a l. ap (take n) (get_or-set_other rows k a cells [] (omega arith))))
    ∙ ap (λ x. packages_of n rows k ++ take n x ∷ []) (get_or-set_same rows k cells [] h)

-- rows that agree in their first cells are the same packages
module _ (n : ℕ) (rows' rows : List (List ℕ)) where
  pub packages_alike : (k : ℕ) → ((a : ℕ) → row_at n rows' a ≡ row_at n rows a) → packages_of n rows' k ≡ packages_of n rows k
  packages_alike k alike = counted_alike (row_at n rows') (row_at n rows) k (λ a _. alike a)

  pub rounds_alike : (played : List Played) (k : ℕ) → ((a : ℕ) → row_at n rows' a ≡ row_at n rows a) → rounds_of n rows' played k ≡ rounds_of n rows played k
  rounds_alike played k alike =
      counted_alike (round_at n rows' played) (round_at n rows played) k (λ t _. ap (λ b. record { prices = take n (prices_of played t); bid = b }) (mapped (bid_of played t)))
    where
      mapped : (o : Option ℕ) → option_map (row_at n rows') o ≡ option_map (row_at n rows) o
      mapped None = refl
      mapped (Some a) = ap Some (alike a)

-- a row written over one that agrees with it
pub rows_alike : (n : ℕ) (rows : List (List ℕ)) (p : ℕ) (cells : List ℕ) → p < length rows → row_at n rows p ≡ take n cells
    → (a : ℕ) → row_at n (set rows p cells) a ≡ row_at n rows a
rows_alike n rows p cells room is a = elim (cases_eq a p) [
  | inl e ↦ subst (λ b. row_at n (set rows p cells) b ≡ row_at n rows b) (sym e) (ap (take n) (get_or-set_same rows p cells [] room) ∙ sym is)
  | inr ne ↦ ap (take n) (get_or-set_other rows p a cells [] ne)
]

module _ (n : ℕ) (rows : List (List ℕ)) (played : List Played) where
  -- what is kept of a round, read as that round
  abbrev read : Played → Round
  read p = record { prices = take n p.prices; bid = option_map (row_at n rows) p.bid }

  -- a round written after the others
  pub rounds_set : (k : ℕ) (r : Played) → k < length played → rounds_of n rows (set played k r) (k + 1) ≡ rounds_of n rows played k ++ read r ∷ []
  rounds_set k r room =
      rounds_more n rows (set played k r) k
      ∙ ap (λ rs. rs ++ round_at n rows (set played k r) k ∷ [])
      (counted_alike (round_at n rows (set played k r)) (round_at n rows played) k (λ t l. ap read (get_or-set_other played k t r blank (omega arith))))
      ∙ ap (λ p. rounds_of n rows played k ++ read p ∷ []) (get_or-set_same played k r blank room)

  -- a row written past every package that was bid for
  pub rounds_written : (k p : ℕ) (cells : List ℕ) → ((t a : ℕ) → t < k → bid_of played t ≡ Some a → a < p)
      → rounds_of n (set rows p cells) played k ≡ rounds_of n rows played k
  rounds_written k p cells within = counted_alike (round_at n (set rows p cells) played) (round_at n rows played) k (λ t l.
      ap (λ b. record { prices = take n (prices_of played t); bid = b }) (kept (bid_of played t) (λ a e. within t a l e)))
    where
      kept : (o : Option ℕ) → ((a : ℕ) → o ≡ Some a → a < p) → option_map (row_at n (set rows p cells)) o ≡ option_map (row_at n rows) o
      kept None below = refl
      kept (Some a) below = ap (λ x. Some (take n x)) (get_or-set_other rows p a cells [] (let l = below a refl in omega arith))

  -- places stay within bounds
  pub bids_within : (k q : ℕ) (r : Played) → k < length played → ((t a : ℕ) → t < k → bid_of played t ≡ Some a → a < q) → ((a : ℕ) → r.bid ≡ Some a → a < q)
      → (t a : ℕ) → t < k + 1 → bid_of (set played k r) t ≡ Some a → a < q
  bids_within k q r room earlier here t a l e = elim (cases_eq t k) [
    | inl is ↦ here a (sym (ap (λ p. p.bid) (get_or-set_same played k r blank room)) ∙ ap (bid_of (set played k r)) (sym is) ∙ e)
    | inr ne ↦ earlier t a (omega arith) (sym (ap (λ p. p.bid) (get_or-set_other played k t r blank ne)) ∙ e)
  ]

  -- the latest of k rounds
  module _ (k latest : ℕ) (is_latest : latest + 1 ≡ k) where
    before_latest : rounds_of n rows played k ≡ rounds_of n rows played latest ++ round_at n rows played latest ∷ []
    before_latest = ap (rounds_of n rows played) (sym is_latest) ∙ rounds_more n rows played latest

    -- the roll, from that of the rounds before
    pub latest_roll : roll (rounds_of n rows played k) ≡ enrolled (roll (rounds_of n rows played latest)) (option_map (row_at n rows) (bid_of played latest))
    latest_roll = ap roll before_latest ∙ roll_round (rounds_of n rows played latest) (round_at n rows played latest)

    -- another bid in that round
    abbrev pub rebid : Option ℕ → List Played
    rebid b = set played latest (record { prices = prices_of played latest; bid = b })

    module _ (room : latest < length played) where
      after_bid : (b : Option ℕ) → rounds_of n rows (rebid b) k ≡ rounds_of n rows played latest ++ record { prices = take n (prices_of played latest); bid = option_map (row_at n rows) b } ∷ []
      after_bid b = ap (rounds_of n rows (rebid b)) (sym is_latest) ∙ rounds_set latest _ room

      -- a bid written there is offered
      pub bid_offered : (a : ℕ) → rounds_of n rows (rebid (Some a)) k ≡ offered (rounds_of n rows played k) (row_at n rows a)
      bid_offered a =
          after_bid (Some a) ∙ sym (offered_latest (rounds_of n rows played latest) (round_at n rows played latest) (row_at n rows a))
          ∙ ap (λ rs. offered rs (row_at n rows a)) (sym before_latest)

      -- a bid taken away there
      pub bid_taken : rounds_of n rows (rebid None) k ≡ unbid (rounds_of n rows played k)
      bid_taken =
          after_bid None ∙ sym (unbid_latest (rounds_of n rows played latest) (round_at n rows played latest)) ∙ ap unbid (sym before_latest)

      pub unbid_roll : roll (rounds_of n rows (rebid None) k) ≡ roll (rounds_of n rows played latest)
      unbid_roll = ap roll (after_bid None) ∙ roll_round (rounds_of n rows played latest) _

      module _ (free : bid_of played latest ≡ None) where
        free_roll : roll (rounds_of n rows played k) ≡ roll (rounds_of n rows played latest)
        free_roll = latest_roll ∙ ap (λ b. enrolled (roll (rounds_of n rows played latest)) (option_map (row_at n rows) b)) free

        -- where the latest round has no bid, there are fewer packages than rounds
        pub free_few : length (roll (rounds_of n rows played k)) < k
        free_few = omega (arith, ap length free_roll, roll_few (rounds_of n rows played latest), rounds_long n rows played latest)

        pub offered_roll : (a : ℕ) → roll (rounds_of n rows (rebid (Some a)) k) ≡ enrolled (roll (rounds_of n rows played k)) (Some (row_at n rows a))
        offered_roll a =
            ap roll (after_bid (Some a)) ∙ roll_round (rounds_of n rows played latest) _ ∙ ap (λ ys. enrolled ys (Some (row_at n rows a))) (sym free_roll)

pub enrolled_known : (ys : List (List ℕ)) (x : List ℕ) → listed ys x ≡ true → enrolled ys (Some x) ≡ ys
enrolled_known ys x h = rw h refl

pub enrolled_new : (ys : List (List ℕ)) (x : List ℕ) → listed ys x ≡ false → enrolled ys (Some x) ≡ ys ++ x ∷ []
enrolled_new ys x h = rw h refl
