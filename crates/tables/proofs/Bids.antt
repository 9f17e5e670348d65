-- A table whose latest round is given a bid, or whose bid is taken away.
use Rattle.std.proofs.Common.{◌≡◌, ℕ, ◌+◌, ◌-◌, ◌<◌, ◌≤◌, true, false, eqb, ltb, ◌≢◌, List, [], ◌∷◌, ◌++◌, length, get_or, take, set, max, unwrap_or, is_none, is_some, Some, None, Option, sym, refl, ap, ◌∙◌, subst, inl, inr, arith, lt-ltb, eq-eqb, if◌then◌else◌, get_or-set_same}
use Rattle.std.proofs.lemmas.List.{same_from_push}
use Rattle.std.proofs.lemmas.Bool.{and_parts, both_ways, cases_Bool, eqb-true, not-true}
use Rattle.std.proofs.lemmas.Option.{same_Some}
use Rattle.std.specs.Option.{option_map}
use Rattle.chains.proofs.Rolls.{listed_place, place_listed, roll_distinct, roll_stood, stood_on_roll}
use Rattle.chains.specs.Rounds.{Round, Placed, round, listed, enrolled, roll, offered}
use Rattle.tables.proofs.Changes.{bid_offered, bids_within, enrolled_known, enrolled_new, free_few, latest_roll, offered_roll, packages_alike, packages_more, packages_written, rebid, rounds_alike, rounds_written, rows_alike, takes_bid_unless}
use Rattle.tables.proofs.Tables.{packages_at, packages_long}
use Rattle.tables.proofs.Views.{bid_stood, stood_bid, table_bid, table_package, table_roll, table_rounds}
use Rattle.tables.specs.Changes.{bid_error, has_bid, takes_bid}
use Rattle.tables.specs.Tables.{row_at, packages_of, prices_of, bid_of, rounds_of}
use Rattle.tables.specs.declared.table.Round.{Round as Played}
use Rattle.tables.specs.View.{rounds}
use Rattle.tables.specs.declared.table.Table.{Table}
use Rattle.tables.specs.declared.table.errors.BidError.TheVariants.{BidStands}

some_mapped : {X Y : Type 0} (f : X → Y) (o : Option X) → is_some (option_map f o) ≡ is_some o
some_mapped f None = refl
some_mapped f (Some x) = refl

none_of : {X : Type 0} (o : Option X) → is_some o ≡ false → o ≡ None
none_of None h = refl
none_of (Some x) h = absurd (both_ways true h refl)

module _ (T : Table) where
  -- whether the latest round has a bid, from the table
  pub latest_bid : (latest : ℕ) → latest + 1 ≡ T.rounds → has_bid (rounds T) ≡ is_some (bid_of T.played latest)
  latest_bid latest is =
      ap (λ k. is_some (round (rounds T) k).bid) (omega (arith, table_rounds T))
      ∙ ap is_some (table_bid T latest (omega arith)) ∙ some_mapped (row_at T.products T.rows) (bid_of T.played latest)

  -- why the latest round does not take a row of the right length, from the table
  pub error_latest : (row : List ℕ) (latest : ℕ) → length row ≡ T.products → latest + 1 ≡ T.rounds
      → bid_error T.products (rounds T) row ≡ (if is_some (bid_of T.played latest) then Some BidStands else None)
  error_latest row latest long is =
      rw (eq-eqb (length row) T.products long, lt-ltb 0 (length (rounds T)) (omega (arith, table_rounds T)), latest_bid latest is) refl

  -- a package has one place
  pub one_place : (a b : ℕ) → a < T.packages → b < T.packages → row_at T.products T.rows a ≡ row_at T.products T.rows b → a ≡ b
  one_place a b ha hb e =
      roll_distinct (rounds T) a b (omega (arith, table_roll T)) (omega (arith, table_roll T)) (table_package T a ha ∙ e ∙ sym (table_package T b hb))

  -- the rounds before round t
  abbrev before : ℕ → List Round
  before t = rounds_of T.products T.rows T.played t

  -- what a bid that is set at a place makes of the table, which then has so many packages
  pub record BidSet (rows' : List (List ℕ)) (played' : List Played) (row : List ℕ) (place many : ℕ) : Type 0 where
    pub long : length row ≡ T.products
    pub below : place < 128
    pub few : many ≤ 128
    pub within : (t a : ℕ) → t < T.rounds → bid_of played' t ≡ Some a → a < many
    pub roll_is : roll (rounds_of T.products rows' played' T.rounds) ≡ packages_of T.products rows' many
    pub enrols : roll (rounds_of T.products rows' played' T.rounds) ≡ enrolled (roll (rounds T)) (Some row)
    pub after : rounds_of T.products rows' played' T.rounds ≡ offered (rounds T) row
    pub placed : Placed (roll (rounds_of T.products rows' played' T.rounds)) row (Some place)

  module _ (row : List ℕ) (latest : ℕ) (takes : takes_bid T.products (rounds T) row ≡ true) (is_latest : latest + 1 ≡ T.rounds) (room : latest < length T.played) where
    pub row_long : length row ≡ T.products
    row_long = eqb-true (length row) T.products (and_parts (eqb (length row) T.products) _ takes).0

    free : bid_of T.played latest ≡ None
    free = none_of (bid_of T.played latest) (sym (latest_bid latest is_latest) ∙ not-true (has_bid (rounds T)) (and_parts (ltb 0 (length (rounds T))) _ (and_parts (eqb (length row) T.products) _ takes).1).1)

    -- there is room for one more package
    pub few : T.packages < 128
    few = omega (arith, free_few T.products T.rows T.played T.rounds latest is_latest room free, table_roll T, T.few_rounds)

    -- the bid's cells are written at its place
    module _ (cells : List ℕ) (are : take T.products cells ≡ row) (rows_room : 128 ≤ length T.rows) where
      abbrev written : ℕ → List (List ℕ)
      written place = set T.rows place cells

      -- the place serves, whether the package is on the roll or comes last
      record Serves (place : ℕ) : Type 0 where
        pub below : place < 128
        pub same : rounds_of T.products (written place) T.played T.rounds ≡ rounds T
        pub roll_is : enrolled (roll (rounds T)) (Some row) ≡ packages_of T.products (written place) (max T.packages (place + 1))

      serves : (found : Option ℕ) → Placed (roll (rounds T)) row found → Serves (unwrap_or found T.packages)
      serves (Some place) known =
          let on_roll : place < T.packages = omega (arith, known.0, table_roll T) in
          let is_row : row_at T.products T.rows place ≡ take T.products cells = sym (table_package T place on_roll) ∙ known.1 ∙ sym are in
          let alike = rows_alike T.products T.rows place cells (omega (arith, T.few_packages)) is_row in
          record {
            below = omega (arith, T.few_packages);
            same = rounds_alike T.products (written place) T.rows T.played T.rounds alike;
            roll_is =
                enrolled_known (roll (rounds T)) row (subst (λ x. listed (roll (rounds T)) x ≡ true) known.1 (place_listed (roll (rounds T)) place known.0))
                ∙ T.enrolled ∙ sym (packages_alike T.products (written place) T.rows T.packages alike)
                ∙ ap (packages_of T.products (written place)) (omega arith);
          }
      serves None new = record {
        below = few;
        same = rounds_written T.products T.rows T.played T.rounds T.packages cells T.within;
        roll_is =
            enrolled_new (roll (rounds T)) row new ∙ ap (λ ys. ys ++ row ∷ []) T.enrolled ∙ ap (λ x. packages_of T.products T.rows T.packages ++ x ∷ []) (sym are)
            ∙ sym (packages_written T.products T.rows T.packages cells (omega (arith, few))) ∙ ap (packages_of T.products (written T.packages)) (omega arith);
      }

      set_at : (place : ℕ) → Serves place → BidSet (written place) (rebid T.products T.rows T.played T.rounds latest is_latest (Some place)) row place (max T.packages (place + 1))
      set_at place here =
          let many = max T.packages (place + 1) in
          let is_written : row_at T.products (written place) place ≡ row = ap (take T.products) (get_or-set_same T.rows place cells [] (omega (arith, here.below))) ∙ are in
          let enrols =
          offered_roll T.products (written place) T.played T.rounds latest is_latest room free place
          ∙ ap (λ rs. enrolled (roll rs) (Some (row_at T.products (written place) place))) here.same ∙ ap (λ x. enrolled (roll (rounds T)) (Some x)) is_written in
          let roll_is = enrols ∙ here.roll_is in
          record {
            long = row_long;
            below = here.below;
            few = omega (arith, here.below, T.few_packages);
            within = λ t a l.
                bids_within T.products T.rows T.played latest many _ room (λ s b h e. let below = T.within s b (omega arith) e in omega arith)
                (λ b e. omega (arith, same_Some place b e)) t a (omega arith);
            roll_is = roll_is;
            enrols = enrols;
            after =
                bid_offered T.products (written place) T.played T.rounds latest is_latest room place
                ∙ ap (λ rs. offered rs (row_at T.products (written place) place)) here.same ∙ ap (offered (rounds T)) is_written;
            placed = (
              omega (arith, ap length roll_is, packages_long T.products (written place) many),
              ap (λ ys. get_or ys place []) roll_is ∙ packages_at T.products (written place) many place (omega arith) ∙ is_written,
            );
          }

  pub bid_set : (row cells : List ℕ) (latest place many : ℕ) (found : Option ℕ) → None ≡ bid_error T.products (rounds T) row → latest + 1 ≡ T.rounds
      → latest < length T.played → 128 ≤ length T.rows → take (length row) cells ≡ row → Placed (roll (rounds T)) (take T.products cells) found
      → place ≡ unwrap_or found T.packages → many ≡ max T.packages (place + 1)
      → BidSet (set T.rows place cells) (set T.played latest (record { prices = prices_of T.played latest; bid = Some place })) row place many
  bid_set row cells latest place many found fit is room rows_room front placed at upto =
      let takes = takes_bid_unless T.products (rounds T) row ∙ ap is_none (sym fit) in
      let are : take T.products cells ≡ row = ap (λ k. take k cells) (sym (row_long row latest takes is room)) ∙ front in
      let here = serves row latest takes is room cells are rows_room found (subst (λ x. Placed (roll (rounds T)) x found) are placed) in
      subst (λ m. BidSet (set T.rows place cells) (rebid T.products T.rows T.played T.rounds latest is (Some place)) row place m) (sym upto)
      (subst (λ p. BidSet (set T.rows p cells) (rebid T.products T.rows T.played T.rounds latest is (Some p)) row p (max T.packages (p + 1))) (sym at)
      (set_at row latest takes is room cells are rows_room (unwrap_or found T.packages) here))

  -- who stood before round t
  module _ (t place : ℕ) (in_time : t ≤ T.rounds) (on_roll : place < T.packages) where
    pub stood_listed : (s : ℕ) → s < t → bid_of T.played s ≡ Some place → listed (roll (before t)) (row_at T.products T.rows place) ≡ true
    stood_listed s h e =
        stood_on_roll (before t) s (row_at T.products T.rows place) (bid_stood T.products T.rows T.played t s place h e)

    pub unstood_unlisted : ((s : ℕ) → s < t → bid_of T.played s ≢ Some place) → listed (roll (before t)) (row_at T.products T.rows place) ≡ false
    unstood_unlisted none = elim (cases_Bool (listed (roll (before t)) (row_at T.products T.rows place))) [
      | inl on ↦
          let s = roll_stood (before t) (row_at T.products T.rows place) on in
          let b = stood_bid T.products T.rows T.played t s.0 (row_at T.products T.rows place) s.1 in
          let below = T.within s.0 b.1 (omega (arith, b.0)) b.2 in
          absurd (none s.0 b.0 (b.2 ∙ ap Some (one_place b.1 place below on_roll b.3)))
      | inr f ↦ f
    ]

  -- the bid of the latest round, and the roll without it
  module _ (latest place : ℕ) (is_latest : latest + 1 ≡ T.rounds) (bid : bid_of T.played latest ≡ Some place) where
    pub latest_on_roll : place < T.packages
    latest_on_roll = T.within latest place (omega arith) bid

    last_enrols : enrolled (roll (before latest)) (Some (row_at T.products T.rows place)) ≡ packages_of T.products T.rows T.packages
    last_enrols =
        ap (λ b. enrolled (roll (before latest)) (option_map (row_at T.products T.rows) b)) (sym bid)
        ∙ sym (latest_roll T.products T.rows T.played T.rounds latest is_latest) ∙ T.enrolled

    -- it stood before
    pub stays : (s : ℕ) → s < latest → bid_of T.played s ≡ Some place → roll (before latest) ≡ packages_of T.products T.rows T.packages
    stays s h e =
        sym (enrolled_known (roll (before latest)) (row_at T.products T.rows place) (stood_listed latest place (omega arith) latest_on_roll s h e)) ∙ last_enrols

    -- it stood only there
    module _ (only : (s : ℕ) → s < latest → bid_of T.played s ≢ Some place) where
      new : listed (roll (before latest)) (row_at T.products T.rows place) ≡ false
      new = unstood_unlisted latest place (omega arith) latest_on_roll only

      pub gives_back : roll (before latest) ≡ packages_of T.products T.rows (T.packages - 1)
      gives_back =
          let one_less : T.packages ≡ T.packages - 1 + 1 = omega (arith, latest_on_roll) in
          (same_from_push _ _ _ _
          (sym (enrolled_new (roll (before latest)) (row_at T.products T.rows place) new) ∙ last_enrols
          ∙ ap (packages_of T.products T.rows) one_less ∙ packages_more T.products T.rows (T.packages - 1))).0

      pub gives_back_within : (t a : ℕ) → t < latest → bid_of T.played t ≡ Some a → a < T.packages - 1
      gives_back_within t a h e =
          let on = stood_on_roll (before latest) t (row_at T.products T.rows a) (bid_stood T.products T.rows T.played latest t a h e) in
          let p = listed_place (roll (before latest)) (row_at T.products T.rows a) on in
          let below : p.0 < T.packages - 1 = omega (arith, p.1, ap length gives_back, packages_long T.products T.rows (T.packages - 1)) in
          let is = one_place p.0 a (omega arith) (T.within t a (omega arith) e)
          (sym (packages_at T.products T.rows (T.packages - 1) p.0 below) ∙ ap (λ ys. get_or ys p.0 []) (sym gives_back) ∙ p.2) in
          omega arith
