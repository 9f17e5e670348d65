-- What a table says of its rounds, round by round, and of its roll, place by place.
use Rattle.std.proofs.Common.{◌≡◌, ℕ, ◌+◌, ◌<◌, ◌≤◌, List, [], ◌∷◌, ◌++◌, length, get_or, take, Some, None, Option, sym, refl, ap, ◌∙◌, subst, arith}
use Rattle.std.proofs.lemmas.List.FromFn.{get_or-map-range_with_len, length-map-range_with_len, map-range_with_len_more}
use Rattle.std.proofs.lemmas.List.{get_or-take, get_or_past, length-take-le}
use Rattle.std.proofs.lemmas.Option.{none-some, same_Some}
use Rattle.std.specs.Option.{MatchOption, option_and_then, option_copied, option_map}
use Rattle.std.specs.List.{HoldsAt}
use denote.Ref.{Bor}
use Rattle.chains.proofs.Places.{stood_before}
use Rattle.chains.specs.Places.{package_at}
use Rattle.chains.specs.Rounds.{Placed, round, Stood, roll}
use Rattle.tables.proofs.Tables.{not_listed, packages_at, packages_long}
use Rattle.tables.specs.Readings.{BidAt, PackageAt, PricesAt}
use Rattle.tables.specs.Tables.{Found, row_at, prices_of, blank, bid_of, round_at, rounds_of}
use Rattle.tables.specs.declared.table.Round.{Round as Played}
use Rattle.tables.specs.View.{rounds}
use Rattle.tables.specs.declared.table.Table.{Table}

-- a bid that was read by its place
pub mapped_some : {X Y : Type 0} (f : X → Y) (o : Option X) (y : Y) → option_map f o ≡ Some y → (x : X) × (o ≡ Some x) × (f x ≡ y)
mapped_some f None y h = absurd (none-some y h)
mapped_some f (Some x) y h = (x, refl, same_Some (f x) y h)

module _ (n : ℕ) (rows : List (List ℕ)) (played : List Played) (k : ℕ) where
  pub rounds_long : length (rounds_of n rows played k) ≡ k
  rounds_long = length-map-range_with_len (round_at n rows played) 0 k

  pub round_is : (t : ℕ) → t < k → round (rounds_of n rows played k) t ≡ round_at n rows played t
  round_is t h = get_or-map-range_with_len (round_at n rows played) 0 k t t _ h (omega arith)

  -- one more round
  pub rounds_more : rounds_of n rows played (k + 1) ≡ rounds_of n rows played k ++ round_at n rows played k ∷ []
  rounds_more = map-range_with_len_more (round_at n rows played) 0 k k (omega arith)

  -- a package stood exactly in the rounds whose bid is its place
  pub stood_bid : (t : ℕ) (x : List ℕ) → Stood (rounds_of n rows played k) t x → (t < k) × (a : ℕ) × (bid_of played t ≡ Some a) × (row_at n rows a ≡ x)
  stood_bid t x h =
      let before : t < k = omega (arith, stood_before (rounds_of n rows played k) t x h, rounds_long) in
      let p = mapped_some (row_at n rows) (bid_of played t) x (sym (ap (λ r. r.bid) (round_is t before)) ∙ h) in
      (before, p.0, p.1, p.2)

  pub bid_stood : (t a : ℕ) → t < k → bid_of played t ≡ Some a → Stood (rounds_of n rows played k) t (row_at n rows a)
  bid_stood t a h e = ap (λ r. r.bid) (round_is t h) ∙ ap (option_map (row_at n rows)) e

module _ (T : Table) where
  -- as many rounds as the table counts
  pub table_rounds : length (rounds T) ≡ T.rounds
  table_rounds = rounds_long T.products T.rows T.played T.rounds

  -- the roll is as long as the table has packages
  pub table_roll : length (roll (rounds T)) ≡ T.packages
  table_roll = ap length T.enrolled ∙ packages_long T.products T.rows T.packages

  -- a place of the roll is a row of the table
  pub table_package : (a : ℕ) → a < T.packages → package_at (rounds T) a ≡ row_at T.products T.rows a
  table_package a h = ap (λ ys. get_or ys a []) T.enrolled ∙ packages_at T.products T.rows T.packages a h

  pub table_prices : (t : ℕ) → t < T.rounds → (round (rounds T) t).prices ≡ take T.products (prices_of T.played t)
  table_prices t h = ap (λ r. r.prices) (round_is T.products T.rows T.played T.rounds t h)

  pub table_bid : (t : ℕ) → t < T.rounds → (round (rounds T) t).bid ≡ option_map (row_at T.products T.rows) (bid_of T.played t)
  table_bid t h = ap (λ r. r.bid) (round_is T.products T.rows T.played T.rounds t h)

  -- a package stood exactly in the rounds whose bid is its place
  pub table_stood : (t : ℕ) (x : List ℕ) → Stood (rounds T) t x → (t < T.rounds) × (a : ℕ) × (bid_of T.played t ≡ Some a) × (a < T.packages) × (package_at (rounds T) a ≡ x)
  table_stood t x h =
      let p = stood_bid T.products T.rows T.played T.rounds t x h in
      let l = T.within t p.1 p.0 p.2 in
      (p.0, p.1, p.2, l, table_package p.1 l ∙ p.3)

  pub table_stands : (t a : ℕ) → t < T.rounds → bid_of T.played t ≡ Some a → Stood (rounds T) t (package_at (rounds T) a)
  table_stands t a h e =
      subst (λ x. Stood (rounds T) t x) (sym (table_package a (T.within t a h e))) (bid_stood T.products T.rows T.played T.rounds t a h e)

  -- a round, from the rounds in use
  pub table_round : (t : ℕ) (r : Option (Bor Played)) → T.rounds ≤ length T.played
      → MatchOption r (length (take T.rounds T.played) ≤ t) (λ p. (t < length (take T.rounds T.played)) × HoldsAt (λ q. p.now ≡ q) (take T.rounds T.played) t)
      → PricesAt T.products (rounds T) t (option_map (λ p. p.now.prices) r) × BidAt (rounds T) t (option_and_then (λ p. p.now.bid) r)
  table_round t None room past =
      let long = length-take-le T.rounds T.played room in
      ((λ l. omega (arith, table_rounds)), ap (λ r. r.bid) (get_or_past (rounds T) t _ (omega (arith, table_rounds))))
  table_round t (Some p) room here =
      let l : t < T.rounds = omega (arith, here.0, length-take-le T.rounds T.played room) in
      let is : p.now ≡ get_or T.played t blank = here.1 blank ∙ get_or-take T.rounds T.played t blank l in
      ((omega (arith, table_rounds), ap (λ q. take T.products q.prices) is ∙ sym (table_prices t l)), bid_at t p.now.bid l (ap (λ q. q.bid) (sym is)))
    where
      bid_at : (s : ℕ) (o : Option ℕ) → s < T.rounds → bid_of T.played s ≡ o → BidAt (rounds T) s o
      bid_at s None h e = table_bid s h ∙ ap (option_map (row_at T.products T.rows)) e
      bid_at s (Some a) h e = (omega (arith, table_roll, T.within s a h e), table_stands s a h e)

  -- a package, from the rows in use
  pub table_row : (a : ℕ) (r : Option (Bor (List ℕ))) → T.packages ≤ length T.rows
      → MatchOption r (length (take T.packages T.rows) ≤ a) (λ x. (a < length (take T.packages T.rows)) × HoldsAt (λ y. x.now ≡ y) (take T.packages T.rows) a)
      → PackageAt T.products (rounds T) a (option_copied r)
  table_row a None room past = λ l. omega (arith, table_roll, length-take-le T.packages T.rows room)
  table_row a (Some x) room here =
      let l : a < T.packages = omega (arith, here.0, length-take-le T.packages T.rows room) in
      (omega (arith, table_roll), ap (take T.products) (here.1 [] ∙ get_or-take T.packages T.rows a [] l) ∙ sym (table_package a l))

  -- a package is on the roll where the rows in use have it
  pub table_placed : (x : List ℕ) (r : Option ℕ) → length x ≡ T.products → T.packages ≤ length T.rows
      → Found (length x) (take T.packages T.rows) (length (take T.packages T.rows)) x r → Placed (roll (rounds T)) x r
  table_placed x r long room found = placed r (subst (λ k. Found (length x) (take T.packages T.rows) k x r) (length-take-le T.packages T.rows room) found)
    where
      is_row : (a : ℕ) → a < T.packages → row_at (length x) (take T.packages T.rows) a ≡ package_at (rounds T) a
      is_row a h = ap (take (length x)) (get_or-take T.packages T.rows a [] h) ∙ ap (λ n. row_at n T.rows a) long ∙ sym (table_package a h)

      placed : (o : Option ℕ) → Found (length x) (take T.packages T.rows) T.packages x o → Placed (roll (rounds T)) x o
      placed (Some a) h = (omega (arith, h.0, table_roll), sym (is_row a h.0) ∙ h.1)
      placed None h = not_listed (roll (rounds T)) x (λ a l e. let in_table : a < T.packages = omega (arith, table_roll) in h a in_table (is_row a in_table ∙ e))
