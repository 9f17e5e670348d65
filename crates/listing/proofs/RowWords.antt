-- Rows of numerals, word by word.
use Rattle.std.proofs.Common.{◌≡◌, ℕ, suc, ◌+◌, ◌-◌, ◌<◌, List, [], ◌∷◌, ◌++◌, map, length, set, drop, replicate, Ok, Err, Result, sym, refl, ap, ◌∙◌, subst, append_assoc, append-nil, arith, MatchResult}
use Rattle.listing.proofs.Sayings.{entry_back, entry_in, first_same, rest_same}
use Rattle.listing.specs.Lines.{Numeral, Says, value}
use Rattle.listing.specs.Scanning.{ReadsRecord, ReadsRow, Row}
use Rattle.listing.specs.Text.{cells}
use Rattle.std.proofs.ByRecursion.{All-map, All-push, All-weaker}
use Rattle.std.proofs.lemmas.List.{length-append, length-map, length_push, map_push, set_at, drop-replicate, map-id}
use Rattle.std.specs.List.{AllByRecursion}
use Rattle.tape.specs.Fields.{itself}
use Rattle.tape.specs.Format.{Entry, Fits, letter, padded, record_of}
use Rattle.tape.specs.Reading.{Fit}
use Rattle.tape.specs.declared.record.Record.{Record}

-- what holds of all holds of what stands behind a front
all_behind : {X : Type 0} (Q : X → Type 0) (xs : List X) (y : X) (ys : List X) → AllByRecursion Q (xs ++ y ∷ ys) → Q y
all_behind Q [] y ys h = h.0
all_behind Q (x ∷ xs) y ys h = all_behind Q xs y ys h.1

-- the next cell of a row
filled_more : {T : Type 0} (zero : T) (n : ℕ) (row : List T) (i : ℕ) (x : T) → length row ≡ i → i < n
    → set (row ++ replicate (n - length row) zero) i x ≡ (row ++ x ∷ []) ++ replicate (n - length (row ++ x ∷ [])) zero
filled_more zero n row i x many room =
    let left : n - length row ≡ suc (n - i - 1) = omega arith in
    let then : n - i - 1 ≡ n - length (row ++ x ∷ []) = omega (arith, length-append row (x ∷ [])) in
    ap (λ k. set (row ++ replicate k zero) i x) left ∙ set_at row zero (replicate (n - i - 1) zero) x i many ∙ sym (append_assoc row (x ∷ []) (replicate (n - i - 1) zero)) ∙ ap (λ k. (row ++ x ∷ []) ++ replicate k zero) then

-- the first i words of ws were read into the first of n cells, and left follow
pub record RowSaid {T : Type 0} (zero : T) (limit : ℕ) (value_of : T → ℕ) (n i : ℕ) (ws left : List (List ℕ)) (filled : List T) : Type 0 where
  pub done : List (List ℕ)
  pub row : List T
  pub many : length row ≡ i
  pub said : Row limit i done
  pub same : map value_of row ≡ map value done
  pub split : ws ≡ done ++ left
  pub holds : filled ≡ row ++ replicate (n - length row) zero

module _ {T : Type 0} (zero : T) (limit : ℕ) (value_of : T → ℕ) (n : ℕ) where
  pub row_none : (ws : List (List ℕ)) → RowSaid zero limit value_of n 0 ws ws (replicate n zero)
  row_none ws = record { done = []; row = []; many = refl; said = (refl, tt); same = refl; split = refl; holds = ap (λ k. replicate k zero) (omega arith) }

  -- one word more was read
  pub row_more : (i : ℕ) (x : T) (w : List ℕ) (ws left more : List (List ℕ)) (filled : List T) → i < n → left ≡ w ∷ more → Numeral w → value w ≡ value_of x → value w < limit
      → RowSaid zero limit value_of n i ws left filled → RowSaid zero limit value_of n (i + 1) ws more (set filled i x)
  row_more i x w ws left more filled room e numeral v small r = record {
    done = r.done ++ w ∷ [];
    row = r.row ++ x ∷ [];
    many = length_push r.row x ∙ ap (λ k. k + 1) r.many;
    said = (length_push r.done w ∙ ap (λ k. k + 1) r.said.0, All-push (λ u. Numeral u × (value u < limit)) r.done w r.said.1 (numeral, small));
    same = map_push value_of r.row x ∙ ap (λ l. l ++ value_of x ∷ []) r.same ∙ ap (λ y. map value r.done ++ y ∷ []) (sym v) ∙ sym (map_push value r.done w);
    split = r.split ∙ ap (λ l. r.done ++ l) e ∙ sym (append_assoc r.done (w ∷ []) more);
    holds = ap (λ l. set l i x) r.holds ∙ filled_more zero n r.row i x r.many room;
  }

  -- no row: the next word is missing, or writes no such number
  pub row_breaks : (i : ℕ) (ws left : List (List ℕ)) (filled : List T) → i < n
      → ((w : List ℕ) (more : List (List ℕ)) → left ≡ w ∷ more → Numeral w → value w < limit → ⊥)
      → RowSaid zero limit value_of n i ws left filled → Row limit n ws → ⊥
  row_breaks i ws [] filled short bad r row = omega (arith, ap length r.split, length-append r.done [], r.said.0, row.0)
  row_breaks i ws (w ∷ more) filled short bad r row =
      let here = all_behind (λ u. Numeral u × (value u < limit)) r.done w more (subst (AllByRecursion (λ u. Numeral u × (value u < limit))) r.split row.1) in
      bad w more refl here.0 here.1

  -- the whole row was read
  pub row_whole : (ws left : List (List ℕ)) (filled : List T) → left ≡ [] → RowSaid zero limit value_of n n ws left filled
      → ReadsRow {E = ℕ} zero limit value_of n ws (Ok (filled ++ drop n (replicate 16 zero)))
  row_whole ws left filled none r =
      let all = r.split ∙ ap (λ l. r.done ++ l) none ∙ append-nil r.done in
      let none_left : n - length r.row ≡ 0 = omega (arith, r.many) in
      let front = r.holds ∙ ap (λ k. r.row ++ replicate k zero) none_left ∙ append-nil r.row in
      let back = drop-replicate n 16 zero ∙ ap (λ k. replicate (16 - k) zero) (sym r.many) in
      (subst (Row limit n) (sym all) r.said, (r.row, r.same ∙ ap (map value) (sym all), ap (λ l. l ++ drop n (replicate 16 zero)) front ∙ ap (λ l. r.row ++ l) back))

row_each : (limit : ℕ) (ws : List (List ℕ)) → AllByRecursion Numeral ws → AllByRecursion (λ x. x < limit) (map value ws) → AllByRecursion (λ w. Numeral w × (value w < limit)) ws
row_each limit [] numerals small = tt
row_each limit (w ∷ ws) numerals small = ((numerals.0, small.0), row_each limit ws numerals.1 small.1)

-- a row of cells below a limit
abbrev RowFits : ℕ → ℕ → List ℕ → Type 0
RowFits limit n row = (length row ≡ n) × AllByRecursion (λ x. x < limit) row

-- the row that numerals write
row_of : (limit n : ℕ) (ws : List (List ℕ)) (row : List ℕ) → AllByRecursion Numeral ws → map value ws ≡ row → RowFits limit n row → Row limit n ws
row_of limit n ws row numerals e fits =
    (sym (length-map ws value) ∙ ap length e ∙ fits.0, row_each limit ws numerals (subst (AllByRecursion (λ x. x < limit)) (sym e) fits.1))

row_fits : (limit n : ℕ) (ws : List (List ℕ)) → Row limit n ws → RowFits limit n (map value ws)
row_fits limit n ws row =
    (length-map ws value ∙ row.0, All-map (λ x. x < limit) value ws (All-weaker (λ w. Numeral w × (value w < limit)) (λ w. value w < limit) (λ w h. h.1) ws row.1))

said_letter : (n b : ℕ) (ws : List (List ℕ)) (e : Entry) → Says n ((b ∷ []) ∷ ws) e → b ≡ letter e
said_letter n b ws e s = let first = first_same refl s.spelled in cc

-- words that begin with a letter say the entry of that letter
said_entry : (n b : ℕ) (ws : List (List ℕ)) (e : Entry) → Says n ((b ∷ []) ∷ ws) e → e ≡ entry_in b (cells e)
said_entry n b ws e s = sym (entry_back e) ∙ ap (λ c. entry_in c (cells e)) (sym (said_letter n b ws e s))

-- a letter that has a row says the entry of that row, and nothing else does
pub row_read : {E : Type 0} (n b limit : ℕ) (shape : List ℕ → Record)
    → ((row : List ℕ) → letter (entry_in b row) ≡ b) → ((row : List ℕ) → cells (entry_in b row) ≡ row) → ((row : List ℕ) → record_of (entry_in b row) ≡ shape (padded row))
    → ((row : List ℕ) → Fits n (entry_in b row) → RowFits limit n row) → ((row : List ℕ) → RowFits limit n row → Fits n (entry_in b row))
    → (ws : List (List ℕ)) (r : Result (List ℕ) E) (s : Result Record E) → Fit n → ReadsRow 0 limit itself n ws r → MatchResult r (λ x. s ≡ Ok (shape x)) (λ e. s ≡ Err e)
    → ReadsRecord n ((b ∷ []) ∷ ws) s
row_read n b limit shape lettered celled filed out into ws (Ok filled) s fit read same =
    let row = map value ws in
    let whole : filled ≡ padded row = read.1.2 ∙ ap padded (sym (map-id read.1.0) ∙ read.1.1) in
    let says : Says n ((b ∷ []) ∷ ws) (entry_in b row) = record {
      numerals = ws;
      spelled = ap (λ c. (c ∷ []) ∷ ws) (sym (lettered row));
      written = All-weaker (λ w. Numeral w × (value w < limit)) Numeral (λ w h. h.0) ws read.0.1;
      row = sym (celled row);
      fit = fit;
      fits = into row (row_fits limit n ws read.0);
    } in
    subst (ReadsRecord n ((b ∷ []) ∷ ws)) (sym same) (entry_in b row, says, ap shape whole ∙ sym (filed row))
row_read n b limit shape lettered celled filed out into ws (Err _) s fit read same = subst (ReadsRecord n ((b ∷ []) ∷ ws)) (sym same) (λ e says.
    let fits = out (cells e) (subst (Fits n) (said_entry n b ws e says) says.fits) in
    read (subst (Row limit n) (sym (rest_same refl says.spelled)) (row_of limit n says.numerals (cells e) says.written says.row fits)))
