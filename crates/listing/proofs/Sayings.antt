-- What words say: one thing at most, and what a line that was written says.
use Rattle.std.proofs.Common.{◌≡◌, ℕ, ◌^◌, ◌<◌, ◌≤◌, false, cond, eqb, List, [], ◌∷◌, ◌++◌, map, Some, None, Ok, Err, codes, decimal, Option, Result, MatchResult, sym, refl, ap, ◌∙◌, subst, append_assoc, append-nil, arith}
use Rattle.listing.proofs.Spelling.{ended_some}
use Rattle.listing.specs.Lines.{before_comment, blank, ended, Numeral, said, Says, SaysHeading, value, value_from, words, words_from}
use Rattle.listing.specs.Scanning.{HeadingBack, ReadsEntry, ReadsHeader, ReadsHeading, ReadsRecord}
use Rattle.listing.specs.Text.{cells, entry_text, heading_text, kind_name, row_text}
use Rattle.std.proofs.lemmas.Fmt.{decimal_nonempty, digits_decimal, digits_value-decimal}
use Rattle.std.proofs.ByRecursion.{All-weaker}
use Rattle.std.proofs.lemmas.Str.Parse.{IsNumeralModel, numerals_by_fold}
use Rattle.std.proofs.lemmas.Bool.{cond-false, ne_eqb, or_from}
use Rattle.std.specs.List.{AllByRecursion}
use Rattle.tape.specs.Format.{Entry, opening, offer, confirmation, withdrawal, closing, reading, Fits, letter, record_of}
use Rattle.tape.specs.Reading.{Fit}
use Rattle.tape.specs.declared.header.Header.{Header}
use Rattle.tape.specs.declared.header.Kind.{Kind}
use Rattle.tape.specs.declared.header.Kind.TheVariants.{Plain, Strict}
use Rattle.tape.specs.declared.record.Record.{Record}

-- two lists that are one begin alike and go on alike
pub first_same : {X : Type 0} {x y : X} {xs ys zs : List X} → zs ≡ x ∷ xs → zs ≡ y ∷ ys → x ≡ y
first_same p q = cc

pub rest_same : {X : Type 0} {x y : X} {xs ys zs : List X} → zs ≡ x ∷ xs → zs ≡ y ∷ ys → xs ≡ ys
rest_same p q = cc

-- the entry with that letter and those cells
abbrev pub entry_in : ℕ → List ℕ → Entry
entry_in b row =
    cond (eqb b 79) (opening row) (
    cond (eqb b 84) (offer row) (
    cond (eqb b 67) confirmation (
    cond (eqb b 87) withdrawal (
    cond (eqb b 83) closing reading))))

pub entry_back : (e : Entry) → entry_in (letter e) (cells e) ≡ e
entry_back (opening prices) = refl
entry_back (offer quantities) = refl
entry_back confirmation = refl
entry_back withdrawal = refl
entry_back closing = refl
entry_back reading = refl

-- words say one entry at most
pub says_one : (n : ℕ) (ws : List (List ℕ)) (d e : Entry) → Says n ws d → Says n ws e → d ≡ e
says_one n ws d e p q =
    let letters : letter d ≡ letter e = let first = first_same p.spelled q.spelled in cc in
    let numerals = ap (map value) (rest_same p.spelled q.spelled) in
    let row : cells d ≡ cells e = sym p.row ∙ numerals ∙ q.row in
    sym (entry_back d) ∙ ap (λ b. entry_in b (cells d)) letters ∙ ap (entry_in (letter e)) row ∙ entry_back e

kind_one : (k l : Kind) → kind_name k ≡ kind_name l → k ≡ l
kind_one Plain Plain e = refl
kind_one Plain Strict e = absurd (cc)
kind_one Strict Plain e = absurd (cc)
kind_one Strict Strict e = refl

-- words say one heading at most
pub heading_one : (ws : List (List ℕ)) (b p : ℕ) (k : Kind) (b' p' : ℕ) (k' : Kind) → SaysHeading ws b p k → SaysHeading ws b' p' k'
    → (b ≡ b') × (p ≡ p') × (k ≡ k')
heading_one ws b p k b' p' k' h h' =
    let after_book = rest_same h.spelled h'.spelled in
    let books : h.book_word ≡ h'.book_word = cc in
    let products : h.products_word ≡ h'.products_word = cc in
    let kinds : kind_name k ≡ kind_name k' = cc in
    (sym h.book_is ∙ ap value books ∙ h'.book_is, sym h.products_is ∙ ap value products ∙ h'.products_is, kind_one k k' kinds)

-- the digits of a number
own : IsNumeralModel (AllByRecursion (λ d. (48 ≤ d) × (d ≤ 57))) (value_from 0)
own =
    numerals_by_fold (AllByRecursion (λ d. (48 ≤ d) × (d ≤ 57)))
    (record { empty = tt; parts = λ c cs h. h; more = λ c cs digit h. (digit, h) }) value_from
    (record { empty = λ n. refl; more = λ n c cs digit. refl })

pub decimal_numeral : (n : ℕ) → n < 2 ^ 64 → Numeral (decimal n)
decimal_numeral n h = (decimal_nonempty n h, digits_decimal own n h)

pub decimal_value : (n : ℕ) → n < 2 ^ 64 → value (decimal n) ≡ n
decimal_value n h = digits_value-decimal own n h

-- digits are part of a word, and start no comment
digits_word : (word ds rest : List ℕ) → AllByRecursion (λ d. (48 ≤ d) × (d ≤ 57)) ds → words_from word (ds ++ rest) ≡ words_from (word ++ ds) rest
digits_word word [] rest h = ap (λ w. words_from w rest) (sym (append-nil word))
digits_word word (d ∷ ds) rest h =
    let plain : blank d ≡ false = or_from (eqb d 32) _ (ne_eqb d 32 (λ e. omega arith)) (or_from (eqb d 9) (eqb d 13) (ne_eqb d 9 (λ e. omega arith)) (ne_eqb d 13 (λ e. omega arith))) in
    cond-false (blank d) _ (words_from (word ++ d ∷ []) (ds ++ rest)) plain ∙ digits_word (word ++ d ∷ []) ds rest h.1 ∙ ap (λ w. words_from w rest) (append_assoc word (d ∷ []) ds)

digits_uncommented : (ds rest : List ℕ) → AllByRecursion (λ d. (48 ≤ d) × (d ≤ 57)) ds → before_comment (ds ++ rest) ≡ ds ++ before_comment rest
digits_uncommented [] rest h = refl
digits_uncommented (d ∷ ds) rest h =
    cond-false (eqb d 35) [] (d ∷ before_comment (ds ++ rest)) (ne_eqb d 35 (λ e. omega arith)) ∙ ap (λ l. d ∷ l) (digits_uncommented ds rest h.1)

-- a number and what follows it behind a blank
number_words : (n : ℕ) (rest : List ℕ) → n < 2 ^ 64 → words (decimal n ++ 32 ∷ rest) ≡ decimal n ∷ words rest
number_words n rest h = digits_word [] (decimal n) (32 ∷ rest) (digits_decimal own n h) ∙ ended_some (decimal n) (words rest) (decimal_nonempty n h)

number_uncommented : (n : ℕ) (rest : List ℕ) → n < 2 ^ 64 → before_comment (decimal n ++ rest) ≡ decimal n ++ before_comment rest
number_uncommented n rest h = digits_uncommented (decimal n) rest (digits_decimal own n h)

-- a row's numbers are words
row_words : (word row : List ℕ) → AllByRecursion (λ x. x < 2 ^ 64) row → words_from word (row_text row) ≡ ended word (map decimal row)
row_words word [] h = refl
row_words word (x ∷ xs) h =
    ap (ended word) (digits_word [] (decimal x) (row_text xs) (digits_decimal own x h.0) ∙ row_words (decimal x) xs h.1 ∙ ended_some (decimal x) (map decimal xs) (decimal_nonempty x h.0))

row_uncommented : (row : List ℕ) → AllByRecursion (λ x. x < 2 ^ 64) row → before_comment (row_text row) ≡ row_text row
row_uncommented [] h = refl
row_uncommented (x ∷ xs) h = ap (λ l. 32 ∷ l) (number_uncommented x (row_text xs) h.0 ∙ ap (λ l. decimal x ++ l) (row_uncommented xs h.1))

row_numerals : (row : List ℕ) → AllByRecursion (λ x. x < 2 ^ 64) row → AllByRecursion Numeral (map decimal row)
row_numerals [] h = tt
row_numerals (x ∷ xs) h = (decimal_numeral x h.0, row_numerals xs h.1)

row_values : (row : List ℕ) → AllByRecursion (λ x. x < 2 ^ 64) row → map value (map decimal row) ≡ row
row_values [] h = refl
row_values (x ∷ xs) h =
    let first = decimal_value x h.0 in
    let rest = row_values xs h.1 in
    cc

pub cells_fit : (n : ℕ) (e : Entry) → Fits n e → AllByRecursion (λ x. x < 2 ^ 64) (cells e)
cells_fit n (opening prices) f = All-weaker (λ x. x < 2 ^ 32) (λ x. x < 2 ^ 64) (λ x h. omega arith) prices f.1
cells_fit n (offer quantities) f = All-weaker (λ x. x < 2 ^ 8) (λ x. x < 2 ^ 64) (λ x h. omega arith) quantities f.1
cells_fit n confirmation f = tt
cells_fit n withdrawal f = tt
cells_fit n closing f = tt
cells_fit n reading f = tt

-- a letter begins a word, and no comment
letter_words : (e : Entry) (rest : List ℕ) → words (letter e ∷ rest) ≡ words_from (letter e ∷ []) rest
letter_words (opening prices) rest = refl
letter_words (offer quantities) rest = refl
letter_words confirmation rest = refl
letter_words withdrawal rest = refl
letter_words closing rest = refl
letter_words reading rest = refl

letter_uncommented : (e : Entry) (rest : List ℕ) → before_comment (letter e ∷ rest) ≡ letter e ∷ before_comment rest
letter_uncommented (opening prices) rest = refl
letter_uncommented (offer quantities) rest = refl
letter_uncommented confirmation rest = refl
letter_uncommented withdrawal rest = refl
letter_uncommented closing rest = refl
letter_uncommented reading rest = refl

-- the text of an entry says it
pub entry_said : (n : ℕ) (e : Entry) → Fit n → Fits n e → Says n (said (entry_text e)) e
entry_said n e fit fits =
    let row = cells e in
    let small = cells_fit n e fits in
    let plain = letter_uncommented e (row_text row) ∙ ap (λ l. letter e ∷ l) (row_uncommented row small) in
    record {
      numerals = map decimal row;
      spelled = ap words plain ∙ letter_words e (row_text row) ∙ row_words (letter e ∷ []) row small;
      written = row_numerals row small;
      row = row_values row small;
      fit = fit;
      fits = fits;
    }

kind_words : (k : Kind) → said (kind_name k) ≡ kind_name k ∷ []
kind_words Plain = refl
kind_words Strict = refl

kind_uncommented : (k : Kind) → before_comment (kind_name k) ≡ kind_name k
kind_uncommented Plain = refl
kind_uncommented Strict = refl

-- the text of a heading says it
pub heading_said : (b p : ℕ) (k : Kind) → b < 2 ^ 16 → Fit p → SaysHeading (said (heading_text b p k)) b p k
heading_said b p k small fit =
    let book : b < 2 ^ 64 = omega arith in
    let products : p < 2 ^ 64 = omega arith in
    let plain : before_comment (heading_text b p k) ≡ heading_text b p k =
    ap (λ l. codes "book " ++ l) (number_uncommented b _ book ∙ ap (λ l. decimal b ++ (codes " products " ++ l)) (number_uncommented p _ products ∙ ap (λ l. decimal p ++ (codes " kind " ++ l)) (kind_uncommented k))) in
    let last : words (kind_name k) ≡ kind_name k ∷ [] = ap words (sym (kind_uncommented k)) ∙ kind_words k in
    let many : words (decimal p ++ (codes " kind " ++ kind_name k)) ≡ decimal p ∷ codes "kind" ∷ kind_name k ∷ [] =
    number_words p (codes "kind " ++ kind_name k) products ∙ ap (λ l. decimal p ∷ codes "kind" ∷ l) last in
    record {
      book_word = decimal b;
      products_word = decimal p;
      spelled = ap words plain ∙ ap (λ l. codes "book" ∷ l) (number_words b (codes "products " ++ (decimal p ++ (codes " kind " ++ kind_name k))) book ∙ ap (λ l. decimal b ∷ codes "products" ∷ l) many);
      book_written = decimal_numeral b book;
      products_written = decimal_numeral p products;
      book_is = decimal_value b book;
      products_is = decimal_value p products;
      number = small;
      fit = fit;
    }

-- words that say a heading, or none, read as a line's
pub heading_read : {E : Type 0} (ws : List (List ℕ)) (r : Result Header E) (s : Result (Option Header) E) → (ws ≡ [] → ⊥) → ReadsHeader ws r
    → MatchResult r (λ x. s ≡ Ok (Some x)) (λ e. s ≡ Err e) → ReadsHeading ws s
heading_read ws (Ok found) s some read same = subst (ReadsHeading ws) (sym same) read
heading_read ws (Err _) s some read same = subst (ReadsHeading ws) (sym same) (some, read)

-- what was read of a heading that was written
pub heading_gives_back : {E : Type 0} (line : List ℕ) (r : Result (Option Header) E) → ReadsHeading (said line) r
    → (b p : ℕ) (k : Kind) → b < 2 ^ 16 → Fit p → line ≡ heading_text b p k → HeadingBack b p k r
heading_gives_back line (Ok (Some found)) h b p k small fit e =
    heading_one (said line) found.book found.products found.kind b p k h (subst (λ l. SaysHeading (said l) b p k) (sym e) (heading_said b p k small fit))
heading_gives_back line (Ok None) h b p k small fit e =
    let spelled = (heading_said b p k small fit).spelled in
    let same = ap said e in
    cc
heading_gives_back line (Err _) h b p k small fit e = h.1 b p k (subst (λ l. SaysHeading (said l) b p k) (sym e) (heading_said b p k small fit))

-- words that say an entry, or none, read as a line's
pub entry_read : {E : Type 0} (n : ℕ) (ws : List (List ℕ)) (r : Result Record E) (s : Result (Option Record) E) → (ws ≡ [] → ⊥) → ReadsRecord n ws r
    → MatchResult r (λ x. s ≡ Ok (Some x)) (λ e. s ≡ Err e) → ReadsEntry n ws s
entry_read n ws (Ok found) s some read same = subst (ReadsEntry n ws) (sym same) read
entry_read n ws (Err _) s some read same = subst (ReadsEntry n ws) (sym same) (some, read)

-- what was read of an entry that was written
pub entry_gives_back : {E : Type 0} (n : ℕ) (line : List ℕ) (r : Result (Option Record) E) → ReadsEntry n (said line) r
    → (e : Entry) → Fit n → Fits n e → line ≡ entry_text e → r ≡ Ok (Some (record_of e))
entry_gives_back n line (Ok (Some found)) h e fit fits is =
    ap (λ x. Ok (Some x)) (h.2 ∙ ap record_of (says_one n (said line) h.0 e h.1 (subst (λ l. Says n (said l) e) (sym is) (entry_said n e fit fits))))
entry_gives_back n line (Ok None) h e fit fits is =
    let spelled = (entry_said n e fit fits).spelled in
    let same = ap said is in
    absurd (cc)
entry_gives_back n line (Err _) h e fit fits is = absurd (h.1 e (subst (λ l. Says n (said l) e) (sym is) (entry_said n e fit fits)))
