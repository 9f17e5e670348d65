-- A tape begins with one entry at most.
use Rattle.std.proofs.Common.{◌≡◌, ℕ, ◌+◌, ◌*◌, ◌^◌, ◌<◌, cond, eqb, List, [], ◌∷◌, ◌++◌, length, take, drop, Some, None, Ok, Err, Option, Result, sym, refl, ap, ◌∙◌, subst, arith, length-append, Bor}
use Rattle.std.proofs.lemmas.List.{take_at, drop_at}
use Rattle.std.proofs.lemmas.Nat.{from_be_bytes-to_be_bytes_4}
use Rattle.std.specs.List.{AllByRecursion}
use Rattle.tape.proofs.Rows.{length_rows, quantity_bytes}
use Rattle.tape.specs.Fields.{itself}
use Rattle.tape.specs.Format.{be8, be32, Entry, opening, offer, confirmation, withdrawal, closing, reading, Fits, letter, price_bytes, row_bytes, entry_bytes, row_length, record_of}
use Rattle.tape.specs.Reading.{Behind, Fit, Reads, ReadsBehind, RowRead, EntryBack}
use Rattle.tape.specs.declared.error.TapeError.{TapeError}
use Rattle.tape.specs.declared.error.TapeError.TheVariants.{TooLong, BadHeader, UnknownLetter, CutOff}
use Rattle.tape.specs.declared.record.Record.{Record}
use Rattle.tape.specs.declared.record.Record.TheVariants.{Open, Offer}

-- the row behind an entry's letter is as long as the letter says
pub row_long : (n : ℕ) (e : Entry) → Fits n e → row_length n (letter e) ≡ Some (length (row_bytes e))
row_long n (opening prices) f = ap Some (ap (λ k. 4 * k) (sym f.0) ∙ sym (length_rows be32 4 (λ x. refl) prices))
row_long n (offer quantities) f = ap Some (sym f.0)
row_long n confirmation f = refl
row_long n withdrawal f = refl
row_long n closing f = refl
row_long n reading f = refl

-- the numbers of 32 bits that bytes write
abbrev prices_in : List ℕ → List ℕ
prices_in [] = []
prices_in (a ∷ []) = []
prices_in (a ∷ (b ∷ [])) = []
prices_in (a ∷ (b ∷ (c ∷ []))) = []
prices_in (a ∷ (b ∷ (c ∷ (d ∷ more)))) = (a * 16777216 + b * 65536 + c * 256 + d) ∷ prices_in more

prices_back : (prices : List ℕ) → AllByRecursion (λ p. p < 2 ^ 32) prices → prices_in (price_bytes prices) ≡ prices
prices_back [] h = refl
prices_back (p ∷ ps) h =
    let e = from_be_bytes-to_be_bytes_4 p h.0 in
    let more = prices_back ps h.1 in
    cc

-- the entry with that letter and that row
abbrev entry_in : ℕ → List ℕ → Entry
entry_in b row =
    cond (eqb b 79) (opening (prices_in row)) (
    cond (eqb b 84) (offer row) (
    cond (eqb b 67) confirmation (
    cond (eqb b 87) withdrawal (
    cond (eqb b 83) closing reading))))

entry_back : (n : ℕ) (e : Entry) → Fits n e → entry_in (letter e) (row_bytes e) ≡ e
entry_back n (opening prices) f = ap opening (prices_back prices f.1)
entry_back n (offer quantities) f = refl
entry_back n confirmation f = refl
entry_back n withdrawal f = refl
entry_back n closing f = refl
entry_back n reading f = refl

-- two entries in front of one tape are the same
pub same_entries : (n : ℕ) (d e : Entry) (r s : List ℕ) → Fits n d → Fits n e → entry_bytes d ++ r ≡ entry_bytes e ++ s → (d ≡ e) × (r ≡ s)
same_entries n d e r s fd fe eq =
    let letters : letter d ≡ letter e = cc in
    let rows : row_bytes d ++ r ≡ row_bytes e ++ s = cc in
    let lengths : length (row_bytes d) ≡ length (row_bytes e) = let p = row_long n d fd in let q = row_long n e fe in cc in
    let k = length (row_bytes e) in
    let row : row_bytes d ≡ row_bytes e =
    sym (take_at (row_bytes d) r k lengths) ∙ ap (take k) rows ∙ take_at (row_bytes e) s k refl in
    let left : r ≡ s =
    sym (drop_at (row_bytes d) r k lengths) ∙ ap (drop k) rows ∙ drop_at (row_bytes e) s k refl in
    let p = entry_back n d fd in
    let q = entry_back n e fe in
    ((cc), left)

-- what was read gives back the entry in front
pub reads_back : (n : ℕ) (t : List ℕ) (r : Result (Option (Record × Bor (List ℕ))) TapeError) → Reads n t r
    → (e : Entry) (rest : List ℕ) → Fit n → Fits n e → t ≡ entry_bytes e ++ rest → EntryBack e rest r
reads_back n t (Ok (Some p)) h e rest fit f eq =
    let same = same_entries n h.1.0 e p.1.now rest h.1.1 f (sym h.1.3 ∙ eq) in
    (h.1.2 ∙ ap record_of same.0, same.1)
reads_back n t (Ok None) h e rest fit f eq = let z : ◌≡◌ {A = ℕ} 0 1 = cc h.1 in omega arith
reads_back n t (Err TooLong) h e rest fit f eq = h
reads_back n t (Err BadHeader) h e rest fit f eq = h fit
reads_back n t (Err UnknownLetter) h e rest fit f eq =
    let known = row_long n e f in
    let whole = sym h.1.2 ∙ eq in
    let none = h.1.3 in
    let z : ◌≡◌ {A = ℕ} 0 1 = cc in omega arith
reads_back n t (Err CutOff) h e rest fit f eq =
    let whole = sym h.1.3 ∙ eq in
    let b : h.1.0 ≡ letter e = cc in
    let more : h.1.1 ≡ row_bytes e ++ rest = cc in
    let long : Some h.1.2 ≡ Some (length (row_bytes e)) = sym h.1.4 ∙ ap (row_length n) b ∙ row_long n e f in
    let k : h.1.2 ≡ length (row_bytes e) = cc in
    omega (arith, h.1.5, ap length more, length-append (row_bytes e) rest)

-- a row of prices was read behind an O, and a row of quantities behind a T
pub prices_behind : (n : ℕ) (t cells rest : List ℕ) → RowRead 0 (2 ^ 32) itself be32 16 n t cells rest → Behind n 79 t (Open cells) rest
prices_behind n t cells rest r = record { entry = opening r.row; lettered = refl; fits = (r.many, r.small); is = ap Open r.filled; front = r.front }

pub quantities_behind : (n : ℕ) (t cells rest : List ℕ) → RowRead 0 (2 ^ 8) itself be8 16 n t cells rest → Behind n 84 t (Offer cells) rest
quantities_behind n t cells rest r = record { entry = offer r.row; lettered = refl; fits = (r.many, r.small); is = ap Offer r.filled; front = r.front ∙ ap (λ l. l ++ rest) (quantity_bytes r.row) }

-- a row is cut off behind its letter
pub cut_behind : (n b k : ℕ) (t : List ℕ) (r : Result (Record × Bor (List ℕ)) TapeError) → row_length n b ≡ Some k → length t < k → r ≡ Err CutOff → ReadsBehind n b t r
cut_behind n b k t r long short e = subst (ReadsBehind n b t) (sym e) (k, long, short)

-- a record stands whole behind its letter
pub whole : (n b : ℕ) (t more : List ℕ) (front : Record × Bor (List ℕ)) → Fit n → t ≡ b ∷ more → Behind n b more front.0 front.1.now → Reads n t (Ok (Some front))
whole n b t more front fit e h =
    (fit, (h.entry, h.fits, h.is, e ∙ ap (λ x. x ∷ more) (sym h.lettered) ∙ ap (λ l. letter h.entry ∷ l) h.front))
