-- The whole tape of a text, and the listing that gives it back.
use Rattle.std.proofs.Common.{◌≡◌, ℕ, suc, ◌+◌, ◌^◌, ◌<◌, ◌≤◌, Bool, true, not, ◌&&◌, eqb, List, [], ◌∷◌, ◌++◌, length, take, drop, set, Some, Ok, Err, codes, decimal, Result, sym, refl, ap, ◌∙◌, subst, inl, inr, append_assoc, append-nil, arith}
use Rattle.listing.proofs.Makings.{describe_behind, describe_front, describe_one}
use Rattle.listing.proofs.Sayings.{cells_fit, decimal_numeral, entry_said, heading_one, heading_said}
use Rattle.listing.specs.Lines.{Describe, Enter, lines, lines_from, said}
use Rattle.listing.specs.Making.{entries_bytes, Entered, HeadedText, Made, Makes, NoHeading, Refused, tape_bytes, Wordless, WritesLines}
use Rattle.listing.specs.Text.{cells, entries_text, entry_text, heading_text, kind_name, line, listing_of, row_text}
use Rattle.listing.specs.declared.error.BadLine.{BadLine}
use Rattle.std.proofs.ByRecursion.{All-append, All-weaker}
use Rattle.std.proofs.lemmas.List.{length-append, length-set, length-take-le, set-append_left, take-append-drop, take_at}
use Rattle.std.proofs.lemmas.Bool.{and_parts, cond-false, eqb-false, ne_eqb, not-true}
use Rattle.std.proofs.Math.Seq.{take-append-add}
use Rattle.std.specs.List.{AllByRecursion}
use Rattle.tape.proofs.Laid.{laid_append, length_laid}
use Rattle.tape.specs.Format.{Entry, opening, offer, confirmation, withdrawal, closing, reading, Fits, header_bytes, letter}
use Rattle.tape.specs.Reading.{Fit}
use Rattle.tape.specs.Writing.{laid, Wrote}
use Rattle.tape.specs.declared.header.Header.{Header}
use Rattle.tape.specs.declared.header.Kind.{Kind}
use Rattle.tape.specs.declared.header.Kind.TheVariants.{Plain, Strict}

-- no heading: nothing was written
pub heading_refused : (room : ℕ) (text before : List ℕ) (n : ℕ) → NoHeading text n → Refused room text before n before
heading_refused room text before n h = record {
  none = λ b p k es d fits. h.none b p k es d;
  front = h.front;
  number = h.number;
  within = h.within;
  bytes = [];
  given = inl (h.wordless, refl);
  fits = omega arith;
  held = refl;
}

-- a header has no room
pub header_full : (text before rest : List ℕ) (found : Header) (n : ℕ) → length before < 9 → HeadedText text found n rest → Refused (length before) text before n before
header_full text before rest found n full h =
    let k = length h.front in
    record {
      none = λ b p kind es d fits. omega arith;
      front = k;
      number = h.number;
      within = omega (arith, ap length h.split, length-append h.front (h.heading ∷ lines rest));
      bytes = [];
      given = inl (subst Wordless (sym (ap (take k) h.split ∙ take_at h.front (h.heading ∷ lines rest) k refl)) h.wordless, refl);
      fits = omega arith;
      held = refl;
    }

-- a heading and lines behind it describe the heading's header and the lines' entries
described : (text rest : List ℕ) (found : Header) (n : ℕ) (ls : List (List ℕ)) (es : List Entry) (h : HeadedText text found n rest) → Enter found.products ls es
    → Describe (h.front ++ h.heading ∷ ls) found.book found.products found.kind es
described text rest found n ls es h e =
    describe_behind h.front (h.heading ∷ ls) found.book found.products found.kind es h.wordless (inr (h.says, e))

-- the header and what was written behind it
tape_held : (before mid after header bytes : List ℕ) (start : ℕ) → start ≡ 0 + length header → mid ≡ laid before 0 header → after ≡ laid mid start bytes → after ≡ laid before 0 (header ++ bytes)
tape_held before mid after header bytes start e m a =
    a ∙ ap (λ l. laid l start bytes) m ∙ ap (λ k. laid (laid before 0 header) k bytes) e ∙ sym (laid_append before 0 header bytes)

made : (text before mid after rest : List ℕ) (found : Header) (n start end : ℕ) → HeadedText text found n rest
    → Wrote before 0 (header_bytes found.book found.products found.kind) (Some start) mid → Entered found.products (lines rest) mid start end after
    → Made (length before) text before end after
made text before mid after rest found n start end h w e =
    let header = header_bytes found.book found.products found.kind in
    record {
      book = found.book;
      products = found.products;
      kind = found.kind;
      entries = e.entries;
      described = subst (λ ls. Describe ls found.book found.products found.kind e.entries) (sym h.split) (described text rest found n (lines rest) e.entries h e.entered);
      size = omega (arith, e.size, w.1, length-append header (entries_bytes e.entries));
      fits = omega (arith, e.fits, ap length w.2, length_laid before 0 header);
      held = tape_held before mid after header (entries_bytes e.entries) start w.1 w.2 e.held;
    }

refused_behind : (text before mid after rest : List ℕ) (found : Header) (n start : ℕ) (bad : BadLine) → HeadedText text found n rest
    → Wrote before 0 (header_bytes found.book found.products found.kind) (Some start) mid → WritesLines found.products n rest mid start (Err bad) after
    → Refused (length before) text before bad.line after
refused_behind text before mid after rest found n start bad h w r =
    let header = header_bytes found.book found.products found.kind in
    let k = r.1.0 in
    let e = r.1.3.1 in
    let same = length_laid before 0 header in
    record {
      none = λ b p kind es d fits. elim (describe_front h.front (h.heading ∷ lines rest) b p kind es h.wordless (subst (λ ls. Describe ls b p kind es) h.split d)) [
        | inl passed ↦ let spelled = h.says.spelled in let none = passed.0 in cc
        | inr said ↦
            let one = heading_one _ b p kind found.book found.products found.kind said.0 h.says in
            r.0 es (subst (λ q. Enter q (lines rest) es) one.1 said.1) (omega (arith, fits, w.1, ap length w.2, same))
      ];
      front = length h.front + suc k;
      number = omega (arith, r.1.1, h.number);
      within = omega (arith, r.1.2, ap length h.split, length-append h.front (h.heading ∷ lines rest));
      bytes = header ++ entries_bytes e.entries;
      given = inr (
        found.book,
        found.products,
        found.kind,
        e.entries,
        subst (λ ls. Describe ls found.book found.products found.kind e.entries) (sym (ap (take (length h.front + suc k)) h.split ∙ take-append-add h.front (h.heading ∷ lines rest) (suc k)))
            (described text rest found n (take k (lines rest)) e.entries h e.entered),
        refl,
      );
      fits = omega (arith, e.fits, e.size, w.1, ap length w.2, same, length-append header (entries_bytes e.entries));
      held = tape_held before mid after header (entries_bytes e.entries) start w.1 w.2 e.held;
    }

-- bytes laid over the front of memory leave what follows
laid_front : (front back bytes : List ℕ) (at : ℕ) → at + length bytes ≤ length front → laid (front ++ back) at bytes ≡ laid front at bytes ++ back
laid_front front back [] at room = refl
laid_front front back (b ∷ bs) at room =
    ap (λ l. laid l (at + 1) bs) (set-append_left front back at b (omega arith)) ∙ laid_front (set front at b) back bs (at + 1) (omega (arith, length-set front at b))

part_held : (before after part bytes : List ℕ) (room : ℕ) → room ≤ length before → length bytes ≤ room → part ≡ laid (take room before) 0 bytes → after ≡ part ++ drop room before
    → after ≡ laid before 0 bytes
part_held before after part bytes room within fits p a =
    a ∙ ap (λ l. l ++ drop room before) p
    ∙ sym (laid_front (take room before) (drop room before) bytes 0 (omega (arith, length-take-le room before within)))
    ∙ ap (λ l. laid l 0 bytes) (take-append-drop room before)

-- what was made in the front of memory was made in memory
pub makes_in_part : (text before part after : List ℕ) (room : ℕ) (r : Result ℕ BadLine) → room ≤ length before → after ≡ part ++ drop room before
    → Makes (length (take room before)) text (take room before) r part → Makes room text before r after
makes_in_part text before part after room (Ok n) within a m =
    let long = length-take-le room before within in
    let fits : n ≤ room = omega (arith, m.fits) in
    record {
      book = m.book;
      products = m.products;
      kind = m.kind;
      entries = m.entries;
      described = m.described;
      size = m.size;
      fits = fits;
      held = part_held before after part (tape_bytes m.book m.products m.kind m.entries) room within (omega (arith, m.size)) m.held a;
    }
makes_in_part text before part after room (Err bad) within a m =
    let long = length-take-le room before within in
    let fits : length m.bytes ≤ room = omega (arith, m.fits) in
    record {
      none = λ b p k es d small. m.none b p k es d (omega arith);
      front = m.front;
      number = m.number;
      within = m.within;
      bytes = m.bytes;
      given = m.given;
      fits = fits;
      held = part_held before after part m.bytes room within fits m.held a;
    }

-- texts of a line hold no byte 10
abbrev Unbroken : List ℕ → Type 0
Unbroken text = AllByRecursion (λ b. b ≡ 10 → ⊥) text

line_taken : (begun text rest : List ℕ) → Unbroken text → lines_from begun (text ++ 10 ∷ rest) ≡ (begun ++ text) ∷ lines rest
line_taken begun [] rest u = ap (λ l. l ∷ lines rest) (sym (append-nil begun))
line_taken begun (b ∷ bs) rest u =
    cond-false (eqb b 10) _ (lines_from (begun ++ b ∷ []) (bs ++ 10 ∷ rest)) (ne_eqb b 10 u.0) ∙ line_taken (begun ++ b ∷ []) bs rest u.1
    ∙ ap (λ l. l ∷ lines rest) (append_assoc begun (b ∷ []) bs)

first_line : (text rest : List ℕ) → Unbroken text → lines (line text ++ rest) ≡ text ∷ lines rest
first_line text rest u = ap lines (append_assoc text (10 ∷ []) rest) ∙ line_taken [] text rest u

number_unbroken : (n : ℕ) → n < 2 ^ 64 → Unbroken (decimal n)
number_unbroken n h = All-weaker (λ d. (48 ≤ d) × (d ≤ 57)) (λ b. b ≡ 10 → ⊥) (λ d digit e. omega arith) (decimal n) (decimal_numeral n h).1

row_unbroken : (row : List ℕ) → AllByRecursion (λ x. x < 2 ^ 64) row → Unbroken (row_text row)
row_unbroken [] h = tt
row_unbroken (x ∷ xs) h = (λ e. omega arith, All-append (λ b. b ≡ 10 → ⊥) (decimal x) (row_text xs) (number_unbroken x h.0) (row_unbroken xs h.1))

letter_unbroken : (e : Entry) → letter e ≡ 10 → ⊥
letter_unbroken (opening prices) h = omega arith
letter_unbroken (offer quantities) h = omega arith
letter_unbroken confirmation h = omega arith
letter_unbroken withdrawal h = omega arith
letter_unbroken closing h = omega arith
letter_unbroken reading h = omega arith

entry_unbroken : (n : ℕ) (e : Entry) → Fits n e → Unbroken (entry_text e)
entry_unbroken n e f = (letter_unbroken e, row_unbroken (cells e) (cells_fit n e f))

-- a text whose bytes are written out
abbrev unbroken : List ℕ → Bool
unbroken [] = true
unbroken (b ∷ bs) = not (eqb b 10) && unbroken bs

tested_unbroken : (text : List ℕ) → unbroken text ≡ true → Unbroken text
tested_unbroken [] h = tt
tested_unbroken (b ∷ bs) h =
    let parts = and_parts (not (eqb b 10)) (unbroken bs) h in
    (eqb-false b 10 (not-true (eqb b 10) parts.0), tested_unbroken bs parts.1)

kind_unbroken : (k : Kind) → Unbroken (kind_name k)
kind_unbroken Plain = tested_unbroken (codes "plain") refl
kind_unbroken Strict = tested_unbroken (codes "strict") refl

heading_unbroken : (b p : ℕ) (k : Kind) → b < 2 ^ 64 → p < 2 ^ 64 → Unbroken (heading_text b p k)
heading_unbroken b p k small few =
    let then = All-append (λ c. c ≡ 10 → ⊥) in
    then (codes "book ") _ (tested_unbroken (codes "book ") refl) (
    then (decimal b) _ (number_unbroken b small) (
    then (codes " products ") _ (tested_unbroken (codes " products ") refl) (
    then (decimal p) _ (number_unbroken p few) (
    then (codes " kind ") (kind_name k) (tested_unbroken (codes " kind ") refl) (kind_unbroken k)))))

-- the lines of entries enter them
entries_entered : (n : ℕ) (es : List Entry) → Fit n → AllByRecursion (Fits n) es → Enter n (lines (entries_text es)) es
entries_entered n [] fit fits = refl
entries_entered n (e ∷ es) fit fits =
    subst (λ ls. Enter n ls (e ∷ es)) (sym (first_line (entry_text e) (entries_text es) (entry_unbroken n e fits.0)))
    (inr (e, es, refl, entry_said n e fit fits.0, entries_entered n es fit fits.1))

-- a listing describes its tape
pub listing_described : (b p : ℕ) (k : Kind) (es : List Entry) → b < 2 ^ 16 → Fit p → AllByRecursion (Fits p) es → Describe (lines (listing_of b p k es)) b p k es
listing_described b p k es small fit fits =
    subst (λ ls. Describe ls b p k es) (sym (first_line (heading_text b p k) (entries_text es) (heading_unbroken b p k (omega arith) (omega arith))))
    (inr (heading_said b p k small fit, entries_entered p es fit fits))

-- a tape that a text describes and that has room is made
pub described_made : (room : ℕ) (text before : List ℕ) (r : Result ℕ BadLine) (after : List ℕ) (b p : ℕ) (k : Kind) (es : List Entry) → Makes room text before r after
    → Describe (lines text) b p k es → length (tape_bytes b p k es) ≤ room → (r ≡ Ok (length (tape_bytes b p k es))) × (after ≡ laid before 0 (tape_bytes b p k es))
described_made room text before (Ok n) after b p k es m d fits =
    let same = describe_one (lines text) m.book m.products m.kind m.entries b p k es m.described d in
    (ap Ok (m.size ∙ ap length same), m.held ∙ ap (laid before 0) same)
described_made room text before (Err bad) after b p k es m d fits = absurd (m.none b p k es d fits)

-- lines that could be written behind a heading, or not
pub made_behind : (text before mid after rest : List ℕ) (found : Header) (n start : ℕ) (r : Result ℕ BadLine) → HeadedText text found n rest
    → Wrote before 0 (header_bytes found.book found.products found.kind) (Some start) mid → WritesLines found.products n rest mid start r after
    → Makes (length before) text before r after
made_behind text before mid after rest found n start (Ok end) h w e = made text before mid after rest found n start end h w e
made_behind text before mid after rest found n start (Err bad) h w e = refused_behind text before mid after rest found n start bad h w e
