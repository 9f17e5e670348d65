-- What the words of a line say, and the lines of a text.
use Rattle.std.specs.Prelude.{◌≡◌, ℕ, ◌+◌, ◌-◌, ◌*◌, ◌^◌, ◌<◌, ◌≤◌, Bool, cond, ◌||◌, ◌⊎◌, List, [], ◌∷◌, ◌++◌, map, length, codes, ◌==◌}
use Rattle.listing.specs.Text.{cells, kind_name}
use Rattle.std.specs.List.{AllByRecursion}
use Rattle.tape.specs.Format.{Entry, Fits, letter}
use Rattle.tape.specs.Reading.{Fit}
use Rattle.tape.specs.declared.header.Kind.{Kind}

-- a piece of text at its end: it counts where it is not empty
abbrev pub ended : List ℕ → List (List ℕ) → List (List ℕ)
ended [] more = more
ended (b ∷ bs) more = (b ∷ bs) ∷ more

-- a blank, a tab or a carriage return
abbrev pub blank : ℕ → Bool
blank b = b == 32 || (b == 9 || b == 13)

-- the words that blanks separate, where a word has begun with these bytes
abbrev pub words_from : List ℕ → List ℕ → List (List ℕ)
words_from word [] = ended word []
words_from word (b ∷ bs) = cond (blank b) (ended word (words_from [] bs)) (words_from (word ++ b ∷ []) bs)

abbrev pub words : List ℕ → List (List ℕ)
words text = words_from [] text

-- a line up to `#`, which starts a comment
abbrev pub before_comment : List ℕ → List ℕ
before_comment [] = []
before_comment (b ∷ bs) = cond (b == 35) [] (b ∷ before_comment bs)

-- the words of a line
abbrev pub said : List ℕ → List (List ℕ)
said line = words (before_comment line)

-- one digit or more, and the number that digits write behind those of n
abbrev pub Numeral : List ℕ → Type 0
Numeral word = (0 < length word) × AllByRecursion (λ d. (48 ≤ d) × (d ≤ 57)) word

abbrev pub value_from : ℕ → List ℕ → ℕ
value_from n [] = n
value_from n (d ∷ ds) = value_from (n * 10 + (d - 48)) ds

abbrev pub value : List ℕ → ℕ
value word = value_from 0 word

-- words say an entry of a sale of n products: its letter, and a numeral for each cell of its row
pub record Says (n : ℕ) (ws : List (List ℕ)) (e : Entry) : Type 0 where
  pub numerals : List (List ℕ)
  pub spelled : ws ≡ (letter e ∷ []) ∷ numerals
  pub written : AllByRecursion Numeral numerals
  pub row : map value numerals ≡ cells e
  pub fit : Fit n
  pub fits : Fits n e

-- words say a heading, as `book 7 products 2 kind plain`
pub record SaysHeading (ws : List (List ℕ)) (book products : ℕ) (kind : Kind) : Type 0 where
  pub book_word : List ℕ
  pub products_word : List ℕ
  pub spelled : ws ≡ codes "book" ∷ book_word ∷ codes "products" ∷ products_word ∷ codes "kind" ∷ kind_name kind ∷ []
  pub book_written : Numeral book_word
  pub products_written : Numeral products_word
  pub book_is : value book_word ≡ book
  pub products_is : value products_word ≡ products
  pub number : book < 2 ^ 16
  pub fit : Fit products

-- the lines of a text, where a line has begun with these bytes: byte 10 ends a line, and the last may lack it
abbrev pub lines_from : List ℕ → List ℕ → List (List ℕ)
lines_from line [] = ended line []
lines_from line (b ∷ bs) = cond (b == 10) (line ∷ lines_from [] bs) (lines_from (line ++ b ∷ []) bs)

abbrev pub lines : List ℕ → List (List ℕ)
lines text = lines_from [] text

-- lines say entries of a sale of n products, one after the other; a line with no words says none
abbrev pub Enter : ℕ → List (List ℕ) → List Entry → Type 0
Enter n [] es = es ≡ []
Enter n (line ∷ ls) es =
    ((said line ≡ []) × Enter n ls es)
    ⊎ ((e : Entry) × (more : List Entry) × (es ≡ e ∷ more) × Says n (said line) e × Enter n ls more)

-- the first line with words says a heading, and those behind it say entries
abbrev pub Describe : List (List ℕ) → ℕ → ℕ → Kind → List Entry → Type 0
Describe [] book products kind es = ⊥
Describe (line ∷ ls) book products kind es =
    ((said line ≡ []) × Describe ls book products kind es)
    ⊎ (SaysHeading (said line) book products kind × Enter products ls es)
