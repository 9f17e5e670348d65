-- What reading words, lines and numbers answers.
use Rattle.std.specs.Borrow.{Bor}
use Rattle.std.specs.Prelude.{◌≡◌, ℕ, ◌-◌, ◌<◌, List, [], ◌∷◌, ◌++◌, length, map, replicate, Some, None, Ok, Err, Option, Result, ◌≢◌}
use Rattle.listing.specs.Lines.{lines, Numeral, Says, SaysHeading, value, words}
use Rattle.listing.specs.Text.{kind_name}
use Rattle.std.specs.List.{AllByRecursion}
use Rattle.tape.specs.Format.{Entry, record_of}
use Rattle.tape.specs.declared.header.Header.{Header}
use Rattle.tape.specs.declared.header.Kind.{Kind}
use Rattle.tape.specs.declared.record.Record.{Record}

-- the first word and the text behind it, or none where there is no word
abbrev pub FirstWord : List ℕ → Option (Bor (List ℕ) × Bor (List ℕ)) → Type 0
FirstWord text (Some p) = words text ≡ p.0.now ∷ words p.1.now
FirstWord text None = words text ≡ []

-- the first line and the text behind it, or none where the text is empty
abbrev pub FirstLine : List ℕ → Option (Bor (List ℕ) × Bor (List ℕ)) → Type 0
FirstLine text (Some p) = (lines text ≡ p.0.now ∷ lines p.1.now) × (length p.1.now < length text)
FirstLine text None = lines text ≡ []

-- a word read as a number below a limit
abbrev pub ReadsNumber : {T E : Type 0} → ℕ → (T → ℕ) → List ℕ → Result T E → Type 0
ReadsNumber limit value_of word (Ok x) = Numeral word × (value word ≡ value_of x) × (value word < limit)
ReadsNumber limit value_of word (Err _) = Numeral word → value word < limit → ⊥

-- the first word read as such a number, and the text behind it
abbrev pub TakesNumber : {T E : Type 0} → ℕ → (T → ℕ) → List ℕ → Result (T × Bor (List ℕ)) E → Type 0
TakesNumber {T} limit value_of text (Ok p) = (word : List ℕ) × (words text ≡ word ∷ words p.1.now) × ReadsNumber {T = T} {E = ℕ} limit value_of word (Ok p.0)
TakesNumber limit value_of text (Err _) = (word : List ℕ) (ws : List (List ℕ)) → words text ≡ word ∷ ws → Numeral word → value word < limit → ⊥

-- n words that write numbers below a limit
abbrev pub Row : ℕ → ℕ → List (List ℕ) → Type 0
Row limit n ws = (length ws ≡ n) × AllByRecursion (λ w. Numeral w × (value w < limit)) ws

-- words read as such a row: zeros fill the cells past its numbers
abbrev pub ReadsRow : {T E : Type 0} → T → ℕ → (T → ℕ) → ℕ → List (List ℕ) → Result (List T) E → Type 0
ReadsRow {T} zero limit value_of n ws (Ok cells) =
    Row limit n ws × ((row : List T) × (map value_of row ≡ map value ws) × (cells ≡ row ++ replicate (16 - length row) zero))
ReadsRow zero limit value_of n ws (Err _) = Row limit n ws → ⊥

-- the text behind a first word that has to stand there
abbrev pub TakesWord : {E : Type 0} → List ℕ → List ℕ → Result (Bor (List ℕ)) E → Type 0
TakesWord word text (Ok rest) = words text ≡ word ∷ words rest.now
TakesWord word text (Err _) = (ws : List (List ℕ)) → words text ≢ word ∷ ws

-- the kind that the first word names, and the text behind it
abbrev pub TakesKind : {E : Type 0} → List ℕ → Result (Kind × Bor (List ℕ)) E → Type 0
TakesKind text (Ok p) = words text ≡ kind_name p.0 ∷ words p.1.now
TakesKind text (Err _) = (kind : Kind) (ws : List (List ℕ)) → words text ≢ kind_name kind ∷ ws

-- a text has to have no word
abbrev pub TakesEnd : {E : Type 0} → List ℕ → Result (Unit {0}) E → Type 0
TakesEnd text (Ok _) = words text ≡ []
TakesEnd text (Err _) = words text ≡ [] → ⊥

-- the record that words say, or a refusal where they say none
abbrev pub ReadsRecord : {E : Type 0} → ℕ → List (List ℕ) → Result Record E → Type 0
ReadsRecord n ws (Ok found) = (e : Entry) × Says n ws e × (found ≡ record_of e)
ReadsRecord n ws (Err _) = (e : Entry) → Says n ws e → ⊥

-- the same of a line: none where it has no words
abbrev pub ReadsEntry : {E : Type 0} → ℕ → List (List ℕ) → Result (Option Record) E → Type 0
ReadsEntry n ws (Ok (Some found)) = (e : Entry) × Says n ws e × (found ≡ record_of e)
ReadsEntry n ws (Ok None) = ws ≡ []
ReadsEntry n ws (Err _) = (ws ≢ []) × ((e : Entry) → Says n ws e → ⊥)

-- the header that words say, or a refusal where they say none
abbrev pub ReadsHeader : {E : Type 0} → List (List ℕ) → Result Header E → Type 0
ReadsHeader ws (Ok found) = SaysHeading ws found.book found.products found.kind
ReadsHeader ws (Err _) = (book products : ℕ) (kind : Kind) → SaysHeading ws book products kind → ⊥

-- the same of a line: none where it has no words
abbrev pub ReadsHeading : {E : Type 0} → List (List ℕ) → Result (Option Header) E → Type 0
ReadsHeading ws (Ok (Some found)) = SaysHeading ws found.book found.products found.kind
ReadsHeading ws (Ok None) = ws ≡ []
ReadsHeading ws (Err _) = (ws ≢ []) × ((book products : ℕ) (kind : Kind) → SaysHeading ws book products kind → ⊥)

-- the answer that gives a heading back
abbrev pub HeadingBack : {E : Type 0} → ℕ → ℕ → Kind → Result (Option Header) E → Type 0
HeadingBack book products kind (Ok (Some found)) = (found.book ≡ book) × (found.products ≡ products) × (found.kind ≡ kind)
HeadingBack book products kind (Ok None) = ⊥
HeadingBack book products kind (Err _) = ⊥
