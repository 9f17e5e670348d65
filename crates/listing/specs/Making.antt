-- What making a tape of a text answers.
use Rattle.std.specs.Borrow.{Bor}
use Rattle.std.specs.Prelude.{◌≡◌, ℕ, ◌+◌, ◌^◌, ◌<◌, ◌≤◌, ◌⊎◌, List, [], ◌∷◌, ◌++◌, length, take, Some, None, Ok, Err, Option, Result}
use Rattle.listing.specs.Lines.{Describe, Enter, lines, said, SaysHeading}
use Rattle.listing.specs.Text.{listing_of}
use Rattle.listing.specs.declared.error.BadLine.{BadLine}
use Rattle.listing.specs.declared.lines.Lines.{Lines}
use Rattle.std.specs.List.{AllByRecursion}
use Rattle.tape.specs.Format.{Entry, entry_bytes, Fits, header_bytes}
use Rattle.tape.specs.Reading.{Fit}
use Rattle.tape.specs.Writing.{laid}
use Rattle.tape.specs.declared.header.Header.{Header}
use Rattle.tape.specs.declared.header.Kind.{Kind}

-- the bytes of entries, and of a whole tape
abbrev pub entries_bytes : List Entry → List ℕ
entries_bytes [] = []
entries_bytes (e ∷ es) = entry_bytes e ++ entries_bytes es

abbrev pub tape_bytes : ℕ → ℕ → Kind → List Entry → List ℕ
tape_bytes book products kind es = header_bytes book products kind ++ entries_bytes es

-- the next line was taken, by its number, or none was left
abbrev pub TakesLine : Lines → Option (ℕ × Bor (List ℕ)) → Lines → Type 0
TakesLine before (Some p) after =
    (lines before.rest.now ≡ p.1.now ∷ lines after.rest.now) × (p.0 ≡ before.passed + 1) × (after.passed ≡ before.passed + 1)
    × (length after.rest.now < length before.rest.now)
TakesLine before None after = (lines before.rest.now ≡ []) × (after ≡ before)

-- lines with no words
abbrev pub Wordless : List (List ℕ) → Type 0
Wordless ls = AllByRecursion (λ line. said line ≡ []) ls

-- lines give bytes: none before a heading, and from then on the bytes of the tape that they describe
abbrev pub Give : List (List ℕ) → List ℕ → Type 0
Give ls bytes =
    (Wordless ls × (bytes ≡ []))
    ⊎ ((book : ℕ) × (products : ℕ) × (kind : Kind) × (es : List Entry) × Describe ls book products kind es × (bytes ≡ tape_bytes book products kind es))

-- the tape that a text describes was written from the start of memory
pub record Made (room : ℕ) (text before : List ℕ) (n : ℕ) (after : List ℕ) : Type 0 where
  pub book : ℕ
  pub products : ℕ
  pub kind : Kind
  pub entries : List Entry
  pub described : Describe (lines text) book products kind entries
  pub size : n ≡ length (tape_bytes book products kind entries)
  pub fits : n ≤ room
  pub held : after ≡ laid before 0 (tape_bytes book products kind entries)

-- a text was refused at a line: it describes no tape that has room, and memory holds what the lines before give
pub record Refused (room : ℕ) (text before : List ℕ) (line : ℕ) (after : List ℕ) : Type 0 where
  pub none : (book products : ℕ) (kind : Kind) (es : List Entry) → Describe (lines text) book products kind es → length (tape_bytes book products kind es) ≤ room → ⊥
  pub front : ℕ
  pub number : line ≡ front + 1
  pub within : front ≤ length (lines text)
  pub bytes : List ℕ
  pub given : Give (take front (lines text)) bytes
  pub fits : length bytes ≤ room
  pub held : after ≡ laid before 0 bytes

-- what making a tape in so much room answers
abbrev pub Makes : ℕ → List ℕ → List ℕ → Result ℕ BadLine → List ℕ → Type 0
Makes room text before (Ok n) after = Made room text before n after
Makes room text before (Err bad) after = Refused room text before bad.line after

-- the heading, its line's number and the text behind it
pub record HeadedText (text : List ℕ) (found : Header) (line : ℕ) (rest : List ℕ) : Type 0 where
  pub front : List (List ℕ)
  pub heading : List ℕ
  pub split : lines text ≡ front ++ heading ∷ lines rest
  pub wordless : Wordless front
  pub says : SaysHeading (said heading) found.book found.products found.kind
  pub number : line ≡ length front + 1
  pub short : line + length rest ≤ length text

-- no heading was found: the lines before that line have no words, and no heading follows
pub record NoHeading (text : List ℕ) (line : ℕ) : Type 0 where
  pub none : (book products : ℕ) (kind : Kind) (es : List Entry) → Describe (lines text) book products kind es → ⊥
  pub front : ℕ
  pub number : line ≡ front + 1
  pub within : front ≤ length (lines text)
  pub wordless : Wordless (take front (lines text))

abbrev pub FindsHeading : List ℕ → Result Header BadLine → Lines → Type 0
FindsHeading text (Ok found) left = HeadedText text found left.passed left.rest.now
FindsHeading text (Err bad) left = NoHeading text bad.line

-- lines were written as entries behind what stands before a place
pub record Entered (n : ℕ) (ls : List (List ℕ)) (before : List ℕ) (at end : ℕ) (after : List ℕ) : Type 0 where
  pub entries : List Entry
  pub entered : Enter n ls entries
  pub size : end ≡ at + length (entries_bytes entries)
  pub fits : end ≤ length before
  pub held : after ≡ laid before at (entries_bytes entries)

-- lines say no entries that have room
abbrev pub NoRoom : ℕ → List (List ℕ) → List ℕ → ℕ → Type 0
NoRoom n ls before at = (es : List Entry) → Enter n ls es → at + length (entries_bytes es) ≤ length before → ⊥

-- what writing one line answers
abbrev pub WritesLine : {E : Type 0} → ℕ → List ℕ → List ℕ → ℕ → Result ℕ E → List ℕ → Type 0
WritesLine n line before at (Ok end) after = Entered n (line ∷ []) before at end after
WritesLine n line before at (Err _) after = NoRoom n (line ∷ []) before at × (after ≡ before)

-- what writing the lines behind a heading answers, whose line has that number
abbrev pub WritesLines : ℕ → ℕ → List ℕ → List ℕ → ℕ → Result ℕ BadLine → List ℕ → Type 0
WritesLines n first text before at (Ok end) after = Entered n (lines text) before at end after
WritesLines n first text before at (Err bad) after =
    NoRoom n (lines text) before at
    × ((k : ℕ) × (bad.line ≡ first + k + 1) × (k ≤ length (lines text)) × ((end : ℕ) × Entered n (take k (lines text)) before at end after))

-- the tape whose listing the text is comes back, where it has room
abbrev pub GivesBack : List ℕ → List ℕ → Result ℕ BadLine → List ℕ → Type 0
GivesBack text before r after =
    (book products : ℕ) (kind : Kind) (es : List Entry) → book < 2 ^ 16 → Fit products → AllByRecursion (Fits products) es → text ≡ listing_of book products kind es
    → length (tape_bytes book products kind es) ≤ 32768 → length (tape_bytes book products kind es) ≤ length before
    → (r ≡ Ok (length (tape_bytes book products kind es))) × (after ≡ laid before 0 (tape_bytes book products kind es))
