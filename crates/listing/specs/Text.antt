-- The text form of a tape: what each line says.
use Rattle.std.specs.Prelude.{ℕ, List, [], ◌∷◌, ◌++◌, codes, decimal}
use Rattle.tape.specs.Format.{Entry, opening, offer, confirmation, withdrawal, closing, reading, letter, error_number}
use Rattle.tape.specs.declared.error.TapeError.{TapeError}
use Rattle.tape.specs.declared.header.Kind.{Kind}
use Rattle.tape.specs.declared.header.Kind.TheVariants.{Plain, Strict}

-- a line: its text, ended by byte 10
abbrev pub line : List ℕ → List ℕ
line text = text ++ 10 ∷ []

abbrev pub kind_name : Kind → List ℕ
kind_name Plain = codes "plain"
kind_name Strict = codes "strict"

-- the heading, as `book 7 products 2 kind plain`
abbrev pub heading_text : ℕ → ℕ → Kind → List ℕ
heading_text book products kind =
    codes "book " ++ (decimal book ++ (codes " products " ++ (decimal products ++ (codes " kind " ++ kind_name kind))))

-- a row: a blank and a decimal number for each cell
abbrev pub row_text : List ℕ → List ℕ
row_text [] = []
row_text (x ∷ xs) = 32 ∷ (decimal x ++ row_text xs)

-- the cells of an entry's row
abbrev pub cells : Entry → List ℕ
cells (opening prices) = prices
cells (offer quantities) = quantities
cells confirmation = []
cells withdrawal = []
cells closing = []
cells reading = []

-- an entry, as `O 10 20` or `C`
abbrev pub entry_text : Entry → List ℕ
entry_text e = letter e ∷ row_text (cells e)

-- where a tape breaks, as `NO 15`
abbrev pub error_text : TapeError → List ℕ
error_text error = codes "NO " ++ decimal (error_number error)

-- the lines of entries, and a whole listing
abbrev pub entries_text : List Entry → List ℕ
entries_text [] = []
entries_text (e ∷ es) = line (entry_text e) ++ entries_text es

abbrev pub listing_of : ℕ → ℕ → Kind → List Entry → List ℕ
listing_of book products kind es = line (heading_text book products kind) ++ entries_text es
