-- The byte format of a tape: what stands for what.
use Rattle.std.specs.Prelude.{◌≡◌, ℕ, ◌-◌, ◌*◌, ◌/◌, ◌%◌, ◌^◌, ◌<◌, cond, List, [], ◌∷◌, ◌++◌, length, take, replicate, Some, None, Ok, Err, Option, Result, ◌==◌, ◌≢◌}
use Rattle.std.specs.List.{AllByRecursion, flat_map}
use Rattle.tape.specs.declared.error.TapeError.{TapeError}
use Rattle.tape.specs.declared.error.TapeError.TheVariants.{TooLong, BadHeader, UnknownLetter, CutOff}
use Rattle.tape.specs.declared.header.Kind.{Kind}
use Rattle.tape.specs.declared.header.Kind.TheVariants.{Plain, Strict}
use Rattle.tape.specs.declared.header.UnknownKind.{UnknownKind}
use Rattle.tape.specs.declared.record.Record.{Record}
use Rattle.tape.specs.declared.record.Record.TheVariants.{Open, Offer, Confirm, Withdraw, Close, Sheet}

-- a number of 8, 16 or 32 bits, its highest byte first
abbrev pub be8 : ℕ → List ℕ
be8 n = n ∷ []

abbrev pub be16 : ℕ → List ℕ
be16 n = (n / 256 % 256) ∷ (n % 256) ∷ []

abbrev pub be32 : ℕ → List ℕ
be32 n = (n / 16777216 % 256) ∷ (n / 65536 % 256) ∷ (n / 256 % 256) ∷ (n % 256) ∷ []

-- the number of each kind of worth
abbrev pub kind_number : Kind → ℕ
kind_number Plain = 0
kind_number Strict = 1

-- the kind of a number, or the number itself where no kind has it
abbrev pub Named : ℕ → Result Kind UnknownKind → Type 0
Named n (Ok kind) = kind_number kind ≡ n
Named n (Err unknown) = (unknown.0 ≡ n) × ((kind : Kind) → kind_number kind ≢ n)

-- a header: the letters RPB, version 1, the book number, the number of products and the kind
abbrev pub header_bytes : ℕ → ℕ → Kind → List ℕ
header_bytes book products kind = 82 ∷ 80 ∷ 66 ∷ (be16 1 ++ (be16 book ++ products ∷ kind_number kind ∷ []))

-- what a record says: a round opens at a row of prices, a row of quantities is offered,
-- the trial is confirmed or withdrawn, the round closes, the sheet is read
pub data Entry : Type 0 where
  opening : List ℕ → Entry
  offer : List ℕ → Entry
  confirmation : Entry
  withdrawal : Entry
  closing : Entry
  reading : Entry

-- what a record says in a sale of n products: its row is the first n cells
abbrev pub entry_of : ℕ → Record → Entry
entry_of n (Open prices) = opening (take n prices)
entry_of n (Offer quantities) = offer (take n quantities)
entry_of n Confirm = confirmation
entry_of n Withdraw = withdrawal
entry_of n Close = closing
entry_of n Sheet = reading

-- the record of an entry: zeros fill the cells past its row
abbrev pub padded : List ℕ → List ℕ
padded row = row ++ replicate (16 - length row) 0

abbrev pub record_of : Entry → Record
record_of (opening prices) = Open (padded prices)
record_of (offer quantities) = Offer (padded quantities)
record_of confirmation = Confirm
record_of withdrawal = Withdraw
record_of closing = Close
record_of reading = Sheet

-- an entry that a tape of n products can hold: a row has n prices of 32 bits, or n quantities of 8 bits
abbrev pub Fits : ℕ → Entry → Type 0
Fits n (opening prices) = (length prices ≡ n) × AllByRecursion (λ p. p < 2 ^ 32) prices
Fits n (offer quantities) = (length quantities ≡ n) × AllByRecursion (λ q. q < 2 ^ 8) quantities
Fits n confirmation = Unit {0}
Fits n withdrawal = Unit {0}
Fits n closing = Unit {0}
Fits n reading = Unit {0}

-- a record: the letter O, T, C, W, S or V, and behind O and T the row
abbrev pub letter : Entry → ℕ
letter (opening prices) = 79
letter (offer quantities) = 84
letter confirmation = 67
letter withdrawal = 87
letter closing = 83
letter reading = 86

abbrev pub price_bytes : List ℕ → List ℕ
price_bytes prices = flat_map be32 prices

abbrev pub row_bytes : Entry → List ℕ
row_bytes (opening prices) = price_bytes prices
row_bytes (offer quantities) = quantities
row_bytes confirmation = []
row_bytes withdrawal = []
row_bytes closing = []
row_bytes reading = []

abbrev pub entry_bytes : Entry → List ℕ
entry_bytes e = letter e ∷ row_bytes e

-- how many bytes follow each letter on a tape of n products; none: the byte is no letter
abbrev pub row_length : ℕ → ℕ → Option ℕ
row_length n b =
    cond (b == 79) (Some (4 * n)) (
    cond (b == 84) (Some n) (
    cond (b == 67) (Some 0) (
    cond (b == 87) (Some 0) (
    cond (b == 83) (Some 0) (
    cond (b == 86) (Some 0) None)))))

-- the number of each refusal of a tape
abbrev pub error_number : TapeError → ℕ
error_number TooLong = 13
error_number BadHeader = 14
error_number UnknownLetter = 15
error_number CutOff = 16
