-- What reading answers.
use Rattle.std.specs.Borrow.{Bor}
use Rattle.std.specs.Prelude.{◌≡◌, ℕ, ◌-◌, ◌^◌, ◌<◌, ◌≤◌, List, [], ◌∷◌, ◌++◌, length, replicate, Some, None, Ok, Err, Option, Result}
use Rattle.std.specs.List.{AllByRecursion, flat_map}
use Rattle.tape.specs.Format.{header_bytes, Entry, entry_of, record_of, letter, row_bytes, entry_bytes, Fits, row_length}
use Rattle.tape.specs.declared.error.TapeError.{TapeError}
use Rattle.tape.specs.declared.error.TapeError.TheVariants.{TooLong, BadHeader, UnknownLetter, CutOff}
use Rattle.tape.specs.declared.header.Header.{Header}
use Rattle.tape.specs.declared.header.Kind.{Kind}
use Rattle.tape.specs.declared.record.Record.{Record}

-- a number of products that a sale can have
abbrev pub Fit : ℕ → Type 0
Fit n = (1 ≤ n) × (n ≤ 16)

-- t begins with a header of this book number, these products and this kind, and goes on with rest
pub record Headed (t : List ℕ) (book products : ℕ) (kind : Kind) (rest : List ℕ) : Type 0 where
  pub number : book < 2 ^ 16
  pub fit : Fit products
  pub front : t ≡ header_bytes book products kind ++ rest

-- what reading the header of t answers: first its length is looked at, then its header
abbrev pub Heads : List ℕ → Result (Header × Bor (List ℕ)) TapeError → Type 0
Heads t (Ok p) = (length t ≤ 32768) × Headed t p.0.book p.0.products p.0.kind p.1.now
Heads t (Err TooLong) = 32768 < length t
Heads t (Err BadHeader) = (length t ≤ 32768) × ((book products : ℕ) (kind : Kind) (rest : List ℕ) → Headed t book products kind rest → ⊥)
Heads t (Err UnknownLetter) = ⊥
Heads t (Err CutOff) = ⊥

-- the answer that gives back a header and what follows it
abbrev pub HeaderBack : ℕ → ℕ → Kind → List ℕ → Result (Header × Bor (List ℕ)) TapeError → Type 0
HeaderBack book products kind rest (Ok p) = (p.0.book ≡ book) × (p.0.products ≡ products) × (p.0.kind ≡ kind) × (p.1.now ≡ rest)
HeaderBack book products kind rest (Err e) = ⊥

-- a row of n numbers was read off the front of t into so many cells; zeros fill the cells past it
pub record RowRead {T : Type 0} (zero : T) (limit : ℕ) (value_of : T → ℕ) (bytes_of : T → List ℕ) (size n : ℕ) (t : List ℕ) (cells : List T) (rest : List ℕ) : Type 0 where
  pub row : List T
  pub many : length row ≡ n
  pub small : AllByRecursion (λ x. value_of x < limit) row
  pub filled : cells ≡ row ++ replicate (size - length row) zero
  pub front : t ≡ flat_map bytes_of row ++ rest

-- a row was read off t, which stands behind a record's letter
pub record Behind (n b : ℕ) (t : List ℕ) (found : Record) (rest : List ℕ) : Type 0 where
  pub entry : Entry
  pub lettered : letter entry ≡ b
  pub fits : Fits n entry
  pub is : found ≡ record_of entry
  pub front : t ≡ row_bytes entry ++ rest

-- what reading behind a record's letter b answers, in a sale of n products: the record and the rest, or why the tape breaks here
abbrev pub ReadsBehind : ℕ → ℕ → List ℕ → Result (Record × Bor (List ℕ)) TapeError → Type 0
ReadsBehind n b t (Ok p) = Behind n b t p.0 p.1.now
ReadsBehind n b t (Err TooLong) = ⊥
ReadsBehind n b t (Err BadHeader) = ⊥
ReadsBehind n b t (Err UnknownLetter) = row_length n b ≡ None
ReadsBehind n b t (Err CutOff) = (k : ℕ) × (row_length n b ≡ Some k) × (length t < k)

-- what reading a record off the front of t answers, in a sale of n products: the record and the rest,
-- none at the tape's end, or why the tape breaks here
abbrev pub Reads : ℕ → List ℕ → Result (Option (Record × Bor (List ℕ))) TapeError → Type 0
Reads n t (Ok (Some p)) = Fit n × ((e : Entry) × Fits n e × (p.0 ≡ record_of e) × (t ≡ entry_bytes e ++ p.1.now))
Reads n t (Ok None) = Fit n × (t ≡ [])
Reads n t (Err TooLong) = ⊥
Reads n t (Err BadHeader) = Fit n → ⊥
Reads n t (Err UnknownLetter) = Fit n × ((b : ℕ) × (more : List ℕ) × (t ≡ b ∷ more) × (row_length n b ≡ None))
Reads n t (Err CutOff) = Fit n × ((b : ℕ) × (more : List ℕ) × (k : ℕ) × (t ≡ b ∷ more) × (row_length n b ≡ Some k) × (length more < k))

-- what was read stands for the same bytes
abbrev pub SameBytes : ℕ → List ℕ → Result (Option (Record × Bor (List ℕ))) TapeError → Type 0
SameBytes n t (Ok (Some p)) = t ≡ entry_bytes (entry_of n p.0) ++ p.1.now
SameBytes n t (Ok None) = t ≡ []
SameBytes n t (Err x) = Unit {0}

-- the answer that gives back an entry and what follows it
abbrev pub EntryBack : Entry → List ℕ → Result (Option (Record × Bor (List ℕ))) TapeError → Type 0
EntryBack e rest (Ok (Some p)) = (p.0 ≡ record_of e) × (p.1.now ≡ rest)
EntryBack e rest (Ok None) = ⊥
EntryBack e rest (Err x) = ⊥
