-- The listing of a tape.
use Rattle.std.specs.Prelude.{◌≡◌, ℕ, ◌<◌, ◌≤◌, List, [], ◌∷◌, ◌++◌, length, Some, None, Ok, Err, Option, Result}
use Rattle.listing.specs.Text.{line, error_text, entries_text, listing_of}
use Rattle.tape.specs.Format.{Entry, entry_bytes, Fits, row_length}
use Rattle.tape.specs.Reading.{Headed}
use Rattle.tape.specs.declared.error.TapeError.{TapeError}
use Rattle.tape.specs.declared.error.TapeError.TheVariants.{TooLong, BadHeader, UnknownLetter, CutOff}
use Rattle.tape.specs.declared.header.Kind.{Kind}

-- no record of a tape of n products stands in front of t: its first byte is no letter, or its row is cut off
abbrev pub Breaks : ℕ → List ℕ → TapeError → Type 0
Breaks n t TooLong = ⊥
Breaks n t BadHeader = ⊥
Breaks n t UnknownLetter = (b : ℕ) × (more : List ℕ) × (t ≡ b ∷ more) × (row_length n b ≡ None)
Breaks n t CutOff = (b : ℕ) × (more : List ℕ) × (k : ℕ) × (t ≡ b ∷ more) × (row_length n b ≡ Some k) × (length more < k)

-- the entries that bytes hold, up to their end or to where they break
pub data Records (n : ℕ) : List ℕ → List Entry → Option TapeError → Type 0 where
  ends : Records n [] [] None
  breaks : {t : List ℕ} {error : TapeError} → Breaks n t error → Records n t [] (Some error)
  goes : {t rest : List ℕ} {e : Entry} {es : List Entry} {end : Option TapeError}
      → Fits n e → t ≡ entry_bytes e ++ rest → Records n rest es end → Records n t (e ∷ es) end

-- the line that says where a tape breaks, if it does
abbrev pub break_text : Option TapeError → List ℕ
break_text None = []
break_text (Some error) = line (error_text error)

-- the text that records give: a line for each entry, and where they break their refusal
pub record RecordsListed (n : ℕ) (t text : List ℕ) : Type 0 where
  pub entries : List Entry
  pub end : Option TapeError
  pub held : Records n t entries end
  pub said : text ≡ entries_text entries ++ break_text end

-- the text that a tape gives: a tape that is too long or has no header gives its refusal,
-- any other its heading, a line for each entry, and where it breaks its refusal
pub data Listed : List ℕ → List ℕ → Type 0 where
  too_long : {t : List ℕ} → 32768 < length t → Listed t (line (error_text TooLong))
  no_header : {t : List ℕ} → length t ≤ 32768 → ((book products : ℕ) (kind : Kind) (rest : List ℕ) → Headed t book products kind rest → ⊥)
      → Listed t (line (error_text BadHeader))
  listed : {t rest : List ℕ} {book products : ℕ} {kind : Kind} {es : List Entry} {end : Option TapeError}
      → length t ≤ 32768 → Headed t book products kind rest → Records products rest es end
      → Listed t (listing_of book products kind es ++ break_text end)

-- the listing of a tape was to be put behind a text: it is there, or memory ran out and the text still begins as it did
abbrev pub Appended : {E : Type 0} → (List ℕ → Type 0) → List ℕ → Result (Unit {0}) E → List ℕ → Type 0
Appended P before (Ok _) after = (text : List ℕ) × P text × (after ≡ before ++ text)
Appended P before (Err _) after = (part : List ℕ) × (after ≡ before ++ part)
