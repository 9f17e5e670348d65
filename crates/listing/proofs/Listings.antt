-- The listing of a tape, line by line.
use Rattle.std.proofs.Common.{◌≡◌, ℕ, ◌-◌, cond, List, [], ◌∷◌, ◌++◌, length, replicate, is_ok, Ok, Err, Option, Result, sym, refl, ap, ◌∙◌, subst, append_assoc, append-nil}
use Rattle.listing.specs.Tapes.{Appended, break_text, Records, goes, RecordsListed}
use Rattle.listing.specs.Text.{entries_text, entry_text, line}
use Rattle.std.proofs.lemmas.List.{take_at}
use Rattle.tape.specs.Format.{Entry, opening, offer, confirmation, withdrawal, closing, reading, entry_bytes, entry_of, record_of, Fits}
use Rattle.tape.specs.declared.error.TapeError.{TapeError}

-- a record says the entry that it is of
pub entry_record : (n : ℕ) (e : Entry) → Fits n e → entry_of n (record_of e) ≡ e
entry_record n (opening prices) f = ap opening (take_at prices (replicate (16 - length prices) 0) n f.0)
entry_record n (offer quantities) f = ap offer (take_at quantities (replicate (16 - length quantities) 0) n f.0)
entry_record n confirmation f = refl
entry_record n withdrawal f = refl
entry_record n closing f = refl
entry_record n reading f = refl

pub entries_text_more : (es : List Entry) (e : Entry) → entries_text (es ++ e ∷ []) ≡ entries_text es ++ line (entry_text e)
entries_text_more [] e = append-nil (line (entry_text e))
entries_text_more (d ∷ ds) e =
    ap (λ t. line (entry_text d) ++ t) (entries_text_more ds e) ∙ sym (append_assoc (line (entry_text d)) (entries_text ds) (line (entry_text e)))

-- the entries up to rest are listed behind old
pub record Listing (n : ℕ) (t rest old text : List ℕ) : Type 0 where
  pub entries : List Entry
  pub said : text ≡ old ++ entries_text entries
  pub held : (es : List Entry) (end : Option TapeError) → Records n rest es end → Records n t (entries ++ es) end

pub listing_more : (n : ℕ) (t rest more old text after : List ℕ) (e : Entry) → Fits n e → rest ≡ entry_bytes e ++ more → after ≡ text ++ line (entry_text e)
    → Listing n t rest old text → Listing n t more old after
listing_more n t rest more old text after e fits front added l = record {
  entries = l.entries ++ e ∷ [];
  said = added ∙ ap (λ s. s ++ line (entry_text e)) l.said ∙ append_assoc old (entries_text l.entries) (line (entry_text e)) ∙ ap (λ s. old ++ s) (sym (entries_text_more l.entries e));
  held = λ es end r. subst (λ ds. Records n t ds end) (sym (append_assoc l.entries (e ∷ []) es)) (l.held (e ∷ es) end (goes fits front r));
}

-- the listing once its end is reached
pub listing_whole : (n : ℕ) (t rest old text : List ℕ) (end : Option TapeError) (l : Listing n t rest old text) → Records n rest [] end
    → RecordsListed n t (entries_text l.entries ++ break_text end)
listing_whole n t rest old text end l r = record {
  entries = l.entries;
  end = end;
  held = subst (λ es. Records n t es end) (append-nil l.entries) (l.held [] end r);
  said = refl;
}

-- a text was put behind the part that is listed so far
pub appended : {E : Type 0} (P : List ℕ → Type 0) (old part added text after : List ℕ) (r : Result (Unit {0}) E)
    → text ≡ old ++ part → after ≡ cond (is_ok r) (text ++ added) text → P (part ++ added) → Appended P old r after
appended P old part added text after (Ok _) e p h = (part ++ added, h, p ∙ ap (λ s. s ++ added) e ∙ append_assoc old part added)
appended P old part added text after (Err _) e p h = (part, p ∙ e)

-- what was put behind a text whose end was put there before
pub appended_behind : {E : Type 0} (P Q : List ℕ → Type 0) (old front text after : List ℕ) (r : Result (Unit {0}) E) → text ≡ old ++ front
    → ((more : List ℕ) → P more → Q (front ++ more)) → Appended P text r after → Appended Q old r after
appended_behind P Q old front text after (Ok _) e h a = (front ++ a.0, h a.0 a.1, a.2 ∙ ap (λ s. s ++ a.0) e ∙ append_assoc old front a.0)
appended_behind P Q old front text after (Err _) e h a = (front ++ a.0, a.1 ∙ ap (λ s. s ++ a.0) e ∙ append_assoc old front a.0)
