-- Lines, and the tape that they describe.
use Rattle.std.proofs.Common.{◌≡◌, ℕ, ◌+◌, ◌<◌, ◌≤◌, List, [], ◌∷◌, ◌++◌, length, take, Some, Ok, Err, Option, Result, MatchResult, IsErrAnd, sym, refl, ap, ◌∙◌, subst, inl, inr, append_assoc, append-nil, arith}
use Rattle.listing.proofs.Sayings.{heading_one, says_one}
use Rattle.listing.specs.Lines.{Describe, Enter, lines, said, Says, SaysHeading}
use Rattle.listing.specs.Making.{entries_bytes, Entered, NoHeading, NoRoom, tape_bytes, Wordless, WritesLine}
use Rattle.listing.specs.declared.error.BadLine.{BadLine}
use Rattle.std.specs.Result.{result_ok}
use Rattle.std.proofs.ByRecursion.{All-push}
use Rattle.std.proofs.lemmas.List.{length-append, length_push, take_at}
use Rattle.tape.proofs.Laid.{laid_append, length_laid}
use Rattle.tape.specs.Format.{Entry, entry_bytes}
use Rattle.tape.specs.Writing.{laid, Wrote}
use Rattle.tape.specs.declared.header.Kind.{Kind}

-- a line that says something has words
says_some : (n : ℕ) (ws : List (List ℕ)) (e : Entry) → Says n ws e → ws ≡ [] → ⊥
says_some n ws e s none = let spelled = s.spelled in cc

heading_some : (ws : List (List ℕ)) (b p : ℕ) (k : Kind) → SaysHeading ws b p k → ws ≡ [] → ⊥
heading_some ws b p k s none = let spelled = s.spelled in cc

-- entries of lines, and of more lines behind them
pub enter_append : (n : ℕ) (ls ms : List (List ℕ)) (es fs : List Entry) → Enter n ls es → Enter n ms fs → Enter n (ls ++ ms) (es ++ fs)
enter_append n [] ms es fs h k = subst (λ l. Enter n ms (l ++ fs)) (sym h) k
enter_append n (l ∷ ls) ms es fs (inl h) k = inl (h.0, enter_append n ls ms es fs h.1 k)
enter_append n (l ∷ ls) ms es fs (inr h) k = inr (h.0, h.1 ++ fs, ap (λ l. l ++ fs) h.2, h.3, enter_append n ls ms h.1 fs h.4 k)

pub enter_split : (n : ℕ) (ls ms : List (List ℕ)) (gs : List Entry) → Enter n (ls ++ ms) gs
    → (es : List Entry) × (fs : List Entry) × Enter n ls es × Enter n ms fs × (gs ≡ es ++ fs)
enter_split n [] ms gs h = ([], gs, refl, h, refl)
enter_split n (l ∷ ls) ms gs (inl h) =
    let r = enter_split n ls ms gs h.1 in
    (r.0, r.1, inl (h.0, r.2), r.3, r.4)
enter_split n (l ∷ ls) ms gs (inr h) =
    let r = enter_split n ls ms h.1 h.4 in
    (h.0 ∷ r.0, r.1, inr (h.0, r.0, refl, h.3, r.2), r.3, h.2 ∙ ap (λ l. h.0 ∷ l) r.4)

-- lines say their entries and no others
pub enter_one : (n : ℕ) (ls : List (List ℕ)) (es fs : List Entry) → Enter n ls es → Enter n ls fs → es ≡ fs
enter_one n [] es fs h k = h ∙ sym k
enter_one n (l ∷ ls) es fs (inl h) (inl k) = enter_one n ls es fs h.1 k.1
enter_one n (l ∷ ls) es fs (inl h) (inr k) = absurd (says_some n (said l) k.0 k.3 h.0)
enter_one n (l ∷ ls) es fs (inr h) (inl k) = absurd (says_some n (said l) h.0 h.3 k.0)
enter_one n (l ∷ ls) es fs (inr h) (inr k) =
    let first = says_one n (said l) h.0 k.0 h.3 k.3 in
    let rest = enter_one n ls h.1 k.1 h.4 k.4 in
    h.2 ∙ ap (λ e. e ∷ h.1) first ∙ ap (λ l. k.0 ∷ l) rest ∙ sym k.2

pub entries_bytes_append : (es fs : List Entry) → entries_bytes (es ++ fs) ≡ entries_bytes es ++ entries_bytes fs
entries_bytes_append [] fs = refl
entries_bytes_append (e ∷ es) fs = ap (λ l. entry_bytes e ++ l) (entries_bytes_append es fs) ∙ sym (append_assoc (entry_bytes e) (entries_bytes es) (entries_bytes fs))

length_entries_append : (es fs : List Entry) → length (entries_bytes (es ++ fs)) ≡ length (entries_bytes es) + length (entries_bytes fs)
length_entries_append es fs = ap length (entries_bytes_append es fs) ∙ length-append (entries_bytes es) (entries_bytes fs)

-- lines were written, and more lines behind them
pub entered_then : (n : ℕ) (ls ms : List (List ℕ)) (before mid after : List ℕ) (at next end : ℕ)
    → Entered n ls before at next mid → Entered n ms mid next end after → Entered n (ls ++ ms) before at end after
entered_then n ls ms before mid after at next end p q =
    let es = p.entries in
    let fs = q.entries in
    let long = length_entries_append es fs in
    record {
      entries = es ++ fs;
      entered = enter_append n ls ms es fs p.entered q.entered;
      size = omega (arith, p.size, q.size);
      fits = omega (arith, q.fits, ap length p.held, length_laid before at (entries_bytes es));
      held = q.held ∙ ap (λ m. laid m next (entries_bytes fs)) p.held ∙ ap (λ k. laid (laid before at (entries_bytes es)) k (entries_bytes fs)) p.size
          ∙ sym (laid_append before at (entries_bytes es) (entries_bytes fs)) ∙ ap (laid before at) (sym (entries_bytes_append es fs));
    }

-- a line has no room behind lines that were written, so the whole has none
pub no_room_behind : (n : ℕ) (ls ms : List (List ℕ)) (l before mid : List ℕ) (at next : ℕ)
    → Entered n ls before at next mid → NoRoom n (l ∷ []) mid next → NoRoom n (ls ++ l ∷ ms) before at
no_room_behind n ls ms l before mid at next p none gs h room =
    let outer = enter_split n ls (l ∷ ms) gs h in
    let inner = enter_split n (l ∷ []) ms outer.1 outer.3 in
    let front = enter_one n ls outer.0 p.entries outer.2 p.entered in
    let whole = length_entries_append outer.0 outer.1 in
    let behind = length_entries_append inner.0 inner.1 in
    none inner.0 inner.2
    (omega (
      arith,
      room,
      whole,
      behind,
      p.size,
      ap (λ es. length (entries_bytes es)) front,
      ap (λ es. length (entries_bytes es)) outer.4,
      ap (λ es. length (entries_bytes es)) inner.4,
      ap length p.held,
      length_laid before at (entries_bytes p.entries),
    ))

-- lines with no words say nothing
pub describe_front : (front ls : List (List ℕ)) (b p : ℕ) (k : Kind) (es : List Entry) → Wordless front → Describe (front ++ ls) b p k es → Describe ls b p k es
describe_front [] ls b p k es w d = d
describe_front (l ∷ front) ls b p k es w (inl d) = describe_front front ls b p k es w.1 d.1
describe_front (l ∷ front) ls b p k es w (inr d) = absurd (heading_some (said l) b p k d.0 w.0)

pub describe_behind : (front ls : List (List ℕ)) (b p : ℕ) (k : Kind) (es : List Entry) → Wordless front → Describe ls b p k es → Describe (front ++ ls) b p k es
describe_behind [] ls b p k es w d = d
describe_behind (l ∷ front) ls b p k es w d = inl (w.0, describe_behind front ls b p k es w.1 d)

-- lines describe one tape at most
pub describe_one : (ls : List (List ℕ)) (b p : ℕ) (k : Kind) (es : List Entry) (b' p' : ℕ) (k' : Kind) (es' : List Entry)
    → Describe ls b p k es → Describe ls b' p' k' es' → tape_bytes b p k es ≡ tape_bytes b' p' k' es'
describe_one [] b p k es b' p' k' es' d d' = absurd d
describe_one (l ∷ ls) b p k es b' p' k' es' (inl d) (inl d') = describe_one ls b p k es b' p' k' es' d.1 d'.1
describe_one (l ∷ ls) b p k es b' p' k' es' (inl d) (inr d') = absurd (heading_some (said l) b' p' k' d'.0 d.0)
describe_one (l ∷ ls) b p k es b' p' k' es' (inr d) (inl d') = absurd (heading_some (said l) b p k d.0 d'.0)
describe_one (l ∷ ls) b p k es b' p' k' es' (inr d) (inr d') =
    let same = heading_one (said l) b p k b' p' k' d.0 d'.0 in
    let entries = enter_one p ls es es' d.1 (subst (λ q. Enter q ls es') (sym same.1) d'.1) in
    ap (λ x. tape_bytes x p k es) same.0 ∙ ap (λ x. tape_bytes b' x k es) same.1 ∙ ap (λ x. tape_bytes b' p' x es) same.2 ∙ ap (tape_bytes b' p' k') entries

-- one line was written as its entry
pub line_entered : (n : ℕ) (line before after : List ℕ) (at end : ℕ) (e : Entry) → Says n (said line) e → Wrote before at (entry_bytes e) (Some end) after
    → Entered n (line ∷ []) before at end after
line_entered n line before after at end e s w =
    let bytes = append-nil (entry_bytes e) in
    record {
      entries = e ∷ [];
      entered = inr (e, [], refl, s, refl);
      size = w.1 ∙ ap (λ l. at + length l) (sym bytes);
      fits = omega (arith, w.0, w.1);
      held = w.2 ∙ ap (laid before at) (sym bytes);
    }

-- its entry has no room
pub line_full : (n : ℕ) (line before : List ℕ) (at : ℕ) (e : Entry) → Says n (said line) e → length before < at + length (entry_bytes e) → NoRoom n (line ∷ []) before at
line_full n line before at e s full es h room =
    let same = enter_one n (line ∷ []) es (e ∷ []) h (inr (e, [], refl, s, refl)) in
    omega (arith, room, full, ap (λ l. length (entries_bytes l)) same, ap length (append-nil (entry_bytes e)))

-- what one line gives that says an entry
pub line_written : {E : Type 0} (n : ℕ) (line before after : List ℕ) (at : ℕ) (e : Entry) (o : Option ℕ) (r : Result ℕ E) → Says n (said line) e
    → Wrote before at (entry_bytes e) o after → o ≡ result_ok r → WritesLine n line before at r after
line_written n line before after at e o (Ok end) s w is = line_entered n line before after at end e s (subst (λ x. Wrote before at (entry_bytes e) x after) is w)
line_written n line before after at e o (Err _) s w is =
    let full = subst (λ x. Wrote before at (entry_bytes e) x after) is w in
    (line_full n line before at e s full.0, full.1)

-- it says no entry
pub line_bad : (n : ℕ) (line before : List ℕ) (at : ℕ) → (said line ≡ [] → ⊥) → ((e : Entry) → Says n (said line) e → ⊥) → NoRoom n (line ∷ []) before at
line_bad n line before at some none es (inl h) room = some h.0
line_bad n line before at some none es (inr h) room = none h.0 h.3

-- a refusal was given the number of its line
abbrev pub Numbered : {T E : Type 0} → Result T E → ℕ → Result T BadLine → Type 0
Numbered r line s = MatchResult r (λ x. s ≡ Ok x) (λ e. IsErrAnd s (λ bad. bad.line ≡ line))

pub numbered_ok : {T E : Type 0} (r : Result T E) (line : ℕ) (s : Result T BadLine) (x : T) → Numbered r line s → s ≡ Ok x → r ≡ Ok x
numbered_ok (Ok y) line s x h e = cc
numbered_ok (Err y) line s x h e = absurd (subst (λ t. IsErrAnd t (λ bad. bad.line ≡ line)) e h)

pub numbered_err : {T E : Type 0} (r : Result T E) (line : ℕ) (s : Result T BadLine) (bad : BadLine) → Numbered r line s → s ≡ Err bad → (bad.line ≡ line) × ((e : E) × (r ≡ Err e))
numbered_err (Ok y) line s bad h e = absurd (cc)
numbered_err (Err y) line s bad h e = (subst (λ t. IsErrAnd t (λ b. b.line ≡ line)) e h, (y, refl))

-- lines were passed over up to rest
pub record Passing (text rest : List ℕ) (line : ℕ) : Type 0 where
  pub front : List (List ℕ)
  pub split : lines text ≡ front ++ lines rest
  pub wordless : Wordless front
  pub number : line ≡ length front
  pub short : line + length rest ≤ length text

pub passing_more : (text rest first more : List ℕ) (line : ℕ) → lines rest ≡ first ∷ lines more → length more < length rest → said first ≡ []
    → Passing text rest line → Passing text more (line + 1)
passing_more text rest first more line e less none p = record {
  front = p.front ++ first ∷ [];
  split = p.split ∙ ap (λ l. p.front ++ l) e ∙ sym (append_assoc p.front (first ∷ []) (lines more));
  wordless = All-push (λ l. said l ≡ []) p.front first p.wordless none;
  number = ap (λ k. k + 1) p.number ∙ sym (length_push p.front first);
  short = omega (arith, p.short);
}

-- no heading stands behind lines that were passed over
pub no_heading : (text rest : List ℕ) (line : ℕ) → ((b p : ℕ) (k : Kind) (es : List Entry) → Describe (lines rest) b p k es → ⊥) → Passing text rest line → NoHeading text (line + 1)
no_heading text rest line none p = record {
  none = λ b q k es d. none b q k es (describe_front p.front (lines rest) b q k es p.wordless (subst (λ ls. Describe ls b q k es) p.split d));
  front = line;
  number = refl;
  within = omega (arith, p.number, ap length p.split, length-append p.front (lines rest));
  wordless = subst Wordless (sym (ap (take line) p.split ∙ take_at p.front (lines rest) line (sym p.number))) p.wordless;
}

-- a line with words that say no heading
pub bad_heading : (first : List ℕ) (ls : List (List ℕ)) → (said first ≡ [] → ⊥) → ((b p : ℕ) (k : Kind) → SaysHeading (said first) b p k → ⊥)
    → (b p : ℕ) (k : Kind) (es : List Entry) → Describe (first ∷ ls) b p k es → ⊥
bad_heading first ls some none b p k es (inl d) = some d.0
bad_heading first ls some none b p k es (inr d) = none b p k d.0

-- lines were written up to rest
pub record Filling (n : ℕ) (text rest : List ℕ) (first line : ℕ) (before : List ℕ) (start at : ℕ) (tape : List ℕ) : Type 0 where
  pub done : List (List ℕ)
  pub split : lines text ≡ done ++ lines rest
  pub number : line ≡ first + length done
  pub written : Entered n done before start at tape

pub filling_more : (n : ℕ) (text rest next more : List ℕ) (first line : ℕ) (before tape after : List ℕ) (start at end : ℕ)
    → lines rest ≡ next ∷ lines more → Entered n (next ∷ []) tape at end after
    → Filling n text rest first line before start at tape → Filling n text more first (line + 1) before start end after
filling_more n text rest next more first line before tape after start at end e w f = record {
  done = f.done ++ next ∷ [];
  split = f.split ∙ ap (λ l. f.done ++ l) e ∙ sym (append_assoc f.done (next ∷ []) (lines more));
  number = omega (arith, f.number, length_push f.done next);
  written = entered_then n f.done (next ∷ []) before tape after start at end f.written w;
}

-- the next line is bad
pub filling_breaks : (n : ℕ) (text rest next more : List ℕ) (first line : ℕ) (before tape after : List ℕ) (start at : ℕ)
    → lines rest ≡ next ∷ lines more → NoRoom n (next ∷ []) tape at → after ≡ tape → Filling n text rest first line before start at tape
    → NoRoom n (lines text) before start
    × ((k : ℕ) × (line + 1 ≡ first + k + 1) × (k ≤ length (lines text)) × ((end : ℕ) × Entered n (take k (lines text)) before start end after))
filling_breaks n text rest next more first line before tape after start at e none same f =
    let split = f.split ∙ ap (λ l. f.done ++ l) e in
    let k = length f.done in
    let front = ap (take k) f.split ∙ take_at f.done (lines rest) k refl in (
      subst (λ ls. NoRoom n ls before start) (sym split) (no_room_behind n f.done (lines more) next before tape start at f.written none),
      (
        k,
        omega (arith, f.number),
        omega (arith, ap length f.split, length-append f.done (lines rest)),
        (at, subst (λ t. Entered n (take k (lines text)) before start at t) (sym same) (subst (λ ls. Entered n ls before start at tape) (sym front) f.written)),
      ),
    )
