-- Texts written one behind the other.
use Rattle.std.proofs.Common.{◌≡◌, ℕ, ◌+◌, ◌^◌, ◌<◌, ◌≤◌, List, [], ◌∷◌, ◌++◌, length, take, drop, Some, codes, decimal, Option, sym, refl, ap, ◌∙◌, subst, append_assoc, append-nil, arith, length-append}
use Rattle.listing.specs.Text.{kind_name, line, row_text}
use Rattle.listing.specs.Writing.{Lined, Put}
use Rattle.std.proofs.lemmas.Fmt.{length-decimal-le}
use Rattle.std.proofs.lemmas.List.{length_push, set_at, take_at}
use Rattle.tape.proofs.Laid.{laid_append}
use Rattle.tape.specs.Writing.{laid, Wrote}
use Rattle.tape.specs.declared.header.Kind.{Kind}
use Rattle.tape.specs.declared.header.Kind.TheVariants.{Plain, Strict}

-- one text, and another behind it
pub put_then : (before mid after xs ys : List ℕ) (at next end : ℕ) → Put before at xs next mid → Put mid next ys end after → Put before at (xs ++ ys) end after
put_then before mid after xs ys at next end p q = (
  omega (arith, p.0, q.0, length-append xs ys),
  q.1 ∙ ap (λ b. laid b next ys) p.1 ∙ ap (λ k. laid (laid before at xs) k ys) p.0 ∙ sym (laid_append before at xs ys),
)

-- a text from the start of a line, and its end
pub line_put : (before mid after text : List ℕ) (at end : ℕ) → 256 ≤ length before → at < 256
    → Put before 0 text at mid → Put mid at (10 ∷ []) end after → Lined before (line text) (Some end) after
line_put before mid after text at end room few p q =
    let whole = put_then before mid after text (10 ∷ []) 0 at end p q in
    (room, omega (arith, q.0), omega (arith, whole.0), whole.1)

-- one cell more
pub row_text_more : (xs : List ℕ) (x : ℕ) → row_text (xs ++ x ∷ []) ≡ row_text xs ++ 32 ∷ decimal x
row_text_more [] x = ap (λ l. 32 ∷ l) (append-nil (decimal x))
row_text_more (y ∷ ys) x =
    ap (λ l. 32 ∷ (decimal y ++ l)) (row_text_more ys x) ∙ ap (λ l. 32 ∷ l) (sym (append_assoc (decimal y) (row_text ys) (32 ∷ decimal x)))

-- a blank and a number written behind the cells so far
pub row_put : (before line blanked after row : List ℕ) (at end blank next x : ℕ)
    → Put before at (row_text row) end line → Put line end (32 ∷ []) blank blanked → Put blanked blank (decimal x) next after
    → Put before at (row_text (row ++ x ∷ [])) next after
row_put before line blanked after row at end blank next x p q r =
    rw row_text_more (put_then before line after (row_text row) (32 ∷ decimal x) at end next p (put_then line blanked after (32 ∷ []) (decimal x) end blank next q r))

-- a number of 32 bits has ten digits at most
pub digits_of_word : (n : ℕ) → n < 2 ^ 32 → length (decimal n) ≤ 10
digits_of_word n h = length-decimal-le 10 n (omega arith) (omega arith) (omega arith)

pub length_kind_name : (kind : Kind) → length (kind_name kind) ≤ 6
length_kind_name Plain = omega arith
length_kind_name Strict = omega arith

-- the parts of a heading, one behind the other
pub heading_parts : (book products name : List ℕ)
    → ((((codes "book " ++ book) ++ codes " products ") ++ products) ++ codes " kind ") ++ name
    ≡ codes "book " ++ (book ++ (codes " products " ++ (products ++ (codes " kind " ++ name))))
heading_parts book products name = simp append_assoc

-- a text laid behind the first bytes of memory
pub laid_behind : (front back text : List ℕ) (at : ℕ) → length front ≡ at → length text ≤ length back
    → laid (front ++ back) at text ≡ front ++ (text ++ drop (length text) back)
laid_behind front back [] at e room = refl
laid_behind front [] (b ∷ bs) at e room = absurd (omega arith)
laid_behind front (y ∷ ys) (b ∷ bs) at e room =
    ap (λ l. laid l (at + 1) bs) (set_at front y ys b at e ∙ sym (append_assoc front (b ∷ []) ys))
    ∙ laid_behind (front ++ b ∷ []) ys bs (at + 1) (length_push front b ∙ ap (λ k. k + 1) e) (omega arith)
    ∙ append_assoc front (b ∷ []) (bs ++ drop (length bs) ys)

-- what the front of memory holds once a text is written there
pub text_taken : (before text after : List ℕ) (end : ℕ) → Wrote before 0 text (Some end) after → take end after ≡ text
text_taken before text after end w =
    ap (take end) (w.2 ∙ laid_behind [] before text 0 refl (omega (arith, w.0))) ∙ take_at text (drop (length text) before) end (omega (arith, w.1))

-- what a line holds once a text is written
pub line_taken : (before text after : List ℕ) (r : Option ℕ) (n : ℕ) → r ≡ Some n → Lined before text r after → take n after ≡ text
line_taken before text after r n e l =
    let h = subst (λ o. Lined before text o after) e l in
    text_taken before text after n (omega (arith, h.0, h.1, h.2), omega (arith, h.2), h.3)
