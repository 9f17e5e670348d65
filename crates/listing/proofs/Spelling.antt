-- Words, comments and numbers, byte by byte.
use Rattle.std.proofs.Common.{◌≡◌, ℕ, suc, ◌+◌, ◌-◌, ◌*◌, ◌<◌, ◌≤◌, Bool, true, false, cond, not, eqb, ltb, ltb-false, ltb-true, min, Some, None, Option, MatchOption, position, subst, List, [], ◌∷◌, ◌++◌, length, get_or, take, drop, sym, refl, ap, ◌∙◌, append_assoc, append-nil, arith}
use Rattle.std.specs.List.{position_or_len}
use Rattle.listing.specs.Lines.{before_comment, blank, ended, lines, lines_from, value_from, words, words_from}
use Rattle.std.proofs.lemmas.List.{at_drop_more, drop_all, get_or-drop, length-drop, take_all}
use Rattle.std.proofs.lemmas.List.Sums.{passes_at_first, prefix_len-le-length}
use Rattle.std.specs.Option.{unwrap_or}
use Rattle.std.proofs.lemmas.Bool.{cond-false, cond-true, not-true}

-- the first place that passes a test is here, or further on
pub place_here : {X : Type 0} (p : X → Bool) (x : X) (xs : List X) → p x ≡ true → position_or_len p (x ∷ xs) ≡ 0
place_here p x xs e = ap (λ t. cond (not t) (1 + position_or_len p xs) 0) e

pub place_later : {X : Type 0} (p : X → Bool) (x : X) (xs : List X) → p x ≡ false → position_or_len p (x ∷ xs) ≡ suc (position_or_len p xs)
place_later p x xs e = ap (λ t. cond (not t) (1 + position_or_len p xs) 0) e ∙ omega arith

-- what `position` answers
module _ {X : Type 0} (p : X → Bool) (xs : List X) where
  abbrev place : ℕ
  place = position_or_len p xs

  tested : (t : Bool) → ltb place (length xs) ≡ t → MatchOption (cond t (Some place) None) (length xs ≤ place) (λ i. (i ≡ place) × (i < length xs))
  tested true e = (refl, ltb-true place (length xs) e)
  tested false e = ltb-false place (length xs) e

  answered : MatchOption (position p xs) (length xs ≤ place) (λ i. (i ≡ place) × (i < length xs))
  answered = tested (ltb place (length xs)) refl

  pub place_found : (i : ℕ) → position p xs ≡ Some i → (i ≡ position_or_len p xs) × (i < length xs)
  place_found i e = subst (λ r. MatchOption r (length xs ≤ place) (λ k. (k ≡ place) × (k < length xs))) e answered

  pub place_none : position p xs ≡ None → length xs ≤ position_or_len p xs
  place_none e = subst (λ r. MatchOption r (length xs ≤ place) (λ k. (k ≡ place) × (k < length xs))) e answered

  pub place_or_end : (r : Option ℕ) → r ≡ position p xs → unwrap_or r (length xs) ≡ position_or_len p xs
  place_or_end None e = omega (arith, place_none (sym e), prefix_len-le-length (λ x. not (p x)) xs)
  place_or_end (Some i) e = (place_found i (sym e)).0

-- a comment starts at the first `#`
pub comment_cut : (xs : List ℕ) → take (position_or_len (λ b. eqb b 35) xs) xs ≡ before_comment xs
comment_cut [] = refl
comment_cut (b ∷ bs) = by (eqb b 35) refl (comment_cut bs)
  where
    place : List ℕ → ℕ
    place = position_or_len (λ x. eqb x 35)

    by : (t : Bool) → eqb b 35 ≡ t → take (place bs) bs ≡ before_comment bs → take (place (b ∷ bs)) (b ∷ bs) ≡ before_comment (b ∷ bs)
    by true e rest = ap (λ k. take k (b ∷ bs)) (place_here (λ x. eqb x 35) b bs e) ∙ sym (cond-true (eqb b 35) [] _ e)
    by false e rest = ap (λ k. take k (b ∷ bs)) (place_later (λ x. eqb x 35) b bs e) ∙ ap (λ l. b ∷ l) rest ∙ sym (cond-false (eqb b 35) [] _ e)

-- no word starts among the blanks that a text begins with
pub blanks_skipped : (xs : List ℕ) → words (drop (position_or_len (λ b. not (blank b)) xs) xs) ≡ words xs
blanks_skipped [] = refl
blanks_skipped (b ∷ bs) = by (blank b) refl (blanks_skipped bs)
  where
    place : List ℕ → ℕ
    place = position_or_len (λ x. not (blank x))

    by : (t : Bool) → blank b ≡ t → words (drop (place bs) bs) ≡ words bs → words (drop (place (b ∷ bs)) (b ∷ bs)) ≡ words (b ∷ bs)
    by true e rest = ap (λ k. words (drop k (b ∷ bs))) (place_later (λ x. not (blank x)) b bs (ap not e)) ∙ rest ∙ sym (cond-true (blank b) (words bs) _ e)
    by false e rest = ap (λ k. words (drop k (b ∷ bs))) (place_here (λ x. not (blank x)) b bs (ap not e))

-- a word that has begun ends at the first blank
word_cut : (word xs : List ℕ) → words_from word xs ≡ ended (word ++ take (position_or_len blank xs) xs) (words (drop (position_or_len blank xs) xs))
word_cut word [] = ap (λ w. ended w []) (sym (append-nil word))
word_cut word (b ∷ bs) = by (blank b) refl (word_cut (word ++ b ∷ []) bs)
  where
    cut : ℕ → List ℕ → List ℕ → List (List ℕ)
    cut k begun ys = ended (begun ++ take k ys) (words (drop k ys))

    by : (t : Bool) → blank b ≡ t → words_from (word ++ b ∷ []) bs ≡ cut (position_or_len blank bs) (word ++ b ∷ []) bs
        → words_from word (b ∷ bs) ≡ cut (position_or_len blank (b ∷ bs)) word (b ∷ bs)
    by true e rest =
        cond-true (blank b) (ended word (words bs)) _ e
        ∙ ap (ended word) (sym (cond-true (blank b) (words bs) _ e))
        ∙ ap (λ w. ended w (words (b ∷ bs))) (sym (append-nil word))
        ∙ ap (λ k. cut k word (b ∷ bs)) (sym (place_here blank b bs e))
    by false e rest =
        cond-false (blank b) (ended word (words bs)) _ e ∙ rest
        ∙ ap (λ w. ended w (words (drop (position_or_len blank bs) bs))) (append_assoc word (b ∷ []) (take (position_or_len blank bs) bs))
        ∙ ap (λ k. cut k word (b ∷ bs)) (sym (place_later blank b bs e))

-- a text has no word where it is all blank
pub no_word : (xs : List ℕ) → length xs ≤ position_or_len (λ b. not (blank b)) xs → words xs ≡ []
no_word xs h = sym (blanks_skipped xs) ∙ ap words (drop_all (position_or_len (λ b. not (blank b)) xs) xs h)

-- the first word starts at the first byte that is no blank, and ends at the next blank
pub first_word : (xs : List ℕ) (start : ℕ) → start ≡ position_or_len (λ b. not (blank b)) xs → start < length xs
    → words xs ≡ take (position_or_len blank (drop start xs)) (drop start xs) ∷ words (drop (position_or_len blank (drop start xs)) (drop start xs))
first_word xs start e some =
    let place = position_or_len (λ b. not (blank b)) xs in
    let front : blank (get_or (drop start xs) 0 0) ≡ false =
    ap blank (get_or-drop start xs 0 0 ∙ ap (λ k. get_or xs k 0) (omega arith)) ∙ not-true _ (passes_at_first (λ b. not (blank b)) xs 0 (omega arith)) in
    sym (blanks_skipped xs) ∙ ap (λ k. words (drop k xs)) (sym e) ∙ begins (drop start xs) (omega (arith, length-drop start xs)) front
  where
    begins : (ys : List ℕ) → 0 < length ys → blank (get_or ys 0 0) ≡ false → words ys ≡ take (position_or_len blank ys) ys ∷ words (drop (position_or_len blank ys) ys)
    begins [] none front = absurd (omega arith)
    begins (b ∷ bs) none front =
        let later = place_later blank b bs front in
        word_cut [] (b ∷ bs) ∙ ap (λ k. ended (take k (b ∷ bs)) (words (drop k (b ∷ bs)))) later
        ∙ ap (λ k. take k (b ∷ bs) ∷ words (drop k (b ∷ bs))) (sym later)

-- the first line ends at byte 10, or where the text ends
pub line_ends : (line xs : List ℕ) → position_or_len (λ b. eqb b 10) xs < length xs
    → lines_from line xs ≡ (line ++ take (position_or_len (λ b. eqb b 10) xs) xs) ∷ lines (drop (suc (position_or_len (λ b. eqb b 10) xs)) xs)
line_ends line [] h = absurd (omega arith)
line_ends line (b ∷ bs) h = by (eqb b 10) refl (line_ends (line ++ b ∷ []) bs)
  where
    place : List ℕ → ℕ
    place = position_or_len (λ x. eqb x 10)

    cut : List ℕ → List ℕ → ℕ → List (List ℕ)
    cut begun ys k = (begun ++ take k ys) ∷ lines (drop (suc k) ys)

    by : (t : Bool) → eqb b 10 ≡ t → (place bs < length bs → lines_from (line ++ b ∷ []) bs ≡ cut (line ++ b ∷ []) bs (place bs)) → lines_from line (b ∷ bs) ≡ cut line (b ∷ bs) (place (b ∷ bs))
    by true e more =
        cond-true (eqb b 10) (line ∷ lines bs) _ e ∙ ap (λ l. l ∷ lines bs) (sym (append-nil line)) ∙ ap (cut line (b ∷ bs)) (sym (place_here (λ x. eqb x 10) b bs e))
    by false e more =
        let later = place_later (λ x. eqb x 10) b bs e in
        cond-false (eqb b 10) (line ∷ lines bs) _ e ∙ more (omega arith)
        ∙ ap (λ l. l ∷ lines (drop (suc (place bs)) bs)) (append_assoc line (b ∷ []) (take (place bs) bs))
        ∙ ap (cut line (b ∷ bs)) (sym later)

pub line_last : (line xs : List ℕ) → length xs ≤ position_or_len (λ b. eqb b 10) xs → lines_from line xs ≡ ended (line ++ xs) []
line_last line [] h = ap (λ l. ended l []) (sym (append-nil line))
line_last line (b ∷ bs) h = by (eqb b 10) refl (line_last (line ++ b ∷ []) bs)
  where
    by : (t : Bool) → eqb b 10 ≡ t → (length bs ≤ position_or_len (λ x. eqb x 10) bs → lines_from (line ++ b ∷ []) bs ≡ ended ((line ++ b ∷ []) ++ bs) []) → lines_from line (b ∷ bs) ≡ ended (line ++ b ∷ bs) []
    by true e more = absurd (omega (arith, place_here (λ x. eqb x 10) b bs e))
    by false e more =
        cond-false (eqb b 10) (line ∷ lines bs) _ e ∙ more (omega (arith, place_later (λ x. eqb x 10) b bs e)) ∙ ap (λ l. ended l []) (append_assoc line (b ∷ []) bs)

pub ended_some : (w : List ℕ) (ws : List (List ℕ)) → 0 < length w → ended w ws ≡ w ∷ ws
ended_some [] ws h = absurd (omega arith)
ended_some (b ∷ bs) ws h = refl

-- the first line is what stands before the first byte 10, and what follows it are the lines behind
pub line_cut : (xs : List ℕ) (end next : ℕ) → 0 < length xs → end ≡ position_or_len (λ b. eqb b 10) xs → next ≡ min (length xs) (end + 1)
    → lines xs ≡ take end xs ∷ lines (drop next xs)
line_cut xs end next some e n = by (ltb end (length xs)) refl
  where
    by : (t : Bool) → ltb end (length xs) ≡ t → lines xs ≡ take end xs ∷ lines (drop next xs)
    by true h =
        let here = ltb-true end (length xs) h in
        let behind : suc end ≡ next = omega (arith, n, here) in
        line_ends [] xs (omega (arith, e, here)) ∙ ap (λ k. take k xs ∷ lines (drop (suc k) xs)) (sym e) ∙ ap (λ k. take end xs ∷ lines (drop k xs)) behind
    by false h =
        let past = ltb-false end (length xs) h in
        line_last [] xs (omega (arith, e, past)) ∙ ended_some xs [] some ∙ ap (λ l. l ∷ []) (sym (take_all end xs past))
        ∙ ap (λ l. take end xs ∷ lines l) (sym (drop_all next xs (omega (arith, n, past))))

-- one digit more
pub value_more : (xs : List ℕ) (i n : ℕ) → i < length xs → value_from n (drop i xs) ≡ value_from (n * 10 + (get_or xs i 0 - 48)) (drop (i + 1) xs)
value_more xs i n h = at_drop_more (value_from n) xs i 0 h

pub value_grows : (n : ℕ) (ds : List ℕ) → n ≤ value_from n ds
value_grows n [] = omega arith
value_grows n (d ∷ ds) = omega (arith, value_grows (n * 10 + (d - 48)) ds)
