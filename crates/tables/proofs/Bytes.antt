-- The rows of a table, written one after the other.
use Rattle.std.proofs.Common.{◌≡◌, ℕ, ◌+◌, ◌*◌, ◌≤◌, List, [], ◌++◌, length, take, drop, sym, ap, ◌∙◌, add-mul, arith, length-append}
use borrow.Rule.Slice.PartMut.{put_mid}
use Rattle.std.proofs.lemmas.Slice.{drop-put_mid, take-put_mid}
use Rattle.std.proofs.lemmas.List.{drop-drop, flat_map_more}
use Rattle.std.specs.List.{flat_map}
use Rattle.tables.proofs.Changes.{packages_more}
use Rattle.tables.specs.Tables.{row_at, packages_of}

module _ (n : ℕ) (rows : List (List ℕ)) where
  -- the first k rows, one after the other
  abbrev pub rows_so_far : ℕ → List ℕ
  rows_so_far k = flat_map (λ x. x) (packages_of n rows k)

  -- the first k rows stand in front, and the rest is as it was
  pub record Laid (start : List ℕ) (k : ℕ) (bytes : List ℕ) : Type 0 where
    pub long : length (rows_so_far k) ≡ k * n
    pub front : take (k * n) bytes ≡ rows_so_far k
    pub rest : drop (k * n) bytes ≡ drop (k * n) start

  so_far_more : (k : ℕ) → rows_so_far (k + 1) ≡ rows_so_far k ++ row_at n rows k
  so_far_more k = ap (flat_map (λ x. x)) (packages_more n rows k) ∙ sym (flat_map_more (λ x. x) [] (packages_of n rows k) (row_at n rows k))

  -- one more row, written over the bytes after them
  pub laid_more : (start bytes row : List ℕ) (k m : ℕ) → m ≡ n → row ≡ row_at n rows k → length row ≡ n → k * n + n ≤ length bytes
      → Laid start k bytes → Laid start (k + 1) (put_mid (k * n) m bytes row)
  laid_more start bytes row k m is_n is long room laid =
      let next : (k + 1) * n ≡ k * n + n = omega (arith, add-mul k 1 n) in
      record {
        long = ap length (so_far_more k) ∙ length-append (rows_so_far k) (row_at n rows k) ∙ omega (arith, laid.long, ap length is, next);
        front =
            take-put_mid (k * n) m bytes row ((k + 1) * n) (omega arith) (omega arith)
            ∙ ap (λ xs. xs ++ row) laid.front ∙ ap (λ xs. rows_so_far k ++ xs) is ∙ sym (so_far_more k);
        rest =
            drop-put_mid (k * n) m bytes row ((k + 1) * n) (omega arith) (omega arith) (omega arith) ∙ ap (λ j. drop j bytes) next
            ∙ sym (drop-drop n (k * n) bytes) ∙ ap (drop n) laid.rest ∙ drop-drop n (k * n) start ∙ ap (λ j. drop j start) (sym next);
      }
