-- Rows of numbers, cell by cell.
use Rattle.std.proofs.Common.{◌≡◌, ℕ, suc, ◌+◌, ◌-◌, ◌*◌, ◌<◌, ◌≤◌, min, List, [], ◌∷◌, ◌++◌, length, take, drop, set, replicate, sym, refl, ap, ◌∙◌, inl, inr, append_assoc, append-nil, arith, length-append}
use Rattle.std.proofs.Math.Nat.{mul-le-mul_left, mul-suc, sub-zero}
use Rattle.std.proofs.ByRecursion.{All-push}
use Rattle.std.proofs.lemmas.List.{drop-replicate, flat_map_more, map-id, set_at, take_all}
use Rattle.std.proofs.lemmas.List.Concat.{flat_map_single}
use Rattle.std.proofs.lemmas.Bool.{cases_lt}
use Rattle.std.specs.List.{flat_map}
use Rattle.tape.specs.Fields.{itself}
use Rattle.tape.specs.Format.{be8}
use Rattle.tape.specs.Reading.{RowRead}

-- how long the numbers of a row are, each of which has so many bytes
pub length_rows : {T : Type 0} (bytes_of : T → List ℕ) (width : ℕ) → ((x : T) → length (bytes_of x) ≡ width) → (row : List T) → length (flat_map bytes_of row) ≡ width * length row
length_rows bytes_of width each [] = omega arith
length_rows bytes_of width each (x ∷ row) =
    let one = length-append (bytes_of x) (flat_map bytes_of row) in
    let more = length_rows bytes_of width each row in
    let first = each x in
    omega (arith, mul-suc width (length row))

-- rows of one kind of number
module _ {T : Type 0} (zero : T) (limit : ℕ) (value_of : T → ℕ) (bytes_of : T → List ℕ) where
  pub row_none : (size : ℕ) (t : List ℕ) → RowRead zero limit value_of bytes_of size 0 t (replicate size zero) t
  row_none size t = record { row = []; many = refl; small = tt; filled = ap (λ k. replicate k zero) (sym (sub-zero size)); front = refl }

  -- one number more was read
  pub row_more : (size i : ℕ) (t : List ℕ) (cells : List T) (rest : List ℕ) (x : T) (more : List ℕ)
      → value_of x < limit → rest ≡ bytes_of x ++ more → i < size
      → RowRead zero limit value_of bytes_of size i t cells rest → RowRead zero limit value_of bytes_of size (i + 1) t (set cells i x) more
  row_more size i t cells rest x more small split room r =
      let row = r.row in
      let left : size - length row ≡ suc (size - suc i) = let many = r.many in omega arith in
      let long : length (row ++ x ∷ []) ≡ i + 1 = length-append row (x ∷ []) ∙ ap (λ k. k + 1) r.many in
      let then : size - suc i ≡ size - length (row ++ x ∷ []) = omega (arith, long) in
      record {
        row = row ++ x ∷ [];
        many = long;
        small = All-push (λ y. value_of y < limit) row x r.small small;
        filled =
            ap (λ l. set l i x) r.filled
            ∙ ap (λ k. set (row ++ replicate k zero) i x) left
            ∙ set_at row zero (replicate (size - suc i) zero) x i r.many
            ∙ sym (append_assoc row (x ∷ []) (replicate (size - suc i) zero))
            ∙ ap (λ k. (row ++ x ∷ []) ++ replicate k zero) then;
        front = r.front ∙ ap (λ l. flat_map bytes_of row ++ l) split ∙ sym (append_assoc (flat_map bytes_of row) (bytes_of x) more) ∙ ap (λ l. l ++ more) (flat_map_more bytes_of [] row x);
      }

  -- the row is whole: the cells past it were not touched
  pub row_whole : (size n : ℕ) (t : List ℕ) (cells : List T) (rest : List ℕ) → RowRead zero limit value_of bytes_of n n t cells rest
      → RowRead zero limit value_of bytes_of size n t (cells ++ drop n (replicate size zero)) rest
  row_whole size n t cells rest r =
      let full : n - length r.row ≡ 0 = let many = r.many in omega arith in
      record {
        row = r.row;
        many = r.many;
        small = r.small;
        filled = ap (λ l. l ++ drop n (replicate size zero)) (r.filled ∙ ap (λ k. r.row ++ replicate k zero) full ∙ append-nil r.row) ∙ ap (λ l. r.row ++ l) (drop-replicate n size zero ∙ ap (λ k. replicate (size - k) zero) (sym r.many));
        front = r.front;
      }

  -- how long a tape is that begins with a row, each of whose numbers has so many bytes
  pub row_then : (width : ℕ) → ((x : T) → length (bytes_of x) ≡ width) → (size i : ℕ) (t : List ℕ) (cells : List T) (rest : List ℕ)
      → RowRead zero limit value_of bytes_of size i t cells rest → length t ≡ width * i + length rest
  row_then width each size i t cells rest r =
      ap length r.front ∙ length-append (flat_map bytes_of r.row) rest ∙ ap (λ k. k + length rest) (length_rows bytes_of width each r.row ∙ ap (λ k. width * k) r.many)

-- a row of quantities is its own bytes
pub quantity_bytes : (quantities : List ℕ) → flat_map be8 quantities ≡ quantities
quantity_bytes quantities = flat_map_single itself quantities ∙ map-id quantities

-- one number more of a row is within the row
pub row_next : (width i n : ℕ) → i < n → width * i + width ≤ width * n
row_next width i n more = let whole = mul-le-mul_left width more in let next = mul-suc width i in omega (arith, whole, next)

-- the first n of 16 cells, where a count above 16 takes them all
pub first_cells : (cells : List ℕ) (n k : ℕ) → length cells ≡ 16 → k ≡ min n 16 → take (k - 0) cells ≡ take n cells
first_cells cells n k long e = elim (cases_lt n 16) [
  | inl few ↦ ap (λ m. take m cells) (omega arith)
  | inr many ↦ take_all (k - 0) cells (omega arith) ∙ sym (take_all n cells (omega arith))
]
