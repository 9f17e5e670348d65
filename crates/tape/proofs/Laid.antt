-- Bytes laid over a buffer, and the digits of a number.
use Rattle.std.proofs.Common.{◌≡◌, ℕ, zero, suc, max, ◌+◌, ◌-◌, ◌*◌, ◌/◌, ◌%◌, ◌^◌, ◌<◌, ◌≤◌, Some, List, [], ◌∷◌, ◌++◌, length, take, drop, set, ℤ, pos, negsuc, nat_abs, decimal, sym, refl, ap, ◌∙◌, arith, append-nil, length-append, length-drop, append_assoc}
use Rattle.std.proofs.lemmas.Fmt.{decimal_by_steps, decimal_digit, decimal_step}
use Rattle.std.proofs.lemmas.List.{drop-drop, drop_all, length-take-le}
use Rattle.std.proofs.lemmas.List.Edits.{sets, sets-eq}
use Rattle.std.proofs.Math.Nat.{one-le-pow, pow-succ'}
use Rattle.std.proofs.Math.Numerals.{add-one}
use Rattle.std.proofs.Math.Seq.{length-sets}
use borrow.Rule.Slice.PartMut.{put_mid}
use Rattle.std.specs.Fmt.{signed_decimal}
use Rattle.tape.specs.Numbers.{Decimal, digit, tenth, Signed, plain, minus}
use Rattle.tape.specs.Writing.{laid, Wrote}

pub laid_append : (buf : List ℕ) (at : ℕ) (xs ys : List ℕ) → laid buf at (xs ++ ys) ≡ laid (laid buf at xs) (at + length xs) ys
laid_append buf at [] ys = ap (λ k. laid buf k ys) (omega arith)
laid_append buf at (x ∷ xs) ys = laid_append (set buf at x) (at + 1) xs ys ∙ ap (λ k. laid (laid (set buf at x) (at + 1) xs) k ys) (omega arith)

laid_sets : (buf : List ℕ) (at : ℕ) (bytes : List ℕ) → laid buf at bytes ≡ sets buf at bytes
laid_sets buf at [] = refl
laid_sets buf at (b ∷ bs) = ap (λ k. laid (set buf at b) k bs) (add-one at) ∙ laid_sets (set buf at b) (suc at) bs

-- a buffer keeps its length
pub length_laid : (buf : List ℕ) (at : ℕ) (bytes : List ℕ) → length (laid buf at bytes) ≡ length buf
length_laid buf at bytes = ap length (laid_sets buf at bytes) ∙ length-sets buf at bytes

pub length_after : (buf : List ℕ) (at : ℕ) (bytes : List ℕ) (end : ℕ) (after : List ℕ) → Wrote buf at bytes (Some end) after → length after ≡ length buf
length_after buf at bytes end after h = ap length h.2 ∙ length_laid buf at bytes

-- bytes in the place of as many are laid over it
pub laid_mid : (buf : List ℕ) (at k : ℕ) (bytes written : List ℕ) → at + length bytes ≤ length buf → k ≡ length bytes → written ≡ bytes → put_mid at k buf written ≡ laid buf at bytes
laid_mid buf at k bytes written room many same =
    let behind : drop k (drop at buf) ≡ drop (at + length bytes) buf = drop-drop k at buf ∙ ap (λ m. drop (at + m) buf) many in
    ap (λ ys. put_mid at k buf ys) same
    ∙ ap (λ l. take at buf ++ (bytes ++ l)) behind
    ∙ sym (laid_sets buf at bytes ∙ sets-eq bytes buf at room ∙ append_assoc (take at buf) bytes (drop (at + length bytes) buf))

-- bytes that were written over a part of their own length are laid over the whole there
pub wrote_part : (buf : List ℕ) (at end : ℕ) (bytes : List ℕ) (last : ℕ) (after : List ℕ)
    → end ≤ length buf → end ≡ at + length bytes → Wrote (take (end - at) (drop at buf)) 0 bytes (Some last) after → Wrote buf at bytes (Some end) (put_mid at (end - at) buf after)
wrote_part buf at end bytes last after room many h =
    let part = take (end - at) (drop at buf) in
    let long : length part ≡ length bytes = length-take-le (end - at) (drop at buf) (omega (arith, room, length-drop at buf)) ∙ omega (arith, many) in
    let all : laid part 0 bytes ≡ bytes =
    laid_sets part 0 bytes ∙ sets-eq bytes part 0 (omega (arith, long)) ∙ ap (λ l. bytes ++ l) (drop_all (0 + length bytes) part (omega (arith, long))) ∙ append-nil bytes in
    (omega (arith, room, many), many, laid_mid buf at (end - at) bytes after (omega (arith, room, many)) (omega (arith, many)) (h.2 ∙ all))

-- more bytes were written behind those that are there
pub wrote_more : (buf : List ℕ) (at : ℕ) (xs : List ℕ) (mid : ℕ) (part ys : List ℕ) (end : ℕ) (after : List ℕ)
    → Wrote buf at xs (Some mid) part → Wrote part mid ys (Some end) after → Wrote buf at (xs ++ ys) (Some end) after
wrote_more buf at xs mid part ys end after h k =
    let both = length-append xs ys in
    let long = length_after buf at xs mid part h in
    (omega (arith, both, long, h.1, k.0), omega (arith, both, h.1, k.1), k.2 ∙ ap (λ b. laid b mid ys) h.2 ∙ ap (λ m. laid (laid buf at xs) m ys) h.1 ∙ sym (laid_append buf at xs ys))

-- one byte more
pub laid_push : (buf : List ℕ) (at : ℕ) (xs : List ℕ) (x : ℕ) → set (laid buf at xs) (at + length xs) x ≡ laid buf at (xs ++ x ∷ [])
laid_push buf at xs x = sym (laid_append buf at xs (x ∷ []))

pub length_digit : (n : ℕ) → n < 10 → length (decimal n) ≡ 1
length_digit n h = ap length (decimal_digit n h)

pub length_tenth : (n : ℕ) → 10 ≤ n → n < 2 ^ 64 → length (decimal n) ≡ length (decimal (n / 10)) + 1
length_tenth n h f = ap length (decimal_step n h f) ∙ length-append (decimal (n / 10)) ((48 + n % 10) ∷ [])

-- a number from a power of ten on, and below the next, has one digit more than the power says
pub length_power : (k n : ℕ) → n < 2 ^ 64 → 10 ^ k ≤ n → n < 10 * 10 ^ k → length (decimal n) ≡ k + 1
length_power zero n f low high = length_digit n high
length_power (suc k) n f low high =
    let power = pow-succ' 10 k in
    let one = one-le-pow k 10 (omega arith) in
    let more = length_power k (n / 10) (omega (arith, f)) (omega (arith, low, power)) (omega (arith, high, power)) in
    omega (arith, more, length_tenth n (omega (arith, low, power, one)) f)

-- zero has as many digits as one
pub length_zero : (n : ℕ) → n < 2 ^ 64 → length (decimal (max n 1)) ≡ length (decimal n)
length_zero zero f = length_digit 1 (omega arith) ∙ sym (length_digit 0 (omega arith))
length_zero (suc n) f = ap (λ m. length (decimal m)) (omega arith)

pub laid_digit : (buf : List ℕ) (at n : ℕ) → n < 10 → set buf at (48 + n) ≡ laid buf at (decimal n)
laid_digit buf at n h = sym (ap (laid buf at) (decimal_digit n h))

pub laid_tenth : (buf : List ℕ) (at n : ℕ) → 10 ≤ n → n < 2 ^ 64
    → set (laid buf at (decimal (n / 10))) (at + length (decimal (n / 10))) (48 + n % 10) ≡ laid buf at (decimal n)
laid_tenth buf at n h f = laid_push buf at (decimal (n / 10)) (48 + n % 10) ∙ sym (ap (laid buf at) (decimal_step n h f))

-- `decimal` is decimal notation
pub in-decimal : (n : ℕ) → n < 2 ^ 64 → Decimal n (decimal n)
in-decimal = decimal_by_steps Decimal (λ n h. digit h) (λ n ds h d. tenth h d)

pub in-signed : (z : ℤ) → nat_abs z < 2 ^ 64 → Signed z (signed_decimal z)
in-signed (pos n) h = plain (in-decimal n h)
in-signed (negsuc n) h = minus (in-decimal (suc n) h)
