-- The marks of a search take no more memory than the heap that is lent for it.
use Rattle.std.proofs.Common.{◌≡◌, ℕ, ◌+◌, ◌*◌, ◌^◌, ◌%◌, ◌<◌, ◌≤◌, max, subst, arith}
use Rattle.std.proofs.lemmas.Nat.{mul-le}
use mir.Syntax.{Ty, Width, w8, w16, w32, w64, w128}
use mir.Val.{bytes}
use prog.Align.{align_size, align_w, align-bytes, dv→}
use prog.Memory.{align, size, up}

-- what a mark, and what an entry of the heap, takes: at the alignment and the size of the kind of worth
abbrev mark_size : ℕ → ℕ → ℕ
mark_size a n = up (max a 1) (up 1 (up 1 (up 1 (up a 0 + n) + 1) + 1) + 1)

abbrev entry_size : ℕ → ℕ → ℕ
entry_size a n = up (max 8 (max a 1)) (up a (up 8 0 + 8) + n)

no_larger : (w : Width) (n : ℕ) → n % bytes w ≡ 0 → mark_size (bytes w) n ≤ entry_size (bytes w) n
no_larger w8 n h = omega arith
no_larger w16 n h = omega arith
no_larger w32 n h = omega arith
no_larger w64 n h = omega arith
no_larger w128 n h = omega arith

-- fewer elements take less memory
pub fewer : (n k size : ℕ) → k ≤ n → n * size < 2 ^ 63 → k * size < 2 ^ 63
fewer n k size h room = let l = mul-le k size n size h (omega arith) in omega arith

pub marks_fit : (τ : Ty) (n : ℕ) → 128 ≤ n → n * entry_size (align τ) (size τ) < 2 ^ 63 → 128 * mark_size (align τ) (size τ) < 2 ^ 63
marks_fit τ n h room =
    let each : mark_size (align τ) (size τ) ≤ entry_size (align τ) (size τ) = rw (align-bytes τ) (no_larger (align_w τ) (size τ) (subst (λ a. size τ % a ≡ 0) (align-bytes τ) (dv→ (align τ) (size τ) (align_size τ)))) in
    let l = mul-le 128 (mark_size (align τ) (size τ)) n (entry_size (align τ) (size τ)) h each in
    omega arith
