-- Set bits of the parts of a word.
use Rattle.std.proofs.Common.{◌≡◌, ℕ, ◌+◌, ◌*◌, ◌/◌, ◌%◌, ◌^◌, ◌-◌, ◌≤◌, ap, ◌∙◌, arith}
use Rattle.std.proofs.Math.Nat.{mod-lt, add_comm}
use Rattle.std.proofs.Math.Pow.{mod-mod-pow}
use Rattle.std.specs.Int.RustNames.{count_ones}
use Rattle.std.proofs.lemmas.Nat.{mod-pow-add, pow_pos, shr-shr}
use lib.Count.{ones_cat}

-- the lowest p + w bits are the lowest p and the w above them
pub ones-split : (n p w : ℕ) → count_ones (n % 2 ^ (p + w)) ≡ count_ones (n % 2 ^ p) + count_ones (n / 2 ^ p % 2 ^ w)
ones-split n p w =
    let turned : p + w ≡ w + p = omega arith in
    ap (λ (x : ℕ). count_ones (n % 2 ^ x)) turned ∙ ap count_ones (mod-pow-add n w p)
    ∙ ones_cat p (n / 2 ^ p % 2 ^ w) (n % 2 ^ p) (mod-lt n (pow_pos p)) ∙ add_comm (count_ones (n / 2 ^ p % 2 ^ w)) (count_ones (n % 2 ^ p))

-- the lower and the upper half of a window
pub ones-halves : (n p w : ℕ) → count_ones (n / 2 ^ p % 2 ^ (2 * w)) ≡ count_ones (n / 2 ^ p % 2 ^ w) + count_ones (n / 2 ^ (p + w) % 2 ^ w)
ones-halves n p w =
    let twice : 2 * w ≡ w + w = omega arith in
    ap (λ (x : ℕ). count_ones (n / 2 ^ p % 2 ^ x)) twice ∙ ones-split (n / 2 ^ p) w w
    ∙ ap (λ (x : ℕ). count_ones (n / 2 ^ p % 2 ^ w) + count_ones (x % 2 ^ w)) (shr-shr n p w)

-- the lowest k bits of the lowest m are the lowest k
pub ones-low : (n k m : ℕ) → k ≤ m → count_ones (n % 2 ^ m % 2 ^ k) ≡ count_ones (n % 2 ^ k)
ones-low n k m le = let parts : m ≡ (m - k) + k = omega (arith, le) in ap (λ (x : ℕ). count_ones (n % 2 ^ x % 2 ^ k)) parts ∙ ap count_ones (mod-mod-pow n (m - k) k)
