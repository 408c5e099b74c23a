-- Real bits with zero bits behind them.
use Rattle.std.proofs.Common.{◌≡◌, ◌<◌, ◌≤◌, ◌+◌, ◌-◌, ◌*◌, ◌^◌, ℕ, ap, sym, ◌∙◌, arith}
use Rattle.std.proofs.lemmas.Nat.{pow-add, pow_pos}
use native.Mathlib.Nat.{mul-lt-mul_of_pos_right}

-- real bits, filled to 32, fit in 32
pub filled_fits : (n r : ℕ) → n ≤ 32 → r < 2 ^ n → r * 2 ^ (32 - n) < 2 ^ 32
filled_fits n r h k =
    let e : n + (32 - n) ≡ 32 = omega arith in
    let whole : 2 ^ 32 ≡ 2 ^ n * 2 ^ (32 - n) = ap (λ (m : ℕ). 2 ^ m) (sym e) ∙ pow-add 2 n (32 - n) in
    omega (arith, whole, mul-lt-mul_of_pos_right k (pow_pos (32 - n)))
