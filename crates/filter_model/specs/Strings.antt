-- Byte strings: their order, what they begin with, and their first bits.
use Rattle.std.specs.Prelude.{ℕ, zero, suc, ◌+◌, ◌-◌, ◌*◌, ◌/◌, ◌%◌, ◌^◌, ◌==◌, Bool, true, false, cond, ◌&&◌, List, [], ◌∷◌}
use Rattle.std.specs.List.{common_prefix_len}
pub use Rattle.std.specs.Prelude.{bytes_eq}
pub use Rattle.key_base.specs.ByteOrder.{is_before}

-- x begins with p
abbrev pub is_prefix : List ℕ → List ℕ → Bool
is_prefix [] x = true
is_prefix (a ∷ p) [] = false
is_prefix (a ∷ p) (b ∷ x) = (a == b) && is_prefix p x

-- x begins with p and goes on
abbrev pub extends : List ℕ → List ℕ → Bool
extends [] [] = false
extends [] (b ∷ x) = true
extends (a ∷ p) [] = false
extends (a ∷ p) (b ∷ x) = (a == b) && extends p x

-- how many bytes the two begin with alike
abbrev pub shared : List ℕ → List ℕ → ℕ
shared x y = common_prefix_len (λ a b. a == b) x y

-- the number that the first n bytes make, the first one highest, zero bytes where x has no more
abbrev pub prefix_number : ℕ → List ℕ → ℕ
prefix_number zero x = 0
prefix_number (suc n) [] = 0
prefix_number (suc n) (a ∷ x) = a * 256 ^ n + prefix_number n x

-- the shortest string whose first n bytes make the number v: its bytes without the zero bytes at the end
abbrev pub shortest : ℕ → ℕ → List ℕ
shortest zero v = []
shortest (suc n) v = cond (v == 0) [] (v / 256 ^ n ∷ shortest n (v % 256 ^ n))

-- the first n bits of x, at most 32, the highest bit of each byte first, zero bits where x has no more
abbrev pub bits : ℕ → List ℕ → ℕ
bits n x = prefix_number 4 x / 2 ^ (32 - n)
