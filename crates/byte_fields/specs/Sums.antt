-- FNV-1a of 64 bits: exclusive-or each byte in, then multiply by the prime.
use Rattle.std.specs.Prelude.{ℕ, ◌*◌, ◌%◌, ◌^◌, List, fold, bit_xor}

-- the sum after one more byte
abbrev pub fnv_step : ℕ → ℕ → ℕ
fnv_step sum byte = (bit_xor sum byte * 0x100000001b3) % 2 ^ 64

-- the sum after more bytes
abbrev pub fnv_after : ℕ → List ℕ → ℕ
fnv_after sum bytes = fold fnv_step sum bytes

-- the sum of a byte string
abbrev pub fnv_of : List ℕ → ℕ
fnv_of bytes = fnv_after 0xcbf29ce484222325 bytes
