-- Parts of numbers, and fields that are at their end.
use Rattle.std.proofs.Common.{◌≡◌, ◌≤◌, ℕ, zero, suc, List, [], ◌∷◌, length, take, drop, min, refl, ap, arith}
use Rattle.std.specs.Int.{byte_at, bytes_low_first}
use Rattle.std.proofs.lemmas.List.{length-drop}
use Rattle.byteorder.specs.Endian.{little_bytes}
use Rattle.byte_fields.specs.Fields.{fields}

low_part : (i w k n : ℕ) → w ≤ k → take w (bytes_low_first i k n) ≡ bytes_low_first i w n
low_part i zero k n le = refl
low_part i (suc w) zero n le = absurd (omega arith)
low_part i (suc w) (suc k) n le = ap (λ (l : List ℕ). byte_at i n ∷ l) (low_part (suc i) w k n (omega arith))

-- the lowest bytes of a number, of eight
pub take-little_bytes : (w n : ℕ) → w ≤ 8 → take w (little_bytes 8 n) ≡ little_bytes w n
take-little_bytes w n le = low_part 0 w 8 n le

ended : (ws ns : List ℕ) → min (length ws) (length ns) ≤ 0 → fields ws ns ≡ []
ended [] ns le = refl
ended (w ∷ ws) [] le = refl
ended (w ∷ ws) (n ∷ ns) le = absurd (omega arith)

-- where widths or numbers are at their end, no field is left
pub fields_ended : (ws ns : List ℕ) (i : ℕ) → min (length ws) (length ns) ≤ i → fields (drop i ws) (drop i ns) ≡ []
fields_ended ws ns i le = ended (drop i ws) (drop i ns) (omega (arith, length-drop i ws, length-drop i ns))
