-- The sum of a pass over some bytes, where it is wanted.
use Rattle.std.proofs.Common.{◌≡◌, ◌≤◌, ◌+◌, ◌-◌, ℕ, Bool, true, false, [], ◌++◌, take, drop, refl, sym, ap, ap₂, ◌∙◌, arith}
use Rattle.std.proofs.lemmas.List.{drop-take, take-append-drop, take-take}
use Rattle.byte_fields.specs.Sums.{fnv_of}
use Rattle.map_model.specs.SortedMap.{Bytes}
use Rattle.block_format.specs.Reading.{sum_where}

pub none_summed : (summed : Bool) → fnv_of [] ≡ sum_where summed []
none_summed true = refl
none_summed false = refl

pub taken_further : (bytes : Bytes) (n m : ℕ) → n ≤ m → take n bytes ++ take (m - n) (drop n bytes) ≡ take m bytes
taken_further bytes n m le =
    let sum : n + (m - n) ≡ m = omega (arith, le) in
    ap₂ (λ (a b : Bytes). a ++ b) (sym (take-take n m bytes le)) (sym (drop-take n (m - n) bytes) ∙ ap (λ (k : ℕ). drop n (take k bytes)) sum) ∙ take-append-drop n (take m bytes)
