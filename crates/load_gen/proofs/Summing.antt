-- The laws of summaries.
use Rattle.std.proofs.Common.{◌≡◌, ◌<◌, ℕ, ◌+◌, ◌%◌, ◌^◌, [], ◌∷◌, length, sym, ap, ◌∙◌, arith}
use Rattle.std.specs.Prelude.{fold, sum_by}
use Rattle.std.proofs.lemmas.List.Sums.{sum_by_from}
use Rattle.byteorder.specs.Endian.{little_bytes}
use Rattle.byte_fields.proofs.NumberLemmas.{number_again}
use Rattle.map_model.specs.SortedMap.{Bytes, Map}
use Rattle.load_gen.specs.Summary.{Summary, value_number, with_pair, nothing_live, summary_of}

abbrev number_of_pair : Bytes × Bytes → ℕ
number_of_pair pair = value_number pair.1

live_from : (map : Map) (s : Summary) → (fold with_pair s map).live ≡ s.live + length map
live_from [] s = omega arith
live_from (pair ∷ more) s = live_from more (with_pair s pair) ∙ omega arith

pub summary_live : (map : Map) → (summary_of map).live ≡ length map
summary_live map = live_from map nothing_live ∙ omega arith

added : (s x y : ℕ) → ((s + x) % 2 ^ 64 + y) % 2 ^ 64 ≡ (s + (x + y)) % 2 ^ 64
added s x y = omega arith

sum_from : (map : Map) (s : Summary) → s.sum < 2 ^ 64 → (fold with_pair s map).sum ≡ (s.sum + sum_by number_of_pair map) % 2 ^ 64
sum_from [] s fits = omega (arith, fits)
sum_from (pair ∷ more) s fits =
    sum_from more (with_pair s pair) (omega arith)
    ∙ added s.sum (number_of_pair pair) (sum_by number_of_pair more)
    ∙ ap (λ (n : ℕ). (s.sum + n) % 2 ^ 64) (sym (sum_by_from number_of_pair (0 + number_of_pair pair) more ∙ omega arith))

pub summary_sum : (map : Map) → (summary_of map).sum ≡ sum_by (λ (pair : Bytes × Bytes). value_number pair.1) map % 2 ^ 64
summary_sum map = sum_from map nothing_live (omega arith) ∙ ap (λ (n : ℕ). n % 2 ^ 64) (omega arith)

pub summary_step : (x : ℕ) → x < 2 ^ 64 → value_number (little_bytes 8 x) ≡ x
summary_step x fits = number_again 8 x [] fits
