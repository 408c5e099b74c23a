-- Laws of the steps of a load, and of its summary.
use Rattle.std.specs.Prelude.{◌≡◌, ◌≤◌, ◌<◌, ℕ, ◌%◌, ◌^◌, length, take, sum_by}
use Rattle.std.specs.List.{All}
use Rattle.byteorder.specs.Endian.{little_bytes}
use Rattle.map_model.specs.SortedMap.{Bytes, Map}
use Rattle.entry_model.specs.Entries.{IsLogged}
use Rattle.load_gen.specs.Generator.{first_steps}
use Rattle.load_gen.specs.Summary.{value_number, summary_of}

-- There are as many steps as are asked for, fewer are the first of more, and a store may have each: no limit is broken.
pub record StepLaws : Type 0 where
  pub count : (seed n : ℕ) → length (first_steps seed n) ≡ n
  pub prefix : (seed m n : ℕ) → m ≤ n → take m (first_steps seed n) ≡ first_steps seed m
  pub sound : (seed n : ℕ) → All IsLogged (first_steps seed n)

-- A summary tells the number of pairs, and the sum of all their numbers, modulo 2^64; the value of a step counts the number
-- that it was made of.
pub record SummaryLaws : Type 0 where
  pub live : (map : Map) → (summary_of map).live ≡ length map
  pub sum : (map : Map) → (summary_of map).sum ≡ sum_by (λ (pair : Bytes × Bytes). value_number pair.1) map % 2 ^ 64
  pub step : (x : ℕ) → x < 2 ^ 64 → value_number (little_bytes 8 x) ≡ x
