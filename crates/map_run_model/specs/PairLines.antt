-- The lines of which a static map is built: a key and a value each, keys rising.
use Rattle.std.specs.Prelude.{ℕ, ◌+◌, ◌==◌, Bool, true, not, nat_le, nat_lt, if◌then◌else◌, List, [], ◌∷◌, ◌++◌, length, fold, Option, Some, None, Result, Ok, Err}
use Rattle.std.specs.List.{slice_split}
use Rattle.key_base.specs.Limits.{is_no_key_length}
use Rattle.line_model.specs.Lines.{bytes_in}
use Rattle.map_file_model.specs.Maps.{max_map_pairs}
use Rattle.map_model.specs.Slices.{is_before}
use Rattle.map_model.specs.SortedMap.{Bytes, Map}

-- the limits of these lines and of their values, whatever a store's are
abbrev pub max_pair_line_bytes : ℕ
max_pair_line_bytes = 2100000

abbrev pub max_pair_value_bytes : ℕ
max_pair_value_bytes = 65536

-- A line's pair, or the code of the first rule that it breaks: 1 its length, 3 two words, 4 bytes in hex, 7 the key's length,
-- 8 the value's.

abbrev pub within_limits : Bytes → Bytes → Result (Bytes × Bytes) ℕ
within_limits key value = if is_no_key_length (length key) then Err 7 else (if nat_lt max_pair_value_bytes (length value) then Err 8 else Ok (key, value))

abbrev pub pair_by : Option Bytes → Option Bytes → Result (Bytes × Bytes) ℕ
pair_by (Some key) (Some value) = within_limits key value
pair_by (Some key) None = Err 4
pair_by None value = Err 4

abbrev pub pair_of : List Bytes → Result (Bytes × Bytes) ℕ
pair_of (key ∷ value ∷ []) = pair_by (bytes_in key) (bytes_in value)
pair_of words = Err 3

abbrev pub pair_in : Bytes → Result (Bytes × Bytes) ℕ
pair_in line = if nat_le (length line) max_pair_line_bytes then pair_of (slice_split (λ b. b == 32) line) else Err 1

-- why lines are no map: the line of this number is the first that breaks a rule, the one of this code; or there is one line more
-- than a map has pairs
pub data Refusal : Type 0 where
  BadAt : (number : ℕ) → (code : ℕ) → Refusal
  TooMany : Refusal

-- the key is above the last one, if there is one
abbrev pub is_above_last : Map → Bytes → Bool
is_above_last [] key = true
is_above_last (pair ∷ []) key = is_before pair.0 key
is_above_last (pair ∷ next ∷ more) key = is_above_last (next ∷ more) key

-- the pairs with one more: of code 6 is a line whose key is not above the last
abbrev pub with_pair : Map → Result (Bytes × Bytes) ℕ → Result Map Refusal
with_pair pairs (Err code) = Err (BadAt (length pairs + 1) code)
with_pair pairs (Ok pair) =
    if not (is_above_last pairs pair.0) then Err (BadAt (length pairs + 1) 6)
    else (if nat_le max_map_pairs (length pairs) then Err TooMany else Ok (pairs ++ pair ∷ []))

-- what one more line makes of the lines before it
abbrev pub with_line : Result Map Refusal → Bytes → Result Map Refusal
with_line (Ok pairs) line = with_pair pairs (pair_in line)
with_line (Err why) line = Err why

-- the pairs of lines, or why they are no map
abbrev pub pairs_of : List Bytes → Result Map Refusal
pairs_of lines = fold with_line (Ok []) lines
